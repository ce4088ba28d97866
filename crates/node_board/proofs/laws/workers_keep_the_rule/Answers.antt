use Rattle.node_board.proofs.AmountSteps.{mark_allowed, end_allowed, offer_allowed, deposit_allowed}
use Rattle.node_board.proofs.ClaimSteps.{look_allowed, claim_allowed}
use Rattle.node_board.proofs.LoadSteps.{load_allowed}
use Rattle.node_board.proofs.PutSteps.{flow_allowed, head_allowed}
use Rattle.node_board.proofs.laws.workers_keep_the_rule.Goals as goal

pub returns-clause-look : goal.returns-clause-look
returns-clause-look g c = λ law key v w good works free slots i. look_allowed law good key slots i v w works free

pub returns-clause-claim : goal.returns-clause-claim
returns-clause-claim g c =
    λ law key v w good works free look slots i. claim_allowed law good key slots i v w works free look

pub returns-clause-load : goal.returns-clause-load
returns-clause-load g c = λ law key v w act good works l slots i.
    load_allowed law good key slots i v w works l.begun act l.can l.work l.words l.index l.links l.most

pub returns-clause-deposit : goal.returns-clause-deposit
returns-clause-deposit g c = λ law key v w act d good works l slots i.
    deposit_allowed law good key slots i v w works act l.can l.odd l.begun d l.work l.index l.words
    l.node l.sum l.amount

pub returns-clause-offer : goal.returns-clause-offer
returns-clause-offer g c =
    λ law key v w time good works can asks is slots i. offer_allowed law good key slots i v w works can asks time is

pub returns-clause-flow : goal.returns-clause-flow
returns-clause-flow g c =
    λ law key v w n good works can asks code slots i. flow_allowed law good key slots i v w works can asks n code

pub returns-clause-head : goal.returns-clause-head
returns-clause-head g c =
    λ law key v w n good works can asks code slots i. head_allowed law good key slots i v w works can asks n code

pub returns-clause-mark : goal.returns-clause-mark
returns-clause-mark g c = λ law key v w good works can slots i. mark_allowed law good key slots i v w works can

pub returns-clause-end : goal.returns-clause-end
returns-clause-end g c = λ law key v w good works can slots i. end_allowed law good key slots i v w works can
