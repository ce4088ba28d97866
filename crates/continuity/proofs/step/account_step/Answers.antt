use Rattle.std.proofs.Common.{◌≡◌, ◌∙◌, sym, subst, arith}
use Rattle.std.proofs.lemmas.Int.{to_z-of_z}
use Rattle.continuity.specs.Account.{Balances, account_of}
use Rattle.continuity.proofs.BalanceLemmas.{parts_are, account_is, balances}
use Rattle.continuity.proofs.LawLemmas.{few_nodes, few_links}
use Rattle.continuity.proofs.TotalLemmas.{fields_more, fields_plus}
use Rattle.continuity.proofs.step.account_step.Goals as goal
use Rattle.continuity.proofs.step.account_step.Goals.{After-plus}

pub plus-requires-clause-first : goal.plus-requires-clause-first
plus-requires-clause-first c = fields_more c.all_nodes-nodes.ensures.range (omega (arith, few_nodes c.args.law.now.hydraulics c.args.law.now.good))

pub plus-requires-clause-second : goal.plus-requires-clause-second
plus-requires-clause-second c = fields_more c.all_links-links.ensures.range (omega (arith, few_links c.args.law.now.hydraulics c.args.law.now.good))

value : (c : After-plus) → c.plus.result ≡ account_of c.args.law.now.hydraulics c.args.before.now c.args.after.now c.args.ms
value c =
    let nodes = simp (to_z-of_z, c.ranges.ms) at c.all_nodes-nodes.ensures.value in
    c.plus.ensures ∙ rw (nodes, c.all_links-links.ensures.value) (parts_are c.args.law.now.hydraulics c.args.before.now c.args.after.now c.args.ms)

pub returns-clause-account : goal.returns-clause-account
returns-clause-account c =
    rw (value (goal.at.returns-clause-account c).After-plus) (account_is c.args.law.now.hydraulics c.args.before.now c.args.after.now c.args.ms)

pub returns-clause-value : goal.returns-clause-value
returns-clause-value c = value (goal.at.returns-clause-value c).After-plus

pub returns-clause-balance : goal.returns-clause-balance
returns-clause-balance c =
    subst Balances (sym (value (goal.at.returns-clause-balance c).After-plus))
    (balances c.args.law.now.hydraulics c.args.law.now.good c.args.before.now c.args.after.now c.args.ms c.requires.sums_before c.requires.sums_after c.requires.step)

pub returns-clause-range : goal.returns-clause-range
returns-clause-range c =
    rw c.plus.ensures
    (fields_more (fields_plus c.all_nodes-nodes.ensures.range c.all_links-links.ensures.range)
    (omega (arith, few_nodes c.args.law.now.hydraulics c.args.law.now.good, few_links c.args.law.now.hydraulics c.args.law.now.good)))
