use Rattle.node_board.proofs.DoneSteps.{done_allowed}
use Rattle.node_board.proofs.LeadSteps.{reset_allowed, set_allowed, open_links_allowed, open_nodes_allowed}
use Rattle.node_board.proofs.LeadSteps.{stop_allowed, read_allowed}
use Rattle.node_board.proofs.ReadSteps.{told_allowed}
use Rattle.node_board.proofs.laws.leads_keep_the_rule.Goals as goal

pub returns-clause-done : goal.returns-clause-done
returns-clause-done g c = λ law key v plan good leads runs slots i. done_allowed law good key slots i v plan leads runs

pub returns-clause-reset : goal.returns-clause-reset
returns-clause-reset g c = λ law key v plan n good leads rests left code slots i.
    reset_allowed law good key slots i v plan leads rests.0 rests.1 left n code

pub returns-clause-set : goal.returns-clause-set
returns-clause-set g c = λ law key v plan j value n good leads rests even read range code slots i.
    set_allowed law good key slots i v plan leads rests.0 rests.1 even j value read range n code

pub returns-clause-open_links : goal.returns-clause-open_links
returns-clause-open_links g c = λ law key v plan n good leads rests even reset code slots i.
    open_links_allowed law good key slots i v plan leads rests.0 rests.1 even reset.0 reset.1 n code

pub returns-clause-open_nodes : goal.returns-clause-open_nodes
returns-clause-open_nodes g c = λ law key v plan n good leads rests odd reset code slots i.
    open_nodes_allowed law good key slots i v plan leads rests.0 rests.1 odd reset.0 reset.1 n code

pub returns-clause-stop : goal.returns-clause-stop
returns-clause-stop g c =
    λ law key v plan good leads rests slots i. stop_allowed law good key slots i v plan leads rests.0 rests.1

pub returns-clause-read : goal.returns-clause-read
returns-clause-read g c =
    λ law key v plan j good leads off within slots i. read_allowed law good key slots i v plan leads off j within

pub returns-clause-tell : goal.returns-clause-tell
returns-clause-tell g c =
    λ law key v plan j good leads off told slots i. told_allowed law good key slots i v plan leads off j told
