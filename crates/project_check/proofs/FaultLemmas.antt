-- The faults of a project as a whole are few.
use Rattle.std.proofs.Common.{Bool, true, false, not, List, [], ◌++◌, ℕ, ◌≤◌, length, length-append, arith}
use Rattle.net_types.specs.declared.faults.FaultKind.{FaultKind}
use Rattle.net_types.specs.declared.faults.FaultKind.TheVariants.{NoOutfall, EndBeforeStart, OverLimit}
use Rattle.net_types.specs.declared.project.Project.{Project}
use Rattle.project_check.specs.Network.{has_outfall}
use Rattle.project_check.specs.ProjectFaults.{fault_where, general_faults}
use Rattle.project_check.specs.Times.{ends_before_start, is_over_limit}

one_where : (b : Bool) (kind : FaultKind) (name : List ℕ) → length (fault_where b kind name) ≤ 1
one_where true kind name = omega arith
one_where false kind name = omega arith

pub general_few : (p : Project) → length (general_faults p) ≤ 100
general_few p =
    let a = fault_where (not (has_outfall p.nodes)) NoOutfall [] in
    let b = fault_where (ends_before_start p.options) EndBeforeStart [] in
    let c = fault_where (is_over_limit p.options) OverLimit [] in
    omega (
      arith,
      length-append (a ++ b) c,
      length-append a b,
      one_where (not (has_outfall p.nodes)) NoOutfall [],
      one_where (ends_before_start p.options) EndBeforeStart [],
      one_where (is_over_limit p.options) OverLimit [],
    )
