use Rattle.std.proofs.Common.{◌≡◌, ◌≤◌, ◌<◌, ◌++◌, ◌∷◌, [], length, ap, ◌∙◌, rules, arith}
use Rattle.net_types.specs.declared.faults.ProjectFault.{ProjectFault}
use Rattle.project_check.specs.ProjectFaults.{fault_of}
use Rattle.project_check.proofs.CutLemmas.{full_is, room_is}
use Rattle.project_check.proofs.faults.add_fault.Goals as goal

pub returns-then-as_slice-ge-MOST_FAULTS : goal.returns-then-as_slice-ge-MOST_FAULTS
returns-then-as_slice-ge-MOST_FAULTS c =
    let many : 100 ≤ length c.args.faults.now = omega (arith, ap (λ l. length l) c.as_slice.ensures) in
    full_is c.args.faults.now (fault_of c.args.kind c.args.name.now) many c.requires.room

pub returns : goal.returns
returns c =
    let few : length c.args.faults.now < 100 = omega (arith, ap (λ l. length l) c.as_slice.ensures) in
    let made : c.push.new.self ≡ c.args.faults.now ++ fault_of c.args.kind c.args.name.now ∷ [] = search rules in
    made ∙ room_is c.args.faults.now (fault_of c.args.kind c.args.name.now) few
