use Rattle.std.proofs.Common.{◌≡◌, take}
use Rattle.inp_owners.specs.Placing.{with_owned}
use Rattle.inp_owners.proofs.placing.place_owned.Given as goal

-- the objects have what was placed so far
abbrev pub invariant-loop-own : goal.invariant-loop-own
invariant-loop-own g l = l.objects ≡ with_owned g.O.Owned.number_of g.O.Owned.changed (take l.own-index l.own-items) l.initial.objects
