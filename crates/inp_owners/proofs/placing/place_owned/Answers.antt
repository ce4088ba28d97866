use Rattle.std.proofs.Common.{◌∙◌, ap, take}
use Rattle.std.proofs.lemmas.List.{take_all}
use Rattle.inp_owners.specs.Placing.{with_owned}
use Rattle.inp_owners.proofs.PlacingLemmas.{owned_nothing, owned_next}
use Rattle.inp_owners.proofs.placing.place_owned.Goals as goal

pub loop-own-init : goal.loop-own-init
loop-own-init g c = owned_nothing g.O.Owned.number_of g.O.Owned.changed c.args.objects.now

pub loop-own-preserved : goal.loop-own-preserved
loop-own-preserved g c = owned_next g.O.Owned.number_of g.O.Owned.changed c.as_slice-own-items.result.now c.loop-own.own-index c.own-item.result
    c.args.objects.now c.loop-own.objects c.place_one.new.objects c.loop-own-test.true c.own-item.is c.loop-own.invariant c.place_one.ensures
