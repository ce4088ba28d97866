use Rattle.std.proofs.Common.{◌∙◌, ap, sym}
use Rattle.inp_owners.specs.Placing.{changed_at}
use Rattle.inp_owners.proofs.PlacingLemmas.{written_at, written_past}
use Rattle.inp_owners.proofs.placing.place_one.Goals as goal

pub returns-then-number-objects : goal.returns-then-number-objects
returns-then-number-objects g c =
    written_at (g.O.Owned.changed c.args.own.now) c.args.objects.now c.as_mut_slice-objects.result.now c.number-number.result c.change.new.object c.index-objects-number.result
    c.as_mut_slice-objects.ensures.value c.change.ensures
    ∙ ap (λ n. changed_at (g.O.Owned.changed c.args.own.now) n c.args.objects.now) c.number-number.ensures

pub returns-else-number-objects : goal.returns-else-number-objects
returns-else-number-objects g c =
    written_past (g.O.Owned.changed c.args.own.now) c.args.objects.now c.as_mut_slice-objects.result.now c.number-number.result
    c.as_mut_slice-objects.ensures.value c.if-number-objects.false
    ∙ ap (λ n. changed_at (g.O.Owned.changed c.args.own.now) n c.args.objects.now) c.number-number.ensures
