use Rattle.std.proofs.Common.{ap, sym, subst}
use Rattle.std.proofs.lemmas.Int.{to_z-of_z}
use Rattle.fixed_num.proofs.Bounds.{within_add, within_between, within_up, fits64}
use Rattle.net_types.specs.declared.network.LinkKind.{LinkKind}
use Rattle.net_types.specs.Ranges.{LinkKindInRange}
use Rattle.link_eval.specs.Conduits.{conduit_of}
use Rattle.link_eval.proofs.conduit.conduit.Goals as goal

pub returns-clause-value : goal.returns-clause-value
returns-clause-value c =
    let sizes = subst LinkKindInRange c.in-Conduit.is c.requires.kind in
    let z1 = within_between sizes.z1_in in
    let z2 = within_between sizes.z2_in in
    let barred = c.is_barred.ensures in
    simp (
      to_z-of_z,
      fits64 c.requires.ends.near tt,
      fits64 c.requires.ends.far tt,
      fits64 z1 tt,
      fits64 z2 tt,
      fits64 (within_add c.requires.ends.near z1) tt,
      fits64 (within_add c.requires.ends.far z2) tt,
      fits64 (within_between sizes.long_in) tt,
      fits64 (within_between sizes.roughness_in) tt,
      fits64 (within_between sizes.q_max_in) tt,
      fits64 (within_between sizes.entry_in) tt,
      fits64 (within_between sizes.exit_in) tt,
      fits64 (within_between sizes.avg_in) tt,
      barred,
    )
    (ap (λ (k : LinkKind). conduit_of k c.args.ends.now c.args.options.now) (sym c.in-Conduit.is))

pub returns-clause-good : goal.returns-clause-good
returns-clause-good c =
    let sizes = subst LinkKindInRange c.in-Conduit.is c.requires.kind in
    let z1 = within_between sizes.z1_in in
    let z2 = within_between sizes.z2_in in
    simp (
      to_z-of_z,
      fits64 c.requires.ends.near tt,
      fits64 c.requires.ends.far tt,
      fits64 z1 tt,
      fits64 z2 tt,
      fits64 (within_add c.requires.ends.near z1) tt,
      fits64 (within_add c.requires.ends.far z2) tt,
      fits64 (within_between sizes.long_in) tt,
      fits64 (within_between sizes.roughness_in) tt,
      fits64 (within_between sizes.q_max_in) tt,
      fits64 (within_between sizes.entry_in) tt,
      fits64 (within_between sizes.exit_in) tt,
      fits64 (within_between sizes.avg_in) tt,
    )
    (record {
      z1 = within_up (within_add c.requires.ends.near z1) tt;
      z2 = within_up (within_add c.requires.ends.far z2) tt;
      length = sizes.long_in;
      n6 = sizes.roughness_in;
      q_max = sizes.q_max_in;
      entry6 = sizes.entry_in;
      exit6 = sizes.exit_in;
      avg6 = sizes.avg_in;
    })
