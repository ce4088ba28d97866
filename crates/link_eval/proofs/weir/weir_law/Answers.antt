use Rattle.std.proofs.lemmas.Int.{to_z-of_z}
use Rattle.fixed_num.proofs.Bounds.{within_add, within_between, within_up, fits64}
use Rattle.link_eval.proofs.weir.weir_law.Goals as goal

pub returns-clause-value : goal.returns-clause-value
returns-clause-value c =
    let near = c.requires.ends.near in
    let crest = within_between c.requires.range.crest_in in
    let full = within_between c.requires.given.full_in in
    let ends = c.short_link.ensures in
    let width = c.given_width.ensures.value in
    simp (
      to_z-of_z,
      c.ranges.crest,
      c.ranges.c6,
      c.ranges.contractions,
      fits64 near tt,
      fits64 full tt,
      fits64 (within_add near crest) tt,
      fits64 (within_between c.given_width.ensures.range) tt,
    )
    (cc (ends, width))

pub returns-clause-good : goal.returns-clause-good
returns-clause-good c =
    let near = c.requires.ends.near in
    let crest = within_between c.requires.range.crest_in in
    let full = within_between c.requires.given.full_in in
    simp (
      to_z-of_z,
      c.ranges.crest,
      c.ranges.c6,
      c.ranges.contractions,
      fits64 near tt,
      fits64 full tt,
      fits64 (within_add near crest) tt,
      fits64 (within_between c.given_width.ensures.range) tt,
    )
    (record {
      weir = record {
        crest = within_up (within_add near crest) tt;
        full = c.requires.given.full_in;
        width = c.given_width.ensures.range;
        coefficient = c.requires.range.cd_in;
        contractions = c.requires.range.contractions_in;
      };
    })
