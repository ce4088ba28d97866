use Rattle.std.proofs.Common.{sym, subst}
use Rattle.fixed_num.specs.Ranges.{IsElevation}
use Rattle.short_links.specs.declared.share.ShortLink.{ShortLink}
use Rattle.link_eval.proofs.pump.pump_law.Goals as goal

pub returns-clause-good : goal.returns-clause-good
returns-clause-good c = record {
  units = c.pump_units.ensures.units;
  invert = subst (λ (s : ShortLink). IsElevation s.invert1) (sym c.short_link.ensures) c.requires.ends.near;
}
