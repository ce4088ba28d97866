use Rattle.std.proofs.Common.{◌≡◌, ◌^◌, ℤ, pos, sym, subst, arith}
use Rattle.fixed_num.specs.Ranges.{IsBetween}
use Rattle.xsect_tables.proofs.TableLemmas.{full_area_is}
use Rattle.xsect_tables.proofs.table.Table.has_plain_area.Goals as goal

pub returns : goal.returns
returns c = λ h. subst (λ (z : ℤ). IsBetween (pos 1) z (pos (10 ^ 11))) (sym (full_area_is c.args.section.now)) (c.has_plain_area.ensures h)
