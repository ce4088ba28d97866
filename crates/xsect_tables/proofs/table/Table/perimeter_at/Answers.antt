use Rattle.std.proofs.Common.{◌≡◌, ◌∙◌, FitsSigned, rules, subst, ap}
use Rattle.std.specs.Int.{w64}
use Rattle.std.proofs.lemmas.Int.{to_z-of_z}
use Rattle.xsect_tables.specs.LookUps.{perimeter_of, value_at as value_of}
use Rattle.xsect_tables.specs.SectionTable.{SectionTable, IsTable}
use Rattle.xsect_tables.proofs.LookUpLemmas.{placed}
use Rattle.xsect_tables.proofs.TableLemmas.{perimeter_of-between}
use Rattle.xsect_tables.proofs.table.Table.perimeter_at.Goals as goal
use Rattle.xsect_tables.proofs.table.Table.perimeter_at.Goals.{After-value_at}

value : (c : After-value_at) → c.value_at.result ≡ perimeter_of c.args.self.now c.args.y
unfolding perimeter_of
value c =
    c.value_at.ensures
    ∙ ap (λ (t : SectionTable). value_of t.heights t.perimeters c.args.place.now.depth c.args.place.now.strip) c.self.view_is
    ∙ placed c.args.self.now.perimeters c.requires.place

pub returns-clause-value : goal.returns-clause-value
returns-clause-value c =
    let fits : FitsSigned w64 c.value_at.result = search rules in
    simp (to_z-of_z, fits) (value c)

pub returns-clause-range : goal.returns-clause-range
returns-clause-range c =
    let fits : FitsSigned w64 c.value_at.result = search rules in
    let range = perimeter_of-between c.args.y (subst IsTable c.self.view_is c.self.invariant.rows) in
    simp (to_z-of_z, fits) (rw (value c) range)
