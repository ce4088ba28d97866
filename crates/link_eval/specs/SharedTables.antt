-- Laws of links that say by a number which table is theirs: links of equal sections share one.
use Rattle.std.specs.Prelude.{◌≡◌, ℕ, ◌<◌, ◌≤◌, List, [], length, map, slice_index_or, pos, false}
use Rattle.xsect_tables.specs.SectionTable.{SectionTable}
use Rattle.link_eval.specs.Orifices.{orifice_with}
use Rattle.link_eval.specs.declared.link_law.LinkLaw.{LinkLaw}
use Rattle.link_eval.specs.declared.link_law.LinkRule.{LinkRule}
use Rattle.link_eval.specs.declared.link_law.LinkRule.TheVariants.{Conduit, Pump, Orifice, Weir}

-- the table of a number, and one without rows past the end of the list
abbrev pub no_table : SectionTable
no_table =
    record { heights = []; areas = []; widths = []; perimeters = []; barrels = pos 0; closed = false }

abbrev pub table_at : List SectionTable → ℕ → SectionTable
table_at tables number = slice_index_or tables number no_table

-- a rule, and a law, with the tables of its numbers
abbrev pub rule_with : List SectionTable → LinkRule ℕ → LinkRule SectionTable
rule_with tables (Conduit law) = Conduit (record { conduit = law.conduit; table = table_at tables law.table })
rule_with tables (Pump law) = Pump law
rule_with tables (Orifice law) = Orifice (orifice_with (table_at tables law.table) law)
rule_with tables (Weir law) = Weir law

unfoldable pub law_with : List SectionTable → LinkLaw ℕ → LinkLaw SectionTable
law_with tables law = record { first = law.first; second = law.second; rule = rule_with tables law.rule }

-- the laws that tables and numbers make together
unfoldable pub laws_with : List SectionTable → List (LinkLaw ℕ) → List (LinkLaw SectionTable)
laws_with tables laws = map (law_with tables) laws

-- more tables, none of which has another number
pub record Keeps (old new : List SectionTable) : Type 0 where
  pub count : length old ≤ length new
  pub each : (number : ℕ) → number < length old → table_at new number ≡ table_at old number
