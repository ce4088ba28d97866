-- What holds of the tables that links share while they are made: words of the functions that make them.
use Rattle.std.specs.Prelude.{◌≡◌, ℕ, List, map, slice_index_or}
use Rattle.net_types.specs.declared.network.Section.{Section}
use Rattle.xsect_tables.specs.SectionTable.{table_of}
use Rattle.link_eval.specs.LinkLaws.{no_section}
use Rattle.link_eval.specs.declared.tables.TableStock.{TableStock}

-- the section of a number
abbrev pub section_at : List Section → ℕ → Section
section_at sections number = slice_index_or sections number no_section

-- the tables are those of the sections
pub record IsStock (stock : TableStock) : Type 0 where
  pub tables : stock.tables ≡ map table_of stock.sections
