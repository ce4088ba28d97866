use Rattle.std.proofs.Common.{◌≡◌, ℕ, List, length, map, take}
use Rattle.std.specs.List.{All}
use Rattle.net_types.specs.declared.network.Link.{Link}
use Rattle.net_types.specs.declared.project.Project.{Project}
use Rattle.xsect_tables.specs.SectionTable.{SectionTable}
use Rattle.link_eval.specs.Good.{IsGoodLink}
use Rattle.link_eval.specs.Hydraulics.{LinkLaw}
use Rattle.link_eval.specs.LinkLaws.{link_law_of}
use Rattle.link_eval.specs.SharedTables.{laws_with}
use Rattle.link_eval.specs.Stock.{IsStock}
use Rattle.link_eval.specs.declared.tables.TableStock.{TableStock}
use Rattle.link_eval.proofs.build.link_laws.Given as goal

-- the laws of the first links
pub record AreLinkLaws (project : Project) (links : List Link) (laws : List (LinkLaw SectionTable)) : Type 0 where
  pub value : laws ≡ map (link_law_of project.nodes project.options) links
  pub good : All (IsGoodLink (length project.nodes) (length project.curves)) laws

-- with the tables made so far
pub record AreMade (project : Project) (links : List Link) (stock : TableStock) (laws : List (LinkLaw ℕ)) : Type 0 where
  pub laws_are : AreLinkLaws project links (laws_with stock.tables laws)
  pub stock_is : IsStock stock

abbrev pub invariant-loop-link : goal.invariant-loop-link
invariant-loop-link l = AreMade l.project (take l.link-index l.links) l.stock l.laws
