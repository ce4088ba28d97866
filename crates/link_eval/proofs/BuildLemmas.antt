-- The hydraulics of a project are good.
use Rattle.std.proofs.Common.{◌≡◌, ◌∙◌, ℕ, zero, suc, ◌≤◌, Bool, true, false, if◌then◌else◌, List, length, map, Option, Some, None, IsSome, IfSome, IsTrue, ℤ, pos, ◌≤ℤ◌, refl, ap, sym, subst, arith}
use Rattle.std.specs.List.{All}
use Rattle.fixed_num.specs.Lists.{list_of}
use Rattle.std.proofs.lemmas.List.{length-map}
use Rattle.std.proofs.lemmas.List.Elements.{All-get_or}
use Rattle.std.proofs.lemmas.List.FromFn.{length-map-range_with_len}
use Rattle.std.proofs.lemmas.Int.{ints}
use Rattle.net_types.specs.declared.network.Link.{Link}
use Rattle.net_types.specs.declared.network.LinkKind.{LinkKind}
use Rattle.net_types.specs.declared.network.LinkKind.TheVariants.{Conduit, Pump, Orifice, Weir}
use Rattle.net_types.specs.declared.network.Section.{Section}
use Rattle.net_types.specs.declared.project.Project.{Project}
use Rattle.node_update.specs.NodeLaws.{IsNodeLaw, node_law_of}
use Rattle.net_types.specs.Sound.{IsSound}
use Rattle.net_types.specs.Ranges.{SectionInRange}
use Rattle.project_check.specs.Faultless.{IsFaultless, IsGoodSection as IsFaultlessSection}
use Rattle.project_check.specs.Objects.{needs_none, section_area}
use Rattle.project_check.proofs.LawLemmas.{faultless_good}
use Rattle.conduit_flow.specs.Conduits.{IsConduitTable}
use Rattle.xsect_tables.specs.SectionTable.{SectionTable, table_of, full_area, full_height}
use Rattle.xsect_tables.proofs.TableLemmas.{areas_are, full_height_is, table_is}
use Rattle.fixed_num.specs.Units.{IsUnit}
use Rattle.inp_values.specs.Units.{is_us, unit_for}
use Rattle.inp_values.specs.declared.quantities.Quantity.TheVariants.{Depth, Flow, Volume}
use Rattle.net_types.specs.declared.options.FlowUnits.{FlowUnits}
use Rattle.pump_flow.specs.PumpFlow.{ArePumpUnits}
use Rattle.link_eval.specs.Pumps.{pump_units_of}
use Rattle.net_types.specs.declared.tables.Curve.{Curve}
use Rattle.net_types.specs.Ranges.{CurveInRange}
use Rattle.phase_law.specs.Laws.{AreEnds}
use Rattle.link_eval.specs.Routed.{IsConduitKind, IsRoutedSection, IsRouted}
use Rattle.link_eval.specs.Good.{IsGoodLink, IsGood}
use Rattle.link_eval.specs.Hydraulics.{Hydraulics, LinkLaw, no_node_law, node_law_at, link_law_at}
use Rattle.link_eval.specs.Ends.{ends_between}
use Rattle.link_eval.specs.Conduits.{conduit_law_of}
use Rattle.link_eval.specs.Orifices.{orifice_law_of}
use Rattle.link_eval.specs.LinkLaws.{IsLinkRule, NamesOneOf, given_section, link_law_of, link_rule_of, routed_rule_of, no_link_law}
use Rattle.link_eval.specs.SharedTables.{law_with, rule_with, table_at}
use Rattle.link_eval.specs.declared.conduit.ConduitLaw.{ConduitLaw}
use Rattle.link_eval.specs.declared.orifice.OrificeLaw.{OrificeLaw}
use Rattle.link_eval.specs.declared.ends.LinkEnds.{LinkEnds}
use Rattle.net_types.specs.Records.{node_at}
use Rattle.net_types.specs.declared.network.Node.{Node}
use Rattle.net_types.specs.declared.options.Options.{Options}
use Rattle.link_eval.specs.declared.link_law.LinkRule.{LinkRule}
use Rattle.link_eval.specs.declared.link_law.LinkRule.TheVariants.{Conduit as ConduitRule, Orifice as OrificeRule}

-- laws of nodes and links, all of them good, and as many as the project has
pub laws_are_good : (project : Project) (h : Hydraulics) → IsSound project
    → h.nodes ≡ list_of (node_law_of project) (length project.nodes) → All IsNodeLaw h.nodes
    → h.links ≡ map (link_law_of project.nodes project.options) project.links → All (IsGoodLink (length project.nodes) (length project.curves)) h.links
    → h.curves ≡ project.curves → IsGood h
unfolding node_law_at link_law_at
laws_are_good project h sound nodes nodes_good links links_good curves =
    let node_count : length h.nodes ≡ length project.nodes = ap length nodes ∙ length-map-range_with_len (node_law_of project) 0 (length project.nodes) in
    let link_count : length h.links ≡ length project.links = ap length links ∙ length-map project.links (link_law_of project.nodes project.options) in
    let by_nodes : All (IsGoodLink (length h.nodes) (length project.curves)) h.links =
    subst (λ n. All (IsGoodLink n (length project.curves)) h.links) (sym node_count) links_good in
    let all_links : All (IsGoodLink (length h.nodes) (length h.curves)) h.links =
    subst (λ (l : List Curve). All (IsGoodLink (length h.nodes) (length l)) h.links) (sym curves) by_nodes in
    record {
      few_nodes = omega (arith, node_count, sound.few.nodes);
      few_links = omega (arith, link_count, sound.few.links);
      nodes = λ n inside. All-get_or IsNodeLaw h.nodes n no_node_law inside nodes_good;
      links = λ l inside. All-get_or (IsGoodLink (length h.nodes) (length h.curves)) h.links l no_link_law inside all_links;
      curves = subst (λ (l : List Curve). All CurveInRange l) (sym curves) sound.ranges.curves;
    }

-- the ends of a link whose nodes are in range and differ
pub ends_of : {project : Project} (link : Link) → IsRouted project link → AreEnds (length project.nodes) (link.first, link.second)
ends_of link r = record { first = r.names.first; second = r.names.second; differ = r.good.ends_differ }

-- a link's law of its parts
abbrev pub law_of_parts : {T : Type 0} → ℕ → ℕ → LinkRule T → LinkLaw T
law_of_parts first second rule = record { first = first; second = second; rule = rule }

pub link_law_is : (nodes : List Node) (options : Options) (link : Link) (tables : List SectionTable) (rule : LinkRule ℕ) {near far : Node} {ends : LinkEnds}
    → near ≡ node_at nodes link.first → far ≡ node_at nodes link.second → ends ≡ ends_between near far
    → rule_with tables rule ≡ routed_rule_of options ends link → law_with tables (law_of_parts link.first link.second rule) ≡ link_law_of nodes options link
unfolding link_law_of law_with
link_law_is nodes options link tables rule {near} {far} e f g h =
    ap (λ (r : LinkRule SectionTable). law_of_parts link.first link.second r)
    (h ∙ ap (λ (x : LinkEnds). routed_rule_of options x link)
    (g ∙ ap (λ (n : Node). ends_between n far) e ∙ ap (λ (m : Node). ends_between (node_at nodes link.first) m) f))

pub link_law_good : {project : Project} (link : Link) (tables : List SectionTable) (rule : LinkRule ℕ) → IsRouted project link
    → IsLinkRule (rule_with tables rule) → NamesOneOf (length project.curves) (rule_with tables rule)
    → IsGoodLink (length project.nodes) (length project.curves) (law_with tables (law_of_parts link.first link.second rule))
unfolding law_with
link_law_good link tables rule r g n = record { ends = ends_of link r; rule = g; curve = n }

-- ---- a link's rule by its kind, with the table of its number
conduit_rule_is : (options : Options) (ends : LinkEnds) (kind : LinkKind) (section : Section) (tables : List SectionTable) (number : ℕ)
    → IsConduitKind kind → table_at tables number ≡ table_of section
    → rule_with tables (ConduitRule (conduit_law_of kind number ends options)) ≡ link_rule_of options ends kind section (table_of section)
conduit_rule_is options ends (Conduit long n6 z1 z2 q0 q_max entry6 exit6 avg6 flap) section tables number k t =
    ap (λ (x : SectionTable). ConduitRule (conduit_law_of (Conduit long n6 z1 z2 q0 q_max entry6 exit6 avg6 flap) x ends options)) t
conduit_rule_is options ends (Pump curve on startup shutoff) section tables number k t = absurd k
conduit_rule_is options ends (Orifice bottom offset cd6 flap) section tables number k t = absurd k
conduit_rule_is options ends (Weir notch crest cd6 flap contractions) section tables number k t = absurd k

pub conduit_rule_of : (options : Options) (ends : LinkEnds) (link : Link) (tables : List SectionTable) {section : Section} {number : ℕ} {law : ConduitLaw ℕ}
    → IsConduitKind link.kind → section ≡ given_section link.section → law ≡ conduit_law_of link.kind number ends options → table_at tables number ≡ table_of section
    → rule_with tables (ConduitRule law) ≡ routed_rule_of options ends link
conduit_rule_of options ends link tables {section} {number} k s l t =
    ap (λ (x : ConduitLaw ℕ). rule_with tables (ConduitRule x)) l
    ∙ conduit_rule_is options ends link.kind (given_section link.section) tables number k (t ∙ ap table_of s)

pub orifice_rule_of : (options : Options) (ends : LinkEnds) (link : Link) (tables : List SectionTable) {section : Section} {number : ℕ} {law : OrificeLaw ℕ}
    {bottom flap : Bool} {offset cd6 : ℤ}
    → link.kind ≡ Orifice bottom offset cd6 flap → section ≡ given_section link.section → law ≡ orifice_law_of bottom offset cd6 flap section number ends
    → table_at tables number ≡ table_of section → rule_with tables (OrificeRule law) ≡ routed_rule_of options ends link
orifice_rule_of options ends link tables {section} {number} {law} {bottom} {flap} {offset} {cd6} k s l t =
    let given = given_section link.section in
    ap (λ (x : OrificeLaw ℕ). rule_with tables (OrificeRule x)) l
    ∙ (ap (λ (x : SectionTable). OrificeRule (orifice_law_of bottom offset cd6 flap section x ends)) t
    ∙ (ap (λ (x : Section). OrificeRule (orifice_law_of bottom offset cd6 flap x (table_of x) ends)) s
    ∙ ap (λ (x : LinkKind). link_rule_of options ends x given (table_of given)) (sym k)))

-- ---- a link of a faultless project
above_zero : (a : ℤ) → pos 0 ≤ℤ a → ¬ (a ≡ pos 0) → pos 1 ≤ℤ a
above_zero (pos zero) h n = absurd (n refl)
above_zero (pos (suc k)) h n = omega (arith, ints)
above_zero a h n = grind (arith, ints, h, n)

section_good : (kind : LinkKind) (section : Section) → SectionInRange section → IsFaultlessSection kind section → IsRoutedSection section
unfolding section_area
section_good kind section h g =
    let from_zero = ((areas_are section h).each 200 (omega arith)).from in
    record { range = h; area = record { from = above_zero (full_area (table_of section)) from_zero g.some_area; to = g.most_area } }

some_section : (kind : LinkKind) (section : Option Section) → IsSome section → IfSome section SectionInRange → IfSome section (IsFaultlessSection kind) → IsRoutedSection (given_section section)
some_section kind (Some section) there h g = section_good kind section h g
some_section kind None there h g = let no : ⊥ = cc in absurd no

-- a link that needs a section has one that can be routed
pub routed_section : {project : Project} (link : Link) → IsRouted project link → ¬ (IsTrue (needs_none link.kind)) → IsRoutedSection (given_section link.section)
routed_section link r needs = some_section link.kind link.section (r.good.has_section needs) r.range.section_in r.good.good_section

-- only a pump needs none
pub is_no_pump : {none : Bool} → none ≡ false → ¬ (IsTrue none)
is_no_pump e t = let no : ⊥ = cc in no

-- and the table of that can be routed
routed_table : {section : Section} → IsRoutedSection section → IsConduitTable (table_of section)
routed_table {section} s = record { rows = table_is section s.range; full = s.area; areas = areas_are section s.range }

pub table_good : {section : Section} {table : SectionTable} → IsRoutedSection section → table ≡ table_of section → IsConduitTable table
table_good s is = subst IsConduitTable (sym is) (routed_table s)

pub full_of : {section : Section} {table : SectionTable} → IsRoutedSection section → table ≡ table_of section → section.full ≡ full_height table
full_of {section} s is = sym (full_height_is section s.range) ∙ ap (λ (t : SectionTable). full_height t) (sym is)

pub all_routed : (project : Project) → IsFaultless project → All (IsRouted project) project.links
all_routed project f k d inside = record {
  names = f.sound.names.links k d inside;
  range = f.sound.ranges.links k d inside;
  good = (faultless_good project f).links k d inside;
}

-- ---- the units of pumps
one_or_thousand : (b : Bool) → (if b then 1_000 else 1) ≤ 1_000
one_or_thousand true = omega arith
one_or_thousand false = omega arith

pub pump_units_are : (units : FlowUnits) → IsUnit (unit_for units Volume) → IsUnit (unit_for units Depth) → IsUnit (unit_for units Flow) → ArePumpUnits (pump_units_of units)
unfolding unit_for
pump_units_are units v d f = record { volume = v; depth = d; flow = f; volume_part = one_or_thousand (is_us units); depth_whole = refl }
