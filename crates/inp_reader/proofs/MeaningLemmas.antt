-- What lines without a fault mean.
use Rattle.std.proofs.Common.{◌≡◌, ◌++◌, ◌∷◌, [], Bool, true, false, cond, length, List, Some, refl, ap, sym, ◌∙◌}
use Rattle.std.specs.List.{All}
use Rattle.std.proofs.lemmas.List.Elements.{All-cons, All-nil}
use Rattle.net_types.specs.declared.faults.FaultKind.TheVariants.{OverLimit}
use Rattle.net_types.specs.declared.faults.LineFault.{LineFault}
use Rattle.net_types.specs.declared.hydrology.Sub.{Sub}
use Rattle.net_types.specs.declared.network.Link.{Link}
use Rattle.net_types.specs.declared.options.InfilKind.{InfilKind}
use Rattle.net_types.specs.declared.project.Project.{Project}
use Rattle.inp_lines.specs.declared.line.Line.{Line}
use Rattle.inp_lines.specs.Gather.{fault_found, gather}
use Rattle.inp_lines.specs.Readings.{is_long}
use Rattle.inp_lines.specs.Sources.{both_of}
use Rattle.inp_forms.specs.Context.{Context}
use Rattle.inp_lines.specs.Faults.{fault_of_kind as item_fault}
use Rattle.inp_forms.specs.declared.item.Objects.TheVariants as objects
use Rattle.inp_forms.proofs.FormLemmas.{forms_mean, forms_mean_one}
use Rattle.inp_owners.proofs.OwnerLemmas.{owned_mean}
use Rattle.inp_hydrology.specs.Areas.{area_forms, areas_fault, areas_of, with_areas}
use Rattle.inp_hydrology.specs.Evaporation.{evaporation_fault}
use Rattle.inp_hydrology.specs.Gages.{gage_fault, gage_forms, gages_of}
use Rattle.inp_hydrology.specs.Soil.{soil_fault, soil_forms, soil_of, with_infil}
use Rattle.inp_hydrology.specs.Subcatchments.{sub_fault, sub_forms, subs_of}
use Rattle.inp_network.specs.Links.{link_fault, link_forms, links_of}
use Rattle.inp_inflows.specs.Counted.{counted_fault}
use Rattle.inp_inflows.specs.Inflows.{dry_form, inflow_form}
use Rattle.inp_inflows.proofs.CountedLemmas.{counted_mean, counted_mean_one}
use Rattle.inp_network.specs.Nodes.{node_fault, node_forms, nodes_of}
use Rattle.inp_options.specs.OptionLines.{option_fault}
use Rattle.inp_options.specs.Options.{units_of, options_of, options_by, base_by}
use Rattle.inp_rules.specs.Laws.{AreFaultless}
use Rattle.inp_rules.specs.RuleFaults.{rule_fault}
use Rattle.inp_rules.proofs.MeaningLemmas.{rules_meant, rules_one}
use Rattle.inp_sections.specs.CrossSections.{section_fault, section_forms, sections_of, with_sections}
use Rattle.inp_sections.specs.Losses.{loss_forms, losses_fault, losses_of, with_losses}
use Rattle.inp_series.specs.CurveLines.{curve_fault}
use Rattle.inp_series.specs.PatternLines.{pattern_fault}
use Rattle.inp_series.specs.SeriesLines.{series_fault}
use Rattle.inp_series.proofs.MeaningLemmas.{curves_mean, curves_one, series_mean, series_one}
use Rattle.inp_series.proofs.PatternLemmas.{patterns_mean, patterns_one}
use Rattle.inp_reader.specs.Flows.{flow_fault}
use Rattle.inp_reader.specs.Known.{known_in, method_of, start_of}
use Rattle.inp_reader.specs.LineFaults.{fault_of_line, line_faults}
use Rattle.inp_reader.specs.Meaning.{Means}
use Rattle.inp_reader.specs.Network.{MeansLinks, full_links, network_fault}
use Rattle.inp_reader.specs.OtherLines.{is_section_line, other_fault, other_line_fault, treated_fault, treatment_of}
use Rattle.inp_reader.specs.Surface.{MeansSubs, full_subs, surface_fault}
use Rattle.inp_reader.specs.Tables.{table_fault}
use Rattle.inp_reader.proofs.Given.{given_project}

-- ---- lines mean at most one project
links_unique : (known : Context) (lines : List Line) (links more : List Link) → MeansLinks known lines links → MeansLinks known lines more → links ≡ more
links_unique known lines links more p q =
    let bare = forms_mean_one known link_forms lines p.bare q.bare p.bare_are q.bare_are in
    let sections = forms_mean_one known section_forms lines p.sections q.sections p.sections_are q.sections_are in
    let losses = forms_mean_one known loss_forms lines p.losses q.losses p.losses_are q.losses_are in
    p.links_are ∙ (ap (λ l. with_losses l (with_sections p.sections p.bare)) losses
    ∙ (ap (λ s. with_losses q.losses (with_sections s p.bare)) sections
    ∙ (ap (λ b. with_losses q.losses (with_sections q.sections b)) bare ∙ sym q.links_are)))

subs_unique : (method : InfilKind) (known : Context) (lines : List Line) (subs more : List Sub) → MeansSubs method known lines subs → MeansSubs method known lines more → subs ≡ more
subs_unique method known lines subs more p q =
    let bare = forms_mean_one known sub_forms lines p.bare q.bare p.bare_are q.bare_are in
    let areas = forms_mean_one known area_forms lines p.areas q.areas p.areas_are q.areas_are in
    let soil = forms_mean_one known (soil_forms method) lines p.soil q.soil p.soil_is q.soil_is in
    p.subs_are ∙ (ap (λ s. with_infil s (with_areas p.areas p.bare)) soil
    ∙ (ap (λ a. with_infil q.soil (with_areas a p.bare)) areas
    ∙ (ap (λ b. with_infil q.soil (with_areas q.areas b)) bare ∙ sym q.subs_are)))

pub means_unique : (lines : List Line) (p q : Project) → Means lines p → Means lines q → p ≡ q
means_unique lines p q a b =
    let known = known_in lines in
    let title = a.title_is ∙ sym b.title_is in
    let warnings = a.warnings_are ∙ sym b.warnings_are in
    let options = a.options_are ∙ sym b.options_are in
    let gages = forms_mean_one known gage_forms lines p.gages q.gages a.gages_are b.gages_are in
    let subs = subs_unique (method_of lines) known lines p.subs q.subs a.subs_are b.subs_are in
    let nodes = forms_mean_one known node_forms lines p.nodes q.nodes a.nodes_are b.nodes_are in
    let links = links_unique known lines p.links q.links a.links_are b.links_are in
    let curves = curves_one lines p.curves q.curves a.curves_are b.curves_are in
    let series = series_one (start_of lines) lines p.series q.series a.series_are b.series_are in
    let patterns = patterns_one lines p.patterns q.patterns a.patterns_are b.patterns_are in
    let inflows = counted_mean_one inflow_form known lines p.inflows q.inflows a.inflows_are b.inflows_are in
    let dry = counted_mean_one dry_form known lines p.dry q.dry a.dry_are b.dry_are in
    let rules = rules_one known lines p.rules q.rules a.rules_are b.rules_are in
    λ i. record { title = title i; warnings = warnings i; options = options i; gages = gages i; subs = subs i; nodes = nodes i; links = links i; curves = curves i; series = series i; patterns = patterns i; inflows = inflows i; dry = dry i; rules = rules i }

-- ---- where no line is at fault, none is as a record of any kind
nil_left : {A : Type 0} (xs ys : List A) → xs ++ ys ≡ [] → xs ≡ []
nil_left [] ys h = refl
nil_left (x ∷ xs) ys h = cc

nil_right : {A : Type 0} (xs ys : List A) → xs ++ ys ≡ [] → ys ≡ []
nil_right [] ys h = h
nil_right (x ∷ xs) ys h = cc

nil_both : {A : Type 0} (xs ys : List A) → xs ≡ [] → ys ≡ [] → xs ++ ys ≡ []
nil_both xs ys p q = ap (λ l. l ++ ys) p ∙ q

both_none : (f g : List Line → Line → List LineFault) (before lines : List Line) → gather (both_of f g) before lines ≡ [] → (gather f before lines ≡ []) × (gather g before lines ≡ [])
both_none f g before [] h = (refl, refl)
both_none f g before (line ∷ lines) h =
    let more = before ++ line ∷ [] in
    let here = nil_left (f before line ++ g before line) (gather (both_of f g) more lines) h in
    let rest = both_none f g more lines (nil_right (f before line ++ g before line) (gather (both_of f g) more lines) h) in (
      nil_both (f before line) (gather f more lines) (nil_left (f before line) (g before line) here) rest.0,
      nil_both (g before line) (gather g more lines) (nil_right (f before line) (g before line) here) rest.1,
    )

-- a line without a fault isn't too long
short_line : (line : Line) → fault_found line (other_fault line) ≡ [] → is_long line ≡ false
short_line line = go (is_long line) where
  go : (b : Bool) → fault_found line (cond b (Some (item_fault OverLimit (length line.tokens))) (treated_fault (treatment_of line.«section») (is_section_line line))) ≡ [] → b ≡ false
  go true e = absurd (cc)
  go false e = refl

none_long : (before lines : List Line) → gather other_line_fault before lines ≡ [] → All (λ line. is_long line ≡ false) lines
none_long before [] h = All-nil (λ line. is_long line ≡ false)
none_long before (line ∷ lines) h = All-cons (λ line. is_long line ≡ false) line lines
    (short_line line (nil_left (other_line_fault before line) (gather other_line_fault (before ++ line ∷ []) lines) h))
    (none_long (before ++ line ∷ []) lines (nil_right (other_line_fault before line) (gather other_line_fault (before ++ line ∷ []) lines) h))

pub record NoFaults (lines : List Line) : Type 0 where
  pub nodes : gather (node_fault (known_in lines)) [] lines ≡ []
  pub links : gather (link_fault (known_in lines)) [] lines ≡ []
  pub sections : gather (section_fault (known_in lines)) [] lines ≡ []
  pub losses : gather (losses_fault (known_in lines)) [] lines ≡ []
  pub gages : gather (gage_fault (known_in lines)) [] lines ≡ []
  pub subs : gather (sub_fault (known_in lines)) [] lines ≡ []
  pub areas : gather (areas_fault (known_in lines)) [] lines ≡ []
  pub soil : gather (soil_fault (method_of lines) (known_in lines)) [] lines ≡ []
  pub series : gather (series_fault (start_of lines)) [] lines ≡ []
  pub curves : gather curve_fault [] lines ≡ []
  pub patterns : gather pattern_fault [] lines ≡ []
  pub inflows : gather (counted_fault (known_in lines) inflow_form) [] lines ≡ []
  pub dry : gather (counted_fault (known_in lines) dry_form) [] lines ≡ []
  pub rules : AreFaultless (known_in lines) lines

pub no_faults : (lines : List Line) → line_faults lines ≡ [] → NoFaults lines
unfolding fault_of_line network_fault surface_fault table_fault flow_fault
no_faults lines h =
    let known = known_in lines in
    let method = method_of lines in
    let options = option_fault (units_of lines) in
    let network = network_fault known in
    let surface = surface_fault method known in
    let tables = table_fault (start_of lines) in
    let series = series_fault (start_of lines) in
    let inflows = counted_fault known inflow_form in
    let dry = counted_fault known dry_form in
    let read = both_none (both_of (both_of (both_of (both_of (both_of options network) surface) tables) (flow_fault known)) (rule_fault known lines)) other_line_fault [] lines h in
    let five = both_none (both_of (both_of (both_of (both_of options network) surface) tables) (flow_fault known)) (rule_fault known lines) [] lines read.0 in
    let four = both_none (both_of (both_of (both_of options network) surface) tables) (flow_fault known) [] lines five.0 in
    let three = both_none (both_of (both_of options network) surface) tables [] lines four.0 in
    let two = both_none (both_of options network) surface [] lines three.0 in
    let in_tables = both_none (both_of series curve_fault) pattern_fault [] lines three.1 in
    let pairs = both_none series curve_fault [] lines in_tables.0 in
    let flows = both_none inflows dry [] lines four.1 in
    let one = both_none options network [] lines two.0 in
    let in_network = both_none (both_of (both_of (node_fault known) (link_fault known)) (section_fault known)) (losses_fault known) [] lines one.1 in
    let in_links = both_none (both_of (node_fault known) (link_fault known)) (section_fault known) [] lines in_network.0 in
    let objects = both_none (node_fault known) (link_fault known) [] lines in_links.0 in
    let in_surface = both_none (both_of (both_of (both_of (gage_fault known) (sub_fault known)) (areas_fault known)) (soil_fault method known)) (evaporation_fault known) [] lines two.1 in
    let in_soil = both_none (both_of (both_of (gage_fault known) (sub_fault known)) (areas_fault known)) (soil_fault method known) [] lines in_surface.0 in
    let in_areas = both_none (both_of (gage_fault known) (sub_fault known)) (areas_fault known) [] lines in_soil.0 in
    let land = both_none (gage_fault known) (sub_fault known) [] lines in_areas.0 in
    record {
      nodes = objects.0;
      links = objects.1;
      sections = in_links.1;
      losses = in_network.1;
      gages = land.0;
      subs = land.1;
      areas = in_areas.1;
      soil = in_soil.1;
      series = pairs.0;
      curves = pairs.1;
      patterns = in_tables.1;
      inflows = flows.0;
      dry = flows.1;
      rules = record { short = none_long [] lines read.1; good = five.1 };
    }

-- ---- lines without a fault mean the project that they give
links_mean : (lines : List Line) → NoFaults lines → MeansLinks (known_in lines) lines (full_links (known_in lines) lines)
unfolding links_of
links_mean lines none = record {
  bare = links_of (known_in lines) lines;
  sections = sections_of (known_in lines) lines;
  losses = losses_of (known_in lines) lines;
  bare_are = forms_mean (known_in lines) link_forms lines none.links;
  sections_are = owned_mean (known_in lines) objects.Links section_forms lines none.sections;
  losses_are = owned_mean (known_in lines) objects.Conduits loss_forms lines none.losses;
  links_are = refl;
}

subs_mean : (lines : List Line) → NoFaults lines → MeansSubs (method_of lines) (known_in lines) lines (full_subs (method_of lines) (known_in lines) lines)
unfolding subs_of
subs_mean lines none = record {
  bare = subs_of (known_in lines) lines;
  areas = areas_of (known_in lines) lines;
  soil = soil_of (method_of lines) (known_in lines) lines;
  bare_are = forms_mean (known_in lines) sub_forms lines none.subs;
  areas_are = owned_mean (known_in lines) objects.Subcatchments area_forms lines none.areas;
  soil_is = owned_mean (known_in lines) objects.Subcatchments (soil_forms (method_of lines)) lines none.soil;
  subs_are = refl;
}

pub given_means : (lines : List Line) → line_faults lines ≡ [] → Means lines (given_project lines)
unfolding given_project nodes_of gages_of
given_means lines h =
    let none = no_faults lines h in
    record {
      title_is = refl;
      warnings_are = refl;
      options_are = refl;
      gages_are = forms_mean (known_in lines) gage_forms lines none.gages;
      subs_are = subs_mean lines none;
      nodes_are = forms_mean (known_in lines) node_forms lines none.nodes;
      links_are = links_mean lines none;
      curves_are = curves_mean lines none.curves;
      series_are = series_mean (start_of lines) lines none.series;
      patterns_are = patterns_mean lines none.patterns;
      inflows_are = counted_mean inflow_form (known_in lines) lines none.inflows;
      dry_are = counted_mean dry_form (known_in lines) lines none.dry;
      rules_are = rules_meant (known_in lines) lines none.rules;
    }

pub means_some : (lines : List Line) → line_faults lines ≡ [] → (project : Project) × Means lines project
means_some lines none = (given_project lines, given_means lines none)

pub options_have_units : (lines : List Line) → (options_of lines).units ≡ units_of lines
unfolding options_of options_by base_by
options_have_units lines = refl
