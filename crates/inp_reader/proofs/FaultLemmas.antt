-- The faults of a line: at most one.
use Rattle.std.proofs.Common.{◌≡◌, ◌++◌, [], ◌||◌, ◌&&◌, true, false, not, Bool, cond, length, List, Option, Some, None, is_some, Ok, ◌∷◌, ℕ, ℤ, refl, ap, sym, ◌∙◌, subst, append-nil, arith}
use Rattle.std.proofs.lemmas.List.{take-take}
use Rattle.net_types.specs.declared.faults.FaultKind.TheVariants.{OverLimit}
use Rattle.net_types.specs.declared.faults.LineFault.{LineFault}
use Rattle.net_types.specs.declared.options.FlowUnits.{FlowUnits}
use Rattle.net_types.specs.declared.options.InfilKind.{InfilKind}
use Rattle.inp_lines.specs.declared.fault.Fault.{Fault}
use Rattle.inp_lines.specs.declared.line.Line.{Line}
use Rattle.inp_lines.specs.declared.line.SectionName.{SectionName}
use Rattle.inp_lines.specs.declared.line.SectionName.TheVariants as section
use Rattle.inp_lines.specs.declared.names.Naming.{Naming}
use Rattle.inp_lines.specs.declared.names.Naming.TheVariants.{First}
use Rattle.inp_lines.specs.declared.reading.Reading.{Reading}
use Rattle.inp_lines.specs.declared.reading.Reading.TheVariants.{Other, Record, Faulty}
use Rattle.inp_lines.specs.Faults.{cut, too_few_of, fault_of_kind as item_fault}
use Rattle.inp_lines.specs.Gather.{gather, fault_at, fault_found, faults_in, walk_fault}
use Rattle.inp_lines.specs.Merge.{merged}
use Rattle.inp_lines.specs.Names.{defined, naming_of}
use Rattle.inp_lines.specs.Order.{Rise}
use Rattle.inp_lines.specs.Readings.{is_long, and_then, reading_from}
use Rattle.inp_lines.specs.Sources.{FaultsIn, OneOn, both_of}
use Rattle.inp_lines.proofs.MergeLemmas.{merged_gather, merged_cut, merged_sections, faults_in_both}
use Rattle.inp_forms.specs.Context.{Context}
use Rattle.inp_forms.specs.Forms.{RowForm, Forms, form_reading, has_form, reading_by, row_reading}
use Rattle.inp_forms.specs.Items.{values_of}
use Rattle.inp_forms.proofs.FormLemmas.{form_faults_in}
use Rattle.inp_owners.specs.Owners.{owner_of}
use Rattle.inp_owners.proofs.OwnerLemmas.{owned_faults_in}
use Rattle.inp_forms.specs.declared.item.Objects.TheVariants as objects
use Rattle.inp_hydrology.specs.Areas.{area_forms, areas_fault}
use Rattle.inp_hydrology.specs.Evaporation.{evaporation_fault, evaporation_forms, no_name}
use Rattle.inp_hydrology.specs.Gages.{gage_fault, gage_forms, gage_name}
use Rattle.inp_hydrology.specs.Soil.{soil_fault, soil_forms}
use Rattle.inp_hydrology.specs.Subcatchments.{sub_fault, sub_forms, sub_name}
use Rattle.inp_inflows.specs.Counted.{CountedForm, counted_fault, counted_reading, is_full, is_line_of, is_short}
use Rattle.inp_inflows.specs.Inflows.{dry_form, inflow_form, is_dry_section, is_inflow_section}
use Rattle.inp_inflows.proofs.CountedLemmas.{faults_counted}
use Rattle.inp_lists.specs.Chains.{ChainForm, chain_fault, fault_in, kept}
use Rattle.inp_network.specs.Links.{link_fault, link_forms, link_name}
use Rattle.inp_network.specs.Nodes.{node_fault, node_forms, node_name}
use Rattle.inp_options.specs.OptionLines.{reading_of, setting_of, at_options, fault_of, is_options, option_fault}
use Rattle.inp_options.specs.Options.{units_of}
use Rattle.inp_options.proofs.LineLemmas.{on_option_lines}
use Rattle.inp_rules.specs.RuleFaults.{fault_by_clause, fault_with, is_full as is_full_of_rules, line_fault_of, rule_fault, rule_name}
use Rattle.inp_rules.specs.RuleLines.{clause_at, is_controls, lines_after, part_of}
use Rattle.inp_rules.proofs.SoundLemmas.{faults_of_rules}
use Rattle.inp_sections.specs.CrossSections.{section_fault, section_forms}
use Rattle.inp_sections.specs.Losses.{loss_forms, losses_fault}
use Rattle.inp_series.specs.CurveLines.{curve_fault, curve_form, is_curve_section}
use Rattle.inp_series.specs.PatternLines.{is_pattern_section, pattern_fault, pattern_form}
use Rattle.inp_series.specs.SeriesLines.{is_series_section, series_fault, series_form}
use Rattle.inp_series.proofs.MeaningLemmas.{curve_faults_in, series_faults_in}
use Rattle.inp_series.proofs.PatternLemmas.{pattern_faults_in}
use Rattle.inp_reader.specs.Flows.{flow_fault}
use Rattle.inp_reader.specs.Known.{known_in, method_of, start_of}
use Rattle.inp_reader.specs.LineFaults.{fault_of_line}
use Rattle.inp_reader.specs.Network.{network_fault}
use Rattle.inp_reader.specs.OtherLines.{treatment_of, treated_fault, is_section_line, other_fault, other_line_fault}
use Rattle.inp_reader.specs.Surface.{surface_fault}
use Rattle.inp_reader.specs.Tables.{table_fault}

-- ---- lines that define names in any way
one_of_reading : {A : Type 0} (line : Line) (reading : Reading A) → OneOn line.number (faults_in line reading)
one_of_reading line Other = tt
one_of_reading line (Record value) = tt
one_of_reading line (Faulty fault) = refl

no_form : {R : Type 0} (known : Context) (naming : Naming) (line : Line) (o : Option (List (List ℕ) → RowForm R))
    → is_some o ≡ false → faults_in line (reading_by known naming o line) ≡ []
no_form known naming line None e = refl
no_form known naming line (Some form) e = absurd (cc)

named_faults_in : {R : Type 0} (known : Context) (forms : Forms R) (name_of : Line → Option (List ℕ)) → FaultsIn (has_form forms) (fault_at name_of (form_reading known forms))
named_faults_in known forms name_of = record {
  one = λ before line. one_of_reading line (form_reading known forms (naming_of (defined name_of before) (name_of line)) line);
  elsewhere = λ before line e. no_form known (naming_of (defined name_of before) (name_of line)) line (forms line.«section») e;
}

-- ---- the network
abbrev pub is_object : SectionName → Bool
is_object name = has_form node_forms name || has_form link_forms name

abbrev pub has_xsection : SectionName → Bool
has_xsection name = is_object name || has_form section_forms name

abbrev pub is_network : SectionName → Bool
is_network name = has_xsection name || has_form loss_forms name

nodes_not_links : (name : SectionName) → has_form node_forms name ≡ true → has_form link_forms name ≡ false
nodes_not_links section.Conduits e = cc
nodes_not_links section.Pumps e = cc
nodes_not_links section.Orifices e = cc
nodes_not_links section.Weirs e = cc
nodes_not_links _ e = refl

not_sections : (name : SectionName) → is_object name ≡ true → has_form section_forms name ≡ false
not_sections section.XSections e = cc
not_sections _ e = refl

not_losses : (name : SectionName) → has_xsection name ≡ true → has_form loss_forms name ≡ false
not_losses section.Losses e = cc
not_losses _ e = refl

module _ (known : Context) where
  nodes_in : FaultsIn (has_form node_forms) (node_fault known)
  nodes_in = form_faults_in known node_forms

  links_in : FaultsIn (has_form link_forms) (link_fault known)
  links_in = form_faults_in known link_forms

  sections_in : FaultsIn (has_form section_forms) (section_fault known)
  sections_in = owned_faults_in known objects.Links section_forms

  losses_in : FaultsIn (has_form loss_forms) (losses_fault known)
  losses_in = owned_faults_in known objects.Conduits loss_forms

  objects_in : FaultsIn is_object (both_of (node_fault known) (link_fault known))
  objects_in = faults_in_both (has_form node_forms) (has_form link_forms) (node_fault known) (link_fault known) nodes_in links_in nodes_not_links

  xsections_in : FaultsIn has_xsection (both_of (both_of (node_fault known) (link_fault known)) (section_fault known))
  xsections_in = faults_in_both is_object (has_form section_forms) (both_of (node_fault known) (link_fault known)) (section_fault known) objects_in sections_in not_sections

  pub network_in : FaultsIn is_network (network_fault known)
  unfolding network_fault
  network_in = faults_in_both has_xsection (has_form loss_forms) (both_of (both_of (node_fault known) (link_fault known)) (section_fault known)) (losses_fault known) xsections_in losses_in not_losses

  -- the faults of the network are those of its sections, merged
  pub network_merged : (lines : List Line) → Rise 0 lines → (first second third fourth : List LineFault)
      → first ≡ cut (gather (node_fault known) [] lines)
      → second ≡ cut (merged first (cut (gather (link_fault known) [] lines)))
      → third ≡ cut (merged second (cut (gather (section_fault known) [] lines)))
      → fourth ≡ cut (merged third (cut (gather (losses_fault known) [] lines)))
      → fourth ≡ cut (gather (network_fault known) [] lines)
  unfolding network_fault
  network_merged lines rise first second third fourth a b c d =
      let two = merged_sections (has_form node_forms) (has_form link_forms) (node_fault known) (link_fault known) nodes_in links_in nodes_not_links 0 lines rise first second a b in
      let three = merged_sections is_object (has_form section_forms) (both_of (node_fault known) (link_fault known)) (section_fault known) objects_in sections_in not_sections 0 lines rise second third two c in
      merged_sections has_xsection (has_form loss_forms) (both_of (both_of (node_fault known) (link_fault known)) (section_fault known)) (losses_fault known) xsections_in losses_in not_losses 0 lines rise third fourth three d

-- ---- the surface
abbrev pub is_land : SectionName → Bool
is_land name = has_form gage_forms name || has_form sub_forms name

abbrev pub has_areas : SectionName → Bool
has_areas name = is_land name || has_form area_forms name

abbrev pub has_soil : InfilKind → SectionName → Bool
has_soil method name = has_areas name || has_form (soil_forms method) name

abbrev pub is_surface : InfilKind → SectionName → Bool
is_surface method name = has_soil method name || has_form evaporation_forms name

gages_not_subs : (name : SectionName) → has_form gage_forms name ≡ true → has_form sub_forms name ≡ false
gages_not_subs section.Subcatchments e = cc
gages_not_subs _ e = refl

not_areas : (name : SectionName) → is_land name ≡ true → has_form area_forms name ≡ false
not_areas section.SubAreas e = cc
not_areas _ e = refl

not_soil : (method : InfilKind) (name : SectionName) → has_areas name ≡ true → has_form (soil_forms method) name ≡ false
not_soil method section.Infiltration e = cc
not_soil method _ e = refl

not_evaporation : (method : InfilKind) (name : SectionName) → has_soil method name ≡ true → has_form evaporation_forms name ≡ false
not_evaporation method section.Evaporation e = cc
not_evaporation method _ e = refl

module _ (method : InfilKind) (known : Context) where
  gages_in : FaultsIn (has_form gage_forms) (gage_fault known)
  gages_in = form_faults_in known gage_forms

  subs_in : FaultsIn (has_form sub_forms) (sub_fault known)
  subs_in = form_faults_in known sub_forms

  areas_in : FaultsIn (has_form area_forms) (areas_fault known)
  areas_in = owned_faults_in known objects.Subcatchments area_forms

  soil_in : FaultsIn (has_form (soil_forms method)) (soil_fault method known)
  soil_in = owned_faults_in known objects.Subcatchments (soil_forms method)

  evaporation_in : FaultsIn (has_form evaporation_forms) (evaporation_fault known)
  evaporation_in = named_faults_in known evaporation_forms no_name

  lands_in : FaultsIn is_land (both_of (gage_fault known) (sub_fault known))
  lands_in = faults_in_both (has_form gage_forms) (has_form sub_forms) (gage_fault known) (sub_fault known) gages_in subs_in gages_not_subs

  with_areas_in : FaultsIn has_areas (both_of (both_of (gage_fault known) (sub_fault known)) (areas_fault known))
  with_areas_in = faults_in_both is_land (has_form area_forms) (both_of (gage_fault known) (sub_fault known)) (areas_fault known) lands_in areas_in not_areas

  with_soil_in : FaultsIn (has_soil method) (both_of (both_of (both_of (gage_fault known) (sub_fault known)) (areas_fault known)) (soil_fault method known))
  with_soil_in = faults_in_both has_areas (has_form (soil_forms method)) (both_of (both_of (gage_fault known) (sub_fault known)) (areas_fault known)) (soil_fault method known) with_areas_in soil_in (not_soil method)

  pub surface_in : FaultsIn (is_surface method) (surface_fault method known)
  unfolding surface_fault
  surface_in = faults_in_both (has_soil method) (has_form evaporation_forms) (both_of (both_of (both_of (gage_fault known) (sub_fault known)) (areas_fault known)) (soil_fault method known)) (evaporation_fault known) with_soil_in evaporation_in (not_evaporation method)

  -- the faults of the surface are those of its sections, merged
  pub surface_merged : (lines : List Line) → Rise 0 lines → (first second third fourth fifth : List LineFault)
      → first ≡ cut (gather (gage_fault known) [] lines)
      → second ≡ cut (merged first (cut (gather (sub_fault known) [] lines)))
      → third ≡ cut (merged second (cut (gather (areas_fault known) [] lines)))
      → fourth ≡ cut (merged third (cut (gather (soil_fault method known) [] lines)))
      → fifth ≡ cut (merged fourth (cut (gather (evaporation_fault known) [] lines)))
      → fifth ≡ cut (gather (surface_fault method known) [] lines)
  unfolding surface_fault
  surface_merged lines rise first second third fourth fifth a b c d e =
      let two = merged_sections (has_form gage_forms) (has_form sub_forms) (gage_fault known) (sub_fault known) gages_in subs_in gages_not_subs 0 lines rise first second a b in
      let three = merged_sections is_land (has_form area_forms) (both_of (gage_fault known) (sub_fault known)) (areas_fault known) lands_in areas_in not_areas 0 lines rise second third two c in
      let four = merged_sections has_areas (has_form (soil_forms method)) (both_of (both_of (gage_fault known) (sub_fault known)) (areas_fault known)) (soil_fault method known) with_areas_in soil_in (not_soil method) 0 lines rise third fourth three d in
      merged_sections (has_soil method) (has_form evaporation_forms) (both_of (both_of (both_of (gage_fault known) (sub_fault known)) (areas_fault known)) (soil_fault method known)) (evaporation_fault known) with_soil_in evaporation_in (not_evaporation method) 0 lines rise fourth fifth four e

-- ---- series, curves and patterns
abbrev pub has_pairs : SectionName → Bool
has_pairs name = is_series_section name || is_curve_section name

abbrev pub is_table : SectionName → Bool
is_table name = has_pairs name || is_pattern_section name

series_not_curves : (name : SectionName) → is_series_section name ≡ true → is_curve_section name ≡ false
series_not_curves section.Curves e = cc
series_not_curves _ e = refl

pairs_not_patterns : (name : SectionName) → has_pairs name ≡ true → is_pattern_section name ≡ false
pairs_not_patterns section.Patterns e = cc
pairs_not_patterns _ e = refl

module _ (start : ℤ) where
  pairs_in : FaultsIn has_pairs (both_of (series_fault start) curve_fault)
  pairs_in = faults_in_both is_series_section is_curve_section (series_fault start) curve_fault (series_faults_in start) curve_faults_in series_not_curves

  pub tables_in : FaultsIn is_table (table_fault start)
  unfolding table_fault
  tables_in = faults_in_both has_pairs is_pattern_section (both_of (series_fault start) curve_fault) pattern_fault pairs_in pattern_faults_in pairs_not_patterns

  -- the faults of tables are those of their sections, merged
  pub tables_merged : (lines : List Line) → Rise 0 lines → (first second third : List LineFault)
      → first ≡ cut (gather (series_fault start) [] lines)
      → second ≡ cut (merged first (cut (gather curve_fault [] lines)))
      → third ≡ cut (merged second (cut (gather pattern_fault [] lines)))
      → third ≡ cut (gather (table_fault start) [] lines)
  unfolding table_fault
  tables_merged lines rise first second third a b c =
      let two = merged_sections is_series_section is_curve_section (series_fault start) curve_fault (series_faults_in start) curve_faults_in series_not_curves 0 lines rise first second a b in
      merged_sections has_pairs is_pattern_section (both_of (series_fault start) curve_fault) pattern_fault pairs_in pattern_faults_in pairs_not_patterns 0 lines rise second third two c

-- ---- flows of nodes
abbrev pub is_flow : SectionName → Bool
is_flow name = is_inflow_section name || is_dry_section name

inflows_not_dry : (name : SectionName) → is_inflow_section name ≡ true → is_dry_section name ≡ false
inflows_not_dry section.Dwf e = cc
inflows_not_dry _ e = refl

module _ (known : Context) where
  pub flows_in : FaultsIn is_flow (flow_fault known)
  unfolding flow_fault
  flows_in = faults_in_both is_inflow_section is_dry_section (counted_fault known inflow_form) (counted_fault known dry_form) (faults_counted inflow_form known) (faults_counted dry_form known) inflows_not_dry

  pub flows_merged : (lines : List Line) → Rise 0 lines → (first second : List LineFault)
      → first ≡ cut (gather (counted_fault known inflow_form) [] lines)
      → second ≡ cut (merged first (cut (gather (counted_fault known dry_form) [] lines)))
      → second ≡ cut (gather (flow_fault known) [] lines)
  unfolding flow_fault
  flows_merged lines rise first second a b = merged_sections is_inflow_section is_dry_section (counted_fault known inflow_form) (counted_fault known dry_form) (faults_counted inflow_form known) (faults_counted dry_form known) inflows_not_dry 0 lines rise first second a b

-- ---- all lines that other readers take
abbrev pub reads_network : SectionName → Bool
reads_network name = is_options name || is_network name

abbrev pub reads_surface : InfilKind → SectionName → Bool
reads_surface method name = reads_network name || is_surface method name

abbrev pub reads_tables : InfilKind → SectionName → Bool
reads_tables method name = reads_surface method name || is_table name

abbrev pub reads_flows : InfilKind → SectionName → Bool
reads_flows method name = reads_tables method name || is_flow name

abbrev pub is_read : InfilKind → SectionName → Bool
is_read method name = reads_flows method name || is_controls name

options_not_network : (name : SectionName) → is_options name ≡ true → is_network name ≡ false
options_not_network section.Options e = refl
options_not_network _ e = cc

not_surface : (method : InfilKind) (name : SectionName) → reads_network name ≡ true → is_surface method name ≡ false
not_surface method section.RainGages e = cc
not_surface method section.Subcatchments e = cc
not_surface method section.SubAreas e = cc
not_surface method section.Infiltration e = cc
not_surface method section.Evaporation e = cc
not_surface method _ e = refl

not_tables : (method : InfilKind) (name : SectionName) → reads_surface method name ≡ true → is_table name ≡ false
not_tables method section.TimeSeries e = cc
not_tables method section.Curves e = cc
not_tables method section.Patterns e = cc
not_tables method _ e = refl

not_flows : (method : InfilKind) (name : SectionName) → reads_tables method name ≡ true → is_flow name ≡ false
not_flows method section.Inflows e = cc
not_flows method section.Dwf e = cc
not_flows method _ e = refl

not_rules : (method : InfilKind) (name : SectionName) → reads_flows method name ≡ true → is_controls name ≡ false
not_rules method section.Controls e = cc
not_rules method _ e = refl

module _ (lines : List Line) where
  abbrev options_here : List Line → Line → List LineFault
  options_here = option_fault (units_of lines)

  abbrev network_here : List Line → Line → List LineFault
  network_here = network_fault (known_in lines)

  abbrev surface_here : List Line → Line → List LineFault
  surface_here = surface_fault (method_of lines) (known_in lines)

  abbrev tables_here : List Line → Line → List LineFault
  tables_here = table_fault (start_of lines)

  abbrev flows_here : List Line → Line → List LineFault
  flows_here = flow_fault (known_in lines)

  abbrev rules_here : List Line → Line → List LineFault
  rules_here = rule_fault (known_in lines) lines

  abbrev pub read_fault : List Line → Line → List LineFault
  read_fault = both_of (both_of (both_of (both_of (both_of options_here network_here) surface_here) tables_here) flows_here) rules_here

  first_in : FaultsIn reads_network (both_of options_here network_here)
  first_in = faults_in_both is_options is_network options_here network_here (on_option_lines (units_of lines)) (network_in (known_in lines)) options_not_network

  second_in : FaultsIn (reads_surface (method_of lines)) (both_of (both_of options_here network_here) surface_here)
  second_in = faults_in_both reads_network (is_surface (method_of lines)) (both_of options_here network_here) surface_here first_in (surface_in (method_of lines) (known_in lines)) (not_surface (method_of lines))

  third_in : FaultsIn (reads_tables (method_of lines)) (both_of (both_of (both_of options_here network_here) surface_here) tables_here)
  third_in = faults_in_both (reads_surface (method_of lines)) is_table (both_of (both_of options_here network_here) surface_here) tables_here second_in (tables_in (start_of lines)) (not_tables (method_of lines))

  fourth_in : FaultsIn (reads_flows (method_of lines)) (both_of (both_of (both_of (both_of options_here network_here) surface_here) tables_here) flows_here)
  fourth_in = faults_in_both (reads_tables (method_of lines)) is_flow (both_of (both_of (both_of options_here network_here) surface_here) tables_here) flows_here third_in (flows_in (known_in lines)) (not_flows (method_of lines))

  pub read_in : FaultsIn (is_read (method_of lines)) read_fault
  read_in = faults_in_both (reads_flows (method_of lines)) is_controls (both_of (both_of (both_of (both_of options_here network_here) surface_here) tables_here) flows_here) rules_here fourth_in (faults_of_rules (known_in lines) lines) (not_rules (method_of lines))

-- ---- a line that is too long has no other fault
same_options : {A : Type 0} (name : SectionName) (x : A) → at_options x name x ≡ x
same_options section.Options x = refl
same_options _ x = refl

option_long : (units : FlowUnits) (before : List Line) (line : Line) → is_long line ≡ true → option_fault units before line ≡ []
unfolding reading_of
option_long units before line h =
    ap (λ long. fault_found line (fault_of (at_options Other line.«section» (cond long Other (reading_from (setting_of units line.tokens)))))) h
    ∙ ap (λ reading. fault_found line (fault_of reading)) (same_options line.«section» Other)

long_by : {R : Type 0} (known : Context) (naming : Naming) (o : Option (List (List ℕ) → RowForm R)) (line : Line) → is_long line ≡ true → reading_by known naming o line ≡ Other
unfolding row_reading
long_by known naming None line h = refl
long_by known naming (Some form) line h = ap (λ long. cond long Other (reading_from (and_then
    (values_of known naming (form line.tokens).items line.tokens) (λ values. Ok ((form line.tokens).make line.tokens values))))) h

form_long : {R : Type 0} (known : Context) (forms : Forms R) (name_of : Line → Option (List ℕ)) (before : List Line) (line : Line) → is_long line ≡ true
    → fault_at name_of (form_reading known forms) before line ≡ []
form_long known forms name_of before line h = ap (faults_in line) (long_by known (naming_of (defined name_of before) (name_of line)) (forms line.«section») line h)

none_of_two : {A : Type 0} (xs ys : List A) → xs ≡ [] → ys ≡ [] → xs ++ ys ≡ []
none_of_two xs ys p q = ap (λ l. l ++ ys) p ∙ q

none_of_both : (f g : List Line → Line → List LineFault) (before : List Line) (line : Line) → f before line ≡ [] → g before line ≡ [] → both_of f g before line ≡ []
none_of_both f g before line p q = none_of_two (f before line) (g before line) p q

network_long : (known : Context) (before : List Line) (line : Line) → is_long line ≡ true → network_fault known before line ≡ []
unfolding network_fault
network_long known before line h =
    none_of_both (both_of (both_of (node_fault known) (link_fault known)) (section_fault known)) (losses_fault known) before line
    (none_of_both (both_of (node_fault known) (link_fault known)) (section_fault known) before line
    (none_of_both (node_fault known) (link_fault known) before line (form_long known node_forms node_name before line h) (form_long known link_forms link_name before line h))
    (form_long known section_forms (owner_of known objects.Links section_forms) before line h)) (form_long known loss_forms (owner_of known objects.Conduits loss_forms) before line h)

surface_long : (method : InfilKind) (known : Context) (before : List Line) (line : Line) → is_long line ≡ true → surface_fault method known before line ≡ []
unfolding surface_fault
surface_long method known before line h =
    none_of_both (both_of (both_of (both_of (gage_fault known) (sub_fault known)) (areas_fault known)) (soil_fault method known)) (evaporation_fault known) before line
    (none_of_both (both_of (both_of (gage_fault known) (sub_fault known)) (areas_fault known)) (soil_fault method known) before line
    (none_of_both (both_of (gage_fault known) (sub_fault known)) (areas_fault known) before line
    (none_of_both (gage_fault known) (sub_fault known) before line (form_long known gage_forms gage_name before line h) (form_long known sub_forms sub_name before line h))
    (form_long known area_forms (owner_of known objects.Subcatchments area_forms) before line h)) (form_long known (soil_forms method) (owner_of known objects.Subcatchments (soil_forms method)) before line h)) (form_long known evaporation_forms no_name before line h)

-- a line that isn't one of a kind has no fault as one
no_chain : {R S : Type 0} (form : ChainForm R S) (before : List Line) (line : Line) → form.is_of line ≡ false → walk_fault (chain_fault form) before line ≡ []
unfolding chain_fault
no_chain form before line e = ap (λ b. fault_found line (cond b (fault_in form (kept form before) line) None)) e

none_long : (here long : Bool) → long ≡ true → (here && not long) ≡ false
none_long true long e = ap not e
none_long false long e = refl

series_long : (start : ℤ) (before : List Line) (line : Line) → is_long line ≡ true → series_fault start before line ≡ []
unfolding series_form
series_long start before line h = no_chain (series_form start) before line (none_long (is_series_section line.«section») (is_long line) h)

curve_long : (before : List Line) (line : Line) → is_long line ≡ true → curve_fault before line ≡ []
unfolding curve_form
curve_long before line h = no_chain curve_form before line (none_long (is_curve_section line.«section») (is_long line) h)

pattern_long : (before : List Line) (line : Line) → is_long line ≡ true → pattern_fault before line ≡ []
unfolding pattern_form
pattern_long before line h = no_chain pattern_form before line (none_long (is_pattern_section line.«section») (is_long line) h)

table_long : (start : ℤ) (before : List Line) (line : Line) → is_long line ≡ true → table_fault start before line ≡ []
unfolding table_fault
table_long start before line h =
    none_of_both (both_of (series_fault start) curve_fault) pattern_fault before line
    (none_of_both (series_fault start) curve_fault before line (series_long start before line h) (curve_long before line h))
    (pattern_long before line h)

counted_long : {R : Type 0} (known : Context) (form : CountedForm R) (before : List Line) (line : Line) → is_long line ≡ true → counted_fault known form before line ≡ []
unfolding counted_reading
counted_long known form before line h =
    ap (λ b. faults_in line (cond b (cond (is_short form line) (Faulty (too_few_of line.tokens)) (cond (is_full form before) (Faulty (item_fault OverLimit 0)) (row_reading known First form.row line))) Other))
    (none_long (form.is_of line.«section») (is_long line) h)

flow_long : (known : Context) (before : List Line) (line : Line) → is_long line ≡ true → flow_fault known before line ≡ []
unfolding flow_fault
flow_long known before line h = none_of_both (counted_fault known inflow_form) (counted_fault known dry_form) before line
    (counted_long known inflow_form before line h) (counted_long known dry_form before line h)

rule_long : (known : Context) (all before : List Line) (line : Line) → is_long line ≡ true → rule_fault known all before line ≡ []
unfolding line_fault_of fault_with
rule_long known all before line h = ap (λ b. fault_found line (cond b (fault_by_clause known (part_of before) (is_full_of_rules before) (naming_of (defined rule_name before) (rule_name line)) (lines_after all before) line.tokens (clause_at line)) None))
    (none_long (is_controls line.«section») (is_long line) h)

read_long : (lines before : List Line) (line : Line) → is_long line ≡ true → read_fault lines before line ≡ []
read_long lines before line h =
    let options = option_fault (units_of lines) in
    let network = network_fault (known_in lines) in
    let surface = surface_fault (method_of lines) (known_in lines) in
    let tables = table_fault (start_of lines) in
    let flows = flow_fault (known_in lines) in
    none_of_both (both_of (both_of (both_of (both_of options network) surface) tables) flows) (rule_fault (known_in lines) lines) before line
    (none_of_both (both_of (both_of (both_of options network) surface) tables) flows before line
    (none_of_both (both_of (both_of options network) surface) tables before line
    (none_of_both (both_of options network) surface before line
    (none_of_both options network before line (option_long (units_of lines) before line h) (network_long (known_in lines) before line h))
    (surface_long (method_of lines) (known_in lines) before line h))
    (table_long (start_of lines) before line h))
    (flow_long (known_in lines) before line h))
    (rule_long (known_in lines) lines before line h)

-- a line that another reader takes has no other fault but for its length
read_built : (method : InfilKind) (name : SectionName) (named : Bool) → is_read method name ≡ true → treated_fault (treatment_of name) named ≡ None
read_built method section.Options named e = refl
read_built method section.RainGages named e = refl
read_built method section.Evaporation named e = refl
read_built method section.Subcatchments named e = refl
read_built method section.SubAreas named e = refl
read_built method section.Infiltration named e = refl
read_built method section.Junctions named e = refl
read_built method section.Outfalls named e = refl
read_built method section.Storage named e = refl
read_built method section.Conduits named e = refl
read_built method section.Pumps named e = refl
read_built method section.Orifices named e = refl
read_built method section.Weirs named e = refl
read_built method section.XSections named e = refl
read_built method section.Losses named e = refl
read_built method section.TimeSeries named e = refl
read_built method section.Curves named e = refl
read_built method section.Patterns named e = refl
read_built method section.Inflows named e = refl
read_built method section.Dwf named e = refl
read_built method section.Controls named e = refl
read_built method _ named e = cc

other_one : (before : List Line) (line : Line) → OneOn line.number (other_line_fault before line)
other_one before line = one_on (other_fault line) where
  one_on : (fault : Option Fault) → OneOn line.number (fault_found line fault)
  one_on None = tt
  one_on (Some fault) = refl

-- of a line's two faults at most one is there
pub one_fault : (lines before : List Line) (line : Line) → OneOn line.number (read_fault lines before line ++ other_line_fault before line)
one_fault lines before line = by_length (is_long line) refl where
  reads : List LineFault
  reads = read_fault lines before line

  alone : reads ≡ [] → OneOn line.number (reads ++ other_line_fault before line)
  alone h = let P : List LineFault → Type 0 = λ l. OneOn line.number (l ++ other_line_fault before line) in subst P (sym h) (other_one before line)

  by_section : (b : Bool) → is_read (method_of lines) line.«section» ≡ b → is_long line ≡ false → OneOn line.number (reads ++ other_line_fault before line)
  by_section true e short =
      let none : other_fault line ≡ None = ap (λ b. cond b (Some (item_fault OverLimit (length line.tokens))) (treated_fault (treatment_of line.«section») (is_section_line line))) short ∙ read_built (method_of lines) line.«section» (is_section_line line) e in
      let P : List LineFault → Type 0 = λ l. OneOn line.number l in
      subst P (sym (ap (λ fault. reads ++ fault_found line fault) none ∙ append-nil reads)) ((read_in lines).one before line)
  by_section false e short = alone ((read_in lines).elsewhere before line e)

  by_length : (b : Bool) → is_long line ≡ b → OneOn line.number (reads ++ other_line_fault before line)
  by_length true e = alone (read_long lines before line e)
  by_length false e = by_section (is_read (method_of lines) line.«section») refl e

pub line_has_one : (lines before : List Line) (line : Line) → OneOn line.number (fault_of_line lines before line)
unfolding fault_of_line
line_has_one lines before line = one_fault lines before line

-- the faults so far, and those of lines that no section reads merged into them
pub all_merged : (lines : List Line) → Rise 0 lines → (first second third fourth fifth sixth seventh : List LineFault)
    → first ≡ cut (merged [] (cut (gather (option_fault (units_of lines)) [] lines)))
    → second ≡ cut (merged first (cut (gather (network_fault (known_in lines)) [] lines)))
    → third ≡ cut (merged second (cut (gather (surface_fault (method_of lines) (known_in lines)) [] lines)))
    → fourth ≡ cut (merged third (cut (gather (table_fault (start_of lines)) [] lines)))
    → fifth ≡ cut (merged fourth (cut (gather (flow_fault (known_in lines)) [] lines)))
    → sixth ≡ cut (merged fifth (cut (gather (rule_fault (known_in lines) lines) [] lines)))
    → seventh ≡ cut (merged sixth (cut (gather other_line_fault [] lines)))
    → seventh ≡ cut (gather (fault_of_line lines) [] lines)
unfolding fault_of_line
all_merged lines rise first second third fourth fifth sixth seventh a b c d e f g =
    let method = method_of lines in
    let options = option_fault (units_of lines) in
    let network = network_fault (known_in lines) in
    let surface = surface_fault method (known_in lines) in
    let one = a ∙ take-take 100 100 (gather options [] lines) (omega arith) in
    let two = merged_sections is_options is_network options network (on_option_lines (units_of lines)) (network_in (known_in lines)) options_not_network 0 lines rise first second one b in
    let three = merged_sections reads_network (is_surface method) (both_of options network) surface (first_in lines) (surface_in method (known_in lines)) (not_surface method) 0 lines rise second third two c in
    let tables = table_fault (start_of lines) in
    let flows = flow_fault (known_in lines) in
    let four = merged_sections (reads_surface method) is_table (both_of (both_of options network) surface) tables (second_in lines) (tables_in (start_of lines)) (not_tables method) 0 lines rise third fourth three d in
    let five = merged_sections (reads_tables method) is_flow (both_of (both_of (both_of options network) surface) tables) flows (third_in lines) (flows_in (known_in lines)) (not_flows method) 0 lines rise fourth fifth four e in
    let six = merged_sections (reads_flows method) is_controls (both_of (both_of (both_of (both_of options network) surface) tables) flows) (rule_fault (known_in lines) lines) (fourth_in lines) (faults_of_rules (known_in lines) lines) (not_rules method) 0 lines rise fifth sixth five f in
    g ∙ (ap (λ l. cut (merged l (cut (gather other_line_fault [] lines)))) six
    ∙ (merged_cut (gather (read_fault lines) [] lines) (gather other_line_fault [] lines)
    ∙ ap cut (merged_gather (read_fault lines) other_line_fault (λ before line. (read_in lines).one before line) other_one (λ before line. one_fault lines before line) 0 [] lines rise)))
