-- What holds of every project that is read.
use Rattle.std.proofs.Common.{◌≡◌, [], codes, ◌∷◌, ◌<◌, ◌≤◌, ◌+◌, ℕ, Bool, true, false, cond, length, List, Option, Some, None, IfSome, refl, ap, sym, ◌∙◌, subst, arith, sum_by, get_or, map}
use Rattle.std.specs.List.{All}
use Rattle.std.proofs.lemmas.List.Elements.{All-nil, All-cons, All-head, All-tail}
use Rattle.fixed_num.specs.declared.constants.TheConstants.{RECORD_LIMIT}
use Rattle.fixed_num.specs.Ranges.{IsMoment}
use Rattle.net_types.specs.declared.hydrology.Gage.{Gage}
use Rattle.net_types.specs.declared.hydrology.Sub.{Sub}
use Rattle.net_types.specs.declared.inflows.DryFlow.{DryFlow}
use Rattle.net_types.specs.declared.inflows.Inflow.{Inflow}
use Rattle.net_types.specs.declared.network.Link.{Link}
use Rattle.net_types.specs.declared.network.LinkKind.{LinkKind}
use Rattle.net_types.specs.declared.network.LinkKind.TheVariants.{Conduit, Pump, Orifice, Weir}
use Rattle.net_types.specs.declared.network.Node.{Node}
use Rattle.net_types.specs.declared.options.InfilKind.{InfilKind}
use Rattle.net_types.specs.declared.options.Options.{Options}
use Rattle.net_types.specs.declared.project.Project.{Project}
use Rattle.net_types.specs.declared.rules.Rule.{Rule}
use Rattle.net_types.specs.declared.tables.Curve.{Curve}
use Rattle.net_types.specs.declared.tables.CurveKind.{CurveKind}
use Rattle.net_types.specs.declared.tables.CurveKind.TheVariants.{Storage, Pump1, Pump2, Pump3, Pump4, Tidal}
use Rattle.net_types.specs.declared.tables.Pattern.{Pattern}
use Rattle.net_types.specs.declared.tables.Series.{Series}
use Rattle.net_types.specs.Ranges.{OptionsInRange, GageInRange, SubInRange, NodeInRange, LinkKindInRange, LinkInRange, SectionInRange}
use Rattle.net_types.specs.Ranges.{IsOfKind, CurveInRange, SeriesInRange, PatternInRange, InflowInRange, DryFlowInRange, RuleInRange}
use Rattle.net_types.specs.Sound.{GageNames, SubNames, NodeNames, LinkKindNames, LinkNames, InflowNames, DryFlowNames, RuleNames, IsSound}
use Rattle.net_types.specs.Sound.{IsPumpCurve, NamesCurve, NamesPumpCurve}
use Rattle.inp_lines.specs.declared.line.Line.{Line}
use Rattle.inp_lines.specs.declared.line.SectionName.{SectionName}
use Rattle.inp_lines.specs.declared.line.SectionName.TheVariants as section
use Rattle.inp_lines.specs.Faults.{token_at}
use Rattle.inp_lines.specs.Names.{number_in}
use Rattle.inp_lines.proofs.NameLemmas.{number_within}
use Rattle.inp_forms.specs.declared.item.Item.TheVariants.{Needed}
use Rattle.inp_forms.specs.declared.item.Objects.{Objects}
use Rattle.inp_forms.specs.declared.item.Objects.TheVariants as objects
use Rattle.inp_forms.specs.declared.item.Value.{Value}
use Rattle.inp_forms.specs.declared.item.What.TheVariants.{Name}
use Rattle.inp_forms.specs.Context.{Context, curve_kind_at, curve_number, is_link_of, object_number, serves, that_is}
use Rattle.inp_forms.specs.Forms.{RowForm}
use Rattle.inp_hydrology.specs.declared.areas.OwnAreas.{OwnAreas}
use Rattle.inp_hydrology.specs.declared.soil.OwnInfil.{OwnInfil}
use Rattle.inp_hydrology.specs.Areas.{sub_of_areas, with_areas, with_own_areas}
use Rattle.inp_hydrology.specs.Gages.{gage_form, gage_forms, gage_name, gage_names}
use Rattle.inp_hydrology.specs.Soil.{sub_of_infil, with_infil, with_own_infil}
use Rattle.inp_hydrology.specs.Subcatchments.{sub_form, sub_forms, sub_name, sub_names}
use Rattle.inp_hydrology.specs.Soundness.{AreSoundAreas, IsSoundGage, IsSoundSoil, IsSoundSub, NamesObjects as NamesLand}
use Rattle.inp_hydrology.proofs.SoundLemmas.{areas_sound, gages_sound, soil_sound, subs_sound}
use Rattle.inp_inflows.specs.Counted.{MeanCounted, counted_of}
use Rattle.inp_inflows.specs.Inflows.{dry_form, inflow_form}
use Rattle.inp_inflows.specs.Laws.{IsSoundDry, IsSoundInflow, NamesSources}
use Rattle.inp_inflows.proofs.CountedLemmas.{counted_mean, counted_mean_one, few_counted}
use Rattle.inp_inflows.proofs.SoundLemmas.{dry_flows_sound, inflows_sound}
use Rattle.inp_network.specs.Links.{conduit_form, link_forms, link_name, link_names, orifice_form, pump_form, weir_form}
use Rattle.inp_network.specs.Nodes.{junction_form, node_forms, node_name, node_names, outfall_form, storage_form, fixed_form, tidal_form, series_form, steady_form, functional_form, tabular_form, is_at}
use Rattle.inp_network.specs.Soundness.{IsSoundLink, IsSoundNode, NamesObjects}
use Rattle.inp_network.proofs.LinksLemmas.{links_sound}
use Rattle.inp_network.proofs.NodesLemmas.{nodes_sound}
use Rattle.inp_owners.proofs.PlacingLemmas.{length-owned}
use Rattle.inp_sections.specs.declared.cross_sections.OwnSection.{OwnSection}
use Rattle.inp_sections.specs.declared.losses.OwnLosses.{OwnLosses}
use Rattle.inp_sections.specs.CrossSections.{link_of_section, with_section, with_sections}
use Rattle.inp_sections.specs.Losses.{kind_with_losses, link_of_losses, with_losses, with_own_losses}
use Rattle.inp_sections.specs.Soundness.{AreSoundLosses, IsSoundSection, NamesLinks}
use Rattle.inp_sections.proofs.SoundLemmas.{losses_sound, sections_sound}
use Rattle.inp_rules.specs.Laws.{IsSoundRule, NamesObjects as NamesOfRules, size_of}
use Rattle.inp_rules.specs.Rules.{rules_of}
use Rattle.inp_rules.proofs.FewLemmas.{rules_few as few_rules}
use Rattle.inp_rules.proofs.MeaningLemmas.{rules_meant, rules_one}
use Rattle.inp_rules.proofs.SoundLemmas.{rules_sound}
use Rattle.inp_series.specs.CurveLines.{curve_names, curve_states, curves_of}
use Rattle.inp_series.specs.PatternLines.{pattern_names, patterns_of}
use Rattle.inp_series.specs.SeriesLines.{series_names, series_of}
use Rattle.inp_series.proofs.MeaningLemmas.{curve_kinds_are, curves_in_range, curves_mean, curves_one, few_curves, few_entries, few_points, few_series, series_in_range, series_mean, series_numbers, series_one}
use Rattle.inp_series.proofs.PatternLemmas.{few_patterns, pattern_numbers, patterns_in_range, patterns_mean, patterns_one}
use Rattle.inp_reader.specs.Known.{context_in, known_in, method_of, start_of}
use Rattle.inp_reader.specs.LineFaults.{line_faults}
use Rattle.inp_reader.specs.Meaning.{Means}
use Rattle.inp_reader.proofs.MeaningLemmas.{NoFaults, no_faults}
use Rattle.inp_reader.proofs.NamedLemmas.{AllBegin, BeginsWithName, as_many, defined_few}
use Rattle.inp_reader.proofs.PlacedLemmas.{all_placed}

-- ---- the lines of each kind begin with a name
abbrev rest_of : {A : Type 0} → List A → List A
rest_of [] = []
rest_of (x ∷ xs) = xs

begin_by : {R : Type 0} (name_in : R → List ℕ) (form : RowForm R) → form.items ≡ Needed Name ∷ rest_of form.items
    → ((tokens : List (List ℕ)) (values : List Value) → name_in (form.make tokens values) ≡ token_at tokens 0) → BeginsWithName name_in form
begin_by name_in form items name = record { rest = rest_of form.items; items_are = items; name_is = name }

abbrev node_named : Node → List ℕ
node_named node = node.name

abbrev link_named : Link → List ℕ
link_named link = link.name

outfalls_begin : (tokens : List (List ℕ)) → BeginsWithName node_named (outfall_form tokens)
unfolding outfall_form
outfalls_begin tokens = fixed (is_at tokens 2 (codes "FIXED")) (is_at tokens 2 (codes "TIDAL")) (is_at tokens 2 (codes "TIMESERIES")) where
  fixed : (a b c : Bool) → BeginsWithName node_named (cond a fixed_form (cond b tidal_form (cond c series_form steady_form)))
  fixed true b c = begin_by node_named fixed_form refl (λ tokens values. refl)
  fixed false true c = begin_by node_named tidal_form refl (λ tokens values. refl)
  fixed false false true = begin_by node_named series_form refl (λ tokens values. refl)
  fixed false false false = begin_by node_named steady_form refl (λ tokens values. refl)

storages_begin : (tokens : List (List ℕ)) → BeginsWithName node_named (storage_form tokens)
unfolding storage_form
storages_begin tokens = functional (is_at tokens 4 (codes "FUNCTIONAL")) where
  functional : (a : Bool) → BeginsWithName node_named (cond a functional_form tabular_form)
  functional true = begin_by node_named functional_form refl (λ tokens values. refl)
  functional false = begin_by node_named tabular_form refl (λ tokens values. refl)

nodes_begin : (name : SectionName) → AllBegin node_named (node_forms name)
nodes_begin section.Junctions = λ tokens. begin_by node_named junction_form refl (λ tokens values. refl)
nodes_begin section.Outfalls = outfalls_begin
nodes_begin section.Storage = storages_begin
nodes_begin _ = tt

links_begin : (name : SectionName) → AllBegin link_named (link_forms name)
links_begin section.Conduits = λ tokens. begin_by link_named conduit_form refl (λ tokens values. refl)
links_begin section.Pumps = λ tokens. begin_by link_named pump_form refl (λ tokens values. refl)
links_begin section.Orifices = λ tokens. begin_by link_named orifice_form refl (λ tokens values. refl)
links_begin section.Weirs = λ tokens. begin_by link_named weir_form refl (λ tokens values. refl)
links_begin _ = tt

gages_begin : (name : SectionName) → AllBegin (λ (gage : Gage). gage.name) (gage_forms name)
gages_begin section.RainGages = λ tokens. begin_by (λ (gage : Gage). gage.name) gage_form refl (λ tokens values. refl)
gages_begin _ = tt

subs_begin : (name : SectionName) → AllBegin (λ (sub : Sub). sub.name) (sub_forms name)
subs_begin section.Subcatchments = λ tokens. begin_by (λ (sub : Sub). sub.name) sub_form refl (λ tokens values. refl)
subs_begin _ = tt

-- a fact of each item gives another
all_of : {A : Type 0} (P Q : A → Type 0) → ((x : A) → P x → Q x) → (xs : List A) → All P xs → All Q xs
all_of P Q to [] all = All-nil Q
all_of P Q to (x ∷ xs) all = All-cons Q x xs (to x (All-head P x xs all)) (all_of P Q to xs (All-tail P x xs all))

-- ---- links with what other lines say of them
pub record IsGoodLink (project : Project) (link : Link) : Type 0 where
  pub kind_in : LinkKindInRange link.kind
  pub section_in : IfSome link.«section» SectionInRange
  pub first : link.first < length project.nodes
  pub second : link.second < length project.nodes
  pub kind : LinkKindNames project link.kind

module _ (project : Project) where
  bare_good : (link : Link) → IsSoundLink project link → IsGoodLink project link
  bare_good link is = record {
    kind_in = is.range;
    section_in = subst (λ o. IfSome o SectionInRange) (sym is.bare) tt;
    first = is.first;
    second = is.second;
    kind = is.names;
  }

  section_keeps : (own : OwnSection) (link : Link) → IsSoundSection project own → IsGoodLink project link → IsGoodLink project (with_section own link)
  section_keeps own link sound is = record { kind_in = is.kind_in; section_in = sound.range; first = is.first; second = is.second; kind = is.kind }

  kind_stays_in : (own : OwnLosses) (kind : LinkKind) → AreSoundLosses project own → LinkKindInRange kind → LinkKindInRange (kind_with_losses own kind)
  kind_stays_in own (Conduit long n6 z1 z2 q0 q_max entry6 exit6 avg6 flap) sound is = record {
    long_in = is.long_in;
    roughness_in = is.roughness_in;
    z1_in = is.z1_in;
    z2_in = is.z2_in;
    q0_in = is.q0_in;
    q_max_in = is.q_max_in;
    entry_in = sound.entry_in;
    exit_in = sound.exit_in;
    avg_in = sound.avg_in;
  }
  kind_stays_in own (Pump curve on startup shutoff) sound is = is
  kind_stays_in own (Orifice bottom offset cd6 flap) sound is = is
  kind_stays_in own (Weir notch crest cd6 flap contractions) sound is = is

  kind_still_names : (own : OwnLosses) (kind : LinkKind) → LinkKindNames project kind → LinkKindNames project (kind_with_losses own kind)
  kind_still_names own (Conduit long n6 z1 z2 q0 q_max entry6 exit6 avg6 flap) is = tt
  kind_still_names own (Pump curve on startup shutoff) is = is
  kind_still_names own (Orifice bottom offset cd6 flap) is = tt
  kind_still_names own (Weir notch crest cd6 flap contractions) is = tt

  losses_keep : (own : OwnLosses) (link : Link) → AreSoundLosses project own → IsGoodLink project link → IsGoodLink project (with_own_losses own link)
  losses_keep own link sound is = record {
    kind_in = kind_stays_in own link.kind sound is.kind_in;
    section_in = is.section_in;
    first = is.first;
    second = is.second;
    kind = kind_still_names own link.kind is.kind;
  }

  all_links_good : (bare : List Link) (sections : List OwnSection) (losses : List OwnLosses) → All (IsSoundLink project) bare → All (IsSoundSection project) sections → All (AreSoundLosses project) losses
      → All (IsGoodLink project) (with_losses losses (with_sections sections bare))
  unfolding with_sections with_losses
  all_links_good bare sections losses bs ss ls =
      let placed = all_placed link_of_section with_section (IsGoodLink project) (IsSoundSection project) section_keeps sections bare ss (all_of (IsSoundLink project) (IsGoodLink project) bare_good bare bs) in
      all_placed link_of_losses with_own_losses (IsGoodLink project) (AreSoundLosses project) losses_keep losses (with_sections sections bare) ls placed

-- ---- subcatchments with what other lines say of them
pub record IsGoodSub (project : Project) (method : InfilKind) (sub : Sub) : Type 0 where
  pub range : SubInRange sub
  pub gage : sub.gage < length project.gages
  pub outlet : sub.outlet < length project.nodes
  pub infil : IfSome sub.infil (IsOfKind method)

module _ (project : Project) (method : InfilKind) where
  bare_sub_good : (sub : Sub) → IsSoundSub project sub → IsGoodSub project method sub
  bare_sub_good sub is = record { range = is.range; gage = is.gage; outlet = is.outlet; infil = subst (λ o. IfSome o (IsOfKind method)) (sym is.no_infil) tt }

  areas_keep : (own : OwnAreas) (sub : Sub) → AreSoundAreas project own → IsGoodSub project method sub → IsGoodSub project method (with_own_areas own sub)
  areas_keep own sub sound is = record {
    range = record {
      area_in = is.range.area_in;
      imperv_in = is.range.imperv_in;
      width_in = is.range.width_in;
      slope_in = is.range.slope_in;
      sub_areas_in = sound.range;
      infil_in = is.range.infil_in;
    };
    gage = is.gage;
    outlet = is.outlet;
    infil = is.infil;
  }

  soil_keeps : (own : OwnInfil) (sub : Sub) → IsSoundSoil method project own → IsGoodSub project method sub → IsGoodSub project method (with_own_infil own sub)
  soil_keeps own sub sound is = record {
    range = record {
      area_in = is.range.area_in;
      imperv_in = is.range.imperv_in;
      width_in = is.range.width_in;
      slope_in = is.range.slope_in;
      sub_areas_in = is.range.sub_areas_in;
      infil_in = sound.range;
    };
    gage = is.gage;
    outlet = is.outlet;
    infil = sound.kind;
  }

  all_subs_good : (bare : List Sub) (areas : List OwnAreas) (soil : List OwnInfil) → All (IsSoundSub project) bare → All (AreSoundAreas project) areas → All (IsSoundSoil method project) soil
      → All (IsGoodSub project method) (with_infil soil (with_areas areas bare))
  unfolding with_areas with_infil
  all_subs_good bare areas soil bs ars ss =
      let placed = all_placed sub_of_areas with_own_areas (IsGoodSub project method) (AreSoundAreas project) areas_keep areas bare ars (all_of (IsSoundSub project) (IsGoodSub project method) bare_sub_good bare bs) in
      all_placed sub_of_infil with_own_infil (IsGoodSub project method) (IsSoundSoil method project) soil_keeps soil (with_areas areas bare) ss placed

-- what other lines say leaves the count as it is
length-full_links : (losses : List OwnLosses) (sections : List OwnSection) (bare : List Link) → length (with_losses losses (with_sections sections bare)) ≡ length bare
unfolding with_sections with_losses
length-full_links losses sections bare = length-owned link_of_losses with_own_losses 0 losses (with_sections sections bare) ∙ length-owned link_of_section with_section 0 sections bare

length-full_subs : (soil : List OwnInfil) (areas : List OwnAreas) (bare : List Sub) → length (with_infil soil (with_areas areas bare)) ≡ length bare
unfolding with_areas with_infil
length-full_subs soil areas bare = length-owned sub_of_infil with_own_infil 0 soil (with_areas areas bare) ∙ length-owned sub_of_areas with_own_areas 0 areas bare

-- ---- numbers of names
kept_is : (test : ℕ → Bool) (o : Option ℕ) (n : ℕ) → that_is test o ≡ Some n → o ≡ Some n
kept_is test None n e = cc
kept_is test (Some m) n e = step (test m) e where
  step : (b : Bool) → cond b (Some m) None ≡ Some n → Some m ≡ Some n
  step true f = f
  step false f = cc

-- ---- curves of a type
is_storage : (kind : Option CurveKind) → serves objects.StorageCurves kind ≡ true → kind ≡ Some Storage
is_storage None e = absurd (cc)
is_storage (Some Storage) e = refl
is_storage (Some Pump1) e = absurd (cc)
is_storage (Some Pump2) e = absurd (cc)
is_storage (Some Pump3) e = absurd (cc)
is_storage (Some Pump4) e = absurd (cc)
is_storage (Some Tidal) e = absurd (cc)

is_tidal : (kind : Option CurveKind) → serves objects.TidalCurves kind ≡ true → kind ≡ Some Tidal
is_tidal None e = absurd (cc)
is_tidal (Some Storage) e = absurd (cc)
is_tidal (Some Pump1) e = absurd (cc)
is_tidal (Some Pump2) e = absurd (cc)
is_tidal (Some Pump3) e = absurd (cc)
is_tidal (Some Pump4) e = absurd (cc)
is_tidal (Some Tidal) e = refl

is_pump : (kind : Option CurveKind) → serves objects.PumpCurves kind ≡ true → (found : CurveKind) × (kind ≡ Some found) × IsPumpCurve found
is_pump None e = absurd (cc)
is_pump (Some Storage) e = absurd (cc)
is_pump (Some Pump1) e = (Pump1, refl, tt)
is_pump (Some Pump2) e = (Pump2, refl, tt)
is_pump (Some Pump3) e = (Pump3, refl, tt)
is_pump (Some Pump4) e = (Pump4, refl, tt)
is_pump (Some Tidal) e = absurd (cc)

-- a number that passes a test
passes : (test : ℕ → Bool) (o : Option ℕ) (n : ℕ) → that_is test o ≡ Some n → test n ≡ true
passes test None n e = absurd (cc)
passes test (Some m) n e = step (test m) refl e where
  step : (b : Bool) → test m ≡ b → cond b (Some m) None ≡ Some n → test n ≡ true
  step true f g = let same : m ≡ n = cc in sym (ap test same) ∙ f
  step false f g = absurd (cc)

-- how many there are of each kind
pub record HasCounts (lines : List Line) (project : Project) : Type 0 where
  pub nodes : length project.nodes ≡ length (node_names lines)
  pub links : length project.links ≡ length (link_names lines)
  pub gages : length project.gages ≡ length (gage_names lines)
  pub subs : length project.subs ≡ length (sub_names lines)

counts : (lines : List Line) (project : Project) → NoFaults lines → Means lines project → HasCounts lines project
counts lines project none means = record {
  nodes = as_many (known_in lines) node_forms node_named nodes_begin lines none.nodes project.nodes means.nodes_are;
  links = ap (λ (l : List Link). length l) means.links_are.links_are ∙ (length-full_links means.links_are.losses means.links_are.sections means.links_are.bare
      ∙ as_many (known_in lines) link_forms link_named links_begin lines none.links means.links_are.bare means.links_are.bare_are);
  gages = as_many (known_in lines) gage_forms (λ (gage : Gage). gage.name) gages_begin lines none.gages project.gages means.gages_are;
  subs = ap (λ (l : List Sub). length l) means.subs_are.subs_are ∙ (length-full_subs means.subs_are.soil means.subs_are.areas means.subs_are.bare
      ∙ as_many (known_in lines) sub_forms (λ (sub : Sub). sub.name) subs_begin lines none.subs means.subs_are.bare means.subs_are.bare_are);
}

within_count : (names : List (List ℕ)) (count : ℕ) → count ≡ length names → (name : List ℕ) (n : ℕ) → number_in names name ≡ Some n → n < count
within_count names count e name n h = let at : n < length names = number_within names name n h in omega (arith, e, at)

-- the tables that lines without a fault mean are those that are read of them
pub record HasTables (lines : List Line) (project : Project) : Type 0 where
  pub curves : project.curves ≡ curves_of lines
  pub series : project.series ≡ series_of (start_of lines) lines
  pub patterns : project.patterns ≡ patterns_of lines

tables : (lines : List Line) (project : Project) → NoFaults lines → Means lines project → HasTables lines project
tables lines project none means = record {
  curves = curves_one lines project.curves (curves_of lines) means.curves_are (curves_mean lines none.curves);
  series = series_one (start_of lines) lines project.series (series_of (start_of lines) lines) means.series_are (series_mean (start_of lines) lines none.series);
  patterns = patterns_one lines project.patterns (patterns_of lines) means.patterns_are (patterns_mean lines none.patterns);
}

module _ (lines : List Line) (project : Project) (has : HasCounts lines project) (read : HasTables lines project) where
  node_within : (name : List ℕ) (n : ℕ) → number_in (node_names lines) name ≡ Some n → n < length project.nodes
  node_within = within_count (node_names lines) (length project.nodes) has.nodes

  link_within : (name : List ℕ) (n : ℕ) → number_in (link_names lines) name ≡ Some n → n < length project.links
  link_within = within_count (link_names lines) (length project.links) has.links

  series_within : (name : List ℕ) (n : ℕ) → number_in (series_names (start_of lines) lines) name ≡ Some n → n < length project.series
  series_within name n h = subst (λ (l : List Series). n < length l) (sym read.series) (series_numbers (start_of lines) lines name n h)

  pattern_within : (name : List ℕ) (n : ℕ) → number_in (pattern_names lines) name ≡ Some n → n < length project.patterns
  pattern_within name n h = subst (λ (l : List Pattern). n < length l) (sym read.patterns) (pattern_numbers lines name n h)

  curve_named : (n : ℕ) (kind : CurveKind) → get_or (map (λ state. state.kind) (curve_states lines)) n None ≡ Some kind → NamesCurve project.curves n kind
  curve_named n kind h = subst (λ (l : List Curve). NamesCurve l n kind) (sym read.curves) (curve_kinds_are lines n kind h)

  -- a curve that serves a use
  serving : (use_of : Objects) (name : List ℕ) (n : ℕ) → curve_number (known_in lines) use_of name ≡ Some n → serves use_of (get_or (map (λ state. state.kind) (curve_states lines)) n None) ≡ true
  unfolding context_in
  serving use_of name n h = passes (λ number. serves use_of (curve_kind_at (known_in lines) number)) (number_in (curve_names lines) name) n h

  pump_named : (name : List ℕ) (n : ℕ) → curve_number (known_in lines) objects.PumpCurves name ≡ Some n → NamesPumpCurve project.curves n
  pump_named name n h =
      let found = is_pump (get_or (map (λ state. state.kind) (curve_states lines)) n None) (serving objects.PumpCurves name n h) in
      let curve = curve_named n found.0 found.1 in
      record { there = curve.there; kind_is = subst IsPumpCurve (sym curve.kind_is) found.2 }

  names_objects : NamesObjects (known_in lines) project
  unfolding object_number context_in
  names_objects = record {
    nodes = node_within;
    series = series_within;
    storage = λ name n h. curve_named n Storage (is_storage (get_or (map (λ state. state.kind) (curve_states lines)) n None) (serving objects.StorageCurves name n h));
    tidal = λ name n h. curve_named n Tidal (is_tidal (get_or (map (λ state. state.kind) (curve_states lines)) n None) (serving objects.TidalCurves name n h));
    pump = pump_named;
  }

  names_links : NamesLinks (known_in lines) project
  unfolding object_number context_in
  names_links = record {
    links = link_within;
    conduits = λ name n h. link_within name n (kept_is (is_link_of (known_in lines) objects.Conduits) (number_in (link_names lines) name) n h);
  }

  names_land : NamesLand (known_in lines) project
  unfolding object_number context_in
  names_land = record {
    nodes = node_within;
    series = series_within;
    gages = within_count (gage_names lines) (length project.gages) has.gages;
    subs = within_count (sub_names lines) (length project.subs) has.subs;
  }

  names_rules : NamesOfRules (known_in lines) project
  unfolding context_in
  names_rules = record { nodes = node_within; links = link_within }

  names_sources : NamesSources (known_in lines) project
  unfolding object_number context_in
  names_sources = record { nodes = node_within; series = series_within; patterns = pattern_within }

few_names : (names : List (List ℕ)) (count : ℕ) → count ≡ length names → length names ≤ RECORD_LIMIT → count ≤ RECORD_LIMIT
few_names names count e h = omega (arith, e, h)

pub project_sound : (lines : List Line) (project : Project) → line_faults lines ≡ [] → OptionsInRange project.options → Means lines project → IsSound project
project_sound lines project clean options means =
    let none = no_faults lines clean in
    let known = known_in lines in
    let start = start_of lines in
    let has = counts lines project none means in
    let read = tables lines project none means in
    let objects = names_objects lines project has read in
    let on_links = names_links lines project has read in
    let land = names_land lines project has read in
    let sources = names_sources lines project has read in
    let nodes : All (IsSoundNode project) project.nodes = nodes_sound known project objects lines project.nodes means.nodes_are in
    let gages : All (IsSoundGage project) project.gages = gages_sound known project land lines project.gages means.gages_are in
    let of_links = means.links_are in
    let links : All (IsGoodLink project) project.links = subst (λ (l : List Link). All (IsGoodLink project) l) (sym of_links.links_are)
    (all_links_good project of_links.bare of_links.sections of_links.losses (links_sound known project objects lines of_links.bare of_links.bare_are)
    (sections_sound known project on_links lines of_links.sections of_links.sections_are) (losses_sound known project on_links lines of_links.losses of_links.losses_are)) in
    let of_subs = means.subs_are in
    let method = method_of lines in
    let same_method : method ≡ project.options.infil = ap (λ o. o.infil) (sym means.options_are) in
    let subs : All (IsGoodSub project method) project.subs = subst (λ (l : List Sub). All (IsGoodSub project method) l) (sym of_subs.subs_are)
    (all_subs_good project method of_subs.bare of_subs.areas of_subs.soil (subs_sound known project land lines of_subs.bare of_subs.bare_are)
    (areas_sound known project land lines of_subs.areas of_subs.areas_are) (soil_sound method known project land lines of_subs.soil of_subs.soil_is)) in
    let moment : IsMoment start = subst (λ (o : Options). IsMoment o.start) means.options_are options.start_in in
    let inflows : All (IsSoundInflow project) project.inflows = inflows_sound known project sources lines project.inflows means.inflows_are in
    let dry : All (IsSoundDry project) project.dry = dry_flows_sound known project sources lines project.dry means.dry_are in
    let inflows_are = counted_mean_one inflow_form known lines project.inflows (counted_of known inflow_form lines) means.inflows_are (counted_mean inflow_form known lines none.inflows) in
    let rules_are = rules_one known lines project.rules (rules_of known lines) means.rules_are (rules_meant known lines none.rules) in
    let rules_few = few_rules known lines none.rules in
    let on_rules = names_rules lines project has read in
    let rules : All (IsSoundRule project) project.rules = subst (λ (l : List Rule). All (IsSoundRule project) l) (sym rules_are) (rules_sound known lines none.rules project on_rules) in
    let dry_are = counted_mean_one dry_form known lines project.dry (counted_of known dry_form lines) means.dry_are (counted_mean dry_form known lines none.dry) in
    record {
      options = options;
      few = record {
        gages = few_names (gage_names lines) (length project.gages) has.gages (defined_few gage_name lines);
        subs = few_names (sub_names lines) (length project.subs) has.subs (defined_few sub_name lines);
        nodes = few_names (node_names lines) (length project.nodes) has.nodes (defined_few node_name lines);
        links = few_names (link_names lines) (length project.links) has.links (defined_few link_name lines);
        curves = subst (λ (l : List Curve). length l ≤ RECORD_LIMIT) (sym read.curves) (few_curves lines);
        series = subst (λ (l : List Series). length l ≤ RECORD_LIMIT) (sym read.series) (few_series start lines);
        patterns = subst (λ (l : List Pattern). length l ≤ RECORD_LIMIT) (sym read.patterns) (few_patterns lines);
        inflows = subst (λ (l : List Inflow). length l ≤ RECORD_LIMIT) (sym inflows_are) (few_counted inflow_form known lines);
        dry = subst (λ (l : List DryFlow). length l ≤ RECORD_LIMIT) (sym dry_are) (few_counted dry_form known lines);
        rules = subst (λ (l : List Rule). length l ≤ RECORD_LIMIT) (sym rules_are) rules_few.rules_few;
        points = subst (λ (l : List Curve). sum_by (λ curve. length curve.points) l ≤ 1_000_000) (sym read.curves) (few_points lines);
        entries = subst (λ (l : List Series). sum_by (λ series. length series.entries) l ≤ 1_000_000) (sym read.series) (few_entries start lines);
        tests = subst (λ (l : List Rule). sum_by size_of l ≤ 1_000_000) (sym rules_are) rules_few.pieces_few;
      };
      ranges = record {
        gages = all_of (IsSoundGage project) GageInRange (λ gage is. is.range) project.gages gages;
        subs = all_of (IsGoodSub project method) SubInRange (λ sub is. is.range) project.subs subs;
        nodes = all_of (IsSoundNode project) NodeInRange (λ node is. is.range) project.nodes nodes;
        links = all_of (IsGoodLink project) LinkInRange (λ link is. record { kind_in = is.kind_in; section_in = is.section_in }) project.links links;
        curves = subst (λ (l : List Curve). All CurveInRange l) (sym read.curves) (curves_in_range lines none.curves);
        series = subst (λ (l : List Series). All SeriesInRange l) (sym read.series) (series_in_range start lines moment none.series);
        patterns = subst (λ (l : List Pattern). All PatternInRange l) (sym read.patterns) (patterns_in_range lines none.patterns);
        inflows = all_of (IsSoundInflow project) InflowInRange (λ inflow is. is.range) project.inflows inflows;
        dry = all_of (IsSoundDry project) DryFlowInRange (λ dry is. is.range) project.dry dry;
        rules = all_of (IsSoundRule project) RuleInRange (λ rule is. is.range) project.rules rules;
      };
      names = record {
        gages = all_of (IsSoundGage project) (GageNames project) (λ gage is. is.names) project.gages gages;
        subs = all_of (IsGoodSub project method) (SubNames project) (λ sub is. record { gage = is.gage; outlet = is.outlet; infil = subst (λ (m : InfilKind). IfSome sub.infil (IsOfKind m)) same_method is.infil }) project.subs subs;
        nodes = all_of (IsSoundNode project) (NodeNames project) (λ node is. is.names) project.nodes nodes;
        links = all_of (IsGoodLink project) (LinkNames project) (λ link is. record { first = is.first; second = is.second; kind = is.kind }) project.links links;
        inflows = all_of (IsSoundInflow project) (InflowNames project) (λ inflow is. is.names) project.inflows inflows;
        dry = all_of (IsSoundDry project) (DryFlowNames project) (λ dry is. is.names) project.dry dry;
        rules = all_of (IsSoundRule project) (RuleNames project) (λ rule is. is.names) project.rules rules;
      };
    }
