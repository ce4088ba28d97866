-- What the readers make of all lines, put together.
use Rattle.std.proofs.Common.{◌≡◌, ◌∙◌, ◌++◌, [], ℕ, ℤ, List, ap}
use Rattle.net_types.specs.declared.faults.LineFault.{LineFault}
use Rattle.net_types.specs.declared.hydrology.Gage.{Gage}
use Rattle.net_types.specs.declared.hydrology.Sub.{Sub}
use Rattle.net_types.specs.declared.inflows.DryFlow.{DryFlow}
use Rattle.net_types.specs.declared.inflows.Inflow.{Inflow}
use Rattle.net_types.specs.declared.network.Link.{Link}
use Rattle.net_types.specs.declared.network.Node.{Node}
use Rattle.net_types.specs.declared.options.Options.{Options}
use Rattle.net_types.specs.declared.rules.Rule.{Rule}
use Rattle.net_types.specs.declared.tables.Curve.{Curve}
use Rattle.net_types.specs.declared.tables.Pattern.{Pattern}
use Rattle.net_types.specs.declared.tables.Series.{Series}
use Rattle.inp_lines.specs.declared.line.Line.{Line}
use Rattle.inp_lines.specs.Faults.{cut}
use Rattle.inp_lines.specs.Gather.{gather}
use Rattle.inp_lines.specs.Merge.{merged}
use Rattle.inp_lines.specs.Order.{Rise}
use Rattle.inp_forms.specs.declared.known.Known.{Known}
use Rattle.inp_forms.specs.Context.{context_of}
use Rattle.inp_hydrology.specs.Gages.{gages_of}
use Rattle.inp_inflows.specs.Counted.{counted_of}
use Rattle.inp_inflows.specs.Inflows.{dry_form, inflow_form}
use Rattle.inp_network.specs.Nodes.{nodes_of}
use Rattle.inp_options.specs.OptionLines.{option_fault}
use Rattle.inp_options.specs.Options.{options_of, units_of}
use Rattle.inp_options.specs.Warnings.{warnings_of}
use Rattle.inp_rules.specs.RuleFaults.{rule_fault}
use Rattle.inp_rules.specs.Rules.{rules_of}
use Rattle.inp_series.specs.CurveLines.{curves_of}
use Rattle.inp_series.specs.PatternLines.{patterns_of}
use Rattle.inp_series.specs.SeriesLines.{series_of}
use Rattle.inp_reader.specs.Flows.{flow_fault}
use Rattle.inp_reader.specs.Known.{context_in, known_in, method_of, start_of}
use Rattle.inp_reader.specs.LineFaults.{line_faults}
use Rattle.inp_reader.specs.Network.{full_links, network_fault}
use Rattle.inp_reader.specs.OtherLines.{other_line_fault}
use Rattle.inp_reader.specs.Surface.{full_subs, surface_fault}
use Rattle.inp_reader.specs.Tables.{table_fault}
use Rattle.inp_reader.specs.Title.{title_of}
use Rattle.inp_reader.proofs.FaultLemmas.{all_merged}
use Rattle.inp_reader.proofs.Given.{given_project}
use Rattle.inp_reader.proofs.MeaningLemmas.{options_have_units}

module _ (lines : List Line) (options : Options) (known : Known) (options_are : options ≡ options_of lines) (known_is : context_of known ≡ context_in options.units options.start lines) where
  units_are : options.units ≡ units_of lines
  units_are = ap (λ o. o.units) options_are ∙ options_have_units lines

  method_is : options.infil ≡ method_of lines
  method_is = ap (λ o. o.infil) options_are

  start_is : options.start ≡ start_of lines
  start_is = ap (λ o. o.start) options_are

  context_is : context_of known ≡ known_in lines
  context_is = known_is ∙ (ap (λ u. context_in u options.start lines) units_are ∙ ap (λ s. context_in (units_of lines) s lines) start_is)

  pub faults_are : Rise 0 lines → (old first network second surface third tables fourth flows fifth rules sixth seventh : List LineFault)
      → old ≡ []
      → first ≡ cut (merged old (cut (gather (option_fault (units_of lines)) [] lines)))
      → network ≡ cut (gather (network_fault (context_of known)) [] lines)
      → second ≡ cut (merged first network)
      → surface ≡ cut (gather (surface_fault options.infil (context_of known)) [] lines)
      → third ≡ cut (merged second surface)
      → tables ≡ cut (gather (table_fault options.start) [] lines)
      → fourth ≡ cut (merged third tables)
      → flows ≡ cut (gather (flow_fault (context_of known)) [] lines)
      → fifth ≡ cut (merged fourth flows)
      → rules ≡ cut (gather (rule_fault (context_of known) lines) [] lines)
      → sixth ≡ cut (merged fifth rules)
      → seventh ≡ cut (merged sixth (cut (gather other_line_fault [] lines)))
      → seventh ≡ cut (line_faults lines)
  faults_are rise old first network second surface third tables fourth flows fifth rules sixth seventh none a n b s c t d w e r f g =
      all_merged lines rise first second third fourth fifth sixth seventh
      (a ∙ ap (λ l. cut (merged l (cut (gather (option_fault (units_of lines)) [] lines)))) none)
      (b ∙ ap (λ l. cut (merged first l)) (n ∙ ap (λ k. cut (gather (network_fault k) [] lines)) context_is))
      (c ∙ ap (λ l. cut (merged second l)) (s ∙ (ap (λ m. cut (gather (surface_fault m (context_of known)) [] lines)) method_is
      ∙ ap (λ k. cut (gather (surface_fault (method_of lines) k) [] lines)) context_is)))
      (d ∙ ap (λ l. cut (merged third l)) (t ∙ ap (λ s. cut (gather (table_fault s) [] lines)) start_is))
      (e ∙ ap (λ l. cut (merged fourth l)) (w ∙ ap (λ k. cut (gather (flow_fault k) [] lines)) context_is))
      (f ∙ ap (λ l. cut (merged fifth l)) (r ∙ ap (λ k. cut (gather (rule_fault k lines) [] lines)) context_is))
      g

  pub project_is : (title warnings : List (List ℕ)) (gages : List Gage) (subs : List Sub) (nodes : List Node) (links : List Link) (curves : List Curve) (series : List Series)
      (patterns : List Pattern) (inflows : List Inflow) (dry : List DryFlow) (rules : List Rule)
      → title ≡ title_of lines → warnings ≡ warnings_of lines
      → gages ≡ gages_of (context_of known) lines → subs ≡ full_subs options.infil (context_of known) lines
      → nodes ≡ nodes_of (context_of known) lines → links ≡ full_links (context_of known) lines
      → curves ≡ curves_of lines → series ≡ series_of options.start lines → patterns ≡ patterns_of lines
      → inflows ≡ counted_of (context_of known) inflow_form lines → dry ≡ counted_of (context_of known) dry_form lines
      → rules ≡ rules_of (context_of known) lines
      → record { title = title; warnings = warnings; options = options; gages = gages; subs = subs; nodes = nodes; links = links; curves = curves; series = series; patterns = patterns; inflows = inflows; dry = dry; rules = rules } ≡ given_project lines
  unfolding given_project
  project_is title warnings gages subs nodes links curves series patterns inflows dry rules t w g s n l c1 c2 c3 f d r =
      let gages_are = g ∙ ap (λ k. gages_of k lines) context_is in
      let subs_are = s ∙ (ap (λ m. full_subs m (context_of known) lines) method_is ∙ ap (λ k. full_subs (method_of lines) k lines) context_is) in
      let nodes_are = n ∙ ap (λ k. nodes_of k lines) context_is in
      let links_are = l ∙ ap (λ k. full_links k lines) context_is in
      let series_are = c2 ∙ ap (λ s. series_of s lines) start_is in
      let inflows_are = f ∙ ap (λ k. counted_of k inflow_form lines) context_is in
      let dry_are = d ∙ ap (λ k. counted_of k dry_form lines) context_is in
      let rules_are = r ∙ ap (λ k. rules_of k lines) context_is in
      λ i. record { title = t i; warnings = w i; options = options_are i; gages = gages_are i; subs = subs_are i; nodes = nodes_are i; links = links_are i; curves = c1 i; series = series_are i; patterns = c3 i; inflows = inflows_are i; dry = dry_are i; rules = rules_are i }
