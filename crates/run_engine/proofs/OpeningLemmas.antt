-- The opening state: its parts, its ranges and its sums.
use Rattle.std.proofs.Common.{◌≡◌, ◌∙◌, ℕ, ◌*◌, ◌^◌, ◌<◌, ◌≤◌, Bool, true, false, if◌then◌else◌, ℤ, pos, List}
use Rattle.std.proofs.Common.{◌+ℤ◌, Option, None, Some, IfSome, length, replicate, refl, sym, subst, ap, arith}
use Rattle.std.proofs.lemmas.Int.{ints}
use Rattle.std.proofs.lemmas.List.{get_or-replicate, length-replicate}
use Rattle.std.proofs.lemmas.List.Elements.{All-get_or}
use Rattle.std.proofs.lemmas.List.FromFn.{length-map-range_with_len}
use Rattle.fixed_num.specs.Ranges.{IsBetween, IsFlow, IsStepLength, IsHead, IsElevation, IsDepth, IsPart, IsTravelTime, cut_of}
use Rattle.fixed_num.proofs.Bounds.{le_number, within_add, within_between, within_cut}
use Rattle.fixed_num.proofs.Bounds.{within_minus, within_number, within_up}
use Rattle.link_eval.specs.Good.{IsGood}
use Rattle.link_eval.specs.declared.hydraulics.Hydraulics.{Hydraulics}
use Rattle.link_eval.specs.Hydraulics.{hydraulics_of, law_of}
use Rattle.net_types.specs.declared.network.NodeKind.{NodeKind}
use Rattle.net_types.specs.declared.network.NodeKind.TheVariants.{Junction, Outfall, Storage}
use Rattle.net_types.specs.declared.network.Stage.{Stage}
use Rattle.net_types.specs.declared.network.Stage.TheVariants.{Free, Normal, Fixed, Tidal, Series}
use Rattle.net_types.specs.declared.options.FlowUnits.{FlowUnits}
use Rattle.net_types.specs.declared.project.Project.{Project}
use Rattle.net_types.specs.declared.network.LinkKind.{LinkKind}
use Rattle.net_types.specs.declared.network.LinkKind.TheVariants.{Conduit, Pump, Orifice, Weir}
use Rattle.net_types.specs.Ranges.{LinkInRange, LinkKindInRange, NodeKindInRange, StageInRange}
use Rattle.net_types.specs.Records.{no_link as no_project_link, link_at, node_at as node_of}
use Rattle.hotstart.specs.declared.state.HotState.{HotState}
use Rattle.node_update.specs.NodeLaws.{IsNodeLaw, is_outfall_rule, node_law_of}
use Rattle.phase_law.specs.Law.{Law}
use Rattle.phase_law.specs.Ranges.{HeadInRange, SumsInRange, LinkFixedInRange, NodeFixedInRange}
use Rattle.phase_law.specs.declared.values.LinkFixed.{LinkFixed}
use Rattle.phase_law.specs.declared.values.NodeFixed.{NodeFixed}
use Rattle.time_series.specs.Stages.{elevation_of, kind_stage, stage_at, stage_level}
use Rattle.trial_model.specs.declared.nets.Nets.{Nets}
use Rattle.trial_model.specs.Fits.{Fits, FlowsFit, node_fixed_at}
use Rattle.fixed_num.specs.Lists.{number, list_of}
use Rattle.trial_model.specs.Start.{no_link, no_node, resting}
use Rattle.trial_model.specs.Trial.{inflow_of, outflow_of, SumsOf}
use Rattle.trial_model.proofs.FlowLemmas.{flow_sums_most, listed_inflows, listed_outflows, listed_sums}
use Rattle.trial_model.proofs.RangeLemmas.{listed}
use Rattle.link_eval.specs.LawGood.{head_in as within_head, head_of_law as head_in}
use Rattle.run_engine.specs.Laterals.{laterals_at, node_lateral}
use Rattle.project_check.specs.Faultless.{IsFaultless}
use Rattle.run_engine.specs.Hot.{IsHotFor}
use Rattle.run_engine.specs.States.{flow_from, head_from, kind_flow, kind_head, kind_setting, least_from, opening, opening_flow}
use Rattle.run_engine.specs.States.{opening_link, setting_from}
use Rattle.run_engine.specs.States.{opening_head, opening_inflow, opening_level, opening_node, opening_outflow}
use Rattle.run_engine.specs.States.{project_law}
use Rattle.run_engine.proofs.LawLemmas.{law_links, law_nodes, node_in, node_law_is, project_good, project_law_good}
use Rattle.run_engine.proofs.RunLemmas.{run_node}
use Rattle.run_engine.specs.declared.start.Start.{Start}

-- ---- ranges of a node's parts
elevation_in : (units : FlowUnits) (value6 : ℤ) → IsElevation (elevation_of units value6)
unfolding elevation_of
elevation_in units value6 = record { within = (within_cut _ (le_number tt) (within_minus (10 ^ 10)) (within_number (10 ^ 10))).within }

level_within : (project : Project) (moment : ℤ) (stage : Stage) → StageInRange stage → IsElevation (stage_level project moment stage)
level_within project moment (Fixed level) h = h
level_within project moment Free h = within_up (within_number 0) tt
level_within project moment Normal h = within_up (within_number 0) tt
level_within project moment (Tidal curve) h = elevation_in project.options.units _
level_within project moment (Series series) h = elevation_in project.options.units _

stage_within : (project : Project) (moment : ℤ) (kind : NodeKind) → NodeKindInRange kind → IsElevation (kind_stage project moment kind)
stage_within project moment (Outfall stage gated) h = level_within project moment stage h
stage_within project moment (Junction surcharge pond) h = within_up (within_number 0) tt
stage_within project moment (Storage shape) h = within_up (within_number 0) tt

open_within : (kind : NodeKind) {invert y0 level : ℤ} → IsElevation invert → IsDepth y0 → IsHead level → IsHead (kind_head kind invert y0 level)
open_within (Outfall stage gated) i y l = l
open_within (Junction surcharge pond) i y l = within_up (within_add i (within_between y)) tt
open_within (Storage shape) i y l = within_up (within_add i (within_between y)) tt

kind_flow_in : (kind : LinkKind) → LinkKindInRange kind → IsFlow (kind_flow kind)
kind_flow_in (Conduit long n6 z1 z2 q0 q_max entry6 exit6 avg6 flap) h = h.q0_in
kind_flow_in (Pump curve on startup shutoff) h = within_up (within_number 0) tt
kind_flow_in (Orifice bottom offset cd6 flap) h = within_up (within_number 0) tt
kind_flow_in (Weir notch crest cd6 flap contractions) h = within_up (within_number 0) tt

pub lateral_in : (start : Start) (n : ℕ) (moment : ℤ) → IsFlow (node_lateral start n moment)
unfolding node_lateral
lateral_in start n moment = record { within = (within_cut _ (le_number tt) (within_minus (10 ^ 12)) (within_number (10 ^ 12))).within }

-- of the list of all
pub laterals_number : (start : Start) (moment : ℤ) {laterals : List ℤ} (n : ℕ) → n < length start.project.nodes → laterals ≡ laterals_at start moment
    → number laterals n ≡ node_lateral start n moment
laterals_number start moment n inside is =
    ap (λ (xs : List ℤ). number xs n) is ∙ listed (λ k. node_lateral start k moment) (length start.project.nodes) n (pos 0) inside

pub laterals_in : (start : Start) (moment : ℤ) {laterals : List ℤ} (n : ℕ) → n < length start.project.nodes → laterals ≡ laterals_at start moment → IsFlow (number laterals n)
laterals_in start moment n inside is = subst IsFlow (sym (laterals_number start moment n inside is)) (lateral_in start n moment)

pub laterals_count : (start : Start) (moment : ℤ) {laterals : List ℤ} → laterals ≡ laterals_at start moment → length laterals ≡ length start.project.nodes
laterals_count start moment is =
    ap (λ (xs : List ℤ). length xs) is ∙ length-map-range_with_len (λ k. node_lateral start k moment) 0 (length start.project.nodes)

-- ---- of nodes and links by their numbers
pub stage_in : {project : Project} (r : IsFaultless project) (moment : ℤ) (n : ℕ) → n < length project.nodes → IsHead (stage_at project n moment)
stage_in {project} r moment n inside = within_up (stage_within project moment (node_of project.nodes n).kind (run_node project r n inside).kind_in) tt

flow_from_in : (project : Project) (hot : Option HotState) → IsFaultless project → IfSome hot (IsHotFor project) → (l : ℕ) → l < length project.links → IsFlow (flow_from project hot l)
flow_from_in project None r g l inside =
    kind_flow_in (link_at project.links l).kind (All-get_or LinkInRange project.links l no_project_link inside r.sound.ranges.links).kind_in
flow_from_in project (Some hot) r g l inside = All-get_or IsFlow hot.flows l (pos 0) (omega (arith, inside, g.fits.links)) g.kept.written.flows

module _ (start : Start) (r : IsFaultless start.project) (g : IfSome start.hot (IsHotFor start.project)) where
  opened_flow : (l : ℕ) → l < length start.project.links → IsFlow (opening_flow start l)
  opened_flow l inside = flow_from_in start.project start.hot r g l inside

  law_flow : (l : ℕ) → l < (project_law start.project).links → IsFlow (opening_flow start l)
  law_flow l inside = opened_flow l (omega (arith, law_links start.project))

  pub opening_flows_fit : FlowsFit (project_law start.project) (list_of (opening_flow start) (length start.project.links))
  opening_flows_fit = record {
    count = length-map-range_with_len (opening_flow start) 0 (length start.project.links) ∙ sym (law_links start.project);
    each = λ l inside.
        let within : l < length start.project.links = omega (arith, law_links start.project) in
        subst (λ (q : ℤ). IsFlow q) (sym (listed (opening_flow start) (length start.project.links) l (pos 0) within)) (opened_flow l within);
  }

-- ---- a state in which nothing has happened
no_length : IsStepLength (pos 0)
no_length = record { least = omega (arith, ints); most = omega (arith, ints); even = omega arith }

no_flow : IsFlow (pos 0)
no_flow = record { within = omega arith }

-- a link that is on, off or open
on_or_off : (on : Bool) → IsPart (if on then pos 1_000_000 else pos 0)
on_or_off true = record { from = omega (arith, ints); to = omega (arith, ints) }
on_or_off false = record { from = omega (arith, ints); to = omega (arith, ints) }

kind_setting_in : (kind : LinkKind) → IsPart (kind_setting kind)
kind_setting_in (Conduit long n6 z1 z2 q0 q_max entry6 exit6 avg6 flap) = on_or_off true
kind_setting_in (Pump curve on startup shutoff) = on_or_off on
kind_setting_in (Orifice bottom offset cd6 flap) = on_or_off true
kind_setting_in (Weir notch crest cd6 flap contractions) = on_or_off true

setting_from_in : (project : Project) (hot : Option HotState) → IfSome hot (IsHotFor project) → (l : ℕ) → l < length project.links → IsPart (setting_from project hot l)
setting_from_in project None g l inside = kind_setting_in (link_at project.links l).kind
setting_from_in project (Some hot) g l inside =
    All-get_or IsPart hot.settings l (pos 0) (omega (arith, inside, g.fits.links, g.kept.written.as_many)) g.kept.written.settings

opening_link_in : (start : Start) → IfSome start.hot (IsHotFor start.project) → (l : ℕ) → l < length start.project.links → LinkFixedInRange (opening_link start l)
opening_link_in start g l inside = record {
  flow = no_flow;
  area = record { from = omega (arith, ints); to = omega (arith, ints) };
  setting = setting_from_in start.project start.hot g l inside;
  length = no_length;
}

least_in : (project : Project) (hot : Option HotState) → IfSome hot (IsHotFor project) → IsTravelTime (least_from hot)
least_in project None g = record { from = omega (arith, ints); to = omega (arith, ints) }
least_in project (Some hot) g = g.kept.written.least

-- a head of a hotstart
kept_in : (outfall : Bool) (head invert top : ℤ) → IsHead head → IsElevation invert → IsBetween invert top (invert +ℤ pos (3 * 10 ^ 9))
    → IsHead (if outfall then head else cut_of head invert top)
kept_in true head invert top h i t = h
kept_in false head invert top h i t =
    within_cut head t.from (within_up i tt) (record { within = omega (arith, ints, i.within, t.from, t.to) })

zero_within : IsHead (pos 0)
zero_within = within_up (within_number 0) tt

amounts_in : {x y z : ℤ} (inflow outflow : ℕ) → x ≡ pos inflow → y ≡ pos outflow → z ≡ pos 0 → inflow ≤ 2 * 10 ^ 16 → outflow ≤ 2 * 10 ^ 16
    → SumsInRange x y z
amounts_in inflow outflow e1 e2 e3 h1 h2 = record {
  inflow_in = record { from = omega (arith, ints); to = omega (arith, ints) };
  outflow_in = record { from = omega (arith, ints); to = omega (arith, ints) };
  area_in = record { from = omega (arith, ints); to = omega (arith, ints) };
}

-- ---- what a node begins with
module _ (start : Start) (good : IsGood (hydraulics_of start.project)) (r : IsFaultless start.project) (g : IfSome start.hot (IsHotFor start.project)) where
  pub opened_node_in : (n : ℕ) → n < length start.project.nodes → NodeFixedInRange (project_law start.project) (opening_node start n)
  opened_node_in n inside = record {
    head = head_in (hydraulics_of start.project) zero_within;
    net = within_up (within_number 0) tt;
    lateral = lateral_in start n (pos 0);
    stage = head_in (hydraulics_of start.project) (stage_in r (pos 0) n inside);
    length = no_length;
  }

  pub opened_sums_in : (n : ℕ) → SumsInRange (opening_inflow start n) (opening_outflow start n) (pos 0)
  opened_sums_in n =
      let law = project_law start.project in
      let flow = opening_flow start in
      let most = flow_sums_most (project_law_good start.project good) flow (law_flow start r g) n in
      amounts_in (inflow_of law flow n) (outflow_of law flow n) refl refl refl most.0 most.1

  pub opened_zero_in : HeadInRange (project_law start.project) (pos 0)
  opened_zero_in = head_in (hydraulics_of start.project) zero_within

  opened_level : (n : ℕ) → n < length start.project.nodes → HeadInRange (project_law start.project) (opening_level start n)
  unfolding opening_level
  opened_level n inside =
      (project_law_good start.project good).next_in n (opening_node start n) true (opening_inflow start n) (opening_outflow start n) (pos 0) (pos 0)
      (omega (arith, inside, law_nodes start.project)) (opened_node_in n inside) (opened_sums_in n) opened_zero_in

  opened_within : (n : ℕ) → n < length start.project.nodes → IsHead (opening_head start n)
  opened_within n inside = from start.hot g
    where
      law : IsNodeLaw (node_law_of start.project n)
      law = subst IsNodeLaw (node_law_is start.project n inside) (good.nodes n (node_in start.project n inside))

      from : (hot : Option HotState) → IfSome hot (IsHotFor start.project) → IsHead (head_from start.project hot (opening_level start n) n)
      from None h =
          let node = run_node start.project r n inside in
          open_within (node_of start.project.nodes n).kind node.invert_in node.y0_in (within_head (hydraulics_of start.project) (opened_level n inside))
      from (Some hot) h =
          kept_in (is_outfall_rule (node_law_of start.project n).rule) (number hot.heads n) (node_law_of start.project n).invert (node_law_of start.project n).top
          (All-get_or IsHead hot.heads n (pos 0) (omega (arith, inside, h.fits.nodes)) h.kept.written.heads) law.invert_in law.top_in

-- ---- the opening state
-- it fits the law
pub opening_fits : (start : Start) → IsGood (hydraulics_of start.project) → IsFaultless start.project → IfSome start.hot (IsHotFor start.project) → Fits (project_law start.project) (opening start)
unfolding opening
opening_fits start good r g =
    let law = project_law start.project in
    let h = hydraulics_of start.project in
    let flow = opening_flow start in
    let head : ℕ → ℤ = opening_head start in
    record {
      heads = record {
        count = length-map-range_with_len head 0 law.nodes;
        each = λ n inside.
            subst (λ (z : ℤ). HeadInRange law z) (sym (listed head law.nodes n (pos 0) inside))
            (head_in h (opened_within start good r g n (omega (arith, law_nodes start.project))));
      };
      flows = record {
        count = length-map-range_with_len flow 0 law.links;
        each = λ l inside. subst (λ (q : ℤ). IsFlow q) (sym (listed flow law.links l (pos 0) inside)) (law_flow start r g l inside);
      };
      sums = record {
        inflow_count = length-map-range_with_len (opening_inflow start) 0 law.nodes;
        outflow_count = length-map-range_with_len (opening_outflow start) 0 law.nodes;
        area_count = length-replicate law.nodes (pos 0);
        each = λ n inside.
            let most = flow_sums_most (project_law_good start.project good) flow (law_flow start r g) n in
            amounts_in (inflow_of law flow n) (outflow_of law flow n)
            (listed (opening_inflow start) law.nodes n (pos 0) inside)
            (listed (opening_outflow start) law.nodes n (pos 0) inside)
            (get_or-replicate law.nodes n (pos 0) (pos 0) inside)
            most.0
            most.1;
      };
      read_heads = record {
        count = length-replicate law.nodes (pos 0);
        each = λ n inside. subst (λ (z : ℤ). HeadInRange law z) (sym (get_or-replicate law.nodes n (pos 0) (pos 0) inside)) (head_in h zero_within);
      };
      links = record {
        count = length-map-range_with_len (opening_link start) 0 law.links;
        each = λ l inside. subst (λ (x : LinkFixed). LinkFixedInRange x) (sym (listed (opening_link start) law.links l no_link inside)) (opening_link_in start g l (omega (arith, inside, law_links start.project)));
      };
      nodes = record {
        count = length-map-range_with_len (opening_node start) 0 law.nodes;
        each = λ n inside.
            subst (λ (x : NodeFixed). NodeFixedInRange law x) (sym (listed (opening_node start) law.nodes n no_node inside))
            (opened_node_in start good r g n (omega (arith, inside, law_nodes start.project)));
      };
      least = least_in start.project start.hot g;
    }

-- its inflows and outflows are the sums over its own flows
pub opening_sums : (start : Start) → SumsOf (project_law start.project) (opening start)
unfolding opening
opening_sums start = listed_sums (project_law start.project) (opening_flow start) (opening start) refl refl refl

-- ---- the steps that make it
same_nets : {heads heads2 flows flows2 inflows inflows2 outflows outflows2 areas areas2 read read2 : List ℤ} {links links2 : List LinkFixed} {nodes nodes2 : List NodeFixed} {least least2 : ℤ}
    → heads ≡ heads2 → flows ≡ flows2 → inflows ≡ inflows2 → outflows ≡ outflows2 → areas ≡ areas2 → read ≡ read2 → links ≡ links2 → nodes ≡ nodes2 → least ≡ least2
    → ◌≡◌ {A = Nets}
    (record { heads = heads; flows = flows; inflows = inflows; outflows = outflows; areas = areas; read_heads = read; links = links; nodes = nodes; least = least })
    (record { heads = heads2; flows = flows2; inflows = inflows2; outflows = outflows2; areas = areas2; read_heads = read2; links = links2; nodes = nodes2; least = least2 })
same_nets e1 e2 e3 e4 e5 e6 e7 e8 e9 = cc

-- flows of a list, in the law of equal hydraulics
pub flows_at : {h i : Hydraulics} {xs ys : List ℤ} → h ≡ i → xs ≡ ys → FlowsFit (law_of i) ys → FlowsFit (law_of h) xs
flows_at {h} {i} {xs} {ys} e f fit = subst (λ (x : Hydraulics). FlowsFit (law_of x) xs) (sym e) (subst (λ (l : List ℤ). FlowsFit (law_of i) l) (sym f) fit)

pub nodes_at : {h : Hydraulics} {xs : List ℤ} (start : Start) → h ≡ hydraulics_of start.project → xs ≡ replicate (length start.project.nodes) (pos 0) → length xs ≡ (law_of h).nodes
nodes_at start e f =
    ap (λ (l : List ℤ). length l) f ∙ length-replicate (length start.project.nodes) (pos 0) ∙ sym (law_nodes start.project) ∙ ap (λ (x : Hydraulics). (law_of x).nodes) (sym e)

-- the inflows and outflows of the flows of the beginning, in the law of equal hydraulics
pub opened_inflows : (start : Start) {h : Hydraulics} {flows : List ℤ} → h ≡ hydraulics_of start.project → flows ≡ list_of (opening_flow start) (length start.project.links)
    → list_of (λ n. pos (inflow_of (law_of h) (number flows) n)) (law_of h).nodes ≡ list_of (opening_inflow start) (length start.project.nodes)
opened_inflows start {h} {flows} same e =
    let law = project_law start.project in
    let flow = opening_flow start in
    let flows_are : flows ≡ list_of flow law.links = e ∙ ap (list_of flow) (sym (law_links start.project)) in
    ap (λ (l : Law). list_of (λ n. pos (inflow_of l (number flows) n)) l.nodes) (ap law_of same)
    ∙ ap (λ (xs : List ℤ). list_of (λ n. pos (inflow_of law (number xs) n)) law.nodes) flows_are
    ∙ listed_inflows law flow ∙ ap (list_of (opening_inflow start)) (law_nodes start.project)

pub opened_outflows : (start : Start) {h : Hydraulics} {flows : List ℤ} → h ≡ hydraulics_of start.project → flows ≡ list_of (opening_flow start) (length start.project.links)
    → list_of (λ n. pos (outflow_of (law_of h) (number flows) n)) (law_of h).nodes ≡ list_of (opening_outflow start) (length start.project.nodes)
opened_outflows start {h} {flows} same e =
    let law = project_law start.project in
    let flow = opening_flow start in
    let flows_are : flows ≡ list_of flow law.links = e ∙ ap (list_of flow) (sym (law_links start.project)) in
    ap (λ (l : Law). list_of (λ n. pos (outflow_of l (number flows) n)) l.nodes) (ap law_of same)
    ∙ ap (λ (xs : List ℤ). list_of (λ n. pos (outflow_of law (number xs) n)) law.nodes) flows_are
    ∙ listed_outflows law flow ∙ ap (list_of (opening_outflow start)) (law_nodes start.project)

-- what a node begins with, of the lists of all
pub fixed_at : (start : Start) {nodes : List NodeFixed} (n : ℕ) → n < length start.project.nodes → nodes ≡ list_of (opening_node start) (length start.project.nodes) → node_fixed_at nodes n ≡ opening_node start n
fixed_at start n inside is =
    ap (λ (xs : List NodeFixed). node_fixed_at xs n) is ∙ listed (opening_node start) (length start.project.nodes) n no_node inside

pub inflow_at : (start : Start) {inflows : List ℤ} (n : ℕ) → n < length start.project.nodes → inflows ≡ list_of (opening_inflow start) (length start.project.nodes) → number inflows n ≡ opening_inflow start n
inflow_at start n inside is = ap (λ (xs : List ℤ). number xs n) is ∙ listed (opening_inflow start) (length start.project.nodes) n (pos 0) inside

pub outflow_at : (start : Start) {outflows : List ℤ} (n : ℕ) → n < length start.project.nodes → outflows ≡ list_of (opening_outflow start) (length start.project.nodes) → number outflows n ≡ opening_outflow start n
outflow_at start n inside is = ap (λ (xs : List ℤ). number xs n) is ∙ listed (opening_outflow start) (length start.project.nodes) n (pos 0) inside

-- what a node begins with, from the lists of it, in the law of equal hydraulics
module _ (start : Start) (h : Hydraulics) (same : h ≡ hydraulics_of start.project) (good : IsGood h) (r : IsFaultless start.project) (g : IfSome start.hot (IsHotFor start.project)) (n : ℕ) (inside : n < length start.project.nodes) where
  project_is_good : IsGood (hydraulics_of start.project)
  project_is_good = project_good h good start.project same

  pub opened_place : n < (law_of h).nodes
  opened_place = subst (λ (x : Hydraulics). n < (law_of x).nodes) (sym same) (omega (arith, inside, law_nodes start.project))

  pub opened_fixed : {fixed : NodeFixed} → fixed ≡ opening_node start n → NodeFixedInRange (law_of h) fixed
  opened_fixed {fixed} e =
      subst (λ (x : Hydraulics). NodeFixedInRange (law_of x) fixed) (sym same)
      (subst (λ (f : NodeFixed). NodeFixedInRange (project_law start.project) f) (sym e) (opened_node_in start project_is_good r g n inside))

  pub opened_sums : {i o : ℤ} → i ≡ opening_inflow start n → o ≡ opening_outflow start n → SumsInRange i o (pos 0)
  opened_sums e f = rw (e, f) (opened_sums_in start project_is_good r g n)

  pub opened_last : HeadInRange (law_of h) (pos 0)
  opened_last = head_in h zero_within

  pub opened_level_is : {fixed : NodeFixed} {i o : ℤ} → fixed ≡ opening_node start n → i ≡ opening_inflow start n → o ≡ opening_outflow start n
      → ((law_of h).next n fixed true i o (pos 0) (pos 0)).head ≡ opening_level start n
  unfolding opening_level
  opened_level_is e f g = rw (same, e, f, g) refl

-- a state in which nothing has happened, with the heads, flows, links, nodes and sums of the beginning
pub opening_is : (start : Start) (s : Nets) {h : Hydraulics} {heads flows : List ℤ} {links : List LinkFixed} {nodes : List NodeFixed} {least : ℤ}
    → h ≡ hydraulics_of start.project → s ≡ resting (length start.project.nodes) (length start.project.links)
    → heads ≡ list_of (opening_head start) (length start.project.nodes)
    → flows ≡ list_of (opening_flow start) (length start.project.links)
    → links ≡ list_of (opening_link start) (length start.project.links)
    → nodes ≡ list_of (opening_node start) (length start.project.nodes)
    → least ≡ least_from start.hot
    → ◌≡◌ {A = Nets}
    (record s {
      least = least;
      heads = heads;
      flows = flows;
      links = links;
      nodes = nodes;
      inflows = list_of (λ n. pos (inflow_of (law_of h) (number flows) n)) (law_of h).nodes;
      outflows = list_of (λ n. pos (outflow_of (law_of h) (number flows) n)) (law_of h).nodes;
    })
    (opening start)
unfolding opening
opening_is start s {h} {heads} {flows} {links} {nodes} {least} same rests e1 e2 e3 e4 e5 =
    let law = project_law start.project in
    let flow = opening_flow start in
    let count = sym (law_nodes start.project) in
    let flows_are : flows ≡ list_of flow law.links = e2 ∙ ap (list_of flow) (sym (law_links start.project)) in
    same_nets
    (e1 ∙ ap (list_of (opening_head start)) count)
    flows_are
    (opened_inflows start same e2 ∙ ap (list_of (opening_inflow start)) count)
    (opened_outflows start same e2 ∙ ap (list_of (opening_outflow start)) count)
    (ap (λ (t : Nets). t.areas) rests ∙ ap (λ (n : ℕ). replicate n (pos 0)) count)
    (ap (λ (t : Nets). t.read_heads) rests ∙ ap (λ (n : ℕ). replicate n (pos 0)) count)
    (e3 ∙ ap (list_of (opening_link start)) (sym (law_links start.project)))
    (e4 ∙ ap (list_of (opening_node start)) count)
    e5

-- the same, where the heads come last
pub opened_with : (start : Start) (s t : Nets) {h : Hydraulics} {heads flows : List ℤ} {links : List LinkFixed} {nodes : List NodeFixed} {least : ℤ}
    → h ≡ hydraulics_of start.project → s ≡ resting (length start.project.nodes) (length start.project.links)
    → heads ≡ list_of (opening_head start) (length start.project.nodes)
    → flows ≡ list_of (opening_flow start) (length start.project.links)
    → links ≡ list_of (opening_link start) (length start.project.links)
    → nodes ≡ list_of (opening_node start) (length start.project.nodes)
    → t ≡ record s {
      flows = flows;
      links = links;
      nodes = nodes;
      inflows = list_of (λ n. pos (inflow_of (law_of h) (number flows) n)) (law_of h).nodes;
      outflows = list_of (λ n. pos (outflow_of (law_of h) (number flows) n)) (law_of h).nodes;
    }
    → least ≡ least_from start.hot
    → ◌≡◌ {A = Nets} (record t { heads = heads; least = least }) (opening start)
opened_with start s t {h} {heads} {flows} {links} {nodes} {least} same rests e1 e2 e3 e4 e e5 =
    ap (λ (x : Nets). record x { heads = heads; least = least }) e ∙ opening_is start s same rests e1 e2 e3 e4 e5

pub heads_length : (start : Start) {s : Nets} → s ≡ resting (length start.project.nodes) (length start.project.links) → length s.heads ≡ length start.project.nodes
heads_length start e = ap (λ (t : Nets). length t.heads) e ∙ length-replicate (length start.project.nodes) (pos 0)
