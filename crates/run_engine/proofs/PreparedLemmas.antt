-- A state made ready for a step: its parts and its ranges.
use Rattle.std.proofs.Common.{◌≡◌, ◌∙◌, ℕ, ◌*◌, ◌^◌, ◌<◌, ℤ, pos, ◌+ℤ◌, ◌-ℤ◌}
use Rattle.std.proofs.Common.{◌≤ℤ◌, List, length, refl, sym, subst, ap, arith}
use Rattle.std.proofs.lemmas.Int.{ints}
use Rattle.std.proofs.lemmas.List.FromFn.{length-map-range_with_len}
use Rattle.fixed_num.specs.Ranges.{IsBetween, IsWithin, IsFlow, IsStepLength}
use Rattle.link_eval.specs.Good.{IsGood}
use Rattle.link_eval.specs.declared.hydraulics.Hydraulics.{Hydraulics}
use Rattle.link_eval.specs.Hydraulics.{hydraulics_of, law_of}
use Rattle.link_eval.proofs.ValueLemmas.{mid_area_at-between}
use Rattle.phase_law.specs.Law.{Law}
use Rattle.phase_law.specs.Ranges.{LinkFixedInRange, NodeFixedInRange}
use Rattle.phase_law.specs.declared.values.LinkFixed.{LinkFixed}
use Rattle.phase_law.specs.declared.values.NodeFixed.{NodeFixed}
use Rattle.trial_model.specs.declared.nets.Nets.{Nets}
use Rattle.trial_model.specs.Fits.{Fits, NodesFit, SumsFit, node_fixed_at}
use Rattle.fixed_num.specs.Lists.{number, list_of}
use Rattle.trial_model.specs.Start.{no_link, no_node}
use Rattle.trial_model.proofs.RangeLemmas.{listed}
use Rattle.link_eval.specs.LawGood.{head_in as head_of, head_of_law as head_in}
use Rattle.run_engine.specs.Amounts.{AreAmounts, HaveLaterals}
use Rattle.project_check.specs.Faultless.{IsFaultless}
use Rattle.run_engine.specs.States.{link_start, node_start, prepared, prepared_link, prepared_node, project_law}
use Rattle.run_engine.specs.Settings.{settings_in}
use Rattle.run_engine.proofs.SettingLemmas.{settings_part}
use Rattle.run_engine.proofs.LawLemmas.{law_links, law_nodes, link_in, project_law_good}
use Rattle.run_engine.proofs.OpeningLemmas.{lateral_in, stage_in}
use Rattle.run_engine.specs.declared.start.Start.{Start}

-- ---- the net inflow of a node
pub net_within : {lateral inflow outflow : ℤ} → IsFlow lateral → IsBetween (pos 0) inflow (pos (2 * 10 ^ 16)) → IsBetween (pos 0) outflow (pos (2 * 10 ^ 16))
    → IsWithin (3 * 10 ^ 16) (lateral +ℤ inflow -ℤ outflow)
net_within l i o = record { within = omega (arith, ints, l.within, i.from, i.to, o.from, o.to) }

pub gross_within : {lateral inflow : ℤ} → IsFlow lateral → IsBetween (pos 0) inflow (pos (2 * 10 ^ 16)) → IsWithin (3 * 10 ^ 16) (lateral +ℤ inflow)
gross_within l i = record { within = omega (arith, ints, l.within, i.from, i.to) }

-- ---- what a step starts from
pub same_node : {h h2 net net2 lateral lateral2 stage stage2 dt dt2 : ℤ} → h ≡ h2 → net ≡ net2 → lateral ≡ lateral2 → stage ≡ stage2 → dt ≡ dt2
    → ◌≡◌ {A = NodeFixed}
    (record { h_old = h; net_old = net; lateral = lateral; stage = stage; dt = dt })
    (record { h_old = h2; net_old = net2; lateral = lateral2; stage = stage2; dt = dt2 })
same_node e1 e2 e3 e4 e5 = cc

-- it depends on the lateral inflow of the state alone
pub same_start : (start : Start) (heads inflows outflows : List ℤ) (a b : List NodeFixed) (finish dt : ℤ) (n : ℕ) → node_fixed_at a n ≡ node_fixed_at b n
    → node_start start heads inflows outflows a finish dt n ≡ node_start start heads inflows outflows b finish dt n
same_start start heads inflows outflows a b finish dt n e =
    same_node refl (ap (λ (x : NodeFixed). x.lateral +ℤ number inflows n -ℤ number outflows n) e) refl refl refl

-- the amounts of a state that fits
pub inflows_are : {law : Law} {inflows outflows areas xs : List ℤ} {count : ℕ} → SumsFit law inflows outflows areas → law.nodes ≡ count → xs ≡ inflows → AreAmounts count xs
inflows_are {law} {inflows} {outflows} {areas} {xs} {count} fit e same =
    subst (λ (l : List ℤ). AreAmounts count l) (sym same)
    (record {
      many = fit.inflow_count ∙ e;
      each = λ n inside. (fit.each n (omega arith)).inflow_in;
    })

pub outflows_are : {law : Law} {inflows outflows areas xs : List ℤ} {count : ℕ} → SumsFit law inflows outflows areas → law.nodes ≡ count → xs ≡ outflows → AreAmounts count xs
outflows_are {law} {inflows} {outflows} {areas} {xs} {count} fit e same =
    subst (λ (l : List ℤ). AreAmounts count l) (sym same)
    (record {
      many = fit.outflow_count ∙ e;
      each = λ n inside. (fit.each n (omega arith)).outflow_in;
    })

pub laterals_are : {law : Law} {nodes xs : List NodeFixed} {count : ℕ} → NodesFit law nodes → law.nodes ≡ count → xs ≡ nodes → HaveLaterals count xs
laterals_are {law} {nodes} {xs} {count} fit e same =
    subst (λ (l : List NodeFixed). HaveLaterals count l) (sym same)
    (record {
      many = fit.count ∙ e;
      each = λ n inside. (fit.each n (omega arith)).lateral;
    })

-- ---- the state made ready
-- part by part
pub prepared_is : (start : Start) (finish dt : ℤ) (s : Nets) {h : Hydraulics} {settings : List ℤ} {links : List LinkFixed} {nodes : List NodeFixed} → h ≡ hydraulics_of start.project
    → settings ≡ settings_in start.project (finish -ℤ dt) s
    → links ≡ list_of (λ l. link_start h s.heads s.flows (number settings l) dt l) (law_of h).links
    → nodes ≡ list_of (node_start start s.heads s.inflows s.outflows s.nodes finish dt) (length start.project.nodes)
    → ◌≡◌ {A = Nets} (record s { links = links; nodes = nodes }) (prepared start finish dt s)
unfolding prepared
prepared_is start finish dt s {h} {settings} {links} {nodes} same e0 e1 e2 =
    let links_are : links ≡ list_of (prepared_link start.project s finish dt) (project_law start.project).links =
    e1 ∙ ap (λ (x : Hydraulics). list_of (λ l. link_start x s.heads s.flows (number settings l) dt l) (law_of x).links) same
    ∙ ap (λ (xs : List ℤ). list_of (λ l. link_start (hydraulics_of start.project) s.heads s.flows (number xs l) dt l) (project_law start.project).links) e0 in
    let nodes_are : nodes ≡ list_of (prepared_node start s finish dt) (project_law start.project).nodes =
    e2 ∙ ap (list_of (prepared_node start s finish dt)) (sym (law_nodes start.project)) in
    cc (links_are, nodes_are)

-- in range
module _ (start : Start) (good : IsGood (hydraulics_of start.project)) (r : IsFaultless start.project) {s : Nets} (fits : Fits (project_law start.project) s)
    (finish : ℤ) {dt : ℤ} (length_in : IsStepLength dt) where
  link_ready : (l : ℕ) → l < (project_law start.project).links → LinkFixedInRange (prepared_link start.project s finish dt l)
  link_ready l inside =
      let ends = (project_law_good start.project good).ends_in l inside in
      let near = head_of (hydraulics_of start.project) (fits.heads.each _ ends.first) in
      let far = head_of (hydraulics_of start.project) (fits.heads.each _ ends.second) in
      let area = mid_area_at-between (hydraulics_of start.project) l good (link_in (hydraulics_of start.project) l inside) near far in
      record {
        flow = fits.flows.each l inside;
        area = record { from = area.from; to = area_fits area };
        setting = settings_part start.project (finish -ℤ dt) s l r (fits.links.each l inside).setting (omega (arith, law_links start.project));
        length = length_in;
      }
    where
      area_fits : {a : ℤ} → IsBetween (pos 0) a (pos (5 * 10 ^ 11)) → a ≤ℤ pos (10 ^ 12)
      area_fits b = omega (arith, ints, b.to)

  node_ready : (n : ℕ) → n < (project_law start.project).nodes → NodeFixedInRange (project_law start.project) (prepared_node start s finish dt n)
  node_ready n inside =
      let sums = fits.sums.each n inside in
      record {
        head = fits.heads.each n inside;
        net = net_within (fits.nodes.each n inside).lateral sums.inflow_in sums.outflow_in;
        lateral = lateral_in start n finish;
        stage = head_in (hydraulics_of start.project) (stage_in r finish n (omega (arith, law_nodes start.project)));
        length = length_in;
      }

  pub prepared_fits : Fits (project_law start.project) (prepared start finish dt s)
  unfolding prepared
  prepared_fits =
      let law = project_law start.project in
      record {
        heads = fits.heads;
        flows = fits.flows;
        sums = fits.sums;
        read_heads = fits.read_heads;
        least = fits.least;
        links = record {
          count = length-map-range_with_len (prepared_link start.project s finish dt) 0 law.links;
          each = λ l inside. subst (λ (x : LinkFixed). LinkFixedInRange x) (sym (listed (prepared_link start.project s finish dt) law.links l no_link inside)) (link_ready l inside);
        };
        nodes = record {
          count = length-map-range_with_len (prepared_node start s finish dt) 0 law.nodes;
          each = λ n inside. subst (λ (x : NodeFixed). NodeFixedInRange law x) (sym (listed (prepared_node start s finish dt) law.nodes n no_node inside)) (node_ready n inside);
        };
      }
