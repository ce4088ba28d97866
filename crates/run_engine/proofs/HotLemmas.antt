-- The hotstart with which a run begins, and the one that it keeps.
use Rattle.std.proofs.Common.{◌≡◌, ◌∙◌, ℕ, ◌^◌, ◌<◌, List, [], ◌∷◌, ◌++◌, length, map, Option, None, Some, IfSome, IsSome}
use Rattle.std.proofs.Common.{get_or, ℤ, pos, ◌+ℤ◌, ◌*ℤ◌, ◌≤ℤ◌, refl, sym, ap, subst, arith}
use Rattle.std.specs.List.{All}
use Rattle.std.proofs.lemmas.Int.{ints}
use Rattle.std.proofs.lemmas.List.{get_or-map, length-map}
use Rattle.std.proofs.lemmas.List.Elements.{All-append, All-cons, All-from_get_or, All-get_or, All-nil}
use Rattle.std.proofs.lemmas.List.FromFn.{fill_by_all, get_or-map-range_with_len, length-map-range_with_len}
use Rattle.fixed_num.specs.Lists.{number, list_of}
use Rattle.fixed_num.specs.Ranges.{IsBetween, IsFlow, IsHead, IsPart}
use Rattle.hotstart.specs.HotRanges.{IsHotState, IsHotSub, IsKeptSub, IsStateOf, depth_numbers, infil_numbers}
use Rattle.hotstart.specs.Reading.{kind_of}
use Rattle.hotstart.specs.declared.state.HotState.{HotState}
use Rattle.hotstart.specs.declared.state.HotSub.{HotSub}
use Rattle.infiltration.specs.Infiltration.{HasNumbersUpTo, IsInfil, IsOfMethod, IsStateUpTo, opening_of}
use Rattle.infiltration.specs.declared.states.InfilState.{InfilState}
use Rattle.infiltration.specs.declared.states.InfilState.TheVariants.{Horton as HortonAt, Number as NumberAt}
use Rattle.infiltration.proofs.StateLaws.{opened_horton, opened_number}
use Rattle.link_eval.specs.Hydraulics.{hydraulics_of}
use Rattle.link_eval.specs.LawGood.{head_in as head_of}
use Rattle.net_types.specs.Ranges.{IsOfKind}
use Rattle.net_types.specs.Sound.{SubNames}
use Rattle.net_types.specs.declared.hydrology.Infil.{Infil}
use Rattle.net_types.specs.declared.hydrology.Infil.TheVariants.{Horton, Number}
use Rattle.net_types.specs.declared.hydrology.Sub.{Sub}
use Rattle.net_types.specs.declared.options.InfilKind.{InfilKind}
use Rattle.net_types.specs.declared.options.InfilKind.TheVariants.{ModifiedHorton, CurveNumber}
use Rattle.net_types.specs.declared.project.Project.{Project}
use Rattle.phase_law.specs.declared.values.LinkFixed.{LinkFixed}
use Rattle.project_check.proofs.LawLemmas.{faultless_good}
use Rattle.project_check.specs.Faultless.{IsFaultless, IsGoodSub}
use Rattle.runoff.specs.RunoffStep.{AreDepths, IsKeptState, IsSubStateUpTo, opening_of_sub}
use Rattle.runoff.specs.Subareas.{infil_or}
use Rattle.runoff.specs.declared.states.SubState.{SubState}
use Rattle.runoff_states.specs.RunoffStates.{AreKeptStates, opening_state, runoff_state, state_at, sub_at}
use Rattle.trial_model.specs.Fits.{Fits}
use Rattle.trial_model.specs.Start.{no_link}
use Rattle.trial_model.specs.declared.nets.Nets.{Nets}
use Rattle.run_engine.specs.Hot.{IsHotFor, IsRoomFor, hot_at, sub_in}
use Rattle.run_engine.specs.Kept.{IsKept}
use Rattle.run_engine.specs.Laterals.{IsRunoffAt, runoff_start, state_in}
use Rattle.run_engine.specs.Results.{runoffs_done}
use Rattle.run_engine.specs.States.{moment_at, nets_at, project_law}
use Rattle.run_engine.specs.declared.kept.Kept.{Kept}
use Rattle.run_engine.specs.declared.start.Start.{Start}
use Rattle.run_engine.proofs.LawLemmas.{law_links, law_nodes}
use Rattle.run_engine.proofs.RunoffLemmas.{run_soil}

-- ---- the state of a subcatchment in a hotstart
-- its depths and the numbers of its infiltration, by their places
parts_in : (most : ℤ) (depths : List ℤ) (infil : InfilState) → length depths ≡ 3
    → ((k : ℕ) → k < length (depths ++ infil_numbers infil) → IsBetween (pos 0) (number (depths ++ infil_numbers infil) k) most)
    → AreDepths most depths × HasNumbersUpTo most infil
parts_in most [] infil e h = absurd (omega (arith, e))
parts_in most (a ∷ []) infil e h = absurd (omega (arith, e))
parts_in most (a ∷ b ∷ []) infil e h = absurd (omega (arith, e))
parts_in most (a ∷ b ∷ c ∷ d ∷ more) infil e h = absurd (omega (arith, e))
parts_in most (a ∷ b ∷ c ∷ []) (HortonAt s) e h = (
  record { three = refl; pervious = h 0 (omega arith); bare = h 1 (omega arith); paved = h 2 (omega arith) },
  h 3 (omega arith),
)
parts_in most (a ∷ b ∷ c ∷ []) (NumberAt s) e h = (
  record { three = refl; pervious = h 0 (omega arith); bare = h 1 (omega arith); paved = h 2 (omega arith) },
  record {
    room = h 3 (omega arith);
    event_room = h 4 (omega arith);
    rain = h 5 (omega arith);
    taken = h 6 (omega arith);
    dry = h 7 (omega arith);
  },
)

-- its infiltration is of the subcatchment's method
method_is : (kind : InfilKind) (infil : Option Infil) (state : InfilState) → IfSome infil (IsOfKind kind) → IsSome infil
    → IsStateOf kind state → IsOfMethod (infil_or infil) state
method_is kind None state n s o = absurd (nothing s)
  where
    nothing : IsSome {T = Infil} None → ⊥
    nothing h = let never : ⊥ = cc in never
method_is ModifiedHorton (Some (Horton max min decay6 dry volume)) (HortonAt s) n h o = tt
method_is ModifiedHorton (Some (Horton max min decay6 dry volume)) (NumberAt s) n h o = absurd o
method_is ModifiedHorton (Some (Number cn6 dry)) state n h o = absurd n
method_is CurveNumber (Some (Horton max min decay6 dry volume)) state n h o = absurd n
method_is CurveNumber (Some (Number cn6 dry)) (HortonAt s) n h o = absurd o
method_is CurveNumber (Some (Number cn6 dry)) (NumberAt s) n h o = tt

kind_is : (subs : List Sub) (kind : InfilKind) (k : ℕ) → k < length subs → kind_of subs kind ≡ kind
kind_is [] kind k inside = absurd (omega (arith, inside))
kind_is (sub ∷ subs) kind k inside = refl

kept_sub_in : (sub : Sub) (kind : InfilKind) (state : HotSub) → IfSome sub.infil (IsOfKind kind) → IsSome sub.infil
    → IsHotSub kind state → IsKeptSub state → IsKeptState (pos (10 ^ 15)) sub (state_in state)
kept_sub_in sub kind state n s h k =
    let parts = parts_in (pos (10 ^ 15)) state.depths state.infil k.three
    (λ j inside. record {
      from = All-get_or (λ (v : ℤ). pos 0 ≤ℤ v) (depth_numbers state) j (pos 0) inside h.depths;
      to = All-get_or (λ (v : ℤ). v ≤ℤ pos (10 ^ 15)) (depth_numbers state) j (pos 0) inside k.most;
    }) in
    record {
      depths = parts.0;
      method = method_is kind sub.infil state.infil n s h.kind_is;
      infil = parts.1;
      flow = h.flow;
    }

-- a state past the end of a list
abbrev pub no_hot_sub : HotSub
no_hot_sub = sub_in (state_at [] 0)

-- brought into the ranges of its infiltration
opened_infil : (most : ℤ) (infil : Infil) (s : InfilState) → IsInfil infil → IsOfMethod infil s → HasNumbersUpTo most s → IsStateUpTo most infil (opening_of infil s)
opened_infil most (Horton max min decay6 dry volume) s i o h =
    opened_horton most (record { max = max; min = min; decay6 = decay6; dry = dry; volume = volume }) s o h
opened_infil most (Number cn6 dry) s i o h = opened_number most (record { cn6 = cn6; dry = dry }) s i.0 o h

opened_sub : (most : ℤ) (sub : Sub) (s : SubState) → IsInfil (infil_or sub.infil) → IsKeptState most sub s → IsSubStateUpTo most sub (opening_of_sub sub s)
unfolding opening_of_sub
opened_sub most sub s i h = record { depths = h.depths; infil = opened_infil most (infil_or sub.infil) s.infil i h.method h.infil; flow = h.flow }

module _ (project : Project) (hot : HotState) (r : IsFaultless project) (g : IsHotFor project hot) where
  kept_at_place : (k : ℕ) → k < length project.subs → IsKeptState (pos (10 ^ 15)) (sub_at project.subs k) (state_at (map state_in hot.subs) k)
  kept_at_place k inside =
      let place : k < length hot.subs = omega (arith, inside, g.fits.subs) in
      let names = All-get_or (SubNames project) project.subs k (sub_at [] 0) inside r.sound.names.subs in
      let good = All-get_or IsGoodSub project.subs k (sub_at [] 0) inside (faultless_good project r).subs in
      let written = All-get_or (IsHotSub hot.kind) hot.subs k no_hot_sub place g.kept.written.subs in
      let kind : hot.kind ≡ project.options.infil = g.fits.kind ∙ kind_is project.subs project.options.infil k inside in
      subst (IsKeptState (pos (10 ^ 15)) (sub_at project.subs k)) (sym (get_or-map state_in hot.subs k no_hot_sub _ place))
      (kept_sub_in (sub_at project.subs k) project.options.infil (get_or hot.subs k no_hot_sub) names.infil good.has_infil
      (subst (λ (x : InfilKind). IsHotSub x (get_or hot.subs k no_hot_sub)) kind written) (All-get_or IsKeptSub hot.subs k no_hot_sub place g.kept.subs))

  pub hot_kept : AreKeptStates (pos (10 ^ 15)) project (map state_in hot.subs)
  hot_kept = record { each_sub = length-map hot.subs state_in ∙ g.fits.subs; range = kept_at_place }

  pub hot_opened : (k : ℕ) → k < length project.subs → IsSubStateUpTo (pos (10 ^ 15)) (sub_at project.subs k) (opening_state project (map state_in hot.subs) k)
  hot_opened k inside =
      opened_sub (pos (10 ^ 15)) (sub_at project.subs k) (state_at (map state_in hot.subs) k)
      (All-get_or (λ (s : Sub). IsInfil (infil_or s.infil)) project.subs k (sub_at [] 0) inside (run_soil project r)) (kept_at_place k inside)

-- what is within 10^15 is within 10^16
more_number : {x : ℤ} → IsBetween (pos 0) x (pos (10 ^ 15)) → IsBetween (pos 0) x (pos (10 ^ 16))
more_number h = record { from = h.from; to = omega (arith, ints, h.to) }

more_infil : (s : InfilState) → HasNumbersUpTo (pos (10 ^ 15)) s → HasNumbersUpTo (pos (10 ^ 16)) s
more_infil (HortonAt s) h = more_number h
more_infil (NumberAt s) h = record { room = more_number h.room; event_room = more_number h.event_room; rain = more_number h.rain; taken = more_number h.taken; dry = more_number h.dry }

pub kept_more : {project : Project} {states : List SubState} → AreKeptStates (pos (10 ^ 15)) project states → AreKeptStates (pos (10 ^ 16)) project states
kept_more {project} {states} h = record {
  each_sub = h.each_sub;
  range = λ k inside.
      let s = h.range k inside in
      record {
        depths = record { three = s.depths.three; pervious = more_number s.depths.pervious; bare = more_number s.depths.bare; paved = more_number s.depths.paved };
        method = s.method;
        infil = more_infil (state_at states k).infil s.infil;
        flow = s.flow;
      };
}

-- ---- the state that a run keeps can be written
-- no depth and no number of infiltration is negative
abbrev NotLess : ℤ → Type 0
NotLess v = pos 0 ≤ℤ v

from_three : (most : ℤ) (depths : List ℤ) → AreDepths most depths → All (λ (v : ℤ). pos 0 ≤ℤ v) depths
from_three most [] d = absurd (omega (arith, d.three))
from_three most (a ∷ []) d = absurd (omega (arith, d.three))
from_three most (a ∷ b ∷ []) d = absurd (omega (arith, d.three))
from_three most (a ∷ b ∷ c ∷ e ∷ more) d = absurd (omega (arith, d.three))
from_three most (a ∷ b ∷ c ∷ []) d = All-cons NotLess a (b ∷ c ∷ []) d.pervious.from (All-cons NotLess b (c ∷ []) d.bare.from (All-cons NotLess c [] d.paved.from (All-nil NotLess)))

from_infil : (most : ℤ) (infil : Infil) (s : InfilState) → IsStateUpTo most infil s → All (λ (v : ℤ). pos 0 ≤ℤ v) (infil_numbers s)
from_infil most (Horton max min decay6 dry volume) (HortonAt s) h = All-cons NotLess s.above [] h.above.from (All-nil NotLess)
from_infil most (Horton max min decay6 dry volume) (NumberAt s) h = absurd h
from_infil most (Number cn6 dry) (HortonAt s) h = absurd h
from_infil most (Number cn6 dry) (NumberAt s) h =
    All-cons NotLess s.room (s.event_room ∷ s.rain ∷ s.taken ∷ s.dry ∷ []) h.room.from (All-cons NotLess s.event_room (s.rain ∷ s.taken ∷ s.dry ∷ []) h.event_room.from (All-cons NotLess s.rain (s.taken ∷ s.dry ∷ []) h.rain.from (All-cons NotLess s.taken (s.dry ∷ []) h.taken.from (All-cons NotLess s.dry [] h.dry.from (All-nil NotLess)))))

-- its infiltration is of the options' kind
written_kind : (most : ℤ) (kind : InfilKind) (infil : Option Infil) (s : InfilState) → IfSome infil (IsOfKind kind) → IsSome infil → IsStateUpTo most (infil_or infil) s
    → IsStateOf kind s
written_kind most kind None s n h o = absurd (nothing h)
  where
    nothing : IsSome {T = Infil} None → ⊥
    nothing e = let never : ⊥ = cc in never
written_kind most ModifiedHorton (Some (Horton max min decay6 dry volume)) (HortonAt s) n h o = tt
written_kind most ModifiedHorton (Some (Horton max min decay6 dry volume)) (NumberAt s) n h o = absurd o
written_kind most ModifiedHorton (Some (Number cn6 dry)) s n h o = absurd n
written_kind most CurveNumber (Some (Horton max min decay6 dry volume)) s n h o = absurd n
written_kind most CurveNumber (Some (Number cn6 dry)) (HortonAt s) n h o = absurd o
written_kind most CurveNumber (Some (Number cn6 dry)) (NumberAt s) n h o = tt

written_sub : (most : ℤ) (sub : Sub) (kind : InfilKind) (s : SubState) → IfSome sub.infil (IsOfKind kind) → IsSome sub.infil → IsSubStateUpTo most sub s → IsHotSub kind (sub_in s)
written_sub most sub kind s n h o = record {
  depths = All-append NotLess s.depths (infil_numbers s.infil) (from_three most s.depths o.depths) (from_infil most (infil_or sub.infil) s.infil o.infil);
  flow = o.flow;
  kind_is = written_kind most kind sub.infil s.infil n h o.infil;
}

no_kind : (subs : List Sub) (kind : InfilKind) → length subs ≡ 0 → kind_of subs kind ≡ ModifiedHorton
no_kind [] kind e = refl
no_kind (sub ∷ subs) kind e = absurd (omega (arith, e))

module _ {start : Start} {kept : Kept} (is : IsKept start (hydraulics_of start.project) kept) where
  fits_here : Fits (project_law start.project) (nets_at start kept.counts.steps)
  fits_here = subst (Fits (project_law start.project)) is.now.same is.now.fits

  -- the states of the subcatchments at the moment of the state
  runoff_here : IsRunoffAt start (moment_at start kept.counts.steps) kept.runoff
  runoff_here = subst (λ (m : ℤ). IsRunoffAt start m kept.runoff) is.clock.same is.runoff

  abbrev sub_here : ℕ → SubState
  sub_here = runoff_state start.project (runoff_start start) (runoffs_done start kept.counts.steps)

  written_here : (n : ℕ) → n < length start.project.subs → IsHotSub (kind_of start.project.subs start.project.options.infil) (sub_in (sub_here n))
  written_here n inside =
      let names = All-get_or (SubNames start.project) start.project.subs n (sub_at [] 0) inside is.ready.sound.names.subs in
      let good = All-get_or IsGoodSub start.project.subs n (sub_at [] 0) inside (faultless_good start.project is.ready).subs in
      let range = runoff_here.range.range n inside in
      let same = runoff_here.states.is n inside in
      subst (λ (x : InfilKind). IsHotSub x (sub_in (sub_here n))) (sym (kind_is start.project.subs start.project.options.infil n inside))
      (written_sub (pos (10 ^ 15) +ℤ pos 2_778 *ℤ kept.runoff.begin) (sub_at start.project.subs n) start.project.options.infil (sub_here n) names.infil good.has_infil
      (subst (IsSubStateUpTo (pos (10 ^ 15) +ℤ pos 2_778 *ℤ kept.runoff.begin) (sub_at start.project.subs n)) same range))

  subs_count : length (list_of (λ n. sub_in (sub_here n)) (length start.project.subs)) ≡ length start.project.subs
  subs_count = length-map-range_with_len (λ n. sub_in (sub_here n)) 0 (length start.project.subs)

  pub hot_written : IsHotState (hot_at start kept.counts.steps)
  unfolding hot_at
  hot_written =
      let fits = fits_here in
      let nets = nets_at start kept.counts.steps in
      let setting = λ (link : LinkFixed). link.setting in
      record {
        few_nodes = omega (arith, fits.heads.count, law_nodes start.project, is.ready.sound.few.nodes);
        few_links = omega (arith, fits.flows.count, law_links start.project, is.ready.sound.few.links);
        as_many = length-map nets.links setting ∙ fits.links.count ∙ sym fits.flows.count;
        few_subs = omega (arith, subs_count, is.ready.sound.few.subs);
        heads = All-from_get_or IsHead nets.heads (pos 0) (λ i inside. head_of (hydraulics_of start.project) (fits.heads.each i (omega (arith, inside, fits.heads.count))));
        flows = All-from_get_or IsFlow nets.flows (pos 0) (λ i inside. fits.flows.each i (omega (arith, inside, fits.flows.count)));
        settings = All-from_get_or IsPart (map setting nets.links) (pos 0)
            (λ i inside.
            let place : i < length nets.links = omega (arith, inside, length-map nets.links setting) in
            subst IsPart (sym (get_or-map setting nets.links i no_link (pos 0) place)) (fits.links.each i (omega (arith, place, fits.links.count))).setting);
        least = fits.least;
        subs = All-from_get_or (IsHotSub (kind_of start.project.subs start.project.options.infil)) (list_of (λ n. sub_in (sub_here n)) (length start.project.subs)) no_hot_sub
            (λ i inside.
            let place : i < length start.project.subs = omega (arith, inside, subs_count) in
            subst (IsHotSub (kind_of start.project.subs start.project.options.infil))
            (sym (get_or-map-range_with_len (λ n. sub_in (sub_here n)) 0 (length start.project.subs) i i no_hot_sub place (omega arith))) (written_here i place));
        no_subs = λ e. no_kind start.project.subs start.project.options.infil (sym subs_count ∙ e);
      }

  pub hot_room : IsRoomFor start.project (hot_at start kept.counts.steps)
  unfolding hot_at
  hot_room =
      let nets = nets_at start kept.counts.steps in
      let setting = λ (link : LinkFixed). link.setting in
      record {
        kind = refl;
        heads = fits_here.heads.count ∙ law_nodes start.project;
        flows = fits_here.flows.count ∙ law_links start.project;
        settings = length-map nets.links setting ∙ fits_here.links.count ∙ law_links start.project;
        subs = subs_count;
      }

  -- it is that state, part by part
  pub hot_is : {kind : InfilKind} {heads flows settings : List ℤ} {least : ℤ} {subs : List HotSub} → kind ≡ kind_of start.project.subs start.project.options.infil
      → heads ≡ kept.nets.heads → flows ≡ kept.nets.flows → settings ≡ map (λ (link : LinkFixed). link.setting) kept.nets.links → least ≡ kept.nets.least
      → subs ≡ map sub_in kept.runoff.states
      → ◌≡◌ {A = HotState} (record { kind = kind; heads = heads; flows = flows; settings = settings; least = least; subs = subs }) (hot_at start kept.counts.steps)
  unfolding hot_at
  hot_is {kind} {heads} {flows} {settings} {least} {subs} e0 e1 e2 e3 e4 e5 =
      same_hot e0
      (e1 ∙ ap (λ (s : Nets). s.heads) is.now.same)
      (e2 ∙ ap (λ (s : Nets). s.flows) is.now.same)
      (e3 ∙ ap (λ (s : Nets). map (λ (link : LinkFixed). link.setting) s.links) is.now.same)
      (e4 ∙ ap (λ (s : Nets). s.least) is.now.same)
      (e5 ∙ fill_by_all (λ n. sub_in (sub_here n)) (map sub_in kept.runoff.states) (length start.project.subs) no_hot_sub
      (length-map kept.runoff.states sub_in ∙ runoff_here.states.each_sub)
      (λ n inside. get_or-map sub_in kept.runoff.states n (state_at [] 0) no_hot_sub (omega (arith, inside, runoff_here.states.each_sub))
      ∙ ap sub_in (runoff_here.states.is n inside)))
    where
      same_hot : {kind kind2 : InfilKind} {a a2 b b2 c c2 : List ℤ} {d d2 : ℤ} {s s2 : List HotSub} → kind ≡ kind2 → a ≡ a2 → b ≡ b2 → c ≡ c2 → d ≡ d2 → s ≡ s2
          → ◌≡◌ {A = HotState} (record { kind = kind; heads = a; flows = b; settings = c; least = d; subs = s }) (record { kind = kind2; heads = a2; flows = b2; settings = c2; least = d2; subs = s2 })
      same_hot p q r s t u = cc
