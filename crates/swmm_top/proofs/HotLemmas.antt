-- The hotstart from which a run begins.
use Rattle.std.proofs.Common.{◌≡◌, ℕ, ◌+◌, ◌^◌, ◌<◌, ◌≤◌, Bool, true, false, List, [], ◌∷◌, length, map, take, Option, None, Some}
use Rattle.std.proofs.Common.{IfSome, IsSome, ℤ, pos, ◌≤ℤ◌, refl, sym, ap, ◌∙◌, subst, arith}
use Rattle.std.proofs.lemmas.List.{length-map}
use Rattle.std.proofs.lemmas.Int.{ints}
use Rattle.std.proofs.lemmas.List.Elements.{All-nil, All-cons, All-map, All-weaker, All-get_or, All-from_get_or}
use Rattle.std.specs.List.{All}
use Rattle.std.specs.Option.{option_map_or}
use Rattle.hotstart.specs.HotRanges.{IsHotSub, IsKeptSub, IsStateOf, infil_numbers}
use Rattle.hotstart.specs.Layout.{is_old}
use Rattle.hotstart.specs.Reading.{kind_of, reading_of, start_sub}
use Rattle.hotstart.specs.WrittenBack.{AreBytes, AreNetsFor, Spells, SpellsOld, migrated}
use Rattle.hotstart.specs.declared.read.HotRead.{HotRead}
use Rattle.hotstart.specs.declared.read.HotRead.TheVariants.{Good, BadMagic, Ends, Count, Kind, BadValue, GoesOn}
use Rattle.hotstart.specs.declared.state.HotState.{HotState}
use Rattle.infiltration.proofs.CurveLemmas.{greatest_between}
use Rattle.infiltration.specs.CurveNumber.{greatest_room_of}
use Rattle.infiltration.specs.Infiltration.{start_by, start_of}
use Rattle.infiltration.specs.declared.states.InfilState.TheVariants.{Horton as HortonAt}
use Rattle.net_types.specs.Ranges.{InfilInRange, IsOfKind, SubInRange}
use Rattle.net_types.specs.Sound.{IsSound, SubNames}
use Rattle.net_types.specs.declared.hydrology.Infil.{Infil}
use Rattle.net_types.specs.declared.hydrology.Infil.TheVariants.{Horton, Number}
use Rattle.net_types.specs.declared.hydrology.Sub.{Sub}
use Rattle.net_types.specs.declared.options.InfilKind.{InfilKind}
use Rattle.net_types.specs.declared.options.InfilKind.TheVariants.{ModifiedHorton, CurveNumber}
use Rattle.net_types.specs.declared.project.Project.{Project}
use Rattle.project_check.proofs.LawLemmas.{faultless_good}
use Rattle.project_check.specs.Faultless.{IsFaultless, IsGoodSub}
use Rattle.run_engine.specs.Hot.{IsHotFor}
use Rattle.runoff_states.specs.RunoffStates.{sub_at}
use Rattle.swmm_top.specs.Input.{TakesFront, hot_limit}
use Rattle.swmm_top.specs.Outcome.{hot_read_of}
use Rattle.swmm_top.specs.Taking.{IsFor}

-- what the first bytes are read as, the whole is read as
pub front_read : (project : Project) (told left : Option (List ℕ)) (bytes shown : List ℕ) (read : HotRead) → TakesFront (hot_limit + 1) told left bytes
    → shown ≡ bytes → read ≡ reading_of project shown → IfSome told (λ hotstart. read ≡ hot_read_of project hotstart)
front_read project None left bytes shown read front same is = tt
front_read project (Some hotstart) left bytes shown read front same is = is ∙ ap (reading_of project) (same ∙ front.0)

-- ---- the state of a file of version 1
-- a fact of each of some numbers holds of their list
of_one : (P : ℤ → Type 0) (a : ℤ) → P a → All P (a ∷ [])
of_one P a h = All-cons P a [] h (All-nil P)

of_five : (P : ℤ → Type 0) (a b c d e : ℤ) → P a → P b → P c → P d → P e → All P (a ∷ b ∷ c ∷ d ∷ e ∷ [])
of_five P a b c d e ha hb hc hd he =
    All-cons P a (b ∷ c ∷ d ∷ e ∷ []) ha (All-cons P b (c ∷ d ∷ e ∷ []) hb (All-cons P c (d ∷ e ∷ []) hc (All-cons P d (e ∷ []) hd (of_one P e he))))

-- the numbers of a state at the start of a run lie from 0 to 10^15
numbers_of_start : (infil : Infil) → InfilInRange infil
    → All (λ value. pos 0 ≤ℤ value) (infil_numbers (start_of infil)) × All (λ value. value ≤ℤ pos (10 ^ 15)) (infil_numbers (start_of infil))
unfolding start_by
numbers_of_start (Horton max min decay6 dry volume) r =
    (of_one (λ value. pos 0 ≤ℤ value) (pos 0) (omega (arith, ints)), of_one (λ value. value ≤ℤ pos (10 ^ 15)) (pos 0) (omega (arith, ints)))
numbers_of_start (Number cn6 dry) r =
    let room = greatest_between cn6 r.number_in in
    let greatest = greatest_room_of cn6 in
    let zero : pos 0 ≤ℤ pos 0 = omega (arith, ints) in
    let low : pos 0 ≤ℤ pos (10 ^ 15) = omega (arith, ints) in
    let high : greatest ≤ℤ pos (10 ^ 15) = omega (arith, ints, room.to) in (
      of_five (λ value. pos 0 ≤ℤ value) greatest greatest (pos 0) (pos 0) (pos 0) room.from room.from zero zero zero,
      of_five (λ value. value ≤ℤ pos (10 ^ 15)) greatest greatest (pos 0) (pos 0) (pos 0) high high low low low,
    )

start_is_of : (kind : InfilKind) (infil : Infil) → IsOfKind kind infil → IsStateOf kind (start_of infil)
unfolding start_by
start_is_of ModifiedHorton (Horton max min decay6 dry volume) k = tt
start_is_of ModifiedHorton (Number cn6 dry) k = absurd k
start_is_of CurveNumber (Horton max min decay6 dry volume) k = absurd k
start_is_of CurveNumber (Number cn6 dry) k = tt

-- the state of a subcatchment there
record IsGoodStart (kind : InfilKind) (sub : Sub) : Type 0 where
  pub written : IsHotSub kind (start_sub sub)
  pub held : IsKeptSub (start_sub sub)

zeros_then : (P : ℤ → Type 0) (rest : List ℤ) → P (pos 0) → All P rest → All P (pos 0 ∷ pos 0 ∷ pos 0 ∷ rest)
zeros_then P rest zero h =
    All-cons P (pos 0) (pos 0 ∷ pos 0 ∷ rest) zero (All-cons P (pos 0) (pos 0 ∷ rest) zero (All-cons P (pos 0) rest zero h))

start_with : (kind : InfilKind) (infil : Option Infil) → IsSome infil → IfSome infil InfilInRange → IfSome infil (IsOfKind kind)
    → (IsStateOf kind (option_map_or start_of infil (HortonAt (record { above = pos 0 })))
    × All (λ value. pos 0 ≤ℤ value) (infil_numbers (option_map_or start_of infil (HortonAt (record { above = pos 0 })))))
    × All (λ value. value ≤ℤ pos (10 ^ 15)) (infil_numbers (option_map_or start_of infil (HortonAt (record { above = pos 0 }))))
start_with kind None some r k = let never : ⊥ = cc in absurd never
start_with kind (Some infil) some r k =
    let numbers = numbers_of_start infil r in ((start_is_of kind infil k, numbers.0), numbers.1)

good_start : (kind : InfilKind) (sub : Sub) → IsSome sub.infil → IfSome sub.infil InfilInRange → IfSome sub.infil (IsOfKind kind) → IsGoodStart kind sub
good_start kind sub some r k =
    let good = start_with kind sub.infil some r k in
    record {
      written = record {
        depths = zeros_then (λ value. pos 0 ≤ℤ value) _ (omega (arith, ints)) good.0.1;
        flow = record { from = omega (arith, ints); to = omega (arith, ints) };
        kind_is = good.0.0;
      };
      held = record { three = refl; most = zeros_then (λ value. value ≤ℤ pos (10 ^ 15)) _ (omega (arith, ints)) good.1 };
    }

good_starts : (project : Project) → IsFaultless project → All (IsGoodStart project.options.infil) project.subs
good_starts project r =
    let none = sub_at [] 0 in
    let good = (faultless_good project r).subs in
    All-from_get_or (IsGoodStart project.options.infil) project.subs none (λ k inside.
    let sub = sub_at project.subs k in
    good_start project.options.infil sub
    (All-get_or IsGoodSub project.subs k none inside good).has_infil
    (All-get_or SubInRange project.subs k none inside r.sound.ranges.subs).infil_in
    (All-get_or (SubNames project) project.subs k none inside r.sound.names.subs).infil)

-- the kind of a project with a subcatchment
kind_is : (subs : List Sub) (kind : InfilKind) (P : InfilKind → Sub → Type 0) → All (P kind) subs → All (P (kind_of subs kind)) subs
kind_is [] kind P h = All-nil (P ModifiedHorton)
kind_is (sub ∷ subs) kind P h = h

no_kind : (subs : List Sub) (kind : InfilKind) → length subs ≡ 0 → kind_of subs kind ≡ ModifiedHorton
no_kind [] kind e = refl
no_kind (sub ∷ subs) kind e = absurd cc

migrated_fits : (project : Project) (heads flows settings : List ℤ) → IsFaultless project → AreNetsFor project heads flows settings
    → IsHotFor project (migrated project heads flows settings)
migrated_fits project heads flows settings r nets =
    let kind = kind_of project.subs project.options.infil in
    let starts = kind_is project.subs project.options.infil IsGoodStart (good_starts project r) in
    let few = r.sound.few in
    record {
      kept = record {
        written = record {
          few_nodes = omega (arith, nets.nodes, few.nodes);
          few_links = omega (arith, nets.links, few.links);
          as_many = nets.as_many;
          few_subs = omega (arith, length-map project.subs start_sub, few.subs);
          heads = nets.heads_in;
          flows = nets.flows_in;
          settings = nets.settings_in;
          least = record { from = omega (arith, ints); to = omega (arith, ints) };
          subs = All-map (IsHotSub kind) start_sub project.subs (All-weaker (IsGoodStart kind) (λ sub. IsHotSub kind (start_sub sub)) (λ sub good. good.written) project.subs starts);
          no_subs = λ e. no_kind project.subs project.options.infil (sym (length-map project.subs start_sub) ∙ e);
        };
        subs = All-map IsKeptSub start_sub project.subs (All-weaker (IsGoodStart kind) (λ sub. IsKeptSub (start_sub sub)) (λ sub good. good.held) project.subs starts);
      };
      fits = record {
        nodes = nets.nodes;
        links = nets.links;
        subs = length-map project.subs start_sub;
        kind = refl;
      };
    }

-- ---- every good file
good_fits : (project : Project) (file : List ℕ) (state : HotState) (old : Bool) → is_old file ≡ old → IsFaultless project → AreBytes file
    → ((project : Project) (file : List ℕ) (state : HotState) → IsSound project → AreBytes file → is_old file ≡ false → reading_of project file ≡ Good state → Spells project file state)
    → ((project : Project) (file : List ℕ) (state : HotState) → AreBytes file → is_old file ≡ true → reading_of project file ≡ Good state → SpellsOld project file state)
    → reading_of project file ≡ Good state → IsHotFor project state
good_fits project file state true e r bytes law_new law_old is =
    let spells = law_old project file state bytes e is in
    subst (IsHotFor project) (sym spells.migration) (migrated_fits project state.heads state.flows state.settings r spells.nets)
good_fits project file state false e r bytes law_new law_old is =
    let spells = law_new project file state r.sound bytes e is in record { kept = spells.is_kept; fits = spells.fits }

pub read_fits : (project : Project) (file : List ℕ) (read : HotRead) → IsFaultless project → AreBytes file
    → ((project : Project) (file : List ℕ) (state : HotState) → IsSound project → AreBytes file → is_old file ≡ false → reading_of project file ≡ Good state → Spells project file state)
    → ((project : Project) (file : List ℕ) (state : HotState) → AreBytes file → is_old file ≡ true → reading_of project file ≡ Good state → SpellsOld project file state)
    → read ≡ reading_of project file → IsFor project read
read_fits project file (Good state) r bytes law_new law_old is = good_fits project file state (is_old file) refl r bytes law_new law_old (sym is)
read_fits project file (BadMagic place) r bytes law_new law_old is = tt
read_fits project file (Ends place) r bytes law_new law_old is = tt
read_fits project file (Count what file_count own) r bytes law_new law_old is = tt
read_fits project file (Kind file_kind own) r bytes law_new law_old is = tt
read_fits project file (BadValue place) r bytes law_new law_old is = tt
read_fits project file (GoesOn place) r bytes law_new law_old is = tt
