-- A written file is read back.
use Rattle.std.proofs.Common.{◌≡◌, ◌∙◌, ℕ, ◌+◌, ◌*◌, ◌^◌, ◌<◌, Bool, false, cond, List, [], ◌++◌}
use Rattle.std.proofs.Common.{length, codes, get_or, Option, None, ℤ, pos, neg_ℤ, All, refl, sym, ap, subst, arith}
use Rattle.std.proofs.Common.{zip, flat_map, length-append}
use Rattle.std.proofs.lemmas.Int.{ints}
use Rattle.std.proofs.lemmas.List.FromFn.{fill_by_all}
use Rattle.std.proofs.lemmas.Slice.Zip.{get_or-zip, length-zip}
use Rattle.fixed_num.specs.Lists.{list_of}
use Rattle.fixed_num.specs.Ranges.{IsBetween, IsFlow, IsHead, IsPart}
use Rattle.net_types.specs.declared.options.InfilKind.{InfilKind}
use Rattle.net_types.specs.declared.project.Project.{Project}
use Rattle.hotstart.specs.Checks.{AreGood, IsGoodFile}
use Rattle.hotstart.specs.HotBytes.{count_bytes, header, hot_bytes, kind_number, link_bytes, sub_bytes, value_bytes}
use Rattle.hotstart.specs.HotRanges.{IsHotState, IsHotSub, IsKept, IsKeptSub}
use Rattle.hotstart.specs.Layout.{counts, file_fault, head_fields, is_old, layout_of}
use Rattle.hotstart.specs.Layout.{link_fields, magic, net_values, new_fields, sub_fields, times, rest_of}
use Rattle.hotstart.specs.Reading.{answer_or, new_state, old_state, reading_of, shape_of, sub_at, sub_width}
use Rattle.hotstart.specs.WrittenBack.{IsStateFor}
use Rattle.hotstart.specs.declared.read.HotRead.TheVariants.{Good}
use Rattle.hotstart.specs.declared.refusal.Refusal.{Refusal}
use Rattle.hotstart.specs.declared.shape.Shape.{Shape}
use Rattle.hotstart.specs.declared.state.HotState.{HotState}
use Rattle.hotstart.specs.declared.state.HotSub.{HotSub}
use Rattle.hotstart.proofs.CheckLemmas.{file_good, good_then}
use Rattle.hotstart.proofs.EqualLemmas.{Fits, between_all, between_fits, count_length, header_length, kind_small}
use Rattle.hotstart.proofs.EqualLemmas.{value_length, within_all}
use Rattle.hotstart.proofs.GoodLemmas.{count_good, kind_good, magic_good, rows_good, value_good}
use Rattle.hotstart.proofs.ReadLemmas.{new_state_is}
use Rattle.hotstart.proofs.StandLemmas.{Stands, column_stands, flows_stand, link_length, settings_stand, stands_front}
use Rattle.hotstart.proofs.StandLemmas.{stands_item, stands_rest, stands_whole, value_stands, values_wide}
use Rattle.hotstart.proofs.SubLemmas.{sub_good, sub_length, sub_read, values_length, wide_length}

-- ---- heads and links
head_between : (v : ℤ) → IsHead v → IsBetween (neg_ℤ (pos (2 * 10 ^ 10))) v (pos (2 * 10 ^ 10))
head_between v h = record { from = omega (arith, ints, h.within); to = omega (arith, ints, h.within) }

flow_between : (v : ℤ) → IsFlow v → IsBetween (neg_ℤ (pos (10 ^ 12))) v (pos (10 ^ 12))
flow_between v h = record { from = omega (arith, ints, h.within); to = omega (arith, ints, h.within) }

record GoodHead (v : ℤ) : Type 0 where
  range : IsHead v
  fits : Fits v

pub heads_good : {file : List ℕ} {place next : ℕ} (heads : List ℤ) → All IsHead heads
    → Stands file place (flat_map value_bytes heads) → next ≡ place + 8 * length heads
    → AreGood file place (times (length heads) head_fields) next
heads_good {file} heads ranges s e =
    rows_good GoodHead value_bytes head_fields 8 heads
    (λ p v h there. value_good (neg_ℤ (pos (2 * 10 ^ 10))) (pos (2 * 10 ^ 10)) v there h.fits
    (head_between v h.range) refl)
    (λ k d h. record { range = ranges k d h; fits = within_all (2 * 10 ^ 10) heads (omega arith) ranges k d h })
    (values_wide heads) s e

record GoodLink (link : ℤ × ℤ) : Type 0 where
  flow : IsFlow link.0
  setting : IsPart link.1
  flow_fits : Fits link.0
  setting_fits : Fits link.1

link_good : {file : List ℕ} (p : ℕ) (link : ℤ × ℤ) → GoodLink link → Stands file p (link_bytes link)
    → AreGood file p link_fields (p + 16)
link_good p link h there =
    let first = value_good {next = p + 8} (neg_ℤ (pos (10 ^ 12))) (pos (10 ^ 12)) link.0
    (stands_front (value_bytes link.0) (value_bytes link.1) there) h.flow_fits (flow_between link.0 h.flow) refl in
    let second = value_good {next = p + 16} (pos 0) (pos (10 ^ 6)) link.1
    (stands_rest (value_bytes link.0) (value_bytes link.1) there (omega (arith, value_length link.0)))
    h.setting_fits h.setting (omega arith) in
    good_then first second

pub links_good : {file : List ℕ} {place next : ℕ} (flows settings : List ℤ) → All IsFlow flows → All IsPart settings
    → length settings ≡ length flows
    → Stands file place (flat_map link_bytes (zip flows settings)) → next ≡ place + 16 * length flows
    → AreGood file place (times (length flows) link_fields) next
links_good {file} {place} {next} flows settings in_flows in_settings same s e =
    let long : length (zip flows settings) ≡ length flows = omega (arith, same, length-zip flows settings) in
    subst (λ (n : ℕ). AreGood file place (times n link_fields) next) long
    (rows_good GoodLink link_bytes link_fields 16 (zip flows settings) link_good good
    (λ k d h. link_length (get_or (zip flows settings) k d)) s (omega (arith, e, long)))
  where
    good : All GoodLink (zip flows settings)
    good k d h =
        let inside : k < length flows = omega (arith, h, same, length-zip flows settings) in
        let pair = get_or-zip flows settings k d inside (omega (arith, inside, same)) in
        let f = in_flows k d.0 inside in
        let t = in_settings k d.1 (omega (arith, inside, same)) in
        subst GoodLink (sym pair) (record {
          flow = f;
          setting = t;
          flow_fits = within_all (10 ^ 12) flows (omega arith) in_flows k d.0 inside;
          setting_fits = between_all (10 ^ 6) settings (omega arith) in_settings k d.1 (omega (arith, inside, same));
        })

pub links_length : (flows settings : List ℤ) → length settings ≡ length flows
    → length (flat_map link_bytes (zip flows settings)) ≡ 16 * length flows
links_length flows settings same =
    let long : length (zip flows settings) ≡ length flows = omega (arith, same, length-zip flows settings) in
    omega (
      arith,
      long,
      wide_length link_bytes 16 (zip flows settings)
          (λ k d h. link_length (get_or (zip flows settings) k d)),
    )

-- ---- subcatchments
record GoodSub (method : InfilKind) (sub : HotSub) : Type 0 where
  hot : IsHotSub method sub
  held : IsKeptSub sub

good_subs : (method : InfilKind) (subs : List HotSub) → All (IsHotSub method) subs → All IsKeptSub subs
    → All (GoodSub method) subs
good_subs method subs hot held k d h = record { hot = hot k d h; held = held k d h }

subs_wide : (method : InfilKind) (subs : List HotSub) → All (IsHotSub method) subs
    → All (λ (sub : HotSub). length (sub_bytes sub) ≡ sub_width method) subs
subs_wide method subs hot k d h = sub_length method (get_or subs k d) (hot k d h).kind_is

subs_good : {file : List ℕ} {place next : ℕ} (method : InfilKind) (subs : List HotSub) → All (IsHotSub method) subs
    → All IsKeptSub subs → Stands file place (flat_map sub_bytes subs) → next ≡ place + sub_width method * length subs
    → AreGood file place (times (length subs) (sub_fields method)) next
subs_good {file} method subs hot held s e =
    rows_good (GoodSub method) sub_bytes (sub_fields method) (sub_width method) subs
    (λ p sub h there. sub_good method file p sub h.hot h.held there)
    (good_subs method subs hot held) (subs_wide method subs hot) s e

-- what is read past the end of a list of subcatchments
abbrev no_sub : InfilKind → HotSub
no_sub method = sub_at method [] 0

subs_read : {file : List ℕ} {place : ℕ} (method : InfilKind) (subs : List HotSub) → All (IsHotSub method) subs
    → All IsKeptSub subs → Stands file place (flat_map sub_bytes subs)
    → subs ≡ list_of (λ k. sub_at method file (place + sub_width method * k)) (length subs)
subs_read {file} {place} method subs hot held s =
    fill_by_all (λ k. sub_at method file (place + sub_width method * k)) subs (length subs) (no_sub method) refl
    (λ k h. sym (sub_read method file (place + sub_width method * k) (get_or subs k (no_sub method))
    (hot k (no_sub method) h) (held k (no_sub method) h)
    (stands_item sub_bytes (sub_width method) subs (subs_wide method subs hot) s k (no_sub method) h)))

-- ---- where the parts of a file of version 2 stand
record Laid (file : List ℕ) (state : HotState) : Type 0 where
  top : Stands file 0 (header state)
  heads : Stands file 24 (flat_map value_bytes state.heads)
  links : Stands file (24 + 8 * length state.heads) (flat_map link_bytes (zip state.flows state.settings))
  least : Stands file (24 + 8 * length state.heads + 16 * length state.flows) (value_bytes state.least)
  subs : Stands file (24 + 8 * length state.heads + 16 * length state.flows + 8) (flat_map sub_bytes state.subs)

laid : (state : HotState) → length state.settings ≡ length state.flows → Laid (hot_bytes state) state
unfolding hot_bytes
laid state same =
    let heads = flat_map value_bytes state.heads in
    let links = flat_map link_bytes (zip state.flows state.settings) in
    let rest = value_bytes state.least ++ flat_map sub_bytes state.subs in
    let whole = stands_whole (((header state ++ heads) ++ links) ++ rest) in
    let nets = stands_front ((header state ++ heads) ++ links) rest whole in
    let front = stands_front (header state ++ heads) links nets in
    let front_length = length-append (header state) heads in
    let nets_length = length-append (header state ++ heads) links in
    let head_length = header_length state in
    let heads_length = values_length state.heads in
    let all_links = links_length state.flows state.settings same in
    let last = stands_rest {next = 24 + 8 * length state.heads + 16 * length state.flows}
    ((header state ++ heads) ++ links) rest whole
    (omega (arith, front_length, nets_length, head_length, heads_length, all_links)) in
    record {
      top = stands_front (header state) heads front;
      heads = stands_rest (header state) heads front (omega (arith, head_length));
      links = stands_rest (header state ++ heads) links nets (omega (arith, front_length, head_length, heads_length));
      least = stands_front (value_bytes state.least) (flat_map sub_bytes state.subs) last;
      subs = stands_rest (value_bytes state.least) (flat_map sub_bytes state.subs) last
          (omega (arith, value_length state.least));
    }

whole_length : (state : HotState) → length state.settings ≡ length state.flows
    → All (IsHotSub state.kind) state.subs
    → length (hot_bytes state)
    ≡ 24 + 8 * length state.heads + 16 * length state.flows + 8 + sub_width state.kind * length state.subs
unfolding hot_bytes
whole_length state same hot =
    let heads = flat_map value_bytes state.heads in
    let links = flat_map link_bytes (zip state.flows state.settings) in
    let subs = flat_map sub_bytes state.subs in
    omega (
      arith,
      length-append (header state) heads,
      length-append (header state ++ heads) links,
      length-append ((header state ++ heads) ++ links) (value_bytes state.least ++ subs),
      length-append (value_bytes state.least) subs,
      header_length state,
      values_length state.heads,
      links_length state.flows state.settings same,
      value_length state.least,
      wide_length sub_bytes (sub_width state.kind) state.subs (subs_wide state.kind state.subs hot),
    )

-- ---- the fields of a file of version 2
abbrev shape_in : HotState → Shape
shape_in state = record {
  nodes = length state.heads;
  links = length state.flows;
  subs = length state.subs;
  kind = state.kind;
}

record TopLaid (file : List ℕ) (state : HotState) : Type 0 where
  magic_word : Stands file 0 (codes "SWMMFXH2")
  nodes : Stands file 8 (count_bytes (length state.heads))
  links : Stands file 12 (count_bytes (length state.flows))
  subs : Stands file 16 (count_bytes (length state.subs))
  kinds : Stands file 20 (count_bytes (kind_number state.kind))

top_laid : {file : List ℕ} (state : HotState) → Stands file 0 (header state) → TopLaid file state
top_laid state s =
    let a = count_bytes (length state.heads) in
    let b = count_bytes (length state.flows) in
    let c = count_bytes (length state.subs) in
    let d = count_bytes (kind_number state.kind) in
    let one = stands_rest {next = 8} (codes "SWMMFXH2") (a ++ (b ++ (c ++ (d ++ [])))) s refl in
    let two = stands_rest {next = 12} a (b ++ (c ++ (d ++ []))) one (omega (arith, count_length (length state.heads))) in
    let three = stands_rest {next = 16} b (c ++ (d ++ [])) two (omega (arith, count_length (length state.flows))) in
    let four = stands_rest {next = 20} c (d ++ []) three (omega (arith, count_length (length state.subs))) in
    record {
      magic_word = stands_front (codes "SWMMFXH2") (a ++ (b ++ (c ++ (d ++ [])))) s;
      nodes = stands_front a (b ++ (c ++ (d ++ []))) one;
      links = stands_front b (c ++ (d ++ [])) two;
      subs = stands_front c (d ++ []) three;
      kinds = stands_front d [] four;
    }

top_good : {file : List ℕ} (state : HotState) → IsHotState state → TopLaid file state
    → AreGood file 0 (magic ++ counts (shape_in state)) 20
top_good state h t =
    let word = magic_good 50 (omega arith) refl t.magic_word in
    let nodes = count_good {next = 12} 0 (length state.heads) (length state.heads) t.nodes
    (omega (arith, h.few_nodes)) refl refl in
    let links = count_good {next = 16} 1 (length state.flows) (length state.flows) t.links
    (omega (arith, h.few_links)) refl refl in
    let subs = count_good {next = 20} 2 (length state.subs) (length state.subs) t.subs
    (omega (arith, h.few_subs)) refl refl in
    good_then word (good_then nodes (good_then links subs))

new_good : {file : List ℕ} (state : HotState) → IsKept state → Laid file state → TopLaid file state
    → AreGood file 20 (new_fields (shape_in state))
    (24 + 8 * length state.heads + 16 * length state.flows + 8 + sub_width state.kind * length state.subs)
new_good state h l t =
    let w = h.written in
    let kinds = kind_good {next = 24} (kind_number state.kind) (kind_number state.kind) t.kinds
    (kind_small state.kind) refl refl in
    let heads = heads_good {next = 24 + 8 * length state.heads} state.heads w.heads l.heads refl in
    let links = links_good {next = 24 + 8 * length state.heads + 16 * length state.flows} state.flows state.settings
    w.flows w.settings w.as_many l.links refl in
    let least = value_good {next = 24 + 8 * length state.heads + 16 * length state.flows + 8} (pos 0) (pos 3_600_000)
    state.least l.least (between_fits 3_600_000 state.least (omega arith) w.least) w.least refl in
    let subs = subs_good {next = 24 + 8 * length state.heads + 16 * length state.flows + 8
    + sub_width state.kind * length state.subs} state.kind state.subs w.subs h.subs l.subs refl in
    good_then kinds (good_then (good_then heads links) (good_then least subs))

-- a file that begins so is of version 2
new_version : (state : HotState) → is_old (hot_bytes state) ≡ false
unfolding hot_bytes
new_version state = refl

new_file_good : (state : HotState) → IsKept state
    → IsGoodFile (hot_bytes state) (layout_of (shape_in state) (hot_bytes state))
unfolding layout_of
new_file_good state h =
    let file = hot_bytes state in
    let l = laid state h.written.as_many in
    let t = top_laid state l.top in
    let end = 24 + 8 * length state.heads + 16 * length state.flows + 8 + sub_width state.kind * length state.subs in
    let good = good_then (top_good state h.written t) (new_good state h l t) in
    let rest : rest_of (shape_in state) file ≡ new_fields (shape_in state) =
    ap (λ (b : Bool). cond b (net_values (shape_in state)) (new_fields (shape_in state))) (new_version state) in
    let all = subst (λ r. AreGood file 0 (magic ++ counts (shape_in state) ++ r) end) (sym rest) good in
    file_good file (magic ++ counts (shape_in state) ++ rest_of (shape_in state) file) end all
    (omega (arith, whole_length state h.written.as_many h.written.subs))

new_state_back : (project : Project) (state : HotState) → IsKept state → shape_in state ≡ shape_of project
    → state ≡ new_state project (hot_bytes state)
new_state_back project state h e =
    let file = hot_bytes state in
    let w = h.written in
    let l = laid state w.as_many in
    new_state_is project file (shape_in state) state.heads state.flows state.settings state.least state.subs e
    (column_stands state.heads (length state.heads) l.heads refl (within_all (2 * 10 ^ 10) state.heads (omega arith) w.heads))
    (flows_stand state.flows state.settings (length state.flows) l.links w.as_many refl
    (within_all (10 ^ 12) state.flows (omega arith) w.flows))
    (settings_stand {next = 32 + 8 * length state.heads} state.flows state.settings (length state.flows) l.links
    w.as_many refl (omega arith) (between_all (10 ^ 6) state.settings (omega arith) w.settings))
    (sym (value_stands state.least l.least (between_fits 3_600_000 state.least (omega arith) w.least)))
    (subs_read state.kind state.subs w.subs h.subs l.subs)

pub shape_same : (project : Project) (state : HotState) → IsStateFor project state → shape_in state ≡ shape_of project
shape_same project state f = same f.nodes f.links f.subs f.kind
  where
    same : {a b c d e g : ℕ} {i j : InfilKind} → a ≡ b → c ≡ d → e ≡ g → i ≡ j
        → ◌≡◌ {A = Shape} (record { nodes = a; links = c; subs = e; kind = i })
        (record { nodes = b; links = d; subs = g; kind = j })
    same p q r s = cc

pub kept_back : (project : Project) (state : HotState) → IsKept state → IsStateFor project state
    → reading_of project (hot_bytes state) ≡ Good state
unfolding reading_of
kept_back project state h f =
    let file = hot_bytes state in
    let e = shape_same project state f in
    let none : file_fault file (layout_of (shape_of project) file) ≡ None =
    ap (λ (s : Shape). file_fault file (layout_of s file)) (sym e) ∙ (new_file_good state h).no_fault in
    let back = new_state_back project state h e in
    ap (λ (o : Option Refusal). answer_or o (cond (is_old file) (old_state project file) (new_state project file))) none
    ∙ ap (λ (b : Bool). Good (cond b (old_state project file) (new_state project file))) (new_version state)
    ∙ ap Good (sym back)
