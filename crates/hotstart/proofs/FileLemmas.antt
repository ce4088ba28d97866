-- A good file is the bytes of its state.
use Rattle.std.proofs.Common.{◌≡◌, ◌∙◌, ℕ, zero, suc, ◌+◌, ◌*◌, ◌≤◌, nat_lt, Bool, true, false, cond, List, [], ◌∷◌, ◌++◌}
use Rattle.std.proofs.Common.{length, map, codes, Option, Some, None, ℤ, pos, All, refl, sym, ap, subst, arith}
use Rattle.std.proofs.Common.{append_assoc, zip, flat_map}
use Rattle.std.proofs.lemmas.Bool.Decides.{nat_tests}
use Rattle.std.proofs.lemmas.List.FromFn.{length-map-range_with_len}
use Rattle.net_types.specs.declared.options.InfilKind.{InfilKind}
use Rattle.net_types.specs.declared.options.InfilKind.TheVariants.{ModifiedHorton, CurveNumber}
use Rattle.net_types.specs.declared.hydrology.Sub.{Sub}
use Rattle.net_types.specs.declared.project.Project.{Project}
use Rattle.net_types.specs.Sound.{IsSound}
use Rattle.hotstart.specs.Checks.{AreGood}
use Rattle.hotstart.specs.HotBytes.{count_bytes, header, hot_bytes, kind_number, link_bytes, sub_bytes, value_bytes}
use Rattle.hotstart.specs.Layout.{Field, count, counts, field_fault, file_fault, first_fault, head_fields, is_old, kind}
use Rattle.hotstart.specs.Layout.{layout_of, least_fields, link_fields, magic, net_values, new_fields, new_values}
use Rattle.hotstart.specs.Layout.{number_at, number_fault, rest_of, sub_fields, times, value_at, width, widths}
use Rattle.hotstart.specs.Reading.{answer_for, answer_or, column, kind_of, new_state, old_state, reading_of, shape_of}
use Rattle.hotstart.specs.Reading.{sub_at, sub_width}
use Rattle.hotstart.specs.WrittenBack.{AreBytes, AreNetsFor, Spells, SpellsOld, old_bytes}
use Rattle.hotstart.specs.declared.read.HotRead.{HotRead}
use Rattle.hotstart.specs.declared.read.HotRead.TheVariants.{Good}
use Rattle.hotstart.specs.declared.refusal.Refusal.{Refusal}
use Rattle.hotstart.specs.declared.refusal.Refusal.TheVariants.{BadMagic, BadValue, Count, Ends, GoesOn, Kind}
use Rattle.hotstart.specs.declared.shape.Shape.{Shape}
use Rattle.hotstart.specs.declared.state.HotState.{HotState}
use Rattle.hotstart.proofs.ColumnLemmas.{widths-append}
use Rattle.hotstart.proofs.EqualLemmas.{body, whole_is}
use Rattle.hotstart.proofs.FoundLemmas.{count_spelled, flows_in, heads_in, heads_spelled, kind_spelled, links_spelled}
use Rattle.hotstart.proofs.FoundLemmas.{magic_spelled, settings_in, value_between}
use Rattle.hotstart.proofs.FoundSubs.{held_subs, hot_subs, subs_spelled}
use Rattle.hotstart.proofs.SpelledLemmas.{good_front, good_rest, or_first, or_rest, spelled, spelled-append}
use Rattle.hotstart.proofs.SpelledLemmas.{spelled_value, spelled_whole}

-- ---- a file without a fault
distinct : {r : Refusal} → Some r ≡ None → ⊥
distinct e = cc

no_refusal : (state : HotState) (r : Refusal) → answer_for r ≡ Good state → ⊥
no_refusal state (BadMagic place) e = cc
no_refusal state (Ends place) e = cc
no_refusal state (Count what file project) e = cc
no_refusal state (Kind file project) e = cc
no_refusal state (BadValue place) e = cc
no_refusal state (GoesOn place) e = cc

record HasNoFault (fault : Option Refusal) (held state : HotState) : Type 0 where
  none : fault ≡ None
  is : held ≡ state

no_fault : (o : Option Refusal) (held state : HotState) → answer_or o held ≡ Good state → HasNoFault o held state
no_fault None held state e = record { none = refl; is = same e }
  where
    same : Good held ≡ Good state → held ≡ state
    same g = cc
no_fault (Some r) held state e = absurd (no_refusal state r e)

-- fields without a fault lie within the file
field_within : (file : List ℕ) (place : ℕ) (field : Field) → field_fault file place field ≡ None
    → place + width field ≤ length file
field_within file place field e =
    by_test (nat_lt (length file) (place + width field)) refl
    (number_fault field place (number_at file place (width field))) e
  where
    by_test : (b : Bool) → nat_lt (length file) (place + width field) ≡ b → (o : Option Refusal)
        → cond b (Some (Ends (length file))) o ≡ None → place + width field ≤ length file
    by_test true t o e = absurd (distinct e)
    by_test false t o e = grind (arith, nat_tests, t)

fields_within : (file : List ℕ) (place : ℕ) (fields : List Field) → place ≤ length file
    → first_fault file place fields ≡ None → place + widths fields ≤ length file
fields_within file place [] h e = omega (arith, h)
fields_within file place (f ∷ fs) h e =
    let here = field_within file place f
    (or_first (field_fault file place f) (first_fault file (place + width f) fs) e) in
    let later = fields_within file (place + width f) fs here
    (or_rest (field_fault file place f) (first_fault file (place + width f) fs) e) in
    omega (arith, later)

record IsWhole (file : List ℕ) (fields : List Field) : Type 0 where
  good : AreGood file 0 fields (length file)
  long : widths fields ≡ length file

is_whole : (file : List ℕ) (fields : List Field) → file_fault file fields ≡ None → IsWhole file fields
is_whole file fields e =
    by_end (nat_lt (widths fields) (length file)) refl
    (or_rest (first_fault file 0 fields)
    (cond (nat_lt (widths fields) (length file)) (Some (GoesOn (widths fields))) None) e)
  where
    clear : first_fault file 0 fields ≡ None
    clear = or_first (first_fault file 0 fields)
        (cond (nat_lt (widths fields) (length file)) (Some (GoesOn (widths fields))) None) e

    by_end : (b : Bool) → nat_lt (widths fields) (length file) ≡ b → cond b (Some (GoesOn (widths fields))) None ≡ None
        → IsWhole file fields
    by_end true t o = absurd (distinct o)
    by_end false t o =
        let most : length file ≤ widths fields = grind (arith, nat_tests, t) in
        let least = fields_within file 0 fields (omega arith) clear in
        let long : widths fields ≡ length file = omega (arith, most, least) in
        record {
          good = record { no_fault = clear; next_is = omega (arith, long); within = omega arith };
          long = long;
        }

-- ---- the front: magic word and counts
top_spelled : (file : List ℕ) (shape : Shape) (old : Bool) → AreGood file 0 (magic ++ counts shape) 20
    → is_old file ≡ old
    → spelled file 0 (magic ++ counts shape)
    ≡ (codes "SWMMFXH" ++ cond old 49 50 ∷ []) ++ flat_map count_bytes (shape.nodes ∷ shape.links ∷ shape.subs ∷ [])
top_spelled file shape old g e =
    let word = good_front magic (counts shape) g in
    let three = good_rest magic (counts shape) g in
    let two = good_rest (count 0 shape.nodes ∷ []) (count 1 shape.links ∷ count 2 shape.subs ∷ []) three in
    let nodes = count_spelled 0 shape.nodes
    (good_front (count 0 shape.nodes ∷ []) (count 1 shape.links ∷ count 2 shape.subs ∷ []) three) in
    let links = count_spelled 1 shape.links (good_front (count 1 shape.links ∷ []) (count 2 shape.subs ∷ []) two) in
    let subs = count_spelled 2 shape.subs (good_rest (count 1 shape.links ∷ []) (count 2 shape.subs ∷ []) two) in
    spelled-append file 0 magic (counts shape)
    ∙ ap (λ (l : List ℕ). l ++ spelled file 8 (counts shape)) (magic_spelled file old word e)
    ∙ ap (λ (l : List ℕ). (codes "SWMMFXH" ++ cond old 49 50 ∷ []) ++ l) (same nodes links subs)
  where
    same : {a b c d e f : List ℕ} → a ≡ b → c ≡ d → e ≡ f → a ++ (c ++ (e ++ [])) ≡ b ++ (d ++ (f ++ []))
    same p q r = cc

-- ---- heads and links
widths-times : (n : ℕ) (row : List Field) → widths (times n row) ≡ widths row * n
widths-times zero row = omega arith
widths-times (suc n) row = omega (arith, widths-append row (times n row), widths-times n row)

record Nets (file : List ℕ) (place flows settings : ℕ) (shape : Shape) : Type 0 where
  heads : AreGood file place (times shape.nodes head_fields) flows
  links : AreGood file flows (times shape.links link_fields) (flows + 16 * shape.links)
  bytes : AreBytes file → spelled file place (net_values shape)
      ≡ flat_map value_bytes (column file place 8 shape.nodes)
      ++ flat_map link_bytes (zip (column file flows 16 shape.links) (column file settings 16 shape.links))

nets : {file : List ℕ} {place next : ℕ} (flows settings : ℕ) (shape : Shape) → flows ≡ place + 8 * shape.nodes
    → settings ≡ flows + 8 → AreGood file place (net_values shape) next → Nets file place flows settings shape
nets {file} {place} {next} flows settings shape e f g =
    let heads = times shape.nodes head_fields in
    let links = times shape.links link_fields in
    let there : place + widths (times shape.nodes head_fields) ≡ flows =
    omega (arith, widths-times shape.nodes head_fields, e) in
    let rest = subst (λ (p : ℕ). AreGood file p links next) there (good_rest heads links g) in
    let end : next ≡ flows + 16 * shape.links = omega (arith, rest.next_is, widths-times shape.links link_fields) in
    record {
      heads = subst (AreGood file place heads) there (good_front heads links g);
      links = subst (AreGood file flows links) end rest;
      bytes = λ all. spelled-append file place heads links
          ∙ ap (λ (p : ℕ). spelled file place heads ++ spelled file p links) there
          ∙ ap (λ (l : List ℕ). l ++ spelled file flows links) (heads_spelled file place shape.nodes all)
          ∙ ap (λ (l : List ℕ). flat_map value_bytes (column file place 8 shape.nodes) ++ l)
          (links_spelled file flows settings shape.links all f);
    }

nets_width : (shape : Shape) → widths (net_values shape) ≡ 8 * shape.nodes + 16 * shape.links
nets_width shape = omega (
  arith,
  widths-append (times shape.nodes head_fields) (times shape.links link_fields),
  widths-times shape.nodes head_fields,
  widths-times shape.links link_fields,
)

column_length : (file : List ℕ) (place apart n : ℕ) → length (column file place apart n) ≡ n
column_length file place apart n = length-map-range_with_len (λ (k : ℕ). value_at file (place + apart * k)) 0 n

subs_length : (project : Project) (file : List ℕ) → length (new_state project file).subs ≡ length project.subs
subs_length project file = length-map-range_with_len (λ (k : ℕ). sub_at (kind_of project.subs project.options.infil) file
    (24 + 8 * length project.nodes + 16 * length project.links + 8
    + sub_width (kind_of project.subs project.options.infil) * k)) 0 (length project.subs)

-- ---- version 1
old_good : (project : Project) (file : List ℕ) → AreBytes file → is_old file ≡ true
    → IsWhole file (magic ++ counts (shape_of project) ++ net_values (shape_of project))
    → SpellsOld project file (old_state project file)
unfolding old_bytes
old_good project file all v w =
    let shape = shape_of project in
    let n = length project.nodes in
    let l = length project.links in
    let s = length project.subs in
    let front = magic ++ counts shape in
    let flows = 20 + 8 * n in
    let settings = 28 + 8 * n in
    let net = nets {place = 20} flows settings shape refl (omega arith) (good_rest front (net_values shape) w.good) in
    let h_bytes = flat_map value_bytes (column file 20 8 n) in
    let l_bytes = flat_map link_bytes (zip (column file flows 16 l) (column file settings 16 l)) in
    let spelled_all = spelled-append file 0 front (net_values shape)
    ∙ ap (λ (x : List ℕ). x ++ spelled file 20 (net_values shape))
    (top_spelled file shape true (good_front front (net_values shape) w.good) v)
    ∙ ap (λ (x : List ℕ). (codes "SWMMFXH1" ++ flat_map count_bytes (n ∷ l ∷ s ∷ [])) ++ x) (net.bytes all) in
    record {
      bytes = counted (column_length file 20 8 n) (column_length file flows 16 l) (h_bytes ++ l_bytes)
          ∙ sym (append_assoc (codes "SWMMFXH1") (flat_map count_bytes (n ∷ l ∷ s ∷ [])) (h_bytes ++ l_bytes))
          ∙ sym spelled_all ∙ spelled_whole file (front ++ net_values shape) all w.long;
      nets = record {
        nodes = column_length file 20 8 n;
        links = column_length file flows 16 l;
        as_many = column_length file settings 16 l ∙ sym (column_length file flows 16 l);
        heads_in = heads_in n net.heads;
        flows_in = flows_in l net.links;
        settings_in = settings_in settings l (omega arith) net.links;
      };
      migration = refl;
    }
  where
    counted : {a b c d : ℕ} → a ≡ b → c ≡ d → (xs : List ℕ)
        → codes "SWMMFXH1" ++ (flat_map count_bytes (a ∷ c ∷ length project.subs ∷ []) ++ xs)
        ≡ codes "SWMMFXH1" ++ (flat_map count_bytes (b ∷ d ∷ length project.subs ∷ []) ++ xs)
    counted p q xs = cc

-- the fields of a file, by its version
layout_is : (project : Project) (file : List ℕ) (old : Bool) → is_old file ≡ old
    → layout_of (shape_of project) file ≡ magic ++ counts (shape_of project)
    ++ cond old (net_values (shape_of project)) (new_fields (shape_of project))
unfolding layout_of
layout_is project file old v =
    ap (λ (b : Bool). magic ++ counts (shape_of project)
    ++ cond b (net_values (shape_of project)) (new_fields (shape_of project))) v

-- a file that is read as a state
record IsReadAs (project : Project) (file : List ℕ) (old : Bool) (state : HotState) : Type 0 where
  whole : IsWhole file (magic ++ counts (shape_of project)
      ++ cond old (net_values (shape_of project)) (new_fields (shape_of project)))
  is : cond old (old_state project file) (new_state project file) ≡ state

read_as : (project : Project) (file : List ℕ) (old : Bool) (state : HotState) → is_old file ≡ old
    → reading_of project file ≡ Good state → IsReadAs project file old state
unfolding reading_of
read_as project file old state v e =
    let held = cond (is_old file) (old_state project file) (new_state project file) in
    let read = no_fault (file_fault file (layout_of (shape_of project) file)) held state e in
    record {
      whole = subst (IsWhole file) (layout_is project file old v)
          (is_whole file (layout_of (shape_of project) file) read.none);
      is = sym (ap (λ (b : Bool). cond b (old_state project file) (new_state project file)) v) ∙ read.is;
    }

pub old_spells : (project : Project) (file : List ℕ) (state : HotState) → AreBytes file → is_old file ≡ true
    → reading_of project file ≡ Good state → SpellsOld project file state
old_spells project file state all v e =
    let r = read_as project file true state v e in
    subst (SpellsOld project file) r.is (old_good project file all v r.whole)

-- ---- version 2
-- where its parts stand
record Parts (project : Project) (file : List ℕ) : Type 0 where
  kinds : AreGood file 20 (kind (kind_number (shape_of project).kind) ∷ []) 24
  net : Nets file 24 (24 + 8 * length project.nodes) (32 + 8 * length project.nodes) (shape_of project)
  least : AreGood file (24 + 8 * length project.nodes + 16 * length project.links) least_fields
      (24 + 8 * length project.nodes + 16 * length project.links + 8)
  subs : AreGood file (24 + 8 * length project.nodes + 16 * length project.links + 8)
      (times (length project.subs) (sub_fields (shape_of project).kind)) (length file)

parts_of : (project : Project) (file : List ℕ) → AreGood file 20 (new_fields (shape_of project)) (length file)
    → Parts project file
parts_of project file g =
    let shape = shape_of project in
    let n = length project.nodes in
    let l = length project.links in
    let kinds = kind (kind_number shape.kind) ∷ [] in
    let all_subs = times shape.subs (sub_fields shape.kind) in
    let values = good_rest kinds (new_values shape) g in
    let rest = good_rest {place = 24} (net_values shape) (least_fields ++ all_subs) values in
    let there : 24 + widths (net_values shape) ≡ 24 + 8 * n + 16 * l = omega (arith, nets_width shape) in
    let after = subst (λ (p : ℕ). AreGood file p (least_fields ++ all_subs) (length file)) there rest in
    record {
      kinds = good_front kinds (new_values shape) g;
      net = nets {place = 24} (24 + 8 * n) (32 + 8 * n) shape refl (omega arith)
          (good_front {place = 24} (net_values shape) (least_fields ++ all_subs) values);
      least = good_front least_fields all_subs after;
      subs = good_rest least_fields all_subs after;
    }

-- the bytes of the values
values_spelled : (project : Project) (file : List ℕ) → AreBytes file → Parts project file
    → spelled file 24 (new_values (shape_of project)) ≡ body (new_state project file)
unfolding body
values_spelled project file all p =
    let shape = shape_of project in
    let state = new_state project file in
    let n = length project.nodes in
    let l = length project.links in
    let end = 24 + 8 * n + 16 * l in
    let all_subs = times shape.subs (sub_fields shape.kind) in
    let h_bytes = flat_map value_bytes state.heads in
    let l_bytes = flat_map link_bytes (zip state.flows state.settings) in
    let there : 24 + widths (net_values shape) ≡ end = omega (arith, nets_width shape) in
    spelled-append file 24 (net_values shape) (least_fields ++ all_subs)
    ∙ ap (λ (q : ℕ). spelled file 24 (net_values shape) ++ spelled file q (least_fields ++ all_subs)) there
    ∙ ap (λ (x : List ℕ). x ++ spelled file end (least_fields ++ all_subs)) (p.net.bytes all)
    ∙ ap (λ (x : List ℕ). (h_bytes ++ l_bytes) ++ x) (spelled-append file end least_fields all_subs
    ∙ ap (λ (x : List ℕ). x ++ spelled file (end + 8) all_subs) (spelled_value file end (pos 0) (pos 3_600_000) all)
    ∙ ap (λ (x : List ℕ). value_bytes state.least ++ x) (subs_spelled shape.kind shape.subs all p.subs))
    ∙ append_assoc h_bytes l_bytes (value_bytes state.least ++ flat_map sub_bytes state.subs)

-- the bytes of a header and then more
header_then : (state : HotState) {a b c : ℕ} (xs : List ℕ) → length state.heads ≡ a → length state.flows ≡ b
    → length state.subs ≡ c
    → header state ++ xs ≡ (codes "SWMMFXH2" ++ flat_map count_bytes (a ∷ b ∷ c ∷ []))
    ++ (count_bytes (kind_number state.kind) ++ xs)
header_then state {a} {b} {c} xs p q r =
    counted p q r
    ∙ regroup (codes "SWMMFXH2") (count_bytes a) (count_bytes b) (count_bytes c)
    (count_bytes (kind_number state.kind)) xs
  where
    counted : {a b c d e f : ℕ} → a ≡ b → c ≡ d → e ≡ f
        → (codes "SWMMFXH2" ++ flat_map count_bytes (a ∷ c ∷ e ∷ kind_number state.kind ∷ [])) ++ xs
        ≡ (codes "SWMMFXH2" ++ flat_map count_bytes (b ∷ d ∷ f ∷ kind_number state.kind ∷ [])) ++ xs
    counted p q r = cc

    regroup : (w b c d k n : List ℕ) → (w ++ (b ++ (c ++ (d ++ (k ++ []))))) ++ n
        ≡ (w ++ (b ++ (c ++ (d ++ [])))) ++ (k ++ n)
    regroup w b c d k n = simp (append_assoc)

new_bytes : (project : Project) (file : List ℕ) → AreBytes file → is_old file ≡ false
    → IsWhole file (magic ++ counts (shape_of project) ++ new_fields (shape_of project)) → Parts project file
    → hot_bytes (new_state project file) ≡ file
new_bytes project file all v w p =
    let shape = shape_of project in
    let state = new_state project file in
    let n = length project.nodes in
    let l = length project.links in
    let s = length project.subs in
    let front = magic ++ counts shape in
    let top = codes "SWMMFXH2" ++ flat_map count_bytes (n ∷ l ∷ s ∷ []) in
    let spelled_all = spelled-append file 0 front (new_fields shape)
    ∙ ap (λ (x : List ℕ). x ++ spelled file 20 (new_fields shape))
    (top_spelled file shape false (good_front front (new_fields shape) w.good) v)
    ∙ ap (λ (x : List ℕ). top ++ (x ++ spelled file 24 (new_values shape)))
    (kind_spelled (kind_number shape.kind) p.kinds)
    ∙ ap (λ (x : List ℕ). top ++ (count_bytes (kind_number shape.kind) ++ x)) (values_spelled project file all p) in
    whole_is state
    ∙ header_then state (body state) (column_length file 24 8 n) (column_length file (24 + 8 * n) 16 l)
    (subs_length project file)
    ∙ sym spelled_all ∙ spelled_whole file (front ++ new_fields shape) all w.long

no_subs_kind : (subs : List Sub) (method : InfilKind) → length subs ≡ 0 → kind_of subs method ≡ ModifiedHorton
no_subs_kind [] method h = refl
no_subs_kind (s ∷ ss) method h = absurd (omega (arith, h))

new_good : (project : Project) (file : List ℕ) → IsSound project → AreBytes file → is_old file ≡ false
    → IsWhole file (magic ++ counts (shape_of project) ++ new_fields (shape_of project))
    → Spells project file (new_state project file)
new_good project file sound all v w =
    let shape = shape_of project in
    let n = length project.nodes in
    let l = length project.links in
    let p = parts_of project file (good_rest (magic ++ counts shape) (new_fields shape) w.good) in
    let nodes = column_length file 24 8 n in
    let links = column_length file (24 + 8 * n) 16 l in
    let settings = column_length file (32 + 8 * n) 16 l in
    let subs = subs_length project file in
    record {
      bytes = new_bytes project file all v w p;
      is_kept = record {
        written = record {
          few_nodes = omega (arith, nodes, sound.few.nodes);
          few_links = omega (arith, links, sound.few.links);
          as_many = settings ∙ sym links;
          few_subs = omega (arith, subs, sound.few.subs);
          heads = heads_in n p.net.heads;
          flows = flows_in l p.net.links;
          settings = settings_in (32 + 8 * n) l (omega arith) p.net.links;
          least = value_between (pos 0) (pos 3_600_000) p.least;
          subs = hot_subs shape.kind shape.subs p.subs;
          no_subs = λ none. no_subs_kind project.subs project.options.infil (sym subs ∙ none);
        };
        subs = held_subs shape.kind shape.subs p.subs;
      };
      fits = record { nodes = nodes; links = links; subs = subs; kind = refl };
    }

pub new_spells : (project : Project) (file : List ℕ) (state : HotState) → IsSound project → AreBytes file
    → is_old file ≡ false → reading_of project file ≡ Good state → Spells project file state
new_spells project file state sound all v e =
    let r = read_as project file false state v e in
    subst (Spells project file) r.is (new_good project file sound all v r.whole)
