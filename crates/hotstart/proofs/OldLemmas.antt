-- A file of version 1 is read by its migration.
use Rattle.std.proofs.Common.{◌≡◌, ◌∙◌, ℕ, ◌+◌, ◌*◌, ◌^◌, Bool, true, cond, List, [], ◌++◌}
use Rattle.std.proofs.Common.{length, codes, Option, None, ℤ, refl, sym, ap, subst, arith, zip, flat_map}
use Rattle.std.proofs.Common.{length-append}
use Rattle.net_types.specs.declared.project.Project.{Project}
use Rattle.net_types.specs.Sound.{IsSound}
use Rattle.hotstart.specs.Checks.{AreGood, IsGoodFile}
use Rattle.hotstart.specs.HotBytes.{count_bytes, link_bytes, value_bytes}
use Rattle.hotstart.specs.Layout.{counts, file_fault, is_old, layout_of, magic, net_values, new_fields, rest_of}
use Rattle.hotstart.specs.Reading.{answer_or, column, kind_of, new_state, old_state, reading_of, shape_of}
use Rattle.hotstart.specs.WrittenBack.{AreNetsFor, migrated, old_bytes}
use Rattle.hotstart.specs.declared.read.HotRead.TheVariants.{Good}
use Rattle.hotstart.specs.declared.refusal.Refusal.{Refusal}
use Rattle.hotstart.specs.declared.shape.Shape.{Shape}
use Rattle.hotstart.proofs.BackLemmas.{heads_good, links_good, links_length}
use Rattle.hotstart.proofs.CheckLemmas.{file_good, good_then}
use Rattle.hotstart.proofs.EqualLemmas.{between_all, count_length, within_all}
use Rattle.hotstart.proofs.GoodLemmas.{count_good, magic_good}
use Rattle.hotstart.proofs.StandLemmas.{Stands, column_stands, flows_stand, settings_stand, stands_front, stands_rest}
use Rattle.hotstart.proofs.StandLemmas.{stands_whole}
use Rattle.hotstart.proofs.SubLemmas.{values_length}

-- where the parts of the file stand
record Laid (file : List ℕ) (subs : ℕ) (heads flows settings : List ℤ) : Type 0 where
  magic_word : Stands file 0 (codes "SWMMFXH1")
  nodes : Stands file 8 (count_bytes (length heads))
  links : Stands file 12 (count_bytes (length flows))
  sub_count : Stands file 16 (count_bytes subs)
  heads_there : Stands file 20 (flat_map value_bytes heads)
  links_there : Stands file (20 + 8 * length heads) (flat_map link_bytes (zip flows settings))
  whole : length file ≡ 20 + 8 * length heads + 16 * length flows

laid : (subs : ℕ) (heads flows settings : List ℤ) → length settings ≡ length flows
    → Laid (old_bytes subs heads flows settings) subs heads flows settings
unfolding old_bytes
laid subs heads flows settings same =
    let a = count_bytes (length heads) in
    let b = count_bytes (length flows) in
    let c = count_bytes subs in
    let hs = flat_map value_bytes heads in
    let ls = flat_map link_bytes (zip flows settings) in
    let three = a ++ (b ++ (c ++ [])) in
    let file = codes "SWMMFXH1" ++ (three ++ (hs ++ ls)) in
    let la = count_length (length heads) in
    let lb = count_length (length flows) in
    let lc = count_length subs in
    let three_length : length three ≡ 12 =
    omega (arith, length-append a (b ++ (c ++ [])), length-append b (c ++ []), length-append c [], la, lb, lc) in
    let s = stands_whole file in
    let rest = stands_rest {next = 8} (codes "SWMMFXH1") (three ++ (hs ++ ls)) s refl in
    let one = stands_front three (hs ++ ls) rest in
    let two = stands_rest {next = 12} a (b ++ (c ++ [])) one (omega (arith, la)) in
    let last = stands_rest {next = 16} b (c ++ []) two (omega (arith, lb)) in
    let body = stands_rest {next = 20} three (hs ++ ls) rest (omega (arith, three_length)) in
    record {
      magic_word = stands_front (codes "SWMMFXH1") (three ++ (hs ++ ls)) s;
      nodes = stands_front a (b ++ (c ++ [])) one;
      links = stands_front b (c ++ []) two;
      sub_count = stands_front c [] last;
      heads_there = stands_front hs ls body;
      links_there = stands_rest hs ls body (omega (arith, values_length heads));
      whole = omega (
        arith,
        length-append (codes "SWMMFXH1") (three ++ (hs ++ ls)),
        length-append three (hs ++ ls),
        length-append hs ls,
        three_length,
        values_length heads,
        links_length flows settings same,
      );
    }

old_version : (subs : ℕ) (heads flows settings : List ℤ) → is_old (old_bytes subs heads flows settings) ≡ true
unfolding old_bytes
old_version subs heads flows settings = refl

-- its fields
abbrev shape_in : Project → (heads flows : List ℤ) → Shape
shape_in project heads flows = record {
  nodes = length heads;
  links = length flows;
  subs = length project.subs;
  kind = kind_of project.subs project.options.infil;
}

old_file_good : (project : Project) (heads flows settings : List ℤ) → IsSound project
    → AreNetsFor project heads flows settings
    → IsGoodFile (old_bytes (length project.subs) heads flows settings)
    (layout_of (shape_in project heads flows) (old_bytes (length project.subs) heads flows settings))
unfolding layout_of
old_file_good project heads flows settings sound h =
    let subs = length project.subs in
    let file = old_bytes subs heads flows settings in
    let shape = shape_in project heads flows in
    let l = laid subs heads flows settings h.as_many in
    let end = 20 + 8 * length heads + 16 * length flows in
    let word = magic_good 49 (omega arith) refl l.magic_word in
    let nodes = count_good {next = 12} 0 (length heads) (length heads) l.nodes
    (omega (arith, h.nodes, sound.few.nodes)) refl refl in
    let links = count_good {next = 16} 1 (length flows) (length flows) l.links
    (omega (arith, h.links, sound.few.links)) refl refl in
    let sub_count = count_good {next = 20} 2 subs subs l.sub_count (omega (arith, sound.few.subs)) refl refl in
    let top = good_then word (good_then nodes (good_then links sub_count)) in
    let all_heads = heads_good {next = 20 + 8 * length heads} heads h.heads_in l.heads_there refl in
    let all_links = links_good {next = end} flows settings h.flows_in h.settings_in h.as_many l.links_there refl in
    let good = good_then top (good_then all_heads all_links) in
    let rest : rest_of shape file ≡ net_values shape =
    ap (λ (b : Bool). cond b (net_values shape) (new_fields shape)) (old_version subs heads flows settings) in
    let all = subst (λ r. AreGood file 0 (magic ++ counts shape ++ r) end) (sym rest) good in
    file_good file (magic ++ counts shape ++ rest_of shape file) end all (omega (arith, l.whole))

state_back : (project : Project) (heads flows settings : List ℤ) → AreNetsFor project heads flows settings
    → old_state project (old_bytes (length project.subs) heads flows settings) ≡ migrated project heads flows settings
state_back project heads flows settings h =
    let file = old_bytes (length project.subs) heads flows settings in
    let l = laid (length project.subs) heads flows settings h.as_many in
    let nodes : length heads ≡ length project.nodes = h.nodes in
    let place : 20 + 8 * length heads ≡ 20 + 8 * length project.nodes = omega (arith, h.nodes) in
    let hs = column_stands heads (length project.nodes) l.heads_there h.nodes
    (within_all (2 * 10 ^ 10) heads (omega arith) h.heads_in) in
    let links_there = subst (λ (p : ℕ). Stands file p (flat_map link_bytes (zip flows settings))) place l.links_there in
    let fs = flows_stand flows settings (length project.links) links_there h.as_many h.links
    (within_all (10 ^ 12) flows (omega arith) h.flows_in) in
    let ss = settings_stand {next = 28 + 8 * length project.nodes} flows settings (length project.links) links_there
    h.as_many h.links (omega arith) (between_all (10 ^ 6) settings (omega arith) h.settings_in) in
    ap (λ (x : List ℤ). migrated project x (column file (20 + 8 * length project.nodes) 16 (length project.links))
    (column file (28 + 8 * length project.nodes) 16 (length project.links))) (sym hs)
    ∙ ap (λ (x : List ℤ). migrated project heads x
    (column file (28 + 8 * length project.nodes) 16 (length project.links))) (sym fs)
    ∙ ap (λ (x : List ℤ). migrated project heads flows x) (sym ss)

abbrev shape_with : Project → (nodes links : ℕ) → Shape
shape_with project n m = record {
  nodes = n;
  links = m;
  subs = length project.subs;
  kind = kind_of project.subs project.options.infil;
}

shape_same : (project : Project) (heads flows : List ℤ) → length heads ≡ length project.nodes
    → length flows ≡ length project.links → shape_in project heads flows ≡ shape_of project
shape_same project heads flows a b =
    ap (λ (n : ℕ). shape_with project n (length flows)) a
    ∙ ap (λ (m : ℕ). shape_with project (length project.nodes) m) b

pub old_back : (project : Project) (heads flows settings : List ℤ) → IsSound project
    → AreNetsFor project heads flows settings
    → reading_of project (old_bytes (length project.subs) heads flows settings)
    ≡ Good (migrated project heads flows settings)
unfolding reading_of
old_back project heads flows settings sound h =
    let file = old_bytes (length project.subs) heads flows settings in
    let e = shape_same project heads flows h.nodes h.links in
    let none : file_fault file (layout_of (shape_of project) file) ≡ None =
    ap (λ (s : Shape). file_fault file (layout_of s file)) (sym e)
    ∙ (old_file_good project heads flows settings sound h).no_fault in
    ap (λ (o : Option Refusal). answer_or o (cond (is_old file) (old_state project file) (new_state project file))) none
    ∙ ap (λ (b : Bool). Good (cond b (old_state project file) (new_state project file)))
    (old_version (length project.subs) heads flows settings)
    ∙ ap Good (state_back project heads flows settings h)
