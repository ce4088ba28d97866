-- Lines of pairs: a list and another beside it, of which the lines of the first so many pairs were added.
use Rattle.std.proofs.Common.{◌≡◌, ℕ, suc, ◌+◌, ◌<◌, ◌≤◌, min, List, [], ◌∷◌, ◌++◌, length, get_or, take}
use Rattle.std.proofs.Common.{sym, ap, ◌∙◌, subst, take-suc, take_all, append-nil, arith}
use Rattle.std.proofs.lemmas.Grind.{flat_map-append}
use Rattle.std.proofs.lemmas.Slice.Zip.{get_or-zip, length-zip}
use Rattle.std.specs.List.{flat_map, zip}
use Rattle.report_port.proofs.Chain.{◌⨾◌}
use Rattle.report_port.specs.Adding.{Adds}
use Rattle.report_port.specs.declared.report.Report.{Report}

module _ {A B : Type 0} (line : A × B → List ℕ) (ks : List A) (vs : List B) where
  -- the lines up to the next pair
  lines_next : (place : ℕ) (k : A) (default : B) → place < length ks → place < length vs → k ≡ get_or ks place k
      → flat_map line (take (place + 1) (zip ks vs)) ≡ flat_map line (take place (zip ks vs)) ++ line (k, get_or vs place default)
  lines_next place k default in_ks in_vs is =
      let pairs = zip ks vs in
      let pair : A × B = (k, default) in
      let one : place + 1 ≡ suc place = omega arith in
      let within : place < length pairs = omega (arith, in_ks, in_vs, length-zip ks vs) in
      let here : get_or pairs place pair ≡ (k, get_or vs place default) =
      get_or-zip ks vs place pair in_ks in_vs ∙ ap (λ x. (x, get_or vs place default)) (sym is) in
      let longer : take (place + 1) pairs ≡ take place pairs ++ ((k, get_or vs place default) ∷ []) =
      ap (λ n. take n pairs) one ∙ take-suc pairs place pair within ∙ ap (λ p. take place pairs ++ (p ∷ [])) here in
      ap (flat_map line) longer ∙ flat_map-append line (take place pairs) ((k, get_or vs place default) ∷ [])
      ∙ ap (λ l. flat_map line (take place pairs) ++ l) (append-nil (line (k, get_or vs place default)))

  -- one line more was added
  pub line_more : {W : Type 0} {g : _} {a b c : Report W g} (place : ℕ) (k : A) (default : B) → place < length ks → place < length vs → k ≡ get_or ks place k
      → Adds a b (flat_map line (take place (zip ks vs))) → Adds b c (line (k, get_or vs place default)) → Adds a c (flat_map line (take (place + 1) (zip ks vs)))
  line_more {a = a} {c = c} place k default in_ks in_vs is so_far now =
      subst (λ (part : List ℕ). Adds a c part) (sym (lines_next place k default in_ks in_vs is)) (so_far ⨾ now)

  -- all lines were added
  pub lines_end : {W : Type 0} {g : _} {a b : Report W g} (count : ℕ) → count ≡ min (length ks) (length vs) → Adds a b (flat_map line (take count (zip ks vs)))
      → Adds a b (flat_map line (zip ks vs))
  lines_end {a = a} {b = b} count all so_far =
      subst (λ pairs. Adds a b (flat_map line pairs)) (take_all count (zip ks vs) (omega (arith, all, length-zip ks vs))) so_far

-- all lines of a list were added
pub items_end : {T W : Type 0} {g : _} {a b : Report W g} (line : T → List ℕ) (items : List T) (count : ℕ) → length items ≤ count → Adds a b (flat_map line (take count items))
    → Adds a b (flat_map line items)
items_end {a = a} {b = b} line items count all so_far = subst (λ lines. Adds a b (flat_map line lines)) (take_all count items all) so_far
