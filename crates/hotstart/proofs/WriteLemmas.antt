-- Links that are put one after the other.
use Rattle.std.proofs.Common.{◌≡◌, ◌∙◌, ℕ, ◌+◌, ◌<◌, ◌≤◌, List, [], ◌∷◌, ◌++◌, length, take}
use Rattle.std.proofs.Common.{get_or, Option, ℤ, pos, refl, sym, ap, subst, arith, zip, flat_map}
use Rattle.std.specs.Io.KnownBytes.{Appends}
use Rattle.std.proofs.lemmas.Grind.{flat_map-append}
use Rattle.std.proofs.lemmas.List.{take_more, take_all}
use Rattle.std.proofs.lemmas.Slice.Zip.{get_or-zip, length-zip}
use Rattle.fault_ports.specs.Causes.{HasNotFailed}
use Rattle.fault_ports.specs.Output.{AppendsPrefix}
use Rattle.fault_ports.specs.declared.faults.Faults.{Faults}
use Rattle.fault_ports.proofs.OutputLemmas.{PutItems, appends_then, prefix_at}
use Rattle.hotstart.specs.HotBytes.{value_bytes, link_bytes}

append_none : {A : Type 0} (xs : List A) → xs ++ [] ≡ xs
append_none [] = refl
append_none (x ∷ xs) = ap (λ l. x ∷ l) (append_none xs)

-- the flow and the setting of a link, from the lists
link_is : (flows settings : List ℤ) (k : ℕ) → k < length flows → length settings ≡ length flows
    → get_or (zip flows settings) k (pos 0, pos 0) ≡ (get_or flows k (pos 0), get_or settings k (pos 0))
link_is flows settings k h same = get_or-zip flows settings k (pos 0, pos 0) h (omega (arith, h, same))

links_count : (flows settings : List ℤ) → length settings ≡ length flows → length (zip flows settings) ≡ length flows
links_count flows settings same = omega (arith, length-zip flows settings, same)

-- one more link
pub links_more : (held₀ held₁ held₂ : Option (List ℕ)) (faults₀ faults₁ faults₂ : Faults) (flows settings : List ℤ) (k : ℕ)
    → k < length flows → length settings ≡ length flows → PutItems held₀ held₁ faults₀ faults₁ link_bytes (zip flows settings) k
    → Appends held₁ held₂ (value_bytes (get_or flows k (pos 0)) ++ value_bytes (get_or settings k (pos 0))) → HasNotFailed faults₁ faults₂
    → PutItems held₀ held₂ faults₀ faults₂ link_bytes (zip flows settings) (k + 1)
links_more held₀ held₁ held₂ faults₀ faults₁ faults₂ flows settings k h same so_far put kept = record {
  front = subst (Appends held₀ held₂) (sym split) (appends_then held₀ held₁ held₂ (flat_map link_bytes (take k links)) (link_bytes link) so_far.front
      (subst (λ (l : ℤ × ℤ). Appends held₁ held₂ (link_bytes l)) (sym (link_is flows settings k h same)) put));
  kept = kept ∙ so_far.kept;
}
  where
    links : List (ℤ × ℤ)
    links = zip flows settings

    link : ℤ × ℤ
    link = get_or (zip flows settings) k (pos 0, pos 0)

    split : flat_map link_bytes (take (k + 1) (zip flows settings)) ≡ flat_map link_bytes (take k (zip flows settings)) ++ link_bytes (get_or (zip flows settings) k (pos 0, pos 0))
    split = ap (flat_map link_bytes) (take_more (zip flows settings) k (pos 0, pos 0) (omega (arith, h, links_count flows settings same)))
        ∙ flat_map-append link_bytes (take k (zip flows settings)) (get_or (zip flows settings) k (pos 0, pos 0) ∷ [])
        ∙ ap (λ (l : List ℕ). flat_map link_bytes (take k (zip flows settings)) ++ l) (append_none (link_bytes (get_or (zip flows settings) k (pos 0, pos 0))))

-- a put that fails inside a link
pub links_fault : (held₀ held₁ held₂ : Option (List ℕ)) (flows settings : List ℤ) (k : ℕ) → k < length flows → length settings ≡ length flows
    → Appends held₀ held₁ (flat_map link_bytes (take k (zip flows settings)))
    → AppendsPrefix held₁ held₂ (value_bytes (get_or flows k (pos 0)) ++ value_bytes (get_or settings k (pos 0)))
    → AppendsPrefix held₀ held₂ (flat_map link_bytes (zip flows settings))
links_fault held₀ held₁ held₂ flows settings k h same front put =
    prefix_at link_bytes held₀ held₁ held₂ (zip flows settings) k (pos 0, pos 0) (omega (arith, h, links_count flows settings same)) front
    (subst (λ (l : ℤ × ℤ). AppendsPrefix held₁ held₂ (link_bytes l)) (sym (link_is flows settings k h same)) put)

-- all links
pub links_all : (held₀ held₁ : Option (List ℕ)) (flows settings : List ℤ) (k : ℕ) → length flows ≤ k → length settings ≡ length flows
    → Appends held₀ held₁ (flat_map link_bytes (take k (zip flows settings))) → Appends held₀ held₁ (flat_map link_bytes (zip flows settings))
links_all held₀ held₁ flows settings k h same front =
    subst (λ (l : List (ℤ × ℤ)). Appends held₀ held₁ (flat_map link_bytes l)) (take_all k (zip flows settings) (omega (arith, h, links_count flows settings same))) front
