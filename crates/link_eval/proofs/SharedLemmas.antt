-- Laws with the tables of their numbers.
use Rattle.std.proofs.Common.{◌≡◌, ◌∙◌, ℕ, zero, suc, ◌<◌, List, [], ◌∷◌, ◌++◌, length, map, get_or, refl, ap, sym, subst, arith}
use Rattle.std.specs.List.{All}
use Rattle.std.proofs.lemmas.Int.{ints}
use Rattle.std.proofs.lemmas.List.{length-map, get_or-map, map-append}
use Rattle.std.proofs.lemmas.List.Elements.{All-get_or}
use Rattle.conduit_flow.specs.Conduits.{IsConduitTable}
use Rattle.xsect_tables.specs.SectionTable.{SectionTable}
use Rattle.link_eval.specs.Good.{IsGood, IsGoodLink}
use Rattle.link_eval.specs.Hydraulics.{Hydraulics, link_law_at}
use Rattle.link_eval.specs.LinkLaws.{IsLinkRule, no_link_law}
use Rattle.link_eval.specs.SharedTables.{Keeps, law_with, laws_with, rule_with, table_at}
use Rattle.link_eval.specs.declared.link_law.LinkLaw.{LinkLaw}
use Rattle.link_eval.specs.declared.link_law.LinkRule.{LinkRule}
use Rattle.link_eval.specs.declared.link_law.LinkRule.TheVariants.{Conduit, Pump, Orifice, Weir}

-- a number whose table can be routed is that of a table
pub has_table : (tables : List SectionTable) (number : ℕ) → IsConduitTable (table_at tables number) → number < length tables
has_table [] number t = let no : ⊥ = omega (arith, ints, t.full.from) in absurd no
has_table (x ∷ xs) zero t = omega arith
has_table (x ∷ xs) (suc n) t = omega (arith, has_table xs n t)

-- as many laws as are seen
pub law_count : (tables : List SectionTable) (laws : List (LinkLaw ℕ)) (links : List (LinkLaw SectionTable)) → laws_with tables laws ≡ links → length laws ≡ length links
unfolding laws_with
law_count tables laws links view = sym (length-map laws (law_with tables)) ∙ ap length view

-- one that is read from all laws, with all tables, and its place among them
pub seen_law : (h : Hydraulics) (tables ts : List SectionTable) (laws ys : List (LinkLaw ℕ)) (link : ℕ) (none : LinkLaw ℕ)
    → laws_with tables laws ≡ h.links → ts ≡ tables → ys ≡ laws → link < length h.links → law_with ts (get_or ys link none) ≡ link_law_at h link
unfolding link_law_at laws_with
seen_law h tables ts laws ys link none view same all inside =
    let count = law_count tables laws h.links view in
    ap (λ t. law_with t (get_or ys link none)) same
    ∙ (ap (λ l. law_with tables (get_or l link none)) all
    ∙ (sym (get_or-map (law_with tables) laws link none no_link_law (omega (arith, count, inside)))
    ∙ ap (λ l. get_or l link no_link_law) view))

pub good_law : (h : Hydraulics) (tables ts : List SectionTable) (laws ys : List (LinkLaw ℕ)) (link : ℕ) (none : LinkLaw ℕ) → IsGood h
    → laws_with tables laws ≡ h.links → ts ≡ tables → ys ≡ laws → link < length h.links → IsGoodLink (length h.nodes) (length h.curves) (law_with ts (get_or ys link none))
good_law h tables ts laws ys link none good view same all inside =
    subst (IsGoodLink (length h.nodes) (length h.curves)) (sym (seen_law h tables ts laws ys link none view same all inside)) (good.links link inside)

pub has_law : (h : Hydraulics) (tables : List SectionTable) (laws ys : List (LinkLaw ℕ)) (link : ℕ) → laws_with tables laws ≡ h.links → ys ≡ laws → link < length h.links → link < length ys
has_law h tables laws ys link view all inside = omega (arith, law_count tables laws h.links view, ap length all, inside)

-- ---- more tables change no law
rule_same : (old new : List SectionTable) (rule : LinkRule ℕ) → Keeps old new → IsLinkRule (rule_with old rule) → rule_with new rule ≡ rule_with old rule
rule_same old new (Conduit law) k r = ap (λ (t : SectionTable). Conduit (record { conduit = law.conduit; table = t })) (k.each law.table (has_table old law.table r.table))
rule_same old new (Pump law) k r = refl
rule_same old new (Orifice law) k r = ap (λ (t : SectionTable). Orifice (record { ends = law.ends; orifice = law.orifice; table = t })) (k.each law.table (has_table old law.table r.table))
rule_same old new (Weir law) k r = refl

law_same : (nodes curves : ℕ) (old new : List SectionTable) (law : LinkLaw ℕ) → Keeps old new → IsGoodLink nodes curves (law_with old law) → law_with new law ≡ law_with old law
unfolding law_with
law_same nodes curves old new law k g =
    ap (λ (r : LinkRule SectionTable). record { first = law.first; second = law.second; rule = r }) (rule_same old new law.rule k g.rule)

map_same : {X Y : Type 0} (f g : X → Y) (xs : List X) → ((i : ℕ) (d : X) → i < length xs → f (get_or xs i d) ≡ g (get_or xs i d)) → map f xs ≡ map g xs
map_same f g [] same = refl
map_same f g (x ∷ xs) same = cc (same zero x (omega arith), map_same f g xs (λ i d inside. same (suc i) d (omega (arith, inside))))

pub laws_same : (nodes curves : ℕ) (old new : List SectionTable) (laws : List (LinkLaw ℕ)) → Keeps old new → All (IsGoodLink nodes curves) (laws_with old laws) → laws_with new laws ≡ laws_with old laws
unfolding laws_with
laws_same nodes curves old new laws k all =
    map_same (law_with new) (law_with old) laws
    (λ i d inside. law_same nodes curves old new (get_or laws i d) k
    (subst (IsGoodLink nodes curves) (get_or-map (law_with old) laws i d (law_with old d) inside)
    (All-get_or (IsGoodLink nodes curves) (map (law_with old) laws) i (law_with old d) (omega (arith, length-map laws (law_with old), inside)) all)))

-- one law more, and perhaps one table
pub laws_step : (nodes curves : ℕ) (old new : List SectionTable) (laws more : List (LinkLaw ℕ)) (law : LinkLaw ℕ) → Keeps old new
    → All (IsGoodLink nodes curves) (laws_with old laws) → more ≡ laws ++ law ∷ [] → laws_with new more ≡ laws_with old laws ++ law_with new law ∷ []
unfolding laws_with
laws_step nodes curves old new laws more law k all step =
    ap (λ l. map (law_with new) l) step
    ∙ (map-append (law_with new) laws (law ∷ []) ∙ ap (λ l. l ++ law_with new law ∷ []) (laws_same nodes curves old new laws k all))
