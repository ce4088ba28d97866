-- The highest top of the links so far.
use Rattle.std.proofs.Common.{◌≡◌, ◌∙◌, ℕ, ◌+◌, ◌<◌, List, [], ◌∷◌, ◌++◌, length}
use Rattle.std.proofs.Common.{take, map, get_or, ℤ, pos, refl, ap, sym, arith}
use Rattle.std.specs.Int.{int_max}
use Rattle.std.proofs.lemmas.Int.{ints, clamps}
use Rattle.std.proofs.lemmas.List.{take_more, get_or_default}
use Rattle.net_types.specs.declared.network.Link.{Link}
use Rattle.net_types.specs.declared.network.Node.{Node}
use Rattle.project_check.specs.FullHeight.{link_top, greatest_of, highest_top}
use Rattle.net_types.specs.Records.{no_node, node_at}

max_again : (a b c : ℤ) → int_max a (int_max b c) ≡ int_max (int_max a b) c
max_again a b c = omega (arith, ints, clamps)

max_zero : (a : ℤ) → int_max a (pos 0) ≡ int_max (pos 0) a
max_zero a = omega (arith, ints, clamps)

pub greatest_more : (f : Link → ℤ) (xs : List Link) (y : Link) → greatest_of (map f (xs ++ y ∷ [])) ≡ int_max (greatest_of (map f xs)) (f y)
greatest_more f [] y = max_zero (f y)
greatest_more f (x ∷ xs) y = ap (int_max (f x)) (greatest_more f xs y) ∙ max_again (f x) (greatest_of (map f xs)) (f y)

pub highest_none : (node : ℕ) → highest_top node [] ≡ pos 0
unfolding highest_top
highest_none node = refl

pub highest_next : (node : ℕ) (links : List Link) (i : ℕ) (link : Link) → i < length links → link ≡ get_or links i link → highest_top node (take (i + 1) links) ≡ int_max (highest_top node (take i links)) (link_top node link)
unfolding highest_top
highest_next node links i link h e =
    ap (λ (l : List Link). greatest_of (map (link_top node) l)) (take_more links i link h ∙ ap (λ (x : Link). take i links ++ x ∷ []) (sym e))
    ∙ greatest_more (link_top node) (take i links) link

pub highest_step : (node : ℕ) (links : List Link) (i : ℕ) (link : Link) (before top after : ℤ) → i < length links → link ≡ get_or links i link
    → before ≡ highest_top node (take i links) → top ≡ link_top node link → after ≡ int_max before top → after ≡ highest_top node (take (i + 1) links)
highest_step node links i link before top after h e was is step =
    step ∙ (ap (λ (z : ℤ). int_max z top) was ∙ (ap (int_max (highest_top node (take i links))) is ∙ sym (highest_next node links i link h e)))

-- a node that was read from a list
pub node_is : (nodes : List Node) (k : ℕ) (node : Node) → k < length nodes → node ≡ get_or nodes k node → node ≡ node_at nodes k
node_is nodes k node h e = e ∙ get_or_default nodes k node no_node h
