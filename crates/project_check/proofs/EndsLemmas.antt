-- The ends of links at a node, with one link more, and their ranges.
use Rattle.std.proofs.Common.{◌≡◌, ◌∙◌, ℕ, zero, suc, ◌+◌, ◌*◌, ◌^◌, ◌≤◌, ◌<◌, ◌==◌, eqb, Bool, true, false}
use Rattle.std.proofs.Common.{cond, List, [], ◌∷◌, ◌++◌, length, replicate, take, drop, map, get_or, IfSome}
use Rattle.std.proofs.Common.{Option, Some, None, ℤ, pos, ◌+ℤ◌, ◌≤ℤ◌, sum_by, refl, ap, sym, subst, arith}
use Rattle.std.specs.Int.{int_max}
use Rattle.std.specs.List.{All}
use Rattle.std.proofs.lemmas.Int.{ints, clamps}
use Rattle.std.proofs.lemmas.List.{take_more, length-take}
use Rattle.std.proofs.lemmas.List.Elements.{All-nil, All-cons, All-head, All-tail, All-get_or}
use Rattle.std.proofs.lemmas.List.Sums.{sum_by_push, sum_by-le}
use Rattle.std.proofs.Math.Seq.{take-append_seam}
use Rattle.fixed_num.specs.Ranges.{IsBetween, IsDepth}
use Rattle.net_types.specs.declared.network.Link.{Link}
use Rattle.net_types.specs.declared.network.LinkKind.{LinkKind}
use Rattle.net_types.specs.declared.network.LinkKind.TheVariants.{Conduit, Pump, Orifice, Weir}
use Rattle.net_types.specs.declared.network.NodeKind.{NodeKind}
use Rattle.net_types.specs.declared.network.NodeKind.TheVariants.{Junction, Outfall, Storage}
use Rattle.net_types.specs.declared.network.Section.{Section}
use Rattle.net_types.specs.declared.project.Project.{Project}
use Rattle.net_types.specs.Ranges.{LinkInRange, LinkKindInRange, NodeInRange, SectionInRange}
use Rattle.net_types.specs.Records.{no_node, node_at}
use Rattle.net_types.specs.Sound.{IsSound}
use Rattle.project_check.specs.declared.ends.NodeEnds.{NodeEnds}
use Rattle.project_check.specs.Ends.{ends_of, no_ends, node_ends_at, with_end, with_link}
use Rattle.project_check.specs.FullHeight.{conduit_height, end_top, first_offset, full_height_of, greatest_of}
use Rattle.project_check.specs.FullHeight.{highest_top, kind_height, link_top, second_offset, section_height}
use Rattle.project_check.specs.Network.{end_at, ends_at, link_ends, links_from}
use Rattle.project_check.proofs.GreatestLemmas.{greatest_found}
use Rattle.project_check.proofs.HeightLemmas.{greatest_more}

-- ---- no link
pub room_empty : (count n : ℕ) → node_ends_at (replicate count no_ends) n ≡ no_ends
room_empty zero n = refl
room_empty (suc count) zero = refl
room_empty (suc count) (suc n) = room_empty count n

pub none_yet : (n : ℕ) → no_ends ≡ ends_of [] n
unfolding highest_top
none_yet n = refl

-- ---- one link more
same_ends : {e f b c : ℕ} {t u : ℤ} → e ≡ f → b ≡ c → t ≡ u → ◌≡◌ {A = NodeEnds} (record { ends = e; begins = b; top = t }) (record { ends = f; begins = c; top = u })
same_ends p q r = cc (p, q, r)

joined : (a b : Bool) (e g : ℕ) (t x y : ℤ) → pos 0 ≤ℤ t
    → ◌≡◌ {A = NodeEnds}
    (record { ends = e + (cond a 1 0 + cond b 1 0); begins = g + cond a 1 0; top = int_max t (int_max (cond a x (pos 0)) (cond b y (pos 0))) })
    (cond b (with_end (cond a (with_end (record { ends = e; begins = g; top = t }) 1 x) (record { ends = e; begins = g; top = t })) 0 y)
    (cond a (with_end (record { ends = e; begins = g; top = t }) 1 x) (record { ends = e; begins = g; top = t })))
joined true true e g t x y h = same_ends (omega arith) (omega arith) (omega (arith, ints, clamps))
joined true false e g t x y h = same_ends (omega arith) (omega arith) (omega (arith, ints, clamps))
joined false true e g t x y h = same_ends (omega arith) (omega arith) (omega (arith, ints, clamps))
joined false false e g t x y h = same_ends (omega arith) (omega arith) (omega (arith, ints, clamps))

top_from_zero : (n : ℕ) (links : List Link) → pos 0 ≤ℤ highest_top n links
unfolding highest_top
top_from_zero n links = (greatest_found (map (link_top n) links)).least

ends_snoc : (links : List Link) (link : Link) (n : ℕ) → ends_of (links ++ link ∷ []) n ≡ with_link (ends_of links n) link n
unfolding highest_top link_top
ends_snoc links link n =
    let full = conduit_height link.kind link.section in
    same_ends (sum_by_push (ends_at n) links link) (sum_by_push (λ (l : Link). end_at n l.first) links link) (greatest_more (link_top n) links link)
    ∙ joined (eqb n link.first) (eqb n link.second) (link_ends links n) (links_from links n) (highest_top n links)
    (first_offset link.kind +ℤ full) (second_offset link.kind +ℤ full) (top_from_zero n links)

pub ends_next : (links : List Link) (i : ℕ) (link : Link) (n : ℕ) → i < length links → link ≡ get_or links i link
    → ends_of (take (i + 1) links) n ≡ with_link (ends_of (take i links) n) link n
ends_next links i link n h e =
    ap (λ (l : List Link). ends_of l n) (take_more links i link h ∙ ap (λ (x : Link). take i links ++ x ∷ []) (sym e))
    ∙ ends_snoc (take i links) link n

-- ---- few of them
one_or_none : (a : Bool) → cond a 1 0 ≤ 1
one_or_none true = omega arith
one_or_none false = omega arith

at_most_two : (n : ℕ) (links : List Link) → All (λ link. ends_at n link ≤ 2) links
at_most_two n [] = All-nil (λ link. ends_at n link ≤ 2)
at_most_two n (link ∷ links) =
    let two : ends_at n link ≤ 2 = omega (arith, one_or_none (eqb n link.first), one_or_none (eqb n link.second)) in
    All-cons (λ link. ends_at n link ≤ 2) link links two (at_most_two n links)

at_most_one : (n : ℕ) (links : List Link) → All (λ (link : Link). end_at n link.first ≤ 1) links
at_most_one n [] = All-nil (λ (link : Link). end_at n link.first ≤ 1)
at_most_one n (link ∷ links) = All-cons (λ (link : Link). end_at n link.first ≤ 1) link links (one_or_none (eqb n link.first)) (at_most_one n links)

pub few_ends : (links : List Link) (i n : ℕ) → link_ends (take i links) n ≤ 2 * i
few_ends links i n = omega (arith, sum_by-le (ends_at n) 2 (take i links) (at_most_two n (take i links)), length-take i links)

pub few_begins : (links : List Link) (i n : ℕ) → links_from (take i links) n ≤ 2 * i
few_begins links i n = omega (arith, sum_by-le (λ (link : Link). end_at n link.first) 1 (take i links) (at_most_one n (take i links)), length-take i links)

-- ---- tops
height_in : (section : Option Section) → IfSome section SectionInRange → IsDepth (section_height section)
height_in (Some section) h = record { from = omega (arith, ints, h.full_in.from); to = h.full_in.to }
height_in None h = record { from = omega (arith, ints); to = omega (arith, ints) }

conduit_height_in : (kind : LinkKind) (section : Option Section) → IfSome section SectionInRange → IsDepth (conduit_height kind section)
conduit_height_in (Conduit long n6 z1 z2 q0 q_max entry6 exit6 avg6 flap) section h = height_in section h
conduit_height_in (Pump curve on startup shutoff) section h = height_in None tt
conduit_height_in (Orifice bottom offset cd6 flap) section h = height_in None tt
conduit_height_in (Weir notch crest cd6 flap contractions) section h = height_in None tt

first_offset_in : (kind : LinkKind) → LinkKindInRange kind → IsDepth (first_offset kind)
first_offset_in (Conduit long n6 z1 z2 q0 q_max entry6 exit6 avg6 flap) h = h.z1_in
first_offset_in (Pump curve on startup shutoff) h = height_in None tt
first_offset_in (Orifice bottom offset cd6 flap) h = height_in None tt
first_offset_in (Weir notch crest cd6 flap contractions) h = height_in None tt

second_offset_in : (kind : LinkKind) → LinkKindInRange kind → IsDepth (second_offset kind)
second_offset_in (Conduit long n6 z1 z2 q0 q_max entry6 exit6 avg6 flap) h = h.z2_in
second_offset_in (Pump curve on startup shutoff) h = height_in None tt
second_offset_in (Orifice bottom offset cd6 flap) h = height_in None tt
second_offset_in (Weir notch crest cd6 flap contractions) h = height_in None tt

end_top_in : (b : Bool) {offset full : ℤ} → IsDepth offset → IsDepth full → IsBetween (pos 0) (cond b (offset +ℤ full) (pos 0)) (pos (2 * 10 ^ 9))
end_top_in true o f = record { from = omega (arith, ints, o.from, f.from); to = omega (arith, ints, o.to, f.to) }
end_top_in false o f = record { from = omega (arith, ints); to = omega (arith, ints) }

max_in : {x y : ℤ} {m : ℕ} → IsBetween (pos 0) x (pos m) → IsBetween (pos 0) y (pos m) → IsBetween (pos 0) (int_max x y) (pos m)
max_in {x} {y} {m} p q = record { from = omega (arith, ints, clamps, p.from, q.from); to = omega (arith, ints, clamps, p.to, q.to) }

link_top_in : (n : ℕ) (link : Link) → LinkInRange link → IsBetween (pos 0) (link_top n link) (pos (2 * 10 ^ 9))
unfolding link_top
link_top_in n link h =
    let full = conduit_height_in link.kind link.section h.section_in in
    max_in (end_top_in (eqb n link.first) (first_offset_in link.kind h.kind_in) full) (end_top_in (eqb n link.second) (second_offset_in link.kind h.kind_in) full)

pub highest_in : (n : ℕ) (links : List Link) → All LinkInRange links → IsBetween (pos 0) (highest_top n links) (pos (2 * 10 ^ 9))
unfolding highest_top
highest_in n [] h = record { from = omega (arith, ints); to = omega (arith, ints) }
highest_in n (link ∷ links) h = max_in (link_top_in n link (All-head LinkInRange link links h)) (highest_in n links (All-tail LinkInRange link links h))

-- a loan of a whole list that is given back
pub written_whole : {A : Type 0} (xs ys : List A) → length ys ≡ length xs → take (length xs) (ys ++ drop (length ys) xs) ≡ ys
written_whole xs ys e = rw (sym e) (take-append_seam ys (drop (length ys) xs))

-- ---- full heights
wider : {y : ℤ} → IsDepth y → IsBetween (pos 0) y (pos (2 * 10 ^ 9))
wider h = record { from = h.from; to = omega (arith, ints, h.to) }

kind_height_in : (kind : NodeKind) {y_max highest : ℤ} → IsDepth y_max → IsBetween (pos 0) highest (pos (2 * 10 ^ 9)) → IsBetween (pos 0) (kind_height kind y_max highest) (pos (2 * 10 ^ 9))
kind_height_in (Junction surcharge pond) h t = max_in (wider h) t
kind_height_in (Outfall stage gated) h t = wider h
kind_height_in (Storage shape) h t = wider h

pub full_height_in : (project : Project) → IsSound project → (k : ℕ) → k < length project.nodes → IsBetween (pos 0) (full_height_of project k) (pos (2 * 10 ^ 9))
full_height_in project sound k inside =
    let node : NodeInRange (node_at project.nodes k) = sound.ranges.nodes k no_node inside in
    kind_height_in (node_at project.nodes k).kind node.y_max_in (highest_in k project.links sound.ranges.links)
