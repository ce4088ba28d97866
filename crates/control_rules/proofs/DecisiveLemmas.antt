-- The action that decides on a link.
use Rattle.std.proofs.Common.{◌≡◌, ◌≢◌, ◌∙◌, ℕ, zero, suc, ◌<◌, Bool, true, false, cond}
use Rattle.std.proofs.Common.{List, [], ◌∷◌, ◌++◌, map, Option, Some, None, ℤ, ◌==◌, refl}
use Rattle.std.proofs.Common.{sym, ap, subst, arith, find, slice_get, nat_lt, option_map}
use Rattle.std.proofs.lemmas.Bool.Decides.{nat_tests}
use Rattle.std.proofs.lemmas.Int.{ints}
use Rattle.net_types.specs.declared.rules.Action.{Action}
use Rattle.control_rules.specs.Places.{is_on}
use Rattle.control_rules.specs.Settings.{Taken, taken_by, outranks, stronger, decisive, IsDecisive}

-- the stronger of two choices, the first unless the second outranks it
abbrev pub joined : Option Taken → Option Taken → Option Taken
joined None b = b
joined (Some a) b = Some (stronger a b)

-- nothing outranks itself
pub outranks-self : (p : Option ℤ) → outranks p p ≡ false
outranks-self None = refl
outranks-self (Some a) = grind (arith, ints)

-- above what is above is above
outranks-trans : (a b c : Option ℤ) → outranks a b ≡ true → outranks b c ≡ true → outranks a c ≡ true
outranks-trans None b c h k = absurd (cc)
outranks-trans (Some a) None c h k = absurd (cc)
outranks-trans (Some a) (Some b) None h k = refl
outranks-trans (Some a) (Some b) (Some c) h k = grind (arith, ints)

-- not above what is not above is not above
outranks-not : (a b c : Option ℤ) → outranks a b ≡ false → outranks b c ≡ false → outranks a c ≡ false
outranks-not None b c h k = refl
outranks-not (Some a) None c h k = absurd (cc)
outranks-not (Some a) (Some b) None h k = absurd (cc)
outranks-not (Some a) (Some b) (Some c) h k = grind (arith, ints)

-- nothing is no stronger
pub joined-none : (a : Option Taken) → joined a None ≡ a
joined-none None = refl
joined-none (Some a) = refl

pub joined-assoc : (a b c : Option Taken) → joined (joined a b) c ≡ joined a (joined b c)
joined-assoc None b c = refl
joined-assoc (Some a) None c = refl
joined-assoc (Some a) (Some b) None = ap Some (refl)
joined-assoc (Some a) (Some b) (Some c) = ap Some (three (outranks b.priority a.priority) (outranks c.priority b.priority) (outranks c.priority a.priority) refl refl refl)
  where
    three : (ba cb ca : Bool) → outranks b.priority a.priority ≡ ba → outranks c.priority b.priority ≡ cb → outranks c.priority a.priority ≡ ca
        → stronger (cond ba b a) (Some c) ≡ stronger a (Some (cond cb c b))
    three true true true e f g = cc
    three true true false e f g = absurd (let h = outranks-trans c.priority b.priority a.priority f e in cc)
    three true false ca e f g = ap (λ (w : Bool). cond w c b) f ∙ sym (ap (λ (w : Bool). cond w b a) e)
    three false true ca e f g = refl
    three false false true e f g = absurd (let h = outranks-not c.priority b.priority a.priority f e in cc)
    three false false false e f g = ap (λ (w : Bool). cond w c a) g ∙ sym (ap (λ (w : Bool). cond w b a) e)

-- the first of a list against the rest
decisive-cons : (one : Taken) (later : List Taken) (link : ℕ) → decisive (one ∷ later) link ≡ joined (cond (one.action.link == link) (Some one) None) (decisive later link)
decisive-cons one later link = by_link (one.action.link == link)
  where
    by_link : (b : Bool) → cond b (Some (stronger one (decisive later link))) (decisive later link) ≡ joined (cond b (Some one) None) (decisive later link)
    by_link true = refl
    by_link false = refl

-- some actions, and then more
pub decisive-append : (xs ys : List Taken) (link : ℕ) → decisive (xs ++ ys) link ≡ joined (decisive xs link) (decisive ys link)
decisive-append [] ys link = refl
decisive-append (x ∷ xs) ys link =
    decisive-cons x (xs ++ ys) link ∙ ap (joined (cond (x.action.link == link) (Some x) None)) (decisive-append xs ys link)
    ∙ sym (joined-assoc (cond (x.action.link == link) (Some x) None) (decisive xs link) (decisive ys link))
    ∙ ap (λ (o : Option Taken). joined o (decisive ys link)) (sym (decisive-cons x xs link))

-- of actions of one priority, the first on a link decides
pub decisive-equal : (p : Option ℤ) (acts : List Action) (link : ℕ) → decisive (map (taken_by p) acts) link ≡ option_map (taken_by p) (find (is_on link) acts)
decisive-equal p [] link = refl
decisive-equal p (a ∷ acts) link =
    decisive-cons (taken_by p a) (map (taken_by p) acts) link
    ∙ ap (joined (cond (a.link == link) (Some (taken_by p a)) None)) (decisive-equal p acts link)
    ∙ by_link (a.link == link) (find (is_on link) acts)
  where
    by_link : (b : Bool) (o : Option Action) → joined (cond b (Some (taken_by p a)) None) (option_map (taken_by p) o) ≡ option_map (taken_by p) (cond b (Some a) o)
    by_link true None = refl
    by_link true (Some x) = ap (λ (w : Bool). Some (cond w (taken_by p x) (taken_by p a))) (outranks-self p)
    by_link false o = refl

-- what outranks another is not outranked by it
outranks-asym : (a b : Option ℤ) → outranks a b ≡ true → outranks b a ≡ false
outranks-asym None b h = absurd (cc)
outranks-asym (Some a) None h = refl
outranks-asym (Some a) (Some b) h = grind (arith, ints)

on_true : (a b : ℕ) → (a == b) ≡ true → a ≡ b
on_true a b e = grind (arith, nat_tests)

on_false : (a b : ℕ) → (a == b) ≡ false → a ≢ b
on_false a b e = grind (arith, nat_tests)

one_is : {A : Type 0} {a b : A} → Some a ≡ Some b → a ≡ b
one_is e = cc

-- none decides only where none is on the link
pub decisive_none : (taken : List Taken) (link : ℕ) → decisive taken link ≡ None → (k : ℕ) (one : Taken) → slice_get taken k ≡ Some one → one.action.link ≢ link
decisive_none [] link e k one s = absurd (cc)
decisive_none (t ∷ ts) link e k one s = by_link (t.action.link == link) refl e k s (λ (d : decisive ts link ≡ None) (j : ℕ) (g : slice_get ts j ≡ Some one). decisive_none ts link d j one g)
  where
    by_link : (b : Bool) → (t.action.link == link) ≡ b → cond b (Some (stronger t (decisive ts link))) (decisive ts link) ≡ None → (k : ℕ) → slice_get (t ∷ ts) k ≡ Some one
        → (decisive ts link ≡ None → (j : ℕ) → slice_get ts j ≡ Some one → one.action.link ≢ link) → one.action.link ≢ link
    by_link true q e k s later = absurd (cc)
    by_link false q e zero s later = subst (λ (x : Taken). x.action.link ≢ link) (one_is s) (on_false t.action.link link q)
    by_link false q e (suc j) s later = later e j s

-- the decisive action of a list stands where the list has one more in front
later_decides : (t : Taken) (ts : List Taken) (link : ℕ) (one : Taken) → IsDecisive ts link one
    → (t.action.link ≡ link → (outranks t.priority one.priority ≡ false) × (outranks one.priority t.priority ≡ true)) → IsDecisive (t ∷ ts) link one
later_decides t ts link one d h = record {
  place = suc d.place;
  stands = d.stands;
  on_link = d.on_link;
  greatest = great;
  first = before;
}
  where
    great : (k : ℕ) (other : Taken) → slice_get (t ∷ ts) k ≡ Some other → other.action.link ≡ link → outranks other.priority one.priority ≡ false
    great zero other s on = let same : t ≡ other = one_is s in subst (λ (x : Taken). outranks x.priority one.priority ≡ false) same ((h (ap (λ (x : Taken). x.action.link) same ∙ on)).0)
    great (suc j) other s on = d.greatest j other s on

    before : (k : ℕ) (other : Taken) → k < suc d.place → slice_get (t ∷ ts) k ≡ Some other → other.action.link ≡ link → outranks one.priority other.priority ≡ true
    before zero other lt s on = let same : t ≡ other = one_is s in subst (λ (x : Taken). outranks one.priority x.priority ≡ true) same ((h (ap (λ (x : Taken). x.action.link) same ∙ on)).1)
    before (suc j) other lt s on = d.first j other (omega (arith, lt)) s on

-- an action in front decides where none behind it outranks it
front_decides : (t : Taken) (ts : List Taken) (link : ℕ) → t.action.link ≡ link
    → ((j : ℕ) (other : Taken) → slice_get ts j ≡ Some other → other.action.link ≡ link → outranks other.priority t.priority ≡ false) → IsDecisive (t ∷ ts) link t
front_decides t ts link on rest = record {
  place = 0;
  stands = refl;
  on_link = on;
  greatest = great;
  first = λ k other lt s o. absurd (omega (arith, lt));
}
  where
    great : (k : ℕ) (other : Taken) → slice_get (t ∷ ts) k ≡ Some other → other.action.link ≡ link → outranks other.priority t.priority ≡ false
    great zero other s o = subst (λ (x : Taken). outranks x.priority t.priority ≡ false) (one_is s) (outranks-self t.priority)
    great (suc j) other s o = rest j other s o

pub decisive_first : (taken : List Taken) (link : ℕ) (one : Taken) → decisive taken link ≡ Some one → IsDecisive taken link one
decisive_first [] link one e = absurd (cc)
decisive_first (t ∷ ts) link one e =
    by_link (t.action.link == link) refl (decisive ts link) refl e (λ (u : Taken) (d : decisive ts link ≡ Some u). decisive_first ts link u d)
  where
    by_rank : (u : Taken) (b : Bool) → outranks u.priority t.priority ≡ b → t.action.link ≡ link → IsDecisive ts link u → IsDecisive (t ∷ ts) link (cond b u t)
    by_rank u true r on d = later_decides t ts link u d (λ _. (outranks-asym u.priority t.priority r, r))
    by_rank u false r on d = front_decides t ts link on (λ j other s o. outranks-not other.priority u.priority t.priority (d.greatest j other s o) r)

    by_link : (b : Bool) → (t.action.link == link) ≡ b → (o : Option Taken) → decisive ts link ≡ o → cond b (Some (stronger t o)) o ≡ Some one
        → ((u : Taken) → decisive ts link ≡ Some u → IsDecisive ts link u) → IsDecisive (t ∷ ts) link one
    by_link true q None n e later =
        subst (IsDecisive (t ∷ ts) link) (one_is e) (front_decides t ts link (on_true t.action.link link q) (λ j other s o. absurd (decisive_none ts link n j other s o)))
    by_link true q (Some u) n e later =
        subst (IsDecisive (t ∷ ts) link) (one_is e) (by_rank u (outranks u.priority t.priority) refl (on_true t.action.link link q) (later u n))
    by_link false q None n e later = absurd (cc)
    by_link false q (Some u) n e later = subst (IsDecisive (t ∷ ts) link) (one_is e) (later_decides t ts link u (later u n) (λ on. absurd (on_false t.action.link link q on)))

-- one action alone decides
one_decides : (taken : List Taken) (link : ℕ) (one other : Taken) → IsDecisive taken link one → IsDecisive taken link other → other ≡ one
one_decides taken link one other d f = by_order (nat_lt d.place f.place) refl (nat_lt f.place d.place) refl
  where
    by_order : (b : Bool) → nat_lt d.place f.place ≡ b → (c : Bool) → nat_lt f.place d.place ≡ c → other ≡ one
    by_order true e c g =
        let lt : d.place < f.place = grind (arith, nat_tests) in
        let up = f.first d.place one lt d.stands d.on_link in
        let down = d.greatest f.place other f.stands f.on_link in absurd (cc (up, down))
    by_order false e true g =
        let lt : f.place < d.place = grind (arith, nat_tests) in
        let up = d.first f.place other lt f.stands f.on_link in
        let down = f.greatest d.place one d.stands d.on_link in absurd (cc (up, down))
    by_order false e false g =
        let same : f.place ≡ d.place = grind (arith, nat_tests) in
        one_is (sym f.stands ∙ ap (slice_get taken) same ∙ d.stands)

pub decisive_alone : (taken : List Taken) (link : ℕ) (one : Taken) → IsDecisive taken link one → decisive taken link ≡ Some one
decisive_alone taken link one d = by_choice (decisive taken link) refl
  where
    by_choice : (o : Option Taken) → decisive taken link ≡ o → o ≡ Some one
    by_choice None e = absurd (decisive_none taken link e d.place one d.stands d.on_link)
    by_choice (Some u) e = ap Some (one_decides taken link one u d (decisive_first taken link u e))
