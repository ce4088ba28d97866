-- How far a rule has come along its lines, which lines are its own, and walks over lines.
use Rattle.std.proofs.Common.{◌≡◌, ◌∷◌, ◌++◌, [], ◌≤◌, ◌<◌, ◌+◌, length, ℕ, List, Bool, true, false, not, cond, take, drop, get_or}
use Rattle.std.proofs.Common.{Option, Some, None, refl, ap, sym, ◌∙◌, arith, nat_lt, position, length-take, length-drop, ◌-◌, Result, Ok, Err, OnOk}
use Rattle.std.proofs.lemmas.Bool.Decides.{nat_tests}
use Rattle.std.proofs.lemmas.List.{take_all}
use Rattle.std.specs.List.{before_first, last_or, position_or_len}
use Rattle.inp_lines.specs.declared.line.Line.{Line}
use Rattle.inp_lines.specs.declared.names.Naming.{Naming}
use Rattle.inp_lines.proofs.GatherLemmas.{line_push}
use Rattle.inp_forms.specs.Context.{Context}
use Rattle.inp_rules.specs.declared.order.RulePart.{RulePart}
use Rattle.inp_rules.specs.Order.{part_after}
use Rattle.inp_rules.specs.RuleFaults.{fault_with}
use Rattle.inp_rules.specs.RuleLines.{clause_at, lines_after, part_from}

pub part_push : (part : RulePart) (lines : List Line) (line : Line) → part_from part (lines ++ line ∷ []) ≡ part_after (part_from part lines) (clause_at line)
part_push part [] line = refl
part_push part (x ∷ lines) line = part_push (part_after part (clause_at x)) lines line

-- the steps of a loop over lines
pub part_next : (part : RulePart) (lines : List Line) (i : ℕ) (line : Line) → i < length lines → line ≡ get_or lines i line → part_from part (take (i + 1) lines) ≡ part_after (part_from part (take i lines)) (clause_at line)
part_next part lines i line h e = ap (part_from part) (line_push lines i line h e) ∙ part_push part (take i lines) line

pub part_all : (part : RulePart) (lines : List Line) (i : ℕ) → length lines ≤ i → part_from part (take i lines) ≡ part_from part lines
part_all part lines i h = ap (part_from part) (take_all i lines h)

-- the lines after the next of a loop
pub after_next : (lines : List Line) (i next : ℕ) → i < length lines → next ≡ i + 1 → take (length lines - next) (drop next lines) ≡ lines_after lines (take i lines)
after_next lines i next h e =
    let all : length (drop next lines) ≤ length lines - next = omega (arith, length-drop next lines) in
    let same : next ≡ length (take i lines) + 1 = omega (arith, e, h, length-take i lines) in
    take_all (length lines - next) (drop next lines) all ∙ ap (λ n. drop n lines) same

-- what stands before the first place where a test passes
module _ {A : Type 0} (p : A → Bool) (xs : List A) where
  pub first_there : (end : ℕ) → position p xs ≡ Some end → take end xs ≡ before_first p xs
  first_there end = go (nat_lt (position_or_len p xs) (length xs)) where
    go : (b : Bool) → cond b (Some (position_or_len p xs)) None ≡ Some end → take end xs ≡ take (position_or_len p xs) xs
    go true e = ap (λ n. take n xs) (cc)
    go false e = absurd (cc)

  pub first_nowhere : position p xs ≡ None → xs ≡ before_first p xs
  first_nowhere = go (nat_lt (position_or_len p xs) (length xs)) refl where
    go : (b : Bool) → nat_lt (position_or_len p xs) (length xs) ≡ b → cond b (Some (position_or_len p xs)) None ≡ None → xs ≡ take (position_or_len p xs) xs
    go true t e = absurd (cc)
    go false t e = sym (take_all (position_or_len p xs) xs (grind (arith, nat_tests)))

pub last_append : {A : Type 0} (o : Option A) (xs ys : List A) → last_or o (xs ++ ys) ≡ last_or (last_or o xs) ys
last_append o [] ys = refl
last_append o (x ∷ xs) ys = last_append (Some x) xs ys

-- what follows where a call succeeds
pub then_ok : {A E : Type 0} (r : Result A E) (P Q : Type 0) → OnOk r P → (P → Q) → OnOk r Q
then_ok (Ok x) P Q h more = more h
then_ok (Err e) P Q h more = tt

-- the fault of a line by what it is told of
pub fault_same : (known : Context) {p q : RulePart} {a b : Bool} {s t : Naming} {x y : List Line} (line : Line) → p ≡ q → a ≡ b → s ≡ t → x ≡ y → fault_with known p a s x line ≡ fault_with known q b t y line
fault_same known line of_part of_full of_name of_after = λ i. fault_with known (of_part i) (of_full i) (of_name i) (of_after i) line
