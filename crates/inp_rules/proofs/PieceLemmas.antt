-- The count of tests and actions of rules along a walk over lines.
use Rattle.std.proofs.Common.{◌≡◌, ◌∷◌, ◌++◌, [], ◌≤◌, ◌<◌, ◌+◌, length, ℕ, List, Bool, true, false, cond, take, get_or, min}
use Rattle.std.proofs.Common.{refl, ap, sym, ◌∙◌, arith, nat_le, length-append}
use Rattle.std.proofs.lemmas.Bool.Decides.{nat_tests}
use Rattle.inp_lines.specs.declared.line.Line.{Line}
use Rattle.inp_lines.proofs.GatherLemmas.{gather_next}
use Rattle.inp_rules.specs.RuleLines.{part_of}
use Rattle.inp_rules.specs.RuleFaults.{gives_piece, piece_at, pieces_after, pieces_of}

-- the count of tests and actions, which ends at the limit
abbrev pub counted : List Line → ℕ
counted lines = min 1_000_000 (length (pieces_of lines))

pub full_by_count : (n count : ℕ) → count ≡ min 1000000 n → nat_le 1000000 count ≡ nat_le 1000000 n
full_by_count n count e = elim (nat_le 1000000 n) as (λ b. nat_le 1000000 n ≡ b → nat_le 1000000 count ≡ b) [ true ↦ λ t. grind (arith, nat_tests) | false ↦ λ t. grind (arith, nat_tests) ] refl

one_more : (n : ℕ) (yes : Bool) (line : Line) → min 1000000 (n + length (cond yes (line ∷ []) [])) ≡ cond yes (min 1000000 (min 1000000 n + 1)) (min 1000000 n)
one_more n true line = omega arith
one_more n false line = omega arith

pub count_next : (lines : List Line) (i : ℕ) (line : Line) → i < length lines → line ≡ get_or lines i line → counted (take (i + 1) lines) ≡ pieces_after (part_of (take i lines)) line (counted (take i lines))
count_next lines i line h e =
    ap (λ (l : List Line). min 1000000 (length l)) (gather_next piece_at lines i line h e)
    ∙ (ap (λ n. min 1000000 n) (length-append (pieces_of (take i lines)) (piece_at (take i lines) line))
    ∙ one_more (length (pieces_of (take i lines))) (gives_piece (part_of (take i lines)) line) line)
