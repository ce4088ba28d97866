-- Lines.
use Rattle.std.proofs.Common.{◌≡◌, ◌==◌, ◌+◌, ◌<◌, ◌≤◌, ℕ, Bool, true, false, cond, List, [], ◌∷◌, ◌++◌, length}
use Rattle.std.proofs.Common.{take, drop, length-append, Option, Some, None, refl, sym, ap, ap₂, ◌∙◌, subst, arith}
use Rattle.std.specs.Option.{unwrap_or}
use Rattle.std.specs.List.{filter_map, cons_option, last_or, position_or_len, before_first, after_first, slice_split}
use Rattle.std.specs.Str.Lines.{lines, lines_of_parts, strip_carriage_return}
use Rattle.std.proofs.lemmas.List.Splits.{slice_split_first, slice_split_none, length-slice_split}
use Rattle.std.proofs.lemmas.List.Sums.{fails_before_first}
use Rattle.std.proofs.lemmas.List.Elements.{filter_map-append}
use Rattle.std.proofs.lemmas.Bool.Decides.{nat_tests}
use Rattle.inp_lines.specs.declared.line.Line.{Line}
use Rattle.inp_lines.specs.declared.line.SectionName.{SectionName}
use Rattle.inp_lines.specs.declared.line.SectionName.TheVariants as section
use Rattle.inp_lines.specs.Sections.{named_section}
use Rattle.inp_lines.specs.Lines.{is_kept, line_of, line_list, lines_below, lines_of, section_below, section_at}
use Rattle.inp_lines.specs.Order.{Rise}

abbrev pub is_feed : ℕ → Bool
is_feed byte = byte == 10

parts_more : (part : List ℕ) (parts : List (List ℕ)) → 0 < length parts → lines_of_parts (part ∷ parts) ≡ strip_carriage_return part ∷ lines_of_parts parts
parts_more part [] h = absurd (omega (arith, h))
parts_more part (next ∷ parts) h = refl

-- the first line ends at the first LF
pub lines_cut : (text : List ℕ) → position_or_len is_feed text < length text → lines text ≡ strip_carriage_return (before_first is_feed text) ∷ lines (after_first is_feed text)
lines_cut text h =
    ap lines_of_parts (slice_split_first is_feed text 0 h)
    ∙ parts_more (before_first is_feed text) (slice_split is_feed (after_first is_feed text)) (omega (arith, length-slice_split is_feed (after_first is_feed text)))

-- the same, with a place that was found
pub first_cut : (text : List ℕ) (place : ℕ) → place ≡ position_or_len is_feed text → place < length text → lines text ≡ strip_carriage_return (take place text) ∷ lines (drop (place + 1) text)
first_cut text place e h = subst (λ n. n < length text → lines text ≡ strip_carriage_return (take n text) ∷ lines (drop (n + 1) text)) (sym e) (lines_cut text) h

not_none : (text : List ℕ) → 0 < length text → lines_of_parts (text ∷ []) ≡ text ∷ []
not_none [] h = absurd (omega (arith, h))
not_none (byte ∷ bytes) h = let test : (length (byte ∷ bytes) == 0) ≡ false = grind (arith, nat_tests) in ap (λ none. cond none [] ((byte ∷ bytes) ∷ [])) test

-- without an LF there is one line
pub lines_last : (text : List ℕ) → 0 < length text → length text ≤ position_or_len is_feed text → lines text ≡ text ∷ []
lines_last text some h =
    ap lines_of_parts (slice_split_none is_feed text (λ k d below. fails_before_first is_feed text k d (omega (arith, below, h)))) ∙ not_none text some

-- the lines of texts below a line of that number, where the present section is known
abbrev pub lines_from : ℕ → SectionName → List (List ℕ) → List Line
lines_from number above [] = []
lines_from number above (text ∷ below) =
    line_list (number + 1) (unwrap_or (named_section text) above) text ++ lines_from (number + 1) (unwrap_or (named_section text) above) below

last_append : {A : Type 0} (o : Option A) (xs ys : List A) → last_or o (xs ++ ys) ≡ last_or (last_or o xs) ys
last_append o [] ys = refl
last_append o (x ∷ xs) ys = last_append (Some x) xs ys

last_more : (above : List SectionName) (named : Option SectionName) → unwrap_or (last_or None (above ++ cons_option named [])) section.Before ≡ unwrap_or named (unwrap_or (last_or None above) section.Before)
last_more above None = ap (λ o. unwrap_or o section.Before) (last_append None above [])
last_more above (Some name) = ap (λ o. unwrap_or o section.Before) (last_append None above (name ∷ []))

-- the present section after one line more
pub section_more : (above : List (List ℕ)) (text : List ℕ) → section_below (above ++ text ∷ []) ≡ section_at above text
section_more above text =
    ap (λ names. unwrap_or (last_or None names) section.Before) (filter_map-append named_section above (text ∷ [])) ∙ last_more (filter_map named_section above) (named_section text)

-- looking back from each line is keeping the present section
pub from_is : (above below : List (List ℕ)) → lines_below above below ≡ lines_from (length above) (section_below above) below
from_is above [] = refl
from_is above (text ∷ below) =
    let count : length (above ++ text ∷ []) ≡ length above + 1 = omega (arith, length-append above (text ∷ [])) in
    ap (λ more. line_list (length above + 1) (section_at above text) text ++ more)
    (from_is (above ++ text ∷ []) below ∙ ap₂ (λ n s. lines_from n s below) count (section_more above text))

-- the whole input, from its first line on
pub all_lines : (input : List ℕ) → lines_from 0 section.Before (lines input) ≡ lines_of input
unfolding lines_of
all_lines input = sym (from_is [] (lines input))

pub kept_one : (number : ℕ) (named : SectionName) (text : List ℕ) → length (line_list number named text) ≤ 1
kept_one number named text = elim (is_kept text) as (λ kept. length (cond kept (line_of number named text ∷ []) []) ≤ 1) [ true ↦ omega arith | false ↦ omega arith ]

rise_lower : (low high : ℕ) (lines : List Line) → low ≤ high → Rise high lines → Rise low lines
rise_lower low high [] h rise = rise
rise_lower low high (line ∷ lines) h rise = (omega (arith, h, rise.0), rise.1)

rise_from : (number : ℕ) (above : SectionName) (below : List (List ℕ)) → Rise number (lines_from number above below)
rise_from number above [] = tt
rise_from number above (text ∷ below) =
    let named = unwrap_or (named_section text) above in
    let more = rise_from (number + 1) named below in
    elim (is_kept text) as (λ kept. Rise number (cond kept (line_of (number + 1) named text ∷ []) [] ++ lines_from (number + 1) named below)) [
      | true ↦ (omega arith, more)
      | false ↦ rise_lower number (number + 1) (lines_from (number + 1) named below) (omega arith) more
    ]

-- the numbers of an input's lines rise
pub lines_rise : (input : List ℕ) → Rise 0 (lines_of input)
lines_rise input = subst (λ found. Rise 0 found) (all_lines input) (rise_from 0 section.Before (lines input))
