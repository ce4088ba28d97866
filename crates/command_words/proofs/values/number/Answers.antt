-- A text of digits that is no `u32` is above every limit.
use Rattle.std.proofs.Common.{◌≡◌, ◌^◌, ◌<◌, ◌≤◌, ◌&&◌, rules, ℕ, Bool, true, false, nat_le, List, Some, None, Err, length, if◌then◌else◌, refl, arith, leb-true}
use Rattle.std.proofs.lemmas.Bool.{and_parts}
use Rattle.std.proofs.lemmas.Str.Parse.{IsDigitsTest, numerals_by_value, parse_digits}
use Rattle.std.specs.Char.{is_ascii_digit}
use Rattle.std.specs.List.{list_all}
use Rattle.std.specs.Str.Parse.{digits_value}
use Rattle.command_words.specs.CommandWords.{number_in}
use Rattle.command_words.proofs.values.number.Goals as goal

tells : IsDigitsTest (λ ds. list_all is_ascii_digit ds ≡ true)
tells = search rules

too_large : (most low high : ℕ) (text : List ℕ) → high < 2 ^ 32 → ((0 < length text) × (digits_value 10 text < 2 ^ 32) → ⊥) → None ≡ number_in most low high text
too_large most low high text fits no_number = go _ refl
  where
    go : (b : Bool) → ((nat_le 1 (length text) && nat_le (length text) most)
        && (list_all is_ascii_digit text && (nat_le low (digits_value 10 text) && nat_le (digits_value 10 text) high))) ≡ b
        → None ≡ (if b then Some (digits_value 10 text) else None)
    go false e = refl
    go true e =
        let parts = and_parts (nat_le 1 (length text) && nat_le (length text) most) (list_all is_ascii_digit text && (nat_le low (digits_value 10 text) && nat_le (digits_value 10 text) high)) e in
        let sizes = and_parts (nat_le 1 (length text)) (nat_le (length text) most) parts.0 in
        let rest = and_parts (list_all is_ascii_digit text) (nat_le low (digits_value 10 text) && nat_le (digits_value 10 text) high) parts.1 in
        let bounds = and_parts (nat_le low (digits_value 10 text)) (nat_le (digits_value 10 text) high) rest.1 in
        let some : 1 ≤ length text = leb-true _ _ sizes.0 in
        let most_is : digits_value 10 text ≤ high = leb-true _ _ bounds.1 in
        absurd (no_number (omega (arith, some), omega (arith, most_is, fits)))

pub returns-in-Err : goal.returns-in-Err
returns-in-Err c =
    let digits : list_all is_ascii_digit c.args.text.now ≡ true = search rules in
    too_large c.args.most c.args.low c.args.high c.args.text.now c.ranges.high.fits
    (parse_digits (numerals_by_value _ tells) 32 c.args.text.now (Err c.in-Err.field-0) c.in-Err.ensures.value.0 digits)
