-- The function of clocks gives what the relation says.
use Rattle.std.proofs.Common.{◌≡◌, ℕ, ◌+◌, ◌-◌, ◌*◌, ◌<◌, Bool, true, ◌&&◌, cond, nat_lt, eqb, List, [], ◌∷◌, ◌++◌, refl, sym, ap, subst, ◌∙◌, arith, ℤ, pos, ◌<ℤ◌, int_lt}
use Rattle.std.specs.Char.{is_ascii_digit}
use Rattle.std.specs.List.{take_while}
use Rattle.std.specs.Option.{IfSome, IfNone}
use Rattle.std.specs.declared.option.Option.{Option}
use Rattle.std.specs.declared.option.Option.TheVariants.{None, Some}
use Rattle.std.proofs.lemmas.Bool.{eqb-true}
use Rattle.std.proofs.lemmas.Bool.Decides.{nat_tests}
use Rattle.std.proofs.lemmas.Int.{ints}
use Rattle.fixed_num.specs.Number.{past_digits}
use Rattle.inp_values.specs.Field.{IsField, field_of}
use Rattle.inp_values.specs.Clock.{IsClockEnd, minutes_alone, with_seconds, IsClock, IsTimeOfDay, sixtieths_of, seconds_in, clock_end_of, ms_in, clock_of, below_a_day, time_of_day_of}
use Rattle.fixed_num.specs.Ranges.{IsEven}
use Rattle.inp_values.proofs.FieldLemmas.{Stops, chosen, same_some, both_true, field_is, field_told, front_digits, front_past, front_parts}

-- ---- two digits
abbrev pair_value : ℕ → ℕ → ℕ
pair_value a b = (a - 48) * 10 + (b - 48)

-- the two digits of a field of two
record IsPair (text : List ℕ) (n : ℕ) : Type 0 where
  a : ℕ
  b : ℕ
  parts : text ≡ a ∷ b ∷ []
  first : is_ascii_digit a ≡ true
  second : is_ascii_digit b ≡ true
  value : n ≡ pair_value a b

two_digits : (text : List ℕ) (n : ℕ) → IsField 2 2 text n → IsPair text n
two_digits [] n field = let low = field.at_least in absurd (omega arith)
two_digits (a ∷ []) n field = let low = field.at_least in absurd (omega arith)
two_digits (a ∷ b ∷ []) n field =
    let value = field.value in
    record { a = a; b = b; parts = refl; first = field.digits.0; second = field.digits.1.0; value = omega arith }
two_digits (a ∷ b ∷ c ∷ cs) n field = let high = field.at_most in absurd (omega arith)

pair_passes : (a b : Bool) (n : ℕ) → a ≡ true → b ≡ true → n < 60 → (a && b && nat_lt n 60) ≡ true
pair_passes a b n p q r = grind (arith, nat_tests)

pair_passed : (a b : Bool) (n : ℕ) → (a && b && nat_lt n 60) ≡ true → (a ≡ true) × (b ≡ true) × (n < 60)
pair_passed a b n h = grind (arith, nat_tests)

sixtieths_is : (text : List ℕ) (n : ℕ) → (pair : IsPair text n) → n < 60 → sixtieths_of pair.a pair.b ≡ Some n
sixtieths_is text n pair below =
    let small : pair_value pair.a pair.b < 60 = subst (λ v. v < 60) pair.value below in
    ap (λ t. cond t (Some (pair_value pair.a pair.b)) None) (pair_passes (is_ascii_digit pair.a) (is_ascii_digit pair.b) (pair_value pair.a pair.b) pair.first pair.second small)
    ∙ ap Some (sym pair.value)

sixtieths_told : (a b n : ℕ) → sixtieths_of a b ≡ Some n → IsField 2 2 (a ∷ b ∷ []) n × (n < 60)
sixtieths_told a b n e =
    let two = chosen (is_ascii_digit a && is_ascii_digit b && nat_lt (pair_value a b) 60) (Some (pair_value a b)) n e in
    let same = same_some (pair_value a b) n two.1 in
    let three = pair_passed (is_ascii_digit a) (is_ascii_digit b) (pair_value a b) two.0 in
    (record { digits = (three.0, (three.1, tt)); at_least = omega arith; at_most = omega arith; value = omega arith }, subst (λ v. v < 60) (sym same) three.2)

-- ---- the end of a clock
end_stops : (rest : List ℕ) (m s : ℕ) → IsClockEnd rest m s → Stops rest
end_stops _ _ _ (minutes_alone f) = refl
end_stops _ _ _ (with_seconds f g) = refl

one_pair : (minutes : List ℕ) (m : ℕ) → IsField 2 2 minutes m → m < 60 → clock_end_of (58 ∷ minutes) ≡ Some (m * 60 + 0)
one_pair minutes m field below =
    let pair = two_digits minutes m field in
    ap (λ text. clock_end_of (58 ∷ text)) pair.parts
    ∙ ap (λ o. seconds_in o (Some 0)) (sixtieths_is minutes m pair below)

two_pairs : (minutes seconds : List ℕ) (m s : ℕ) → IsField 2 2 minutes m → IsField 2 2 seconds s → m < 60 → s < 60 → clock_end_of (58 ∷ (minutes ++ (58 ∷ seconds))) ≡ Some (m * 60 + s)
two_pairs minutes seconds m s field more below small =
    let pair = two_digits minutes m field in
    let next = two_digits seconds s more in
    ap (λ text. clock_end_of (58 ∷ (text ++ (58 ∷ seconds)))) pair.parts
    ∙ ap (λ text. clock_end_of (58 ∷ ((pair.a ∷ pair.b ∷ []) ++ (58 ∷ text)))) next.parts
    ∙ ap (λ o. seconds_in o (sixtieths_of next.a next.b)) (sixtieths_is minutes m pair below)
    ∙ ap (seconds_in (Some m)) (sixtieths_is seconds s next small)

pub end_is : (rest : List ℕ) (m s : ℕ) → IsClockEnd rest m s → m < 60 → s < 60 → clock_end_of rest ≡ Some (m * 60 + s)
end_is _ _ _ (minutes_alone {minutes = minutes} {m = m} f) below small = one_pair minutes m f below
end_is _ _ _ (with_seconds {minutes = minutes} {seconds = seconds} {m = m} {s = s} f g) below small = two_pairs minutes seconds m s f g below small

-- what the end of a clock was read from
record WasEnd (rest : List ℕ) (n : ℕ) : Type 0 where
  m : ℕ
  s : ℕ
  end : IsClockEnd rest m s
  minutes : m < 60
  seconds : s < 60
  value : n ≡ m * 60 + s

record WereSeconds (first second : Option ℕ) (n : ℕ) : Type 0 where
  m : ℕ
  s : ℕ
  minutes : first ≡ Some m
  seconds : second ≡ Some s
  value : n ≡ m * 60 + s

seconds_told : (first second : Option ℕ) (n : ℕ) → seconds_in first second ≡ Some n → WereSeconds first second n
seconds_told None second n e = absurd (cc)
seconds_told (Some m) None n e = absurd (cc)
seconds_told (Some m) (Some s) n e = record { m = m; s = s; minutes = refl; seconds = refl; value = same_some (m * 60 + s) n e }

alone_end : (c a b m : ℕ) → c ≡ 58 → IsField 2 2 (a ∷ b ∷ []) m → IsClockEnd (c ∷ a ∷ b ∷ []) m 0
alone_end c a b m colon field = subst (λ x. IsClockEnd (x ∷ a ∷ b ∷ []) m 0) (sym colon) (minutes_alone field)

both_end : (c a b d e f m s : ℕ) → c ≡ 58 → d ≡ 58 → IsField 2 2 (a ∷ b ∷ []) m → IsField 2 2 (e ∷ f ∷ []) s → IsClockEnd (c ∷ a ∷ b ∷ d ∷ e ∷ f ∷ []) m s
both_end c a b d e f m s first second field more =
    let end : IsClockEnd (58 ∷ ((a ∷ b ∷ []) ++ (58 ∷ e ∷ f ∷ []))) m s = with_seconds field more in
    subst (λ x. IsClockEnd (x ∷ a ∷ b ∷ d ∷ e ∷ f ∷ []) m s) (sym first)
    (subst (λ y. IsClockEnd (58 ∷ a ∷ b ∷ y ∷ e ∷ f ∷ []) m s) (sym second) end)

alone_told : (c a b n : ℕ) → clock_end_of (c ∷ a ∷ b ∷ []) ≡ Some n → WasEnd (c ∷ a ∷ b ∷ []) n
alone_told c a b n e =
    let two = chosen (eqb c 58) (seconds_in (sixtieths_of a b) (Some 0)) n e in
    let colon : c ≡ 58 = eqb-true c 58 two.0 in
    let were = seconds_told (sixtieths_of a b) (Some 0) n two.1 in
    let pair = sixtieths_told a b were.m were.minutes in
    let none : 0 ≡ were.s = sym (same_some 0 were.s were.seconds) in
    record {
      m = were.m;
      s = 0;
      end = alone_end c a b were.m colon pair.0;
      minutes = pair.1;
      seconds = omega arith;
      value = were.value ∙ ap (λ s. were.m * 60 + s) (sym none);
    }

both_told : (c a b d e f n : ℕ) → clock_end_of (c ∷ a ∷ b ∷ d ∷ e ∷ f ∷ []) ≡ Some n → WasEnd (c ∷ a ∷ b ∷ d ∷ e ∷ f ∷ []) n
both_told c a b d e f n h =
    let two = chosen (eqb c 58 && eqb d 58) (seconds_in (sixtieths_of a b) (sixtieths_of e f)) n h in
    let colons = both_true (eqb c 58) (eqb d 58) two.0 in
    let first : c ≡ 58 = eqb-true c 58 colons.0 in
    let second : d ≡ 58 = eqb-true d 58 colons.1 in
    let were = seconds_told (sixtieths_of a b) (sixtieths_of e f) n two.1 in
    let pair = sixtieths_told a b were.m were.minutes in
    let next = sixtieths_told e f were.s were.seconds in
    record {
      m = were.m;
      s = were.s;
      end = both_end c a b d e f were.m were.s first second pair.0 next.0;
      minutes = pair.1;
      seconds = next.1;
      value = were.value;
    }

end_told : (rest : List ℕ) (n : ℕ) → clock_end_of rest ≡ Some n → WasEnd rest n
end_told [] n h = absurd (cc)
end_told (c ∷ []) n h = absurd (cc)
end_told (c ∷ a ∷ []) n h = absurd (cc)
end_told (c ∷ a ∷ b ∷ []) n h = alone_told c a b n h
end_told (c ∷ a ∷ b ∷ d ∷ []) n h = absurd (cc)
end_told (c ∷ a ∷ b ∷ d ∷ e ∷ []) n h = absurd (cc)
end_told (c ∷ a ∷ b ∷ d ∷ e ∷ f ∷ []) n h = both_told c a b d e f n h
end_told (c ∷ a ∷ b ∷ d ∷ e ∷ f ∷ g ∷ gs) n h = absurd (cc)

-- ---- clocks
read_as : (text hours rest : List ℕ) (h n : ℕ) → text ≡ hours ++ rest → IsField 1 5 hours h → Stops rest → clock_end_of rest ≡ Some n → clock_of text ≡ Some (pos ((h * 3600 + n) * 1000))
unfolding clock_of
read_as text hours rest h n parts field stops end =
    let front : take_while is_ascii_digit text ≡ hours = rw parts (front_digits hours rest field.digits stops) in
    let past : past_digits text ≡ rest = rw parts (front_past hours rest field.digits stops) in
    ap (λ ds. ms_in (field_of 1 5 ds) (clock_end_of (past_digits text))) front
    ∙ ap (λ ds. ms_in (field_of 1 5 hours) (clock_end_of ds)) past
    ∙ ap (λ o. ms_in o (clock_end_of rest)) (field_is 1 5 hours h field)
    ∙ ap (ms_in (Some h)) end

pub clock_is : (text : List ℕ) (ms : ℤ) → IsClock text ms → clock_of text ≡ Some ms
clock_is text ms clock =
    let sum : clock.h * 3600 + (clock.m * 60 + clock.s) ≡ clock.h * 3600 + clock.m * 60 + clock.s = omega arith in
    read_as text clock.hours clock.rest clock.h (clock.m * 60 + clock.s) clock.parts clock.is_hours (end_stops clock.rest clock.m clock.s clock.is_rest) (end_is clock.rest clock.m clock.s clock.is_rest clock.minutes clock.seconds)
    ∙ ap (λ k. Some (pos (k * 1000))) sum ∙ ap Some (sym clock.value)

record WereHours (first second : Option ℕ) (ms : ℤ) : Type 0 where
  h : ℕ
  n : ℕ
  hours : first ≡ Some h
  seconds : second ≡ Some n
  value : ms ≡ pos ((h * 3600 + n) * 1000)

ms_told : (first second : Option ℕ) (ms : ℤ) → ms_in first second ≡ Some ms → WereHours first second ms
ms_told None second ms e = absurd (cc)
ms_told (Some h) None ms e = absurd (cc)
ms_told (Some h) (Some n) ms e = record { h = h; n = n; hours = refl; seconds = refl; value = same_some (pos ((h * 3600 + n) * 1000)) ms e }

pub clock_told : (text : List ℕ) (ms : ℤ) → clock_of text ≡ Some ms → IsClock text ms
unfolding clock_of
clock_told text ms e =
    let were = ms_told (field_of 1 5 (take_while is_ascii_digit text)) (clock_end_of (past_digits text)) ms e in
    let was = end_told (past_digits text) were.n were.seconds in
    let sum : were.h * 3600 + were.n ≡ were.h * 3600 + was.m * 60 + was.s = let value = was.value in omega arith in
    record {
      hours = take_while is_ascii_digit text;
      rest = past_digits text;
      h = were.h;
      m = was.m;
      s = was.s;
      parts = front_parts text;
      is_hours = field_told 1 5 (take_while is_ascii_digit text) were.h were.hours;
      is_rest = was.end;
      minutes = was.minutes;
      seconds = was.seconds;
      value = were.value ∙ ap (λ k. pos (k * 1000)) sum;
    }

-- a function with this value meets the relation
pub some_clock : (text : List ℕ) (o : Option ℤ) → o ≡ clock_of text → IfSome o (IsClock text)
some_clock text None e = tt
some_clock text (Some ms) e = clock_told text ms (sym e)

pub none_clock : (text : List ℕ) (o : Option ℤ) → o ≡ clock_of text → IfNone o ((ms : ℤ) → ¬ (IsClock text ms))
none_clock text None e = λ ms clock. let clash : None ≡ Some ms = e ∙ clock_is text ms clock in absurd (cc)
none_clock text (Some ms) e = tt

-- ---- times of the day
below_is : (a b : ℤ) → a <ℤ b → int_lt a b ≡ true
below_is a b h = grind (arith, ints)

below_was : (a b : ℤ) → int_lt a b ≡ true → a <ℤ b
below_was a b h = grind (arith, ints)

pub time_is : (text : List ℕ) (ms : ℤ) → IsTimeOfDay text ms → time_of_day_of text ≡ Some ms
time_is text ms time =
    let below : int_lt ms (pos 86_400_000) ≡ true = below_is ms (pos 86_400_000) time.below in
    ap below_a_day (clock_is text ms time.clock) ∙ ap (λ b. cond b (Some ms) None) below

below_told : (o : Option ℤ) (ms : ℤ) → below_a_day o ≡ Some ms → (o ≡ Some ms) × (ms <ℤ pos 86_400_000)
below_told None ms e = absurd (cc)
below_told (Some t) ms e =
    let two = chosen (int_lt t (pos 86_400_000)) (Some t) ms e in
    let same = same_some t ms two.1 in
    (two.1, rw same (below_was t (pos 86_400_000) two.0))

pub time_told : (text : List ℕ) (ms : ℤ) → time_of_day_of text ≡ Some ms → IsTimeOfDay text ms
time_told text ms e =
    let two = below_told (clock_of text) ms e in
    record { clock = clock_told text ms two.0; below = two.1 }

pub some_time : (text : List ℕ) (o : Option ℤ) → o ≡ time_of_day_of text → IfSome o (IsTimeOfDay text)
some_time text None e = tt
some_time text (Some ms) e = time_told text ms (sym e)

pub none_time : (text : List ℕ) (o : Option ℤ) → o ≡ time_of_day_of text → IfNone o ((ms : ℤ) → ¬ (IsTimeOfDay text ms))
none_time text None e = λ ms time. let clash : None ≡ Some ms = e ∙ time_is text ms time in absurd (cc)
none_time text (Some ms) e = tt

-- ---- even numbers
-- a thousand times a number is even
even_thousands : (ms : ℤ) (n : ℕ) → ms ≡ pos (n * 1000) → IsEven ms
even_thousands ms n e = subst IsEven (sym e) (omega arith)

pub clock_even : (text : List ℕ) (ms : ℤ) → IsClock text ms → IsEven ms
clock_even text ms is = even_thousands ms (is.h * 3600 + is.m * 60 + is.s) is.value

pub even_clock : (text : List ℕ) (o : Option ℤ) → IfSome o (IsClock text) → IfSome o IsEven
even_clock text None some = tt
even_clock text (Some ms) some = clock_even text ms some

pub even_time : (text : List ℕ) (o : Option ℤ) → IfSome o (IsTimeOfDay text) → IfSome o IsEven
even_time text None some = tt
even_time text (Some ms) some = clock_even text ms some.clock
