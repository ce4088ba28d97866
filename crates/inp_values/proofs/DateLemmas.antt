-- The function of dates gives what the relation says.
use Rattle.std.proofs.Common.{◌≡◌, ℕ, ◌≤◌, ◌⊎◌, inl, inr, true, false, ◌||◌, cond, nat_le, eqb, List, [], ◌∷◌, ◌++◌, refl, sym, ap, ◌∙◌, arith, ℤ}
use Rattle.std.specs.Char.{is_ascii_digit}
use Rattle.std.specs.List.{take_while}
use Rattle.std.specs.Option.{IfSome, IfNone}
use Rattle.std.specs.declared.option.Option.{Option}
use Rattle.std.specs.declared.option.Option.TheVariants.{None, Some}
use Rattle.std.proofs.lemmas.Bool.{eqb-true}
use Rattle.std.proofs.lemmas.Bool.Decides.{nat_tests}
use Rattle.calendar_steps.specs.Calendar.{day_number, number_if_real, IsRealDay}
use Rattle.calendar_steps.proofs.CalendarLemmas.{real_found, real_told}
use Rattle.fixed_num.specs.Number.{past_digits}
use Rattle.inp_values.specs.Field.{IsField, field_of}
use Rattle.inp_values.specs.CalendarDate.{IsDate, numbered, year_of, date_after, date_of}
use Rattle.inp_values.proofs.FieldLemmas.{Stops, chosen, field_is, field_told, front_digits, front_past, front_parts}

-- ---- a date is read as such
mark_test : (mark : ℕ) → (mark ≡ 47) ⊎ (mark ≡ 45) → (eqb mark 47 || eqb mark 45) ≡ true
mark_test mark (inl e) = ap (λ c. eqb c 47 || eqb c 45) e
mark_test mark (inr e) = ap (λ c. eqb c 47 || eqb c 45) e

mark_stops : (mark : ℕ) → (mark ≡ 47) ⊎ (mark ≡ 45) → is_ascii_digit mark ≡ false
mark_stops mark (inl e) = ap is_ascii_digit e
mark_stops mark (inr e) = ap is_ascii_digit e

mark_told : (mark : ℕ) → (eqb mark 47 || eqb mark 45) ≡ true → (mark ≡ 47) ⊎ (mark ≡ 45)
mark_told mark h = grind (arith, nat_tests)

same_mark : (mark : ℕ) → eqb mark mark ≡ true
same_mark mark = grind (arith, nat_tests)

year_passes : (year : ℕ) → year ≤ 2100 → nat_le year 2100 ≡ true
year_passes year h = grind (arith, nat_tests)

year_passed : (year : ℕ) → nat_le year 2100 ≡ true → year ≤ 2100
year_passed year h = grind (arith, nat_tests)

numbered_is : (m d y : ℕ) → IsRealDay y m d → y ≤ 2100 → numbered (Some m) (Some d) (Some y) ≡ Some (day_number y m d)
numbered_is m d y real last =
    ap (λ b. cond b (number_if_real y m d) None) (year_passes y last) ∙ real_found y m d real

-- the day and the year behind the mark
behind_is : (m d y mark : ℕ) (day year : List ℕ) → (mark ≡ 47) ⊎ (mark ≡ 45) → IsField 1 2 day d → IsField 4 4 year y → IsRealDay y m d → y ≤ 2100 → date_after (Some m) (mark ∷ (day ++ (mark ∷ year))) ≡ Some (day_number y m d)
behind_is m d y mark day year is_mark is_day is_year real last =
    let rest = day ++ (mark ∷ year) in
    let stops = mark_stops mark is_mark in
    ap (λ b. cond b (numbered (Some m) (field_of 1 2 (take_while is_ascii_digit (day ++ (mark ∷ year)))) (year_of mark (past_digits (day ++ (mark ∷ year))))) None) (mark_test mark is_mark)
    ∙ ap (λ ds. numbered (Some m) (field_of 1 2 ds) (year_of mark (past_digits (day ++ (mark ∷ year))))) (front_digits day (mark ∷ year) is_day.digits stops)
    ∙ ap (λ ds. numbered (Some m) (field_of 1 2 day) (year_of mark ds)) (front_past day (mark ∷ year) is_day.digits stops)
    ∙ ap (λ o. numbered (Some m) o (year_of mark (mark ∷ year))) (field_is 1 2 day d is_day)
    ∙ ap (λ b. numbered (Some m) (Some d) (cond b (field_of 4 4 year) None)) (same_mark mark)
    ∙ ap (numbered (Some m) (Some d)) (field_is 4 4 year y is_year)
    ∙ numbered_is m d y real last

date_read : (text month rest : List ℕ) (m : ℕ) → text ≡ month ++ rest → IsField 1 2 month m → Stops rest → date_of text ≡ date_after (Some m) rest
unfolding date_of
date_read text month rest m parts field stops =
    let front : take_while is_ascii_digit text ≡ month = rw parts (front_digits month rest field.digits stops) in
    let past : past_digits text ≡ rest = rw parts (front_past month rest field.digits stops) in
    ap (λ ds. date_after (field_of 1 2 ds) (past_digits text)) front
    ∙ ap (λ ds. date_after (field_of 1 2 month) ds) past
    ∙ ap (λ o. date_after o rest) (field_is 1 2 month m field)

pub date_is : (text : List ℕ) (number : ℤ) → IsDate text number → date_of text ≡ Some number
date_is text number date =
    date_read text date.month (date.mark ∷ (date.day ++ (date.mark ∷ date.year))) date.m date.parts date.is_month (mark_stops date.mark date.is_mark)
    ∙ behind_is date.m date.d date.y date.mark date.day date.year date.is_mark date.is_day date.is_year date.real date.last
    ∙ ap Some (sym date.value)

-- ---- what a number was read from
record WasNumbered (month day year : Option ℕ) (number : ℤ) : Type 0 where
  m : ℕ
  d : ℕ
  y : ℕ
  is_month : month ≡ Some m
  is_day : day ≡ Some d
  is_year : year ≡ Some y
  real : IsRealDay y m d
  last : y ≤ 2100
  value : number ≡ day_number y m d

numbered_told : (month day year : Option ℕ) (number : ℤ) → numbered month day year ≡ Some number → WasNumbered month day year number
numbered_told None day year number e = absurd (cc)
numbered_told (Some m) None year number e = absurd (cc)
numbered_told (Some m) (Some d) None number e = absurd (cc)
numbered_told (Some m) (Some d) (Some y) number e =
    let two = chosen (nat_le y 2100) (number_if_real y m d) number e in
    let real = real_told y m d number two.1 in
    record { m = m; d = d; y = y; is_month = refl; is_day = refl; is_year = refl; real = real.0; last = year_passed y two.0; value = real.1 }

record WasYear (mark : ℕ) (text : List ℕ) (y : ℕ) : Type 0 where
  year : List ℕ
  parts : text ≡ mark ∷ year
  is_year : IsField 4 4 year y

year_told : (mark : ℕ) (text : List ℕ) (y : ℕ) → year_of mark text ≡ Some y → WasYear mark text y
year_told mark [] y e = absurd (cc)
year_told mark (c ∷ year) y e =
    let two = chosen (eqb c mark) (field_of 4 4 year) y e in
    record { year = year; parts = ap (λ x. x ∷ year) (eqb-true c mark two.0); is_year = field_told 4 4 year y two.1 }

record WasDate (month : Option ℕ) (text : List ℕ) (number : ℤ) : Type 0 where
  mark : ℕ
  day : List ℕ
  year : List ℕ
  m : ℕ
  d : ℕ
  y : ℕ
  parts : text ≡ mark ∷ (day ++ (mark ∷ year))
  is_mark : (mark ≡ 47) ⊎ (mark ≡ 45)
  is_month : month ≡ Some m
  is_day : IsField 1 2 day d
  is_year : IsField 4 4 year y
  real : IsRealDay y m d
  last : y ≤ 2100
  value : number ≡ day_number y m d

after_told : (month : Option ℕ) (text : List ℕ) (number : ℤ) → date_after month text ≡ Some number → WasDate month text number
after_told month [] number e = absurd (cc)
after_told month (mark ∷ rest) number e =
    let two = chosen (eqb mark 47 || eqb mark 45) (numbered month (field_of 1 2 (take_while is_ascii_digit rest)) (year_of mark (past_digits rest))) number e in
    let was = numbered_told month (field_of 1 2 (take_while is_ascii_digit rest)) (year_of mark (past_digits rest)) number two.1 in
    let year = year_told mark (past_digits rest) was.y was.is_year in
    record {
      mark = mark;
      day = take_while is_ascii_digit rest;
      year = year.year;
      m = was.m;
      d = was.d;
      y = was.y;
      parts = ap (λ ds. mark ∷ ds) (front_parts rest ∙ ap (λ ds. take_while is_ascii_digit rest ++ ds) year.parts);
      is_mark = mark_told mark two.0;
      is_month = was.is_month;
      is_day = field_told 1 2 (take_while is_ascii_digit rest) was.d was.is_day;
      is_year = year.is_year;
      real = was.real;
      last = was.last;
      value = was.value;
    }

pub date_told : (text : List ℕ) (number : ℤ) → date_of text ≡ Some number → IsDate text number
unfolding date_of
date_told text number e =
    let was = after_told (field_of 1 2 (take_while is_ascii_digit text)) (past_digits text) number e in
    record {
      month = take_while is_ascii_digit text;
      day = was.day;
      year = was.year;
      mark = was.mark;
      m = was.m;
      d = was.d;
      y = was.y;
      parts = front_parts text ∙ ap (λ ds. take_while is_ascii_digit text ++ ds) was.parts;
      is_mark = was.is_mark;
      is_month = field_told 1 2 (take_while is_ascii_digit text) was.m was.is_month;
      is_day = was.is_day;
      is_year = was.is_year;
      real = was.real;
      last = was.last;
      value = was.value;
    }

-- a function with this value meets the relation
pub some_date : (text : List ℕ) (o : Option ℤ) → o ≡ date_of text → IfSome o (IsDate text)
some_date text None e = tt
some_date text (Some number) e = date_told text number (sym e)

pub none_date : (text : List ℕ) (o : Option ℤ) → o ≡ date_of text → IfNone o ((number : ℤ) → ¬ (IsDate text number))
none_date text None e = λ number date. let clash : None ≡ Some number = e ∙ date_is text number date in absurd (cc)
none_date text (Some number) e = tt
