-- Records of pairs grow line by line: what lines without a fault give means what the lines mean, rises and is in range.
use Rattle.std.proofs.Common.{◌≡◌, ◌∷◌, ◌++◌, [], ◌≤◌, length, ℕ, ◌+◌, ◌/◌, List, false}
use Rattle.std.proofs.Common.{Some, None, refl, ap, sym, ◌∙◌, subst, arith, ℤ, append_assoc, append-nil, length-append}
use Rattle.std.specs.List.{All, last_or}
use Rattle.std.proofs.lemmas.List.Elements.{All-nil, All-append}
use Rattle.inp_lines.specs.declared.line.Line.{Line}
use Rattle.inp_lines.specs.Gather.{gather}
use Rattle.inp_lines.proofs.GatherLemmas.{gather_push}
use Rattle.inp_series.specs.declared.pairs.Axis.{Axis}
use Rattle.inp_series.specs.Pairs.{amount_of, are_no_pairs, pairs_fault, values_of, x_of, xs_of}
use Rattle.inp_series.specs.Meaning.{ArePairs, GivePairs}
use Rattle.inp_series.proofs.PairLemmas.{Rises, pairs_even, pairs_mean, pairs_rise, pairs_some, pairs_unique, rises_none, values_few, values_in}
use Rattle.inp_series.proofs.PushLemmas.{last_append}

module _ (axis : List Line → Line → Axis) (items : List Line → Line → List (List ℕ)) where
  abbrev pub all_xs : List Line → List ℤ
  all_xs own = gather (λ before line. xs_of (axis before line) (items before line)) [] own

  abbrev pub all_values : List Line → List (ℤ × ℤ)
  all_values own = gather (λ before line. values_of (axis before line) (items before line)) [] own

  give_push : (before own : List Line) (line : Line) (pairs more : List (ℤ × ℤ)) → GivePairs axis items before own pairs → ArePairs (axis (before ++ own) line) (items (before ++ own) line) more → GivePairs axis items before (own ++ line ∷ []) (pairs ++ more)
  give_push before [] line pairs more give are =
      let here : ArePairs (axis before line) (items before line) more = subst (λ l. ArePairs (axis l line) (items l line) more) (append-nil before) are in
      (more, [], ap (λ l. l ++ more) give ∙ sym (append-nil more), here, refl)
  give_push before (first ∷ own) line pairs more give are =
      let moved : ArePairs (axis ((before ++ first ∷ []) ++ own) line) (items ((before ++ first ∷ []) ++ own) line) more = subst (λ l. ArePairs (axis l line) (items l line) more) (sym (append_assoc before (first ∷ []) own)) are in
      (give.0, give.1 ++ more, ap (λ l. l ++ more) give.2 ∙ append_assoc give.0 give.1 more, give.3, give_push (before ++ first ∷ []) own line give.1 more give.4 moved)

  pub give_unique : (before own : List Line) (a b : List (ℤ × ℤ)) → GivePairs axis items before own a → GivePairs axis items before own b → a ≡ b
  give_unique before [] a b p q = p ∙ sym q
  give_unique before (line ∷ own) a b p q =
      p.2 ∙ (ap (λ l. l ++ p.1) (pairs_unique (axis before line) (items before line) p.0 q.0 p.3 q.3)
      ∙ (ap (λ l. q.0 ++ l) (give_unique (before ++ line ∷ []) own p.1 q.1 p.4 q.4) ∙ sym q.2))

  -- what the lines of a name without a fault give
  pub record AreGood (P : ℤ × ℤ → Type 0) (own : List Line) : Type 0 where
    pub means : GivePairs axis items [] own (all_values own)
    pub rises : Rises (all_values own) (last_or None (all_xs own))
    pub ranges : All P (all_values own)
    pub some : 1 ≤ length own → 1 ≤ length (all_values own)

  pub good_none : (P : ℤ × ℤ → Type 0) → AreGood P []
  good_none P = record { means = refl; rises = rises_none; ranges = All-nil P; some = λ h. absurd (omega (arith, h)) }

  pub good_push : (P : ℤ × ℤ → Type 0) (own : List Line) (line : Line) (place : ℕ) → ((a b : List ℕ) (x y : ℤ) → x_of (axis own line) a ≡ Some x → amount_of b ≡ Some y → P (x, y)) → AreGood P own → are_no_pairs (length (items own line)) ≡ false → pairs_fault (axis own line) (last_or None (all_xs own)) place (items own line) ≡ None → AreGood P (own ++ line ∷ [])
  good_push P own line place each good paired none =
      let here = values_of (axis own line) (items own line) in
      let even = pairs_even (length (items own line)) paired in
      let are = pairs_mean (axis own line) (last_or None (all_xs own)) place (items own line) even.0 none in
      let values : all_values (own ++ line ∷ []) ≡ all_values own ++ here = gather_push (λ before line. values_of (axis before line) (items before line)) own line in
      let xs : last_or None (all_xs (own ++ line ∷ [])) ≡ last_or (last_or None (all_xs own)) (xs_of (axis own line) (items own line)) =
      ap (last_or None) (gather_push (λ before line. xs_of (axis before line) (items before line)) own line) ∙ last_append None (all_xs own) (xs_of (axis own line) (items own line)) in
      let up = pairs_rise (axis own line) (last_or None (all_xs own)) place (items own line) (all_values own) none good.rises in
      record {
        means = subst (GivePairs axis items [] (own ++ line ∷ [])) (sym values) (give_push [] own line (all_values own) here good.means are);
        rises = subst (λ l. Rises l (last_or None (all_xs (own ++ line ∷ [])))) (sym values) (subst (Rises (all_values own ++ here)) (sym xs) up);
        ranges = subst (All P) (sym values) (All-append P (all_values own) here good.ranges (values_in (axis own line) P each (items own line)));
        some = λ h. subst (λ l. 1 ≤ length l) (sym values) (omega (arith, length-append (all_values own) here, pairs_some (axis own line) (items own line) here even.1 are));
      }

  -- a line adds no more pairs than it has
  pub values_grow : (own : List Line) (line : Line) → length (all_values (own ++ line ∷ [])) ≤ length (all_values own) + length (items own line) / 2
  values_grow own line =
      let values : all_values (own ++ line ∷ []) ≡ all_values own ++ values_of (axis own line) (items own line) = gather_push (λ before line. values_of (axis before line) (items before line)) own line in
      omega (arith, ap length values, length-append (all_values own) (values_of (axis own line) (items own line)), values_few (axis own line) (items own line))
