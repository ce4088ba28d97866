-- The inflows and dry weather flows that lines mean are sound.
use Rattle.std.proofs.Common.{◌≡◌, ◌≤◌, ◌<◌, ◌^◌, ◌+◌, ◌∷◌, [], ℕ, ℤ, pos, List, filter, length, sym, subst, arith}
use Rattle.std.proofs.Common.{filter_map, Option, Some, None}
use Rattle.std.specs.List.{All, AllZip, cons_option}
use Rattle.std.specs.Option.{IfSome}
use Rattle.std.proofs.lemmas.List.Elements.{All-nil, All-cons}
use Rattle.net_types.specs.declared.inflows.DryFlow.{DryFlow}
use Rattle.net_types.specs.declared.inflows.Inflow.{Inflow}
use Rattle.net_types.specs.declared.project.Project.{Project}
use Rattle.fixed_num.specs.Ranges.{IsRaw}
use Rattle.fixed_num.proofs.Bounds.{le_number, within_both, within_minus, within_number}
use Rattle.inp_values.specs.declared.quantities.Quantity.TheVariants.{Raw}
use Rattle.inp_values.specs.Units.{unit_for}
use Rattle.inp_lines.specs.declared.line.Line.{Line}
use Rattle.inp_lines.specs.Faults.{token_at}
use Rattle.inp_forms.specs.declared.item.Item.TheVariants.{Needed}
use Rattle.inp_forms.specs.declared.item.Objects.{Objects}
use Rattle.inp_forms.specs.declared.item.Objects.TheVariants as objects
use Rattle.inp_forms.specs.declared.item.Value.{Value}
use Rattle.inp_forms.specs.declared.item.Value.TheVariants.{Nothing, Amount}
use Rattle.inp_forms.specs.declared.item.What.TheVariants as what
use Rattle.inp_forms.specs.Context.{Context, object_number}
use Rattle.inp_forms.specs.Getters.{amount_of, index_or_nothing, index_or_none, value_at}
use Rattle.inp_forms.specs.Meaning.{IsAmount, IsItemOr, IsMade, IsMaybe, IsObject}
use Rattle.inp_forms.proofs.PlaceLemmas.{IsInRange, amount_in, amount_or_in, index_in, item_at, or_means}
use Rattle.inp_inflows.specs.Counted.{MeanCounted, is_line_of}
use Rattle.inp_inflows.specs.Inflows.{dry_form, dry_row, inflow_form, inflow_row}
use Rattle.inp_inflows.specs.Laws.{IsSoundDry, IsSoundInflow, NamesSources}

-- what holds of the record of each line holds of all records
all_zipped : {L R : Type 0} (Is : L → R → Type 0) (P : R → Type 0) → ((line : L) (r : R) → Is line r → P r)
    → (lines : List L) (rs : List R) → AllZip Is lines rs → All P rs
all_zipped Is P each [] [] z = All-nil P
all_zipped Is P each [] (r ∷ rs) z = absurd z
all_zipped Is P each (line ∷ lines) [] z = absurd z
all_zipped Is P each (line ∷ lines) (r ∷ rs) z = All-cons P r rs (each line r z.0) (all_zipped Is P each lines rs z.1)

module _ (known : Context) where
  raw_in : (value : ℤ) → IsInRange known Raw value → IsRaw value
  unfolding unit_for
  raw_in value range = within_both range (within_minus (10 ^ 15)) (within_number (10 ^ 15))

  raw_or : (missing : ℤ) (tokens : List (List ℕ)) (place : ℕ) (value : Value) → IsInRange known Raw missing
      → IsItemOr known (Amount missing) (what.Number Raw) tokens place value → IsRaw (amount_of value)
  raw_or missing tokens place value range is = raw_in (amount_of value) (amount_or_in known Raw missing tokens place value is range)

  zero_in : IsInRange known Raw (pos 0)
  unfolding unit_for
  zero_in = record { from = le_number tt; to = le_number tt }

  one_in : IsInRange known Raw (pos 1_000_000)
  unfolding unit_for
  one_in = record { from = le_number tt; to = le_number tt }

  -- an object that there may be
  object_some : (kind : Objects) (text : List ℕ) (value : Value) (P : ℕ → Type 0) → ((name : List ℕ) (n : ℕ) → object_number known kind name ≡ Some n → P n) → IsObject known kind text value → IfSome (index_or_nothing value) P
  object_some kind text value P each is = subst (λ v. IfSome (index_or_nothing v) P) (sym is.value_is) (index_in known kind text value P each is)

  maybe_some : (kind : Objects) (text : List ℕ) (value : Value) (P : ℕ → Type 0) → ((name : List ℕ) (n : ℕ) → object_number known kind name ≡ Some n → P n) → IsMaybe known kind text value → IfSome (index_or_nothing value) P
  maybe_some kind [] value P each is = subst (λ v. IfSome (index_or_nothing v) P) (sym is) tt
  maybe_some kind (byte ∷ bytes) value P each is = object_some kind (byte ∷ bytes) value P each is

  module _ (project : Project) (sources_are : NamesSources known project) (tokens : List (List ℕ)) where
    inflow_sound : (inflow : Inflow) → IsMade known inflow_row tokens inflow → IsSoundInflow project inflow
    inflow_sound inflow is =
        let values = is.values in
        let at = item_at known inflow_row.items tokens 0 values is.are.each in
        subst (IsSoundInflow project) (sym is.made_is) (record {
          range = record {
            scale_in = raw_or (pos 1_000_000) tokens 5 (value_at values 5) one_in (at 5 (Needed what.Name) (omega arith));
            base_in = raw_or (pos 0) tokens 6 (value_at values 6) zero_in (at 6 (Needed what.Name) (omega arith));
          };
          names = record {
            node = index_in known objects.Nodes (token_at tokens 0) (value_at values 0) (λ n. n < length project.nodes)
                sources_are.nodes (at 0 (Needed what.Name) (omega arith));
            series = maybe_some objects.Series (token_at tokens 2) (value_at values 2) (λ n. n < length project.series)
                sources_are.series (at 2 (Needed what.Name) (omega arith));
            pattern = or_means known Nothing (what.Object objects.Patterns) tokens 7 (value_at values 7)
                (λ v. IfSome (index_or_nothing v) (λ n. n < length project.patterns)) (at 7 (Needed what.Name) (omega arith))
                (λ text is. object_some objects.Patterns text (value_at values 7) (λ n. n < length project.patterns) sources_are.patterns is) tt;
          };
        })

    pattern_or : (place : ℕ) (value : Value) → IsItemOr known Nothing (what.Maybe objects.Patterns) tokens place value → IfSome (index_or_nothing value) (λ n. n < length project.patterns)
    pattern_or place value is = or_means known Nothing (what.Maybe objects.Patterns) tokens place value
        (λ v. IfSome (index_or_nothing v) (λ n. n < length project.patterns)) is
        (λ text is. maybe_some objects.Patterns text value (λ n. n < length project.patterns) sources_are.patterns is) tt

    one_more : (o : Option ℕ) (ns : List ℕ) → IfSome o (λ n. n < length project.patterns) → All (λ n. n < length project.patterns) ns → All (λ n. n < length project.patterns) (cons_option o ns)
    one_more None ns some all = all
    one_more (Some n) ns some all = All-cons (λ n. n < length project.patterns) n ns some all

    one_longer : (o : Option ℕ) (ns : List ℕ) (most : ℕ) → length ns ≤ most → length (cons_option o ns) ≤ most + 1
    one_longer None ns most few = omega (arith, few)
    one_longer (Some n) ns most few = omega (arith, few)

    dry_sound : (dry : DryFlow) → IsMade known dry_row tokens dry → IsSoundDry project dry
    dry_sound dry is =
        let values = is.values in
        let at = item_at known dry_row.items tokens 0 values is.are.each in
        let f = index_or_none values in
        let base : IsAmount known Raw (token_at tokens 2) (value_at values 2) = at 2 (Needed what.Name) (omega arith) in
        subst (IsSoundDry project) (sym is.made_is) (record {
          range = record {
            base_in = raw_in (amount_of (value_at values 2)) (amount_in known Raw (token_at tokens 2) (value_at values 2) base);
            few = one_longer (f 3) (filter_map f (4 ∷ 5 ∷ 6 ∷ [])) 3 (one_longer (f 4) (filter_map f (5 ∷ 6 ∷ [])) 2
                (one_longer (f 5) (filter_map f (6 ∷ [])) 1 (one_longer (f 6) [] 0 (omega arith))));
          };
          names = record {
            node = index_in known objects.Nodes (token_at tokens 0) (value_at values 0) (λ n. n < length project.nodes)
                sources_are.nodes (at 0 (Needed what.Name) (omega arith));
            patterns = one_more (f 3) (filter_map f (4 ∷ 5 ∷ 6 ∷ [])) (pattern_or 3 (value_at values 3) (at 3 (Needed what.Name) (omega arith)))
                (one_more (f 4) (filter_map f (5 ∷ 6 ∷ [])) (pattern_or 4 (value_at values 4) (at 4 (Needed what.Name) (omega arith)))
                (one_more (f 5) (filter_map f (6 ∷ [])) (pattern_or 5 (value_at values 5) (at 5 (Needed what.Name) (omega arith)))
                (one_more (f 6) [] (pattern_or 6 (value_at values 6) (at 6 (Needed what.Name) (omega arith))) (All-nil (λ n. n < length project.patterns)))));
          };
        })

  pub inflows_sound : (project : Project) → NamesSources known project → (lines : List Line) (inflows : List Inflow) → MeanCounted known inflow_form lines inflows → All (IsSoundInflow project) inflows
  inflows_sound project sources_are lines inflows mean = all_zipped (λ (line : Line) (made : Inflow). IsMade known inflow_row line.tokens made) (IsSoundInflow project)
      (λ line made is. inflow_sound project sources_are line.tokens made is) (filter (is_line_of inflow_form) lines) inflows mean

  pub dry_flows_sound : (project : Project) → NamesSources known project → (lines : List Line) (dry : List DryFlow) → MeanCounted known dry_form lines dry → All (IsSoundDry project) dry
  dry_flows_sound project sources_are lines dry mean = all_zipped (λ (line : Line) (made : DryFlow). IsMade known dry_row line.tokens made) (IsSoundDry project)
      (λ line made is. dry_sound project sources_are line.tokens made is) (filter (is_line_of dry_form) lines) dry mean
