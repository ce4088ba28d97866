-- What lines of cross-sections and losses mean is sound.
use Rattle.std.proofs.Common.{◌≡◌, ◌<◌, ◌≤◌, ◌^◌, ◌∷◌, [], ℕ, ℤ, pos, Bool, true, false, cond, codes, List, filter}
use Rattle.std.proofs.Common.{length, refl, sym, subst, arith, Option, Some, None}
use Rattle.std.specs.Bool.{⊤}
use Rattle.std.specs.List.{All, AllZip}
use Rattle.std.proofs.lemmas.Int.{ints}
use Rattle.std.proofs.lemmas.List.Elements.{All-nil, All-cons}
use Rattle.net_types.specs.declared.network.Shape.{Shape}
use Rattle.net_types.specs.declared.network.Shape.TheVariants.{RectOpen, RectClosed, Trapezoidal, Triangular, Circular}
use Rattle.net_types.specs.declared.project.Project.{Project}
use Rattle.net_types.specs.Ranges.{ShapeInRange}
use Rattle.fixed_num.specs.Ranges.{AreBarrels, IsCoefficient, IsFullHeight, IsWidth}
use Rattle.fixed_num.proofs.Bounds.{le_number}
use Rattle.inp_values.specs.declared.quantities.Quantity.TheVariants as quantity
use Rattle.inp_values.specs.Units.{unit_for}
use Rattle.inp_lines.specs.declared.line.Line.{Line}
use Rattle.inp_lines.specs.declared.line.SectionName.{SectionName}
use Rattle.inp_lines.specs.declared.line.SectionName.TheVariants as section
use Rattle.inp_lines.specs.Faults.{token_at}
use Rattle.inp_forms.specs.declared.item.Item.TheVariants.{Needed}
use Rattle.inp_forms.specs.declared.item.Objects.TheVariants as objects
use Rattle.inp_forms.specs.declared.item.Value.{Value}
use Rattle.inp_forms.specs.declared.item.Value.TheVariants.{Amount}
use Rattle.inp_forms.specs.declared.item.What.TheVariants as what
use Rattle.inp_forms.specs.declared.words.Keyword.{Keyword}
use Rattle.inp_forms.specs.declared.words.Keyword.TheVariants as keyword
use Rattle.inp_forms.specs.Context.{Context}
use Rattle.inp_forms.specs.Forms.{is_form_line}
use Rattle.inp_forms.specs.Getters.{amount_of, amount_at, choice_at, index_at, value_at}
use Rattle.inp_forms.specs.Laws.{MeanRecords}
use Rattle.inp_forms.specs.Meaning.{IsAmount, IsItemOr, IsMade, IsMadeBy, IsObject, IsRecord, IsValue, IsWholeAmount}
use Rattle.inp_forms.proofs.PlaceLemmas.{amount_or_in, item_at, least_in, or_means}
use Rattle.inp_sections.specs.declared.cross_sections.OwnSection.{OwnSection}
use Rattle.inp_sections.specs.declared.losses.OwnLosses.{OwnLosses}
use Rattle.inp_sections.specs.CrossSections.{circular_form, is_shape, own_section, plain_form, plain_shape}
use Rattle.inp_sections.specs.CrossSections.{section_form, section_forms, shape_of, trapezoidal_form}
use Rattle.inp_sections.specs.Losses.{loss_form, loss_forms}
use Rattle.inp_sections.specs.Soundness.{AreSoundLosses, IsSoundSection, NamesLinks}

-- what holds of the record of each line holds of all records
all_zipped : {L R : Type 0} (Is : L → R → Type 0) (P : R → Type 0) → ((line : L) (r : R) → Is line r → P r)
    → (lines : List L) (rs : List R) → AllZip Is lines rs → All P rs
all_zipped Is P each [] [] z = All-nil P
all_zipped Is P each [] (r ∷ rs) z = absurd z
all_zipped Is P each (line ∷ lines) [] z = absurd z
all_zipped Is P each (line ∷ lines) (r ∷ rs) z = All-cons P r rs (each line r z.0) (all_zipped Is P each lines rs z.1)

-- the ranges of values, which the units of measure have no part in
module _ (known : Context) (text : List ℕ) (value : Value) where
  coefficient_in : IsAmount known quantity.Coefficient text value → IsCoefficient (amount_of value)
  unfolding unit_for
  coefficient_in is = is.stored.range

  width_in : IsAmount known quantity.Width text value → IsWidth (amount_of value)
  unfolding unit_for
  width_in is = is.stored.range

  full_in : IsValue known (what.AtLeast (pos 1_000) quantity.Depth) text value → IsFullHeight (amount_of value)
  unfolding unit_for
  full_in is = least_in known (pos 1_000) quantity.Depth text value is

module _ (known : Context) (tokens : List (List ℕ)) (place : ℕ) (value : Value) where
  coefficient_or : IsItemOr known (Amount (pos 0)) (what.Number quantity.Coefficient) tokens place value
      → IsCoefficient (amount_of value)
  unfolding unit_for
  coefficient_or is = amount_or_in known quantity.Coefficient (pos 0) tokens place value is
      (record { from = le_number tt; to = le_number tt })

  barrels_or : IsItemOr known (Amount (pos 1)) (what.Whole 1 100) tokens place value → AreBarrels (amount_of value)
  barrels_or is = or_means known (Amount (pos 1)) (what.Whole 1 100) tokens place value (λ v. AreBarrels
      (amount_of v)) is (λ text whole. few text whole) (record { from = le_number tt; to = le_number tt }) where
        few : (text : List ℕ) → IsWholeAmount 1 100 text value → AreBarrels (amount_of value)
        few text whole = subst (λ v. AreBarrels (amount_of v)) (sym whole.value_is) (record {
          from = omega
              (arith, ints, whole.from);
          to = omega (arith, ints, whole.to);
        })

module _ (known : Context) (project : Project) (links_are : NamesLinks known project) (tokens : List (List ℕ)) where
  loss_sound : (own : OwnLosses) → IsMade known loss_form tokens own → AreSoundLosses project own
  loss_sound own is =
      let values = is.values in
      let at = item_at known loss_form.items tokens 0 values is.are.each in
      let link : IsObject known objects.Conduits (token_at tokens 0) (value_at values 0) = at 0 (Needed what.Name)
      (omega arith) in
      subst (AreSoundLosses project) (sym is.made_is) (record {
        entry_in = coefficient_in known (token_at tokens 1) (value_at values 1) (at 1 (Needed what.Name) (omega arith));
        exit_in = coefficient_in known (token_at tokens 2) (value_at values 2) (at 2 (Needed what.Name) (omega arith));
        avg_in = coefficient_in known (token_at tokens 3) (value_at values 3) (at 3 (Needed what.Name) (omega arith));
        link = links_are.conduits (token_at tokens 0) (index_at values 0) link.number_is;
      })

  -- a cross-section of a shape that lies in its range
  of_shape : (values : List Value) (shape : Shape) → IsObject known objects.Links (token_at tokens 0)
      (value_at values 0)
      → IsValue known (what.AtLeast (pos 1_000) quantity.Depth) (token_at tokens 2) (value_at values 2)
      → IsItemOr known (Amount (pos 1)) (what.Whole 1 100) tokens 6 (value_at values 6) → ShapeInRange shape
      → IsSoundSection project (own_section values shape)
  of_shape values shape link full barrels range = record {
    range = record {
      shape_in = range;
      full_in = full_in known (token_at tokens 2) (value_at values 2) full;
      barrels_in = barrels_or known tokens 6 (value_at values 6) barrels;
    };
    link = links_are.links (token_at tokens 0) (index_at values 0) link.number_is;
  }

  plain_in : (found : Option Keyword) (width : ℤ) → IsWidth width → ShapeInRange (plain_shape found width)
  plain_in None width h = h
  plain_in (Some found) width h = word found where
    word : (found : Keyword) → ShapeInRange (shape_of found width)
    word keyword.RectClosed = h
    word keyword.Triangular = h
    word _ = h

  plain_sound : (own : OwnSection) → IsMade known plain_form tokens own → IsSoundSection project own
  plain_sound own is =
      let values = is.values in
      let at = item_at known plain_form.items tokens 0 values is.are.each in
      subst (IsSoundSection project) (sym is.made_is) (of_shape values (plain_shape (choice_at values 1)
      (amount_at values 3)) (at 0 (Needed what.Name) (omega arith)) (at 2 (Needed what.Name) (omega arith)) (at 6
      (Needed what.Name) (omega arith))
      (plain_in (choice_at values 1) (amount_at values 3) (width_in known (token_at tokens 3) (value_at values 3)
      (at 3 (Needed what.Name) (omega arith)))))

  trapezoidal_sound : (own : OwnSection) → IsMade known trapezoidal_form tokens own → IsSoundSection project own
  trapezoidal_sound own is =
      let values = is.values in
      let at = item_at known trapezoidal_form.items tokens 0 values is.are.each in
      subst (IsSoundSection project) (sym is.made_is) (of_shape values (Trapezoidal (amount_at values 3)
      (amount_at values 4) (amount_at values 5)) (at 0 (Needed what.Name) (omega arith)) (at 2 (Needed what.Name)
      (omega arith)) (at 6 (Needed what.Name) (omega arith)) (record {
        bottom_in = width_in known (token_at tokens 3) (value_at values 3) (at 3 (Needed what.Name) (omega arith));
        left_in = coefficient_or known tokens 4 (value_at values 4) (at 4 (Needed what.Name) (omega arith));
        right_in = coefficient_or known tokens 5 (value_at values 5) (at 5 (Needed what.Name) (omega arith));
      }))

  circular_sound : (own : OwnSection) → IsMade known circular_form tokens own → IsSoundSection project own
  circular_sound own is =
      let values = is.values in
      let at = item_at known circular_form.items tokens 0 values is.are.each in
      subst (IsSoundSection project) (sym is.made_is) (of_shape values Circular (at 0 (Needed what.Name)
      (omega arith)) (at 2 (Needed what.Name) (omega arith)) (at 6 (Needed what.Name) (omega arith)) tt)

  section_sound : (own : OwnSection) → IsMade known (section_form tokens) tokens own → IsSoundSection project own
  unfolding section_form
  section_sound own is = trapezoid (is_shape tokens (codes "TRAPEZOIDAL")) is where
    circle : (b : Bool) → IsMade known (cond b circular_form plain_form) tokens own → IsSoundSection project own
    circle true is = circular_sound own is
    circle false is = plain_sound own is

    trapezoid : (b : Bool) → IsMade known (cond b trapezoidal_form (cond (is_shape tokens
        (codes "CIRCULAR")) circular_form plain_form)) tokens own → IsSoundSection project own
    trapezoid true is = trapezoidal_sound own is
    trapezoid false is = circle (is_shape tokens (codes "CIRCULAR")) is

  section_by : (name : SectionName) (own : OwnSection) → IsMadeBy known (section_forms name) tokens own
      → IsSoundSection project own
  section_by section.XSections own is = section_sound own is
  section_by _ own is = absurd is

  loss_by : (name : SectionName) (own : OwnLosses) → IsMadeBy known (loss_forms name) tokens own
      → AreSoundLosses project own
  loss_by section.Losses own is = loss_sound own is
  loss_by _ own is = absurd is

pub sections_sound : (known : Context) (project : Project) → NamesLinks known project
    → (lines : List Line) (sections : List OwnSection) → MeanRecords known section_forms lines sections
    → All (IsSoundSection project) sections
sections_sound known project links_are lines sections mean =
    all_zipped (IsRecord known section_forms) (IsSoundSection project) (λ line own is. section_by known project
    links_are line.tokens line.section own is) (filter (is_form_line section_forms) lines) sections mean

pub losses_sound : (known : Context) (project : Project) → NamesLinks known project
    → (lines : List Line) (losses : List OwnLosses) → MeanRecords known loss_forms lines losses
    → All (AreSoundLosses project) losses
losses_sound known project links_are lines losses mean =
    all_zipped (IsRecord known loss_forms) (AreSoundLosses project) (λ line own is. loss_by known project links_are
    line.tokens line.section own is) (filter (is_form_line loss_forms) lines) losses mean
