-- Lists of what stands at so many places.
use Rattle.std.proofs.Common.{◌≡◌, ◌∙◌, ℕ, zero, suc, ◌+◌, ◌*◌, ◌≤◌, Bool, true, false}
use Rattle.std.proofs.Common.{cond, List, [], ◌∷◌, ◌++◌, length, map, refl, sym, ap, arith}
use Rattle.std.specs.List.{range_with_len}
use Rattle.fixed_num.specs.Lists.{list_of}
use Rattle.net_types.specs.declared.options.InfilKind.{InfilKind}
use Rattle.net_types.specs.declared.options.InfilKind.TheVariants.{ModifiedHorton, CurveNumber}
use Rattle.hotstart.specs.Checks.{IsGoodFile}
use Rattle.hotstart.specs.Layout.{Field, widths, times, magic, counts, head_fields, link_fields, least_fields}
use Rattle.hotstart.specs.Layout.{sub_fields, net_values, new_fields, rest_of, layout_of, is_old}
use Rattle.hotstart.specs.Reading.{sub_width}
use Rattle.hotstart.specs.declared.shape.Shape.{Shape}

mapped_more : {A : Type 0} (f : ℕ → A) (from n : ℕ) → map f (range_with_len from (n + 1)) ≡ map f (range_with_len from n) ++ f (from + n) ∷ []
mapped_more f from zero = let same : from ≡ from + 0 = omega arith in ap (λ (k : ℕ). f k ∷ []) same
mapped_more f from (suc n) =
    let same : from + 1 + n ≡ from + suc n = omega arith in
    let next : suc n + 1 ≡ suc (n + 1) = omega arith in
    ap (λ (k : ℕ). map f (range_with_len from k)) next
    ∙ ap (λ l. f from ∷ l) (mapped_more f (from + 1) n ∙ ap (λ (k : ℕ). map f (range_with_len (from + 1) n) ++ f k ∷ []) same)

-- one more place
pub list_more : {A : Type 0} (f : ℕ → A) (k : ℕ) (so_far : List A) (next : A) → so_far ≡ list_of f k → next ≡ f k → so_far ++ next ∷ [] ≡ list_of f (k + 1)
list_more f k so_far next e g =
    let same : 0 + k ≡ k = omega arith in
    ap (λ l. l ++ next ∷ []) e ∙ ap (λ x. list_of f k ++ x ∷ []) (g ∙ ap f (sym same)) ∙ sym (mapped_more f 0 k)

-- the widths of some fields and then more
pub widths-append : (xs ys : List Field) → widths (xs ++ ys) ≡ widths xs + widths ys
widths-append [] ys = omega arith
widths-append (x ∷ xs) ys = omega (arith, widths-append xs ys)

widths-times : (n : ℕ) (row : List Field) → widths (times n row) ≡ widths row * n
widths-times zero row = omega arith
widths-times (suc n) row = omega (arith, widths-append row (times n row), widths-times n row)

sub_widths : (method : InfilKind) → widths (sub_fields method) ≡ sub_width method
sub_widths ModifiedHorton = refl
sub_widths CurveNumber = refl

nets_width : (shape : Shape) → widths (net_values shape) ≡ 8 * shape.nodes + 16 * shape.links
nets_width shape = omega (arith, widths-append (times shape.nodes head_fields) (times shape.links link_fields), widths-times shape.nodes head_fields, widths-times shape.links link_fields)

front_width : (shape : Shape) → widths (magic ++ counts shape) ≡ 20
front_width shape = refl

new_width : (shape : Shape) → widths (new_fields shape) ≡ 12 + 8 * shape.nodes + 16 * shape.links + sub_width shape.kind * shape.subs
new_width shape =
    omega (
      arith,
      nets_width shape,
      widths-append (net_values shape) (least_fields ++ times shape.subs (sub_fields shape.kind)),
      widths-append least_fields (times shape.subs (sub_fields shape.kind)),
      subs,
    )
  where
    subs : widths (times shape.subs (sub_fields shape.kind)) ≡ sub_width shape.kind * shape.subs
    subs = widths-times shape.subs (sub_fields shape.kind) ∙ ap (λ (w : ℕ). w * shape.subs) (sub_widths shape.kind)

-- the length of a good file, by its version
pub old_length : (shape : Shape) (file : List ℕ) → IsGoodFile file (layout_of shape file) → is_old file ≡ true → 20 + 8 * shape.nodes + 16 * shape.links ≡ length file
unfolding layout_of
old_length shape file good e =
    let rest : widths (rest_of shape file) ≡ widths (net_values shape) = ap (λ (b : Bool). widths (cond b (net_values shape) (new_fields shape))) e in
    omega (arith, good.whole, widths-append (magic ++ counts shape) (rest_of shape file), front_width shape, nets_width shape, rest)

pub new_length : (shape : Shape) (file : List ℕ) → IsGoodFile file (layout_of shape file) → is_old file ≡ false
    → 32 + 8 * shape.nodes + 16 * shape.links + sub_width shape.kind * shape.subs ≡ length file
unfolding layout_of
new_length shape file good e =
    let rest : widths (rest_of shape file) ≡ widths (new_fields shape) = ap (λ (b : Bool). widths (cond b (net_values shape) (new_fields shape))) e in
    omega (arith, good.whole, widths-append (magic ++ counts shape) (rest_of shape file), front_width shape, new_width shape, rest)

-- a good file has a version
pub long_enough : (shape : Shape) (file : List ℕ) → IsGoodFile file (layout_of shape file) → 8 ≤ length file
unfolding layout_of
long_enough shape file good = omega (arith, good.whole, widths-append (magic ++ counts shape) (rest_of shape file), front_width shape)
