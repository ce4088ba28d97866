-- Cross-sections: their width at a depth (User's Manual, section [XSECTIONS]).
use Rattle.std.specs.Prelude.{Bool, true, false, ℤ, pos, ◌+ℤ◌, ◌-ℤ◌, ◌*ℤ◌}
use Rattle.fixed_num.specs.Roots.{root2_of}
use Rattle.fixed_num.specs.Rounding.{quo_of}
use Rattle.net_types.specs.declared.network.Section.{Section}
use Rattle.net_types.specs.declared.network.Shape.{Shape}
use Rattle.net_types.specs.declared.network.Shape.TheVariants.{RectOpen, RectClosed, Trapezoidal, Triangular, Circular}

-- the width of a shape of the full height at a depth y
abbrev pub shape_width : Shape → (full y : ℤ) → ℤ
shape_width (RectOpen width) full y = width
shape_width (RectClosed width) full y = width
shape_width (Trapezoidal bottom left6 right6) full y = bottom +ℤ quo_of ((left6 +ℤ right6) *ℤ y) (pos 1_000_000)
shape_width (Triangular top) full y = quo_of (top *ℤ y) full
shape_width Circular full y = pos 2 *ℤ root2_of (y *ℤ (full -ℤ y))

-- the width of a section at a depth y, in µm
unfoldable pub width_at : Section → ℤ → ℤ
width_at section y = shape_width section.shape section.full y

-- closed at the top
abbrev pub is_closed : Shape → Bool
is_closed (RectOpen width) = false
is_closed (RectClosed width) = true
is_closed (Trapezoidal bottom left6 right6) = false
is_closed (Triangular top) = false
is_closed Circular = true

-- the flat top of a closed shape, which a full section wets too
abbrev pub top_width : Shape → ℤ
top_width (RectOpen width) = pos 0
top_width (RectClosed width) = width
top_width (Trapezoidal bottom left6 right6) = pos 0
top_width (Triangular top) = pos 0
top_width Circular = pos 0

-- no width of the shape is above 10^10 µm: all but a trapezoid's, whose sides may spread further
abbrev pub is_narrow : Shape → Bool
is_narrow (RectOpen width) = true
is_narrow (RectClosed width) = true
is_narrow (Trapezoidal bottom left6 right6) = false
is_narrow (Triangular top) = true
is_narrow Circular = true
