-- The forms of the lines that give cross-sections, by their shapes (User's Manual, section [XSECTIONS]; ranges and
-- faults are this project's profile), and the cross-sections of an input.
use Rattle.std.specs.Prelude.{ℕ, ℤ, Bool, if◌then◌else◌, List, codes, Option, Some, None}
use Rattle.net_types.specs.declared.faults.LineFault.{LineFault}
use Rattle.net_types.specs.declared.network.Link.{Link}
use Rattle.net_types.specs.declared.network.Shape.{Shape}
use Rattle.net_types.specs.declared.network.Shape.TheVariants.{RectOpen, RectClosed, Trapezoidal, Triangular, Circular}
use Rattle.inp_values.specs.Words.{same_word}
use Rattle.inp_lines.specs.declared.line.Line.{Line}
use Rattle.inp_lines.specs.declared.line.SectionName.TheVariants as section
use Rattle.inp_lines.specs.Faults.{token_at}
use Rattle.inp_forms.specs.declared.item.Objects.TheVariants as objects
use Rattle.inp_forms.specs.declared.item.Value.{Value}
use Rattle.inp_forms.specs.declared.words.Keyword.{Keyword}
use Rattle.inp_forms.specs.declared.words.Keyword.TheVariants as keyword
use Rattle.inp_forms.specs.Context.{Context}
use Rattle.inp_forms.specs.Forms.{RowForm, Forms}
use Rattle.inp_forms.specs.Getters.{amount_at, choice_at, index_at}
use Rattle.inp_owners.specs.Owners.{owned_fault, owned_of, owner_of}
use Rattle.inp_owners.specs.Placing.{with_owned}
use Rattle.inp_sections.specs.declared.cross_sections.OwnSection.{OwnSection}
use Rattle.inp_sections.specs.declared.cross_sections.TheConstants.{PLAIN_SECTION, TRAPEZOIDAL_SECTION}
use Rattle.inp_sections.specs.declared.cross_sections.TheConstants.{CIRCULAR_SECTION}

-- a cross-section of a shape
abbrev pub own_section : List Value → Shape → OwnSection
own_section values shape = record {
  link = index_at values 0;
  «section» = record { shape = shape; full = amount_at values 2; barrels = amount_at values 6 };
}

-- the shape of a keyword with one width
abbrev pub shape_of : Keyword → ℤ → Shape
shape_of keyword.RectClosed width = RectClosed width
shape_of keyword.Triangular width = Triangular width
shape_of _ width = RectOpen width

abbrev pub plain_shape : Option Keyword → ℤ → Shape
plain_shape (Some found) width = shape_of found width
plain_shape None width = RectOpen width

abbrev pub plain_form : RowForm OwnSection
plain_form = record {
  items = PLAIN_SECTION;
  make = λ tokens values. own_section values (plain_shape (choice_at values 1) (amount_at values 3));
}

abbrev pub trapezoidal_form : RowForm OwnSection
trapezoidal_form = record {
  items = TRAPEZOIDAL_SECTION;
  make = λ tokens values. own_section values (Trapezoidal (amount_at values 3) (amount_at values 4)
      (amount_at values 5));
}

abbrev pub circular_form : RowForm OwnSection
circular_form = record { items = CIRCULAR_SECTION; make = λ tokens values. own_section values Circular }

abbrev pub is_shape : List (List ℕ) → List ℕ → Bool
is_shape tokens shape = same_word (token_at tokens 1) shape

-- the form of a line by its shape
unfoldable pub section_form : List (List ℕ) → RowForm OwnSection
section_form tokens =
    if is_shape tokens (codes "TRAPEZOIDAL") then trapezoidal_form
    else if is_shape tokens (codes "CIRCULAR") then circular_form
    else plain_form

abbrev pub section_forms : Forms OwnSection
section_forms section.XSections = Some section_form
section_forms _ = None

-- the name of the link of a line of cross-sections
abbrev pub section_name : Context → Line → Option (List ℕ)
section_name known line = owner_of known objects.Links section_forms line

-- the cross-sections that lines give, in their order
abbrev pub sections_of : Context → List Line → List OwnSection
sections_of known lines = owned_of known objects.Links section_forms lines

-- the fault of a line of cross-sections, none or one, by the lines before it
abbrev pub section_fault : Context → List Line → Line → List LineFault
section_fault known = owned_fault known objects.Links section_forms

-- ---- links with their cross-sections
abbrev pub link_of_section : OwnSection → ℕ
link_of_section own = own.link

-- a link that gains a cross-section
abbrev pub with_section : OwnSection → Link → Link
with_section own link = record link { «section» = Some own.«section» }

-- links, each with the cross-section that is its own
unfoldable pub with_sections : List OwnSection → List Link → List Link
with_sections sections links = with_owned link_of_section with_section sections links
