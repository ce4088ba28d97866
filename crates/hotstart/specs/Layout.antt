-- The fields of a hotstart file, and its first fault (this project's profile).
use Rattle.std.specs.Prelude.{ℕ, zero, suc, ◌+◌, ◌*◌, ◌^◌, ◌==◌, Bool, ◌||◌, ◌&&◌, nat_lt}
use Rattle.std.specs.Prelude.{if◌then◌else◌, List, [], ◌∷◌, ◌++◌, length, drop, map}
use Rattle.std.specs.Prelude.{slice_index, codes, Option, Some, None, ℤ, pos, neg_ℤ, int_le}
use Rattle.std.specs.Int.{cast_signed, w64}
use Rattle.std.specs.Option.{option_or}
use Rattle.byteorder.specs.Endian.{little_number}
use Rattle.net_types.specs.declared.options.InfilKind.{InfilKind}
use Rattle.net_types.specs.declared.options.InfilKind.TheVariants.{ModifiedHorton, CurveNumber}
use Rattle.hotstart.specs.HotBytes.{kind_number}
use Rattle.hotstart.specs.declared.refusal.Refusal.{Refusal}
use Rattle.hotstart.specs.declared.shape.Shape.{Shape}
use Rattle.hotstart.specs.declared.refusal.Refusal.TheVariants.{BadMagic, Ends, Count, Kind, BadValue, GoesOn}

-- a field: a byte of the magic word; its last byte, the version, which is `1` or `2`; a count by its number,
-- which is to be this one; a kind of infiltration, which is to be this one; a value, which is to lie within
-- these
pub data Field : Type 0 where
  letter : (byte : ℕ) → Field
  version : Field
  count : (what own : ℕ) → Field
  kind : (own : ℕ) → Field
  value : (least most : ℤ) → Field

-- the bytes of a field
abbrev pub width : Field → ℕ
width (letter byte) = 1
width version = 1
width (count what own) = 4
width (kind own) = 4
width (value least most) = 8

abbrev pub widths : List Field → ℕ
widths [] = 0
widths (field ∷ fields) = width field + widths fields

-- the number in so many bytes from a place, the lowest first
abbrev pub number_at : List ℕ → (place bytes : ℕ) → ℕ
number_at file place bytes = little_number bytes (drop place file)

-- the value in the 8 bytes from a place
abbrev pub value_at : List ℕ → (place : ℕ) → ℤ
value_at file place = cast_signed w64 (number_at file place 8)

-- what is wrong with a field that has a number
abbrev pub number_fault : Field → (place number : ℕ) → Option Refusal
number_fault (letter byte) place number = if number == byte then None else Some (BadMagic place)
number_fault version place number = if number == 49 || number == 50 then None else Some (BadMagic place)
number_fault (count what own) place number = if number == own then None else Some (Count what number own)
number_fault (kind own) place number = if number == own then None else Some (Kind number own)
number_fault (value least most) place number =
    if int_le least (cast_signed w64 number) && int_le (cast_signed w64 number) most
    then None else Some (BadValue place)

-- what is wrong with a field of a file: the file ends before it is whole, or its number is wrong
abbrev pub field_fault : List ℕ → (place : ℕ) → Field → Option Refusal
field_fault file place field = if nat_lt (length file) (place + width field) then Some (Ends (length file))
    else number_fault field place (number_at file place (width field))

-- the first fault of fields that stand one after the other from a place
abbrev pub first_fault : List ℕ → (place : ℕ) → List Field → Option Refusal
first_fault file place [] = None
first_fault file place (field ∷ fields) =
    option_or (field_fault file place field) (first_fault file (place + width field) fields)

-- the first fault of a file that is to have these fields and nothing after them
abbrev pub file_fault : List ℕ → List Field → Option Refusal
file_fault file fields = option_or (first_fault file 0 fields)
    (if nat_lt (widths fields) (length file) then Some (GoesOn (widths fields)) else None)

-- the same fields so many times
abbrev pub times : ℕ → List Field → List Field
times zero row = []
times (suc n) row = row ++ times n row

-- the fields of the magic word, of the counts, of a node, of a link, of the least travel time and of a subcatchment
abbrev pub magic : List Field
magic = map letter (codes "SWMMFXH") ++ version ∷ []

abbrev pub counts : Shape → List Field
counts shape = count 0 shape.nodes ∷ count 1 shape.links ∷ count 2 shape.subs ∷ []

abbrev pub head_fields : List Field
head_fields = value (neg_ℤ (pos (2 * 10 ^ 10))) (pos (2 * 10 ^ 10)) ∷ []

abbrev pub link_fields : List Field
link_fields = value (neg_ℤ (pos (10 ^ 12))) (pos (10 ^ 12)) ∷ value (pos 0) (pos (10 ^ 6)) ∷ []

abbrev pub least_fields : List Field
least_fields = value (pos 0) (pos 3_600_000) ∷ []

abbrev pub depth_field : Field
depth_field = value (pos 0) (pos (10 ^ 15))

abbrev pub infil_fields : InfilKind → List Field
infil_fields ModifiedHorton = depth_field ∷ []
infil_fields CurveNumber = depth_field ∷ depth_field ∷ depth_field ∷ depth_field ∷ depth_field ∷ []

abbrev pub sub_fields : InfilKind → List Field
sub_fields method = depth_field ∷ depth_field ∷ depth_field ∷ value (pos 0) (pos (10 ^ 12)) ∷ infil_fields method

-- the heads, and the flow and the setting of each link, with which a file of version 1 ends
abbrev pub net_values : Shape → List Field
net_values shape = times shape.nodes head_fields ++ times shape.links link_fields

-- the values of version 2: those, the least travel time, and the subcatchments
abbrev pub new_values : Shape → List Field
new_values shape = net_values shape ++ (least_fields ++ times shape.subs (sub_fields shape.kind))

-- before them version 2 has the kind of infiltration
abbrev pub new_fields : Shape → List Field
new_fields shape = kind (kind_number shape.kind) ∷ new_values shape

-- whether a file is of version 1: its eighth byte is `1`
abbrev pub is_old : List ℕ → Bool
is_old file = slice_index file 7 == 49

-- what follows the counts, by the version
abbrev pub rest_of : Shape → List ℕ → List Field
rest_of shape file = if is_old file then net_values shape else new_fields shape

-- the fields that a file is to have
unfoldable pub layout_of : Shape → List ℕ → List Field
layout_of shape file = magic ++ counts shape ++ rest_of shape file
