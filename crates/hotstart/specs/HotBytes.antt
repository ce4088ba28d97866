-- The bytes of a hotstart file of version 2 (this project's profile): `SWMMFXH2`, the counts of nodes, links and
-- subcatchments and the kind of infiltration in 4 bytes each, and then values in 8 bytes each: the heads, the
-- flow and the setting of each link, the least travel time, and for each subcatchment three depths, the flow
-- and the numbers of its infiltration. The lowest byte of a number comes first.
use Rattle.std.specs.Prelude.{ℕ, ◌^◌, List, [], ◌∷◌, ◌++◌, length, map, codes, ℤ, pos}
use Rattle.std.specs.Int.{int_min, cast_unsigned, w64}
use Rattle.std.specs.List.{flat_map, zip}
use Rattle.fixed_num.specs.Lists.{number}
use Rattle.byteorder.specs.Endian.{little_bytes}
use Rattle.net_types.specs.declared.options.InfilKind.{InfilKind}
use Rattle.net_types.specs.declared.options.InfilKind.TheVariants.{ModifiedHorton, CurveNumber}
use Rattle.hotstart.specs.HotRanges.{infil_numbers}
use Rattle.hotstart.specs.declared.state.HotState.{HotState}
use Rattle.hotstart.specs.declared.state.HotSub.{HotSub}

-- the number of a kind of infiltration
abbrev pub kind_number : InfilKind → ℕ
kind_number ModifiedHorton = 0
kind_number CurveNumber = 1

-- a count, and a value, whose negative numbers are in two's complement
unfoldable pub count_bytes : ℕ → List ℕ
count_bytes count = little_bytes 4 count

unfoldable pub value_bytes : ℤ → List ℕ
value_bytes value = little_bytes 8 (cast_unsigned w64 value)

-- the flow and the setting of a link
abbrev pub link_bytes : ℤ × ℤ → List ℕ
link_bytes link = value_bytes link.0 ++ value_bytes link.1

-- the values of a subcatchment: a depth or a number of infiltration above 10^15 is written as 10^15
unfoldable pub kept : ℤ → ℤ
kept value = int_min value (pos (10 ^ 15))

abbrev pub sub_row : HotSub → List ℤ
sub_row sub = kept (number sub.depths 0) ∷ kept (number sub.depths 1) ∷
    kept (number sub.depths 2) ∷ sub.flow ∷ map kept (infil_numbers sub.infil)

abbrev pub sub_bytes : HotSub → List ℕ
sub_bytes sub = flat_map value_bytes (sub_row sub)

-- the counts and the kind
abbrev pub header : HotState → List ℕ
header state = codes "SWMMFXH2" ++ flat_map count_bytes
    (length state.heads ∷ length state.flows ∷ length state.subs ∷ kind_number state.kind ∷ [])

-- the whole file
unfoldable pub hot_bytes : HotState → List ℕ
hot_bytes state =
    header state ++ flat_map value_bytes state.heads ++ flat_map link_bytes (zip state.flows state.settings)
    ++ (value_bytes state.least ++ flat_map sub_bytes state.subs)
