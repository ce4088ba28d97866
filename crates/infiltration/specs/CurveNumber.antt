-- Infiltration by curve numbers (Reference Manual volume I, chapter 4; the drying and the rounding are this project's
-- profile). Depths are nm, times ms, and curve numbers are in millionths.
use Rattle.std.specs.Prelude.{◌^◌, if◌then◌else◌, int_le, int_lt, ℤ, pos, ◌+ℤ◌, ◌-ℤ◌, ◌*ℤ◌}
use Rattle.std.specs.Int.{int_min, int_max}
use Rattle.fixed_num.specs.Ranges.{IsBetween, IsDryingTime}
use Rattle.fixed_num.specs.Rounding.{quo_of}
use Rattle.infiltration.specs.declared.states.CurveState.{CurveState}

-- a curve number from 1 to 100
abbrev pub IsCurveNumber : ℤ → Type 0
IsCurveNumber cn6 = IsBetween (pos (10 ^ 6)) cn6 (pos (10 ^ 8))

-- a room in the soil (nm)
abbrev pub IsRoom : ℤ → Type 0
IsRoom room = IsBetween (pos 0) room (pos 25_146_000_000)

-- the greatest room in the soil: 1,000 inches over the curve number, less 10 inches
unfoldable pub greatest_room_of : (cn6 : ℤ) → ℤ
greatest_room_of cn6 = quo_of (pos 25_400_000_000_000_000) cn6 -ℤ pos 254_000_000

-- what the soil has taken once this rain of an event has fallen, by the room at the event's start; 0 where there was no
-- rain
unfoldable pub soaked_of : (rain event_room : ℤ) → ℤ
soaked_of rain event_room = rain -ℤ quo_of (rain *ℤ rain) (rain +ℤ event_room)

-- what the soil takes of the water that is there in a step with rain: what it takes more of the event
unfoldable pub rain_taken_of : CurveState → (rain available : ℤ) → ℤ
rain_taken_of state rain available =
    int_min available (soaked_of (state.rain +ℤ rain) state.event_room -ℤ state.taken)

-- the state after a step with rain
unfoldable pub rain_after : CurveState → (rain available : ℤ) → CurveState
rain_after state rain available = record {
  room = int_max (state.room -ℤ rain_taken_of state rain available) (pos 0);
  event_room = state.event_room;
  rain = state.rain +ℤ rain;
  taken = soaked_of (state.rain +ℤ rain) state.event_room;
  dry = pos 0;
}

-- the room after a step without rain, in which it grows up to the greatest room
unfoldable pub dried_room_of : (cn6 dry room ms : ℤ) → ℤ
dried_room_of cn6 dry room ms =
    int_min (greatest_room_of cn6) (room +ℤ quo_of (greatest_room_of cn6 *ℤ ms) dry)

-- after six hours without rain the event is over
abbrev pub event_gap : ℤ
event_gap = pos 21_600_000

-- the state after a step without rain, with this room
abbrev pub pause_after : CurveState → (room ms : ℤ) → CurveState
pause_after state room ms =
    if int_le event_gap (state.dry +ℤ ms)
    then record { room = room; event_room = room; rain = pos 0; taken = pos 0; dry = state.dry +ℤ ms }
    else record {
      room = room;
      event_room = state.event_room;
      rain = state.rain;
      taken = state.taken;
      dry = state.dry +ℤ ms;
    }

unfoldable pub dry_after : (cn6 dry : ℤ) → CurveState → (ms : ℤ) → CurveState
dry_after cn6 dry state ms = pause_after state (dried_room_of cn6 dry state.room ms) ms

-- what the soil takes in a step, and the state after it
abbrev pub number_taken_of : CurveState → (rain available : ℤ) → ℤ
number_taken_of state rain available =
    if int_lt (pos 0) rain then rain_taken_of state rain available else pos 0

abbrev pub number_after : (cn6 dry : ℤ) → CurveState → (rain available ms : ℤ) → CurveState
number_after cn6 dry state rain available ms =
    if int_lt (pos 0) rain then rain_after state rain available else dry_after cn6 dry state ms

-- at the start all room is there
abbrev pub number_start : (cn6 : ℤ) → CurveState
number_start cn6 = record {
  room = greatest_room_of cn6;
  event_room = greatest_room_of cn6;
  rain = pos 0;
  taken = pos 0;
  dry = pos 0;
}

-- a state of a hotstart whose rooms are brought to at most the greatest room, and then what was taken to what its rain
-- can have given
unfoldable pub number_opening : (cn6 : ℤ) → CurveState → CurveState
number_opening cn6 state =
    let event_room = int_min state.event_room (greatest_room_of cn6) in
    record {
      room = int_min state.room (greatest_room_of cn6);
      event_room = event_room;
      rain = state.rain;
      taken = int_min state.taken (soaked_of state.rain event_room);
      dry = state.dry;
    }

-- a state of rain and time up to `most`, whose rooms are at most the greatest room, and which has taken at most what
-- its rain gives
pub record IsCurveState (most cn6 : ℤ) (state : CurveState) : Type 0 where
  pub room : IsBetween (pos 0) state.room (greatest_room_of cn6)
  pub event_room : IsBetween (pos 0) state.event_room (greatest_room_of cn6)
  pub rain : IsBetween (pos 0) state.rain most
  pub taken : IsBetween (pos 0) state.taken (soaked_of state.rain state.event_room)
  pub dry : IsBetween (pos 0) state.dry most

-- the numbers of a state are up to `most`
pub record AreCurveNumbersUpTo (most : ℤ) (state : CurveState) : Type 0 where
  pub room : IsBetween (pos 0) state.room most
  pub event_room : IsBetween (pos 0) state.event_room most
  pub rain : IsBetween (pos 0) state.rain most
  pub taken : IsBetween (pos 0) state.taken most
  pub dry : IsBetween (pos 0) state.dry most
