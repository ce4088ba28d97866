-- What a written file is read back as, and which files are read (this project's profile).
use Rattle.std.specs.Prelude.{◌≡◌, ℕ, ◌<◌, List, [], ◌∷◌, ◌++◌, length, map, codes, ℤ, pos}
use Rattle.std.specs.List.{All, flat_map, zip}
use Rattle.fixed_num.specs.Ranges.{IsFlow, IsHead, IsPart}
use Rattle.infiltration.specs.declared.states.InfilState.{InfilState}
use Rattle.infiltration.specs.declared.states.InfilState.TheVariants.{Horton, Number}
use Rattle.net_types.specs.declared.project.Project.{Project}
use Rattle.hotstart.specs.HotBytes.{count_bytes, hot_bytes, kept, link_bytes, value_bytes}
use Rattle.hotstart.specs.HotRanges.{IsKept}
use Rattle.hotstart.specs.Reading.{kind_of, start_sub}
use Rattle.hotstart.specs.declared.state.HotState.{HotState}
use Rattle.hotstart.specs.declared.state.HotSub.{HotSub}

-- a state of a project: one head for each node, one flow and one setting for each link, one state for each
-- subcatchment, and the project's kind of infiltration
pub record IsStateFor (project : Project) (state : HotState) : Type 0 where
  pub nodes : length state.heads ≡ length project.nodes
  pub links : length state.flows ≡ length project.links
  pub subs : length state.subs ≡ length project.subs
  pub kind : state.kind ≡ kind_of project.subs project.options.infil

-- each subcatchment has its three depths
abbrev pub HasThreeDepths : HotState → Type 0
HasThreeDepths state = All (λ (sub : HotSub). length sub.depths ≡ 3) state.subs

-- a state as a file keeps it: a depth or a number of infiltration above 10^15 is 10^15
abbrev pub kept_infil : InfilState → InfilState
kept_infil (Horton state) = Horton (record { above = kept state.above })
kept_infil (Number state) = Number (record {
  room = kept state.room;
  event_room = kept state.event_room;
  rain = kept state.rain;
  taken = kept state.taken;
  dry = kept state.dry;
})

abbrev pub kept_sub : HotSub → HotSub
kept_sub sub = record { depths = map kept sub.depths; flow = sub.flow; infil = kept_infil sub.infil }

abbrev pub kept_state : HotState → HotState
kept_state state = record {
  kind = state.kind;
  heads = state.heads;
  flows = state.flows;
  settings = state.settings;
  least = state.least;
  subs = map kept_sub state.subs;
}

-- ---- version 1
-- its bytes, which no program writes any more: `SWMMFXH1`, the counts of nodes, links and subcatchments, the heads, and
-- the flow and the setting of each link
unfoldable pub old_bytes : (subs : ℕ) (heads flows settings : List ℤ) → List ℕ
old_bytes subs heads flows settings =
    codes "SWMMFXH1" ++ (flat_map count_bytes (length heads ∷ length flows ∷ subs ∷ [])
    ++ (flat_map value_bytes heads ++ flat_map link_bytes (zip flows settings)))

-- the state that it is read as: nothing is known of its least travel time, and the subcatchments are as at a start
-- without a hotstart
abbrev pub migrated : Project → (heads flows settings : List ℤ) → HotState
migrated project heads flows settings = record {
  kind = kind_of project.subs project.options.infil;
  heads = heads;
  flows = flows;
  settings = settings;
  least = pos 0;
  subs = map start_sub project.subs;
}

-- heads, flows and settings of a project's nodes and links, each in its range
pub record AreNetsFor (project : Project) (heads flows settings : List ℤ) : Type 0 where
  pub nodes : length heads ≡ length project.nodes
  pub links : length flows ≡ length project.links
  pub as_many : length settings ≡ length flows
  pub heads_in : All IsHead heads
  pub flows_in : All IsFlow flows
  pub settings_in : All IsPart settings

-- ---- the other way: what a good file is
-- the bytes of a file are numbers below 256
abbrev pub AreBytes : List ℕ → Type 0
AreBytes file = All (λ byte. byte < 256) file

-- a file of version 2 spells a state: it is the bytes that are written of it, and the state is one that a file keeps as
-- it is, of this project
pub record Spells (project : Project) (file : List ℕ) (state : HotState) : Type 0 where
  pub bytes : hot_bytes state ≡ file
  pub is_kept : IsKept state
  pub fits : IsStateFor project state

-- a file of version 1 spells the heads, flows and settings of a state: it is their bytes, each is in its range, and the
-- state is the migration of them
pub record SpellsOld (project : Project) (file : List ℕ) (state : HotState) : Type 0 where
  pub bytes : old_bytes (length project.subs) state.heads state.flows state.settings ≡ file
  pub nets : AreNetsFor project state.heads state.flows state.settings
  pub migration : state ≡ migrated project state.heads state.flows state.settings
