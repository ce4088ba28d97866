-- What a hotstart file is read as (this project's profile).
use Rattle.std.specs.Prelude.{ℕ, ◌+◌, ◌*◌, if◌then◌else◌, List, [], ◌∷◌}
use Rattle.std.specs.Prelude.{length, map, Option, Some, None, ℤ, pos}
use Rattle.std.specs.Option.{option_map_or}
use Rattle.fixed_num.specs.Lists.{list_of}
use Rattle.infiltration.specs.Infiltration.{start_of}
use Rattle.infiltration.specs.declared.states.InfilState.{InfilState}
use Rattle.infiltration.specs.declared.states.InfilState.TheVariants.{Horton, Number}
use Rattle.net_types.specs.declared.hydrology.Sub.{Sub}
use Rattle.net_types.specs.declared.options.InfilKind.{InfilKind}
use Rattle.net_types.specs.declared.options.InfilKind.TheVariants.{ModifiedHorton, CurveNumber}
use Rattle.net_types.specs.declared.project.Project.{Project}
use Rattle.hotstart.specs.Layout.{value_at, is_old, layout_of, file_fault}
use Rattle.hotstart.specs.declared.read.HotRead.{HotRead}
use Rattle.hotstart.specs.declared.read.HotRead.TheVariants.{Good, BadMagic, Ends, Count, Kind, BadValue, GoesOn}
use Rattle.hotstart.specs.declared.refusal.Refusal.{Refusal}
use Rattle.hotstart.specs.declared.refusal.Refusal.TheVariants.{BadMagic as BadMagicAt, Ends as EndsAt}
use Rattle.hotstart.specs.declared.refusal.Refusal.TheVariants.{Count as CountOf, Kind as KindOf}
use Rattle.hotstart.specs.declared.refusal.Refusal.TheVariants.{BadValue as BadValueAt, GoesOn as GoesOnAt}
use Rattle.hotstart.specs.declared.shape.Shape.{Shape}
use Rattle.hotstart.specs.declared.state.HotState.{HotState}
use Rattle.hotstart.specs.declared.state.HotSub.{HotSub}

-- the kind of infiltration of a project: modified Horton where it has no subcatchment
abbrev pub kind_of : List Sub → InfilKind → InfilKind
kind_of [] kind = ModifiedHorton
kind_of (sub ∷ subs) kind = kind

-- what a project's files are compared with
abbrev pub shape_of : Project → Shape
shape_of project = record {
  nodes = length project.nodes;
  links = length project.links;
  subs = length project.subs;
  kind = kind_of project.subs project.options.infil;
}

-- so many values, the first at a place, and each so many bytes after the one before
abbrev pub column : List ℕ → (place apart count : ℕ) → List ℤ
column file place apart count = list_of (λ k. value_at file (place + apart * k)) count

-- the state of a subcatchment whose values begin at a place
abbrev pub infil_at : InfilKind → List ℕ → (place : ℕ) → InfilState
infil_at ModifiedHorton file place = Horton (record { above = value_at file place })
infil_at CurveNumber file place = Number (record {
  room = value_at file place;
  event_room = value_at file (place + 8);
  rain = value_at file (place + 16);
  taken = value_at file (place + 24);
  dry = value_at file (place + 32);
})

abbrev pub sub_at : InfilKind → List ℕ → (place : ℕ) → HotSub
sub_at kind file place = record {
  depths = value_at file place ∷ value_at file (place + 8) ∷ value_at file (place + 16) ∷ [];
  flow = value_at file (place + 24);
  infil = infil_at kind file (place + 32);
}

-- the bytes of a subcatchment
abbrev pub sub_width : InfilKind → ℕ
sub_width ModifiedHorton = 40
sub_width CurveNumber = 72

-- the state of a subcatchment at the start of a run without a hotstart; one whose infiltration is missing takes nothing
abbrev pub start_sub : Sub → HotSub
start_sub sub = record {
  depths = pos 0 ∷ pos 0 ∷ pos 0 ∷ [];
  flow = pos 0;
  infil = option_map_or start_of sub.infil (Horton (record { above = pos 0 }));
}

-- the state in a file of version 1: its least travel time is 0, and its subcatchments are as at a start without
-- a hotstart
abbrev pub old_state : Project → List ℕ → HotState
old_state project file = record {
  kind = kind_of project.subs project.options.infil;
  heads = column file 20 8 (length project.nodes);
  flows = column file (20 + 8 * length project.nodes) 16 (length project.links);
  settings = column file (28 + 8 * length project.nodes) 16 (length project.links);
  least = pos 0;
  subs = map start_sub project.subs;
}

-- the state in a file of version 2
abbrev pub new_state : Project → List ℕ → HotState
new_state project file =
    let kind = kind_of project.subs project.options.infil in
    let links_end = 24 + 8 * length project.nodes + 16 * length project.links in
    record {
      kind = kind;
      heads = column file 24 8 (length project.nodes);
      flows = column file (24 + 8 * length project.nodes) 16 (length project.links);
      settings = column file (32 + 8 * length project.nodes) 16 (length project.links);
      least = value_at file links_end;
      subs = list_of (λ k. sub_at kind file (links_end + 8 + sub_width kind * k)) (length project.subs);
    }

-- the answer for a refusal
abbrev pub answer_for : Refusal → HotRead
answer_for (BadMagicAt place) = BadMagic place
answer_for (EndsAt place) = Ends place
answer_for (CountOf what file project) = Count what file project
answer_for (KindOf file project) = Kind file project
answer_for (BadValueAt place) = BadValue place
answer_for (GoesOnAt place) = GoesOn place

abbrev pub answer_or : Option Refusal → HotState → HotRead
answer_or None state = Good state
answer_or (Some refusal) state = answer_for refusal

-- what a file is read as for a project: the first fault of its fields, else the state in it
unfoldable pub reading_of : Project → List ℕ → HotRead
reading_of project file =
    answer_or (file_fault file (layout_of (shape_of project) file))
    (if is_old file then old_state project file else new_state project file)
