-- The board as it is opened (this project's profile).
use Rattle.std.specs.Prelude.{ℕ, eqb, if◌then◌else◌, false, ℤ, pos, List, ◌∷◌}
use Rattle.fixed_num.specs.Lists.{list_of}
use Rattle.phase_law.specs.Law.{Law}
use Rattle.phase_machine.specs.Places.{first_place, least_place, word_count}
use Rattle.node_board.specs.declared.views.Role.TheVariants.{Leads}
use Rattle.node_board.specs.declared.views.View.{View}
use Rattle.node_board.specs.Coding.{coded}

-- the first number at each place: the next trial is the first of its step, no time was offered, and all else is 0
abbrev pub first_number : Law → ℕ → ℤ
first_number law j =
    if eqb j first_place then pos 1 else if eqb j (least_place law) then pos 3_600_000 else pos 0

abbrev pub first_numbers : Law → List ℤ
first_numbers law = list_of (first_number law) (word_count law)

-- the first words
abbrev pub first_words : Law → List ℕ
first_words law = 0 ∷ list_of (λ j. coded law j (first_number law j)) (word_count law)

-- what the lead knows first
abbrev pub first_view : {P : Type 0} → Law → P → View P
first_view law key = record {
  law = key;
  number = 0;
  looks = 0;
  last = 0;
  role = Leads (record {
    splits = 0;
    phase = 0;
    is_open = false;
    resets = 0;
    stopped = false;
    opened = first_numbers law;
    known = first_numbers law;
  });
}
