-- What the words and the views of a board show of the phase machine (this project's profile).
use Rattle.std.specs.Prelude.{◌≡◌, ℕ, ◌+◌, ◌<◌, false, List, length, map, slice_index}
use Rattle.fixed_num.specs.Lists.{number}
use Rattle.phase_law.specs.Law.{Law}
use Rattle.phase_machine.specs.declared.work.Work.{Work}
use Rattle.phase_machine.specs.Places.{word_count}
use Rattle.phase_machine.specs.Core.{Core, idle}
use Rattle.node_board.specs.declared.views.Role.{Role}
use Rattle.node_board.specs.declared.views.Role.TheVariants.{Leads, Works}
use Rattle.node_board.specs.declared.views.View.{View}
use Rattle.node_board.specs.Coding.{claim_word, coded}

-- what the seat of a view does on items; the lead works on none
abbrev pub work_in : Role → Work
work_in (Works work) = work
work_in (Leads plan) = idle

abbrev pub work_of : {P : Type 0} → View P → Work
work_of v = work_in v.role

-- each word stands for the core's number, the claim word for phase and index until the board is stopped, and each seat
-- does what its view says
pub record Shows {P : Type 0} (law : Law) (words : List ℕ) (views : List (View P)) (c : Core) : Type 0 where
  pub size : length words ≡ word_count law + 1
  pub claim : c.stopped ≡ false → slice_index words 0 ≡ claim_word c.phase c.index
  pub word : (j : ℕ) → j < word_count law → slice_index words (j + 1) ≡ coded law j (number c.words j)
  pub seats : map work_of views ≡ c.seats
