-- The core of the phase machine as plain data (this project's profile).
use Rattle.std.specs.Prelude.{◌≡◌, ℕ, ◌+◌, ◌<◌, Bool, false, eqb, if◌then◌else◌, ℤ}
use Rattle.std.specs.Prelude.{pos, List, [], length, replicate, slice_index_or}
use Rattle.fixed_num.specs.Lists.{number}
use Rattle.phase_law.specs.Law.{Law}
use Rattle.trial_model.specs.declared.nets.Nets.{Nets}
use Rattle.trial_model.specs.Fits.{link_fixed_at, node_fixed_at}
use Rattle.phase_machine.specs.declared.work.Work.{Work}
use Rattle.phase_machine.specs.Places.{done_place, unsettled_place, first_place, link_place, node_place}
use Rattle.phase_machine.specs.Places.{least_place, word_count, link_fixed_in, node_fixed_in}

-- the phase, whether it is open, how many items of it were given out, the words after word 0, what each seat does, how
-- many words were reset since the last close, whether the machine was stopped, the words at the last opening of links,
-- and the state after the trial that was closed last
pub record Core : Type 0 where
  pub phase : ℕ
  pub is_open : Bool
  pub index : ℕ
  pub words : List ℤ
  pub seats : List Work
  pub resets : ℕ
  pub stopped : Bool
  pub opened : List ℤ
  pub closed : Nets

-- a seat that has done nothing
abbrev pub idle : Work
idle = record { look = 0; tag = 0; stage = 0; item = 0; loaded = []; finished = [] }

-- what the seat of a number does
abbrev pub seat_of : Core → ℕ → Work
seat_of c seat = slice_index_or c.seats seat idle

-- what a seat finished in a phase
abbrev pub finished_in : ℕ → Work → List ℕ
finished_in phase w = if eqb w.tag phase then w.finished else []

-- a core at the start: no phase is open, nothing was counted, buffer 0 and the fixed words are the state given, and the
-- first trial will be the first of its step; seat 0 is the lead's
pub record IsStart (law : Law) (nets : Nets) (seats : ℕ) (c : Core) : Type 0 where
  pub phase : c.phase ≡ 0
  pub is_open : c.is_open ≡ false
  pub index : c.index ≡ 0
  pub resets : c.resets ≡ 0
  pub stopped : c.stopped ≡ false
  pub seats_idle : c.seats ≡ replicate seats idle
  pub opened : c.opened ≡ c.words
  pub closed : c.closed ≡ nets
  -- the words
  pub words : length c.words ≡ word_count law
  pub done : number c.words done_place ≡ pos 0
  pub unsettled : number c.words unsettled_place ≡ pos 0
  pub first : number c.words first_place ≡ pos 1
  pub link_fixed : (l : ℕ) → l < law.links → link_fixed_in c.words l ≡ link_fixed_at nets.links l
  pub flow : (l : ℕ) → l < law.links → number c.words (link_place l 4) ≡ number nets.flows l
  pub other_flow : (l : ℕ) → l < law.links → number c.words (link_place l 5) ≡ pos 0
  pub node_fixed : (n : ℕ) → n < law.nodes → node_fixed_in law c.words n ≡ node_fixed_at nets.nodes n
  pub head : (n : ℕ) → n < law.nodes → number c.words (node_place law n 5) ≡ number nets.heads n
  pub other_head : (n : ℕ) → n < law.nodes → number c.words (node_place law n 6) ≡ pos 0
  pub sums : (n s : ℕ) → n < law.nodes → s < 3 → number c.words (node_place law n (7 + s)) ≡ pos 0
  pub least : number c.words (least_place law) ≡ pos 3_600_000
