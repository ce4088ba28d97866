use Rattle.std.proofs.Common.{◌<◌, subst, ℕ}
use Rattle.std.proofs.lemmas.Int.{to_z-of_z}
use Rattle.fixed_num.specs.Ranges.{IsHead}
use Rattle.fixed_num.proofs.Bounds.{fits64}
use Rattle.link_eval.specs.Hydraulics.{law_of}
use Rattle.link_eval.specs.LawGood.{head_in, law_good}
use Rattle.phase_law.specs.Laws.{AreEnds}
use Rattle.fixed_num.specs.Lists.{number}
use Rattle.continuity.proofs.LawLemmas.{links_is}
use Rattle.continuity.proofs.link_part.volume_in.Goals as goal
use Rattle.continuity.proofs.link_part.volume_in.Goals.{After-as_slice-heads}

ends : (c : After-as_slice-heads) → AreEnds (law_of c.args.law.now.hydraulics).nodes c.ends-first.result
ends c = rw c.ends-first.ensures ((law_good c.args.law.now.hydraulics c.args.law.now.good).ends_in c.args.link c.requires.link)

pub bounds-heads-first : goal.bounds-heads-first
bounds-heads-first c = rw (c.as_slice-heads.ensures, c.requires.heads.count) (ends (goal.at.bounds-heads-first c).After-as_slice-heads).first

pub bounds-heads-second : goal.bounds-heads-second
bounds-heads-second c = rw (c.as_slice-heads.ensures, c.requires.heads.count) (ends (goal.at.bounds-heads-second c).After-as_slice-heads).second

near : (c : After-as_slice-heads) → IsHead (number c.as_slice-heads.result.now c.ends-first.result.0)
near c = rw c.as_slice-heads.ensures (head_in c.args.law.now.hydraulics (c.requires.heads.each c.ends-first.result.0 (ends c).first))

far : (c : After-as_slice-heads) → IsHead (number c.as_slice-heads.result.now c.ends-first.result.1)
far c = rw c.as_slice-heads.ensures (head_in c.args.law.now.hydraulics (c.requires.heads.each c.ends-first.result.1 (ends c).second))

pub link_volume-requires-clause-link : goal.link_volume-requires-clause-link
link_volume-requires-clause-link c = subst (λ (k : ℕ). c.args.link < k) (links_is c.args.law.now.hydraulics) c.requires.link

pub link_volume-requires-clause-near : goal.link_volume-requires-clause-near
link_volume-requires-clause-near c = let w = near (goal.at.link_volume-requires-clause-near c).After-as_slice-heads in simp (to_z-of_z, fits64 w tt) w

pub link_volume-requires-clause-far : goal.link_volume-requires-clause-far
link_volume-requires-clause-far c = let w = far (goal.at.link_volume-requires-clause-far c).After-as_slice-heads in simp (to_z-of_z, fits64 w tt) w
