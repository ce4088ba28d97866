use Rattle.std.proofs.Common.{rules, ℕ, ◌<◌, ap, arith, FitsSigned, w64}
use Rattle.std.proofs.lemmas.Int.{to_z-of_z}
use Rattle.link_eval.specs.Hydraulics.{law_of}
use Rattle.link_eval.specs.LawGood.{head_in as head_within, law_good}
use Rattle.fixed_num.specs.Lists.{number}
use Rattle.run_engine.proofs.LawLemmas.{link_in}
use Rattle.run_engine.proofs.prepare.middle_area.Goals as goal

pub bounds-heads-near : goal.bounds-heads-near
bounds-heads-near c =
    let ends = (law_good c.args.law.now.hydraulics c.args.law.now.good).ends_in c.args.link c.requires.link in
    omega (arith, ends.first, c.requires.heads.count, ap (λ (e : ℕ × ℕ). e.0) c.ends-near.ensures)

pub bounds-heads-far : goal.bounds-heads-far
bounds-heads-far c =
    let ends = (law_good c.args.law.now.hydraulics c.args.law.now.good).ends_in c.args.link c.requires.link in
    omega (arith, ends.second, c.requires.heads.count, ap (λ (e : ℕ × ℕ). e.1) c.ends-near.ensures)

pub mid_area-requires-clause-link : goal.mid_area-requires-clause-link
mid_area-requires-clause-link c = link_in c.args.law.now.hydraulics c.args.link c.requires.link

pub mid_area-requires-clause-near : goal.mid_area-requires-clause-near
mid_area-requires-clause-near c =
    let h = c.args.law.now.hydraulics in
    let ends = (law_good h c.args.law.now.good).ends_in c.args.link c.requires.link in
    let inside : c.ends-near.result.0 < (law_of h).nodes = omega (arith, ends.first, ap (λ (e : ℕ × ℕ). e.0) c.ends-near.ensures) in
    let fits : FitsSigned w64 (number c.args.heads.now c.ends-near.result.0) = search rules in
    simp (to_z-of_z, fits) (head_within h (c.requires.heads.each c.ends-near.result.0 inside))

pub mid_area-requires-clause-far : goal.mid_area-requires-clause-far
mid_area-requires-clause-far c =
    let h = c.args.law.now.hydraulics in
    let ends = (law_good h c.args.law.now.good).ends_in c.args.link c.requires.link in
    let inside : c.ends-near.result.1 < (law_of h).nodes = omega (arith, ends.second, ap (λ (e : ℕ × ℕ). e.1) c.ends-near.ensures) in
    let fits : FitsSigned w64 (number c.args.heads.now c.ends-near.result.1) = search rules in
    simp (to_z-of_z, fits) (head_within h (c.requires.heads.each c.ends-near.result.1 inside))
