use Rattle.std.proofs.Common.{◌∙◌, ◌+◌, ◌++◌, ◌∷◌, [], List, take, drop, ap, sym, refl, subst}
use Rattle.std.proofs.lemmas.List.{take_all}
use Rattle.inp_lines.specs.declared.line.Line.{Line}
use Rattle.inp_lines.specs.Faults.{cut}
use Rattle.inp_lines.specs.Gather.{gather, walk_fault, fault_found}
use Rattle.inp_lines.proofs.CutLemmas.{cut_nothing}
use Rattle.inp_lines.proofs.GatherLemmas.{gather_cut, line_push, line_split}
use Rattle.inp_lines.proofs.walk.walk_lines.Goals as goal

pub step-requires : goal.step-requires
step-requires g c =
    let lines = c.as_slice-line-items.result.now in
    let i = c.loop-line.line-index in
    let P : List Line → Type 0 = λ l. g.W.LineWalk.is_after c.loop-line.walk (take i lines) l in
    λ k. ((refl, tt), (take i lines, (drop (i + 1) lines, subst P (sym (line_split lines i c.line-item.result c.loop-line-test.true c.line-item.is)) c.loop-line.invariant.after)))

pub loop-line-init : goal.loop-line-init
loop-line-init g c =
    let P : List Line → Type 0 = λ l. g.W.LineWalk.is_after c.args.walk.now [] l in
    record {
      after = subst P (sym c.as_slice-line-items.ensures) c.requires.start;
      same = refl;
      faults_are = cut_nothing 100 c.args.faults.now c.requires.short;
      short = c.requires.short;
    }

pub loop-line-preserved : goal.loop-line-preserved
loop-line-preserved g c =
    let lines = c.as_slice-line-items.result.now in
    let i = c.loop-line.line-index in
    let line = c.line-item.result in
    let before = take i lines in
    let rest = drop (i + 1) lines in
    let split = line_split lines i line c.loop-line-test.true c.line-item.is in
    let P : List Line → Type 0 = λ l. g.W.LineWalk.is_after c.loop-line.walk before l in
    let at = subst P (sym split) c.loop-line.invariant.after in
    let Q : List Line → Type 0 = λ b. g.W.LineWalk.is_after c.step.new.self b (before ++ line ∷ rest) in
    let R : List Line → Type 0 = λ l. g.W.LineWalk.is_after c.step.new.self (take (i + 1) lines) l in
    let first = g.W.LineWalk.fault_of c.args.walk.now in
    record {
      after = subst R split (subst Q (sym (line_push lines i line c.loop-line-test.true c.line-item.is)) (c.in_ok-fault.ensures.after before rest at));
      same = c.in_ok-fault.ensures.same ∙ c.loop-line.invariant.same;
      faults_are = gather_cut (walk_fault first) lines i line c.args.faults.now c.loop-line.faults c.keep_fault.new.faults
          (fault_found line c.in_ok-fault.fault) c.loop-line-test.true c.line-item.is
          (ap (λ fault. fault_found line fault) (c.in_ok-fault.ensures.fault before rest at ∙ ap (λ f. f before line) c.loop-line.invariant.same))
          c.loop-line.invariant.faults_are c.in_ok-keep_fault.ensures.faults;
      short = c.in_ok-keep_fault.ensures.short;
    }

pub returns : goal.returns
returns g c =
    let lines = c.as_slice-line-items.result.now in
    let all = take_all c.loop-line.line-index lines c.loop-line-test.false in
    let P : List Line → Type 0 = λ b. g.W.LineWalk.is_after c.loop-line.walk b lines in
    let Q : List Line → Type 0 = λ l. g.W.LineWalk.is_after c.loop-line.walk l l in
    record {
      after = subst Q c.as_slice-line-items.ensures (subst P all c.loop-line.invariant.after);
      faults = c.loop-line.invariant.faults_are ∙ ap (λ l. cut (c.args.faults.now ++ gather (walk_fault (g.W.LineWalk.fault_of c.args.walk.now)) [] l)) (all ∙ c.as_slice-line-items.ensures);
      same = c.loop-line.invariant.same;
      short = c.loop-line.invariant.short;
    }
