use Rattle.std.proofs.Common.{◌≡◌, ◌∙◌, ◌≤◌, ◌++◌, ◌∷◌, [], List, length, take, ap, arith, refl, sym, subst}
use Rattle.std.proofs.lemmas.List.{take_all}
use Rattle.net_types.specs.declared.faults.LineFault.{LineFault}
use Rattle.inp_lines.specs.declared.line.Line.{Line}
use Rattle.inp_lines.specs.Faults.{cut}
use Rattle.inp_lines.specs.Gather.{gather, walk_fault}
use Rattle.inp_lines.proofs.GatherLemmas.{gather_cut, line_push}
use Rattle.inp_lists.specs.Chains.{chain_fault, kept}
use Rattle.inp_lists.specs.Holding.{HoldsLines}
use Rattle.inp_lists.proofs.walk.read_lines.Goals as goal

short_nothing : (faults : List LineFault) → faults ≡ [] → length faults ≤ 100
short_nothing faults e = omega (arith, ap (length {A = LineFault}) e)

pub loop-line-init : goal.loop-line-init
loop-line-init g c = record {
  held = c.requires.held;
  faults_are = c.new-faults.ensures;
  short = short_nothing c.new-faults.result c.new-faults.ensures;
}

pub read_line-requires-clause-short : goal.read_line-requires-clause-short
read_line-requires-clause-short g c = c.loop-line.invariant.short

pub loop-line-preserved : goal.loop-line-preserved
loop-line-preserved g c =
    let form = g.C.Chain.form c.args.chain.now in
    let lines = c.as_slice-line-items.result.now in
    let i = c.loop-line.line-index in
    let line = c.line-item.result in
    let P : List Line → Type 0 = λ l. HoldsLines form (kept form l) c.read_line.new.held in
    record {
      held = subst P (sym (line_push lines i line c.loop-line-test.true c.line-item.is)) (c.in_ok-read_line.ensures.held (take i lines) c.loop-line.invariant.held);
      faults_are = gather_cut (walk_fault (chain_fault form)) lines i line [] c.loop-line.faults c.read_line.new.faults (walk_fault (chain_fault form) (take i lines) line)
          c.loop-line-test.true c.line-item.is refl c.loop-line.invariant.faults_are (c.in_ok-read_line.ensures.faults (take i lines) c.loop-line.invariant.held);
      short = c.in_ok-read_line.ensures.short;
    }

pub returns-clause-held : goal.returns-clause-held
returns-clause-held g c =
    let form = g.C.Chain.form c.args.chain.now in
    let lines = c.as_slice-line-items.result.now in
    let all = take_all c.loop-line.line-index lines c.loop-line-test.false ∙ c.as_slice-line-items.ensures in
    let P : List Line → Type 0 = λ l. HoldsLines form (kept form l) c.loop-line.held in
    subst P all c.loop-line.invariant.held

pub returns-clause-faults : goal.returns-clause-faults
returns-clause-faults g c =
    let form = g.C.Chain.form c.args.chain.now in
    let lines = c.as_slice-line-items.result.now in
    let all = take_all c.loop-line.line-index lines c.loop-line-test.false ∙ c.as_slice-line-items.ensures in
    c.loop-line.invariant.faults_are ∙ ap (λ l. cut (gather (walk_fault (chain_fault form)) [] l)) all
