use Rattle.std.proofs.Common.{◌≡◌, ◌∙◌, ◌++◌, [], List, ap, ap₂, append-nil, false, sym, true}
use Rattle.inp_lines.specs.declared.line.Line.{Line}
use Rattle.inp_lines.specs.Faults.{cut}
use Rattle.inp_lines.specs.Gather.{fault_found}
use Rattle.inp_lines.specs.Names.{naming_among, number_in}
use Rattle.inp_lines.proofs.CutLemmas.{cut_nothing}
use Rattle.inp_lists.specs.Chains.{fault_by, fault_in, kept, line_name, names_in, own_lines}
use Rattle.inp_lists.specs.Holding.{HoldsLines}
use Rattle.inp_lists.proofs.ChainLemmas.{fault_in_is, fault_other, fault_same, kept_named}
use Rattle.inp_lists.proofs.HoldingLemmas.{hold_kept, hold_other}
use Rattle.inp_lists.proofs.walk.read_line.Goals as goal

pub returns-then-not-is_of-clause-held : goal.returns-then-not-is_of-clause-held
returns-then-not-is_of-clause-held g c = λ before holds. hold_other (g.C.Chain.form c.args.chain.now) c.args.held.now before c.args.line.now (sym c.if-not-is_of.ensures) holds

pub returns-then-not-is_of-clause-faults : goal.returns-then-not-is_of-clause-faults
returns-then-not-is_of-clause-faults g c = λ before holds. cut_nothing 100 c.args.faults.now c.requires.short
    ∙ ap (λ fault. cut (c.args.faults.now ++ fault_found c.args.line.now fault)) (sym (fault_other (g.C.Chain.form c.args.chain.now) before c.args.line.now (sym c.if-not-is_of.ensures)))

pub returns-clause-held : goal.returns-clause-held
returns-clause-held g c = λ before holds.
    (let form = g.C.Chain.form c.args.chain.now in
    let line = c.args.line.now in
    let lines = kept form before in
    let own = own_lines (line_name line) lines in
    let name_is : c.name_of-name.result.now ≡ line_name line = c.name_of-name.ensures in
    let are = kept_named form before in
    let state = c.own_state-state.ensures lines holds are ∙ ap (λ n. form.state_of (own_lines n lines)) name_is in
    let naming = c.naming_at-naming.ensures (names_in lines) [] (holds.names.numbers ∙ ap number_in (sym (append-nil (names_in lines)))) holds.names.count ∙ ap (naming_among (names_in lines)) name_is in
    let fault = c.line_fault-fault.ensures own state holds.room ∙ (ap₂ (λ n t. fault_by form own n t line) naming (sym holds.total) ∙ sym (fault_in_is form lines line)) in
    hold_kept form c.keep_line.new.held before line c.line_fault-fault.result (sym c.if-not-is_of.ensures) fault (c.in_ok-keep_line.ensures lines holds are state fault))

pub returns-clause-faults : goal.returns-clause-faults
returns-clause-faults g c = λ before holds.
    (let form = g.C.Chain.form c.args.chain.now in
    let line = c.args.line.now in
    let lines = kept form before in
    let own = own_lines (line_name line) lines in
    let name_is : c.name_of-name.result.now ≡ line_name line = c.name_of-name.ensures in
    let are = kept_named form before in
    let state = c.own_state-state.ensures lines holds are ∙ ap (λ n. form.state_of (own_lines n lines)) name_is in
    let naming = c.naming_at-naming.ensures (names_in lines) [] (holds.names.numbers ∙ ap number_in (sym (append-nil (names_in lines)))) holds.names.count ∙ ap (naming_among (names_in lines)) name_is in
    let fault = c.line_fault-fault.ensures own state holds.room ∙ (ap₂ (λ n t. fault_by form own n t line) naming (sym holds.total) ∙ sym (fault_in_is form lines line)) in
    c.in_ok-keep_fault.ensures.faults ∙ ap (λ f. cut (c.args.faults.now ++ fault_found line f)) (fault ∙ sym (fault_same form before line (sym c.if-not-is_of.ensures))))
