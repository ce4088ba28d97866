use Rattle.std.proofs.Common.{◌≡◌, ◌∙◌, ◌+◌, ◌≤◌, ap, arith, false, refl, sym, true}
use Rattle.inp_lines.specs.Names.{naming_among, with_first}
use Rattle.inp_lists.specs.Chains.{counts, is_over, line_name, most_pairs, names_in, own_lines, size_in}
use Rattle.inp_lists.proofs.ChainLemmas.{counted_in}
use Rattle.inp_lists.proofs.HoldingLemmas.{hold_line}
use Rattle.inp_lists.proofs.PlaceLemmas.{distinct_first}
use Rattle.inp_lists.proofs.walk.keep_line.Goals as goal

pub returns : goal.returns
returns g c = λ lines holds are state fault.
    (let form = g.C.Chain.form c.args.chain.now in
    let line = c.args.line.now in
    let own = own_lines (line_name line) lines in
    let name = c.name_of.result.now in
    let name_is : name ≡ line_name line = c.name_of.ensures in
    let yes : counts c.args.fault ≡ true = sym c.if-not-does_count.ensures in
    let one = counted_in form lines line c.args.fault fault yes in
    let over : is_over (naming_among (names_in lines) name) ≡ false = ap (λ n. is_over (naming_among (names_in lines) n)) name_is ∙ one.name_room in
    let placed = c.in_ok-place.ensures lines holds.names are over in
    let added = c.in_ok-add_line.ensures (with_first (names_in lines) name) name lines placed.0 (distinct_first (names_in lines) name are.apart) placed.1 name_is (state ∙ ap (λ n. form.state_of (own_lines n lines)) (sym name_is)) in
    let size = c.size-size.ensures own state in
    let before : c.add_line.new.held.total ≡ size_in form lines = added.1 ∙ (placed.2 ∙ sym holds.total) in
    let room : c.add_line.new.held.total + c.size-size.result ≤ 1_000_000 = omega (arith, before, size, one.room) in
    let total : c.total_with-held.result ≡ size_in form lines + form.size_of own line = omega (arith, c.total_with-held.ensures room, before, size) in
    hold_line form c.add_line.new.held _ lines line c.args.fault yes (rw (← name_is) added.0) refl refl refl refl total one.room)
