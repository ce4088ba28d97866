use Rattle.std.proofs.Common.{ap, subst, sym}
use Rattle.net_types.specs.declared.network.LinkKind.{LinkKind}
use Rattle.project_check.specs.Objects.{needs_none}
use Rattle.link_eval.specs.Routed.{IsRoutedSection}
use Rattle.link_eval.proofs.BuildLemmas.{full_of, is_no_pump, routed_section, table_good}
use Rattle.link_eval.proofs.link_law.link_rule.Goals as goal

pub number_of-requires-clause-section : goal.number_of-requires-clause-section
number_of-requires-clause-section c =
    rw c.given_section-section.ensures (routed_section c.args.link.now c.requires.link (is_no_pump (ap (λ (k : LinkKind). needs_none k) c.in-Conduit.is))).range

pub returns-in_ok-table-in-Conduit-clause-good : goal.returns-in_ok-table-in-Conduit-clause-good
returns-in_ok-table-in-Conduit-clause-good c =
    let routed = routed_section c.args.link.now c.requires.link (is_no_pump (ap (λ (k : LinkKind). needs_none k) c.in-Conduit.is)) in
    let section = subst IsRoutedSection (sym c.given_section-section.ensures) routed in
    let law = c.conduit_law-law.ensures in
    record { conduit = law.good; table = rw law.value (table_good section c.in_ok-table-in-Conduit.ensures.value) }

pub returns-in_ok-table-in-Orifice-clause-good : goal.returns-in_ok-table-in-Orifice-clause-good
returns-in_ok-table-in-Orifice-clause-good c =
    let routed = routed_section c.args.link.now c.requires.link (is_no_pump (ap (λ (k : LinkKind). needs_none k) c.in-Orifice.is)) in
    let section = subst IsRoutedSection (sym c.given_section-section.ensures) routed in
    let law = c.orifice_law-law.ensures in
    let table = c.in_ok-table-in-Orifice.ensures.value in
    record { orifice = law.good; table = rw law.value (table_good section table); full = rw law.value (full_of section table) }
