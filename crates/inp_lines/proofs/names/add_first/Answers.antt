use Rattle.std.proofs.Common.{sym, ◌∙◌}
use Rattle.std.proofs.lemmas.Map.Text.{btree_map_updates_str}
use Rattle.inp_lines.proofs.NameLemmas.{numbers_known, numbers_full, numbers_more}
use Rattle.inp_lines.specs.Numbers.{numbers_of}
use Rattle.inp_lines.proofs.names.add_first.Goals as goal

pub returns-then-contains_key : goal.returns-then-contains_key
returns-then-contains_key c = λ held. numbers_known held c.args.name.now (numbers_of c.args.names.now) c.args.count (sym c.contains_key.ensures ∙ c.if-contains_key.true)

pub returns-then-count-ge-RECORD_LIMIT : goal.returns-then-count-ge-RECORD_LIMIT
returns-then-count-ge-RECORD_LIMIT c = λ held. numbers_full held c.args.name.now (numbers_of c.args.names.now) c.args.count c.if-count-ge-RECORD_LIMIT.true

pub returns : goal.returns
returns c = λ held. numbers_more held c.args.name.now (numbers_of c.args.names.now) (numbers_of c.insert.new.self) c.args.count (sym c.contains_key.ensures ∙ c.if-contains_key.false) c.if-count-ge-RECORD_LIMIT.false (btree_map_updates_str c.args.name.now c.args.names.now c.insert.new.self _ c.in_ok-insert.ensures.updates)
