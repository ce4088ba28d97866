use Rattle.std.proofs.Common.{arith, ◌+◌, ◌-◌, length}
use Rattle.std.proofs.lemmas.Slice.{drop-put_mid}
use Rattle.fixed_num.proofs.put.put_bytes.Goals as goal

pub returns-clause-rest : goal.returns-clause-rest
returns-clause-rest c =
    drop-put_mid c.args.at (c.args.at + length c.args.piece.now - c.args.at) c.args.to.now c.copy_from_slice.new.self (c.args.at + length c.args.piece.now) (omega arith) (omega arith) (omega arith)
