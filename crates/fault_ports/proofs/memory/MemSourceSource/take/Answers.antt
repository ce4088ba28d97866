use Rattle.std.proofs.Common.{◌≤◌, length, take, drop, ◌-◌, arith}
use Rattle.fault_ports.proofs.MemoryLemmas.{taken_front, nothing_left}
use Rattle.fault_ports.proofs.memory.MemSourceSource.take.Goals as goal

pub returns-clause-bytes : goal.returns-clause-bytes
returns-clause-bytes c =
    let copied = c.copy_from_slice.new.self in
    let bytes = c.self.inside.bytes in
    let at = c.self.inside.at in
    let copy = rw c.as_slice-2.ensures at c.copy_from_slice.ensures.after in
    let count = rw (c.min.ensures, c.as_slice-2.ensures) at c.min-count.ensures in
    let within : c.min-count.result ≤ length (take (length bytes - at) (drop at bytes)) = omega arith in (
      rw (← c.self.view_is) (taken_front at c.min-count.result bytes copied c.args.buf.now copy within),
      nothing_left at c.min-count.result c.self.inside.most bytes copied c.args.buf.now c.self.invariant.1 count copy,
    )
