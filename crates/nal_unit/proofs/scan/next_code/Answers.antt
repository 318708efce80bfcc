-- `nal_unit::scan::next_code` meets its contract. The invariant: the next start code is that from the place reached on. Assumes nothing.
use Rattle.std.proofs.Common.{arith, drop, length-drop}
use Rattle.nal_unit.specs.StartCode.{next_le}
use Rattle.nal_unit.proofs.scan.next_code.Goals as goal

pub returns-then-s-from : goal.returns-then-s-from
returns-then-s-from c =
    let a = c.args in
    omega (arith, next_le (drop a.from a.s.now), length-drop a.from a.s.now)
