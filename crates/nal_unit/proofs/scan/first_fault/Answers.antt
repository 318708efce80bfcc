-- `nal_unit::scan::first_fault` meets its contract: the search finds it. Assumes nothing.
use Rattle.std.proofs.Common.{arith, drop, length-drop}
use Rattle.nal_unit.specs.ScanCode.{first_le}
use Rattle.nal_unit.proofs.scan.first_fault.Goals as goal

pub returns-then-s-from : goal.returns-then-s-from
returns-then-s-from c =
    let a = c.args in
    omega (arith, first_le (drop a.from a.s.now), length-drop a.from a.s.now)
