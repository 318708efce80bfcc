-- `nal_unit::scan::unit_scan` meets its contract: no start code stands before the first fault, and the unit has a fault where that one is in it.
-- Assumes nothing.
use Rattle.std.proofs.Common.{arith, drop, length-drop}
use Rattle.nal_unit.specs.StartCode.{next_le}
use Rattle.nal_unit.specs.ScanCode.{first_le, unit-beyond, unit-faulty, unit_whole}
use Rattle.nal_unit.proofs.scan.unit_scan.Goals as goal

pub returns-then-s-from : goal.returns-then-s-from
returns-then-s-from c = unit-beyond c.args.s.now c.args.from (omega arith)

pub trim_end-stop-requires-clause-end_in_bounds : goal.trim_end-stop-requires-clause-end_in_bounds
trim_end-stop-requires-clause-end_in_bounds c =
    let s = c.args.s.now in
    let f = c.seek-found.result.fault in
    omega (arith, first_le (drop c.args.from s), length-drop c.args.from s, next_le (drop f s), length-drop f s, c.seek-found.ensures.fault)

pub overflow_add-bad : goal.overflow_add-bad
overflow_add-bad c =
    omega (arith, first_le (drop c.args.from c.args.s.now), length-drop c.args.from c.args.s.now, c.seek-found.ensures.fault, c.well_formed)

pub returns-then-bad : goal.returns-then-bad
returns-then-bad c =
    unit-faulty c.args.s.now c.args.from c.next_code-end.result c.trim_end-stop.result c.seek-found.result
    c.seek-found.ensures c.next_code-end.ensures (omega arith) c.trim_end-stop.ensures c.if-bad.true

pub returns-else-bad : goal.returns-else-bad
returns-else-bad c =
    unit_whole c.args.s.now c.args.from c.next_code-end.result c.trim_end-stop.result c.seek-found.result
    c.seek-found.ensures c.next_code-end.ensures (omega arith) c.trim_end-stop.ensures c.if-bad.false
