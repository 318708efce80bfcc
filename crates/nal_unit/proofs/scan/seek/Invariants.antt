use Rattle.std.proofs.Common.{◌+◌, ◌*◌}
use Rattle.nal_unit.specs.ScanCode.{Seeking}
use Rattle.nal_unit.proofs.scan.seek.Given as goal

abbrev pub invariant-loop-b : goal.invariant-loop-b
invariant-loop-b l = Seeking l.s l.from (l.from + 64 * l.b) l.calm
