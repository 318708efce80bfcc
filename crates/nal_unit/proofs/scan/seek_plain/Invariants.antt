use Rattle.nal_unit.specs.ScanCode.{Seeking}
use Rattle.nal_unit.proofs.scan.seek_plain.Given as goal

abbrev pub invariant-loop-i : goal.invariant-loop-i
invariant-loop-i l = Seeking l.s l.from l.i l.calm
