use Rattle.std.proofs.Common.{◌≡◌, ◌+◌, ◌*◌, drop}
use Rattle.nal_unit.specs.StartCode.{next}
use Rattle.nal_unit.proofs.scan.next_code.Given as goal

abbrev pub invariant-loop-b : goal.invariant-loop-b
invariant-loop-b l = l.from + next (drop l.from l.s) ≡ l.from + 64 * l.b + next (drop (l.from + 64 * l.b) l.s)
