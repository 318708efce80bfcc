use Rattle.std.proofs.Common.{◌+◌, ◌*◌}
use Rattle.nal_unit.specs.TakingCode.{Counting}
use Rattle.nal_unit.proofs.taking.count_inserted.Given as goal

abbrev pub invariant-loop-i : goal.invariant-loop-i
invariant-loop-i l = Counting l.s l.p l.e l.c (l.p + 224 * l.i)
