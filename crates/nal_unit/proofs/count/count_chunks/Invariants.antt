use Rattle.std.proofs.Common.{◌*◌}
use Rattle.nal_unit.specs.CountCode.{Passing}
use Rattle.nal_unit.proofs.count.count_chunks.Given as goal

abbrev pub invariant-loop-i : goal.invariant-loop-i
invariant-loop-i l = Passing l.s l.p l.n l.z l.all.n l.all.z (64 * l.i)
