use Rattle.std.proofs.Common.{◌*◌}
use Rattle.nal_unit.specs.PutCode.{Along}
use Rattle.nal_unit.proofs.fast.put_chunks.Given as goal

abbrev pub invariant-loop-i : goal.invariant-loop-i
invariant-loop-i l = Along l.s l.p l.n l.initial.out l.at l.out l.a (64 * l.i)
