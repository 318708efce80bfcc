use Rattle.std.proofs.Common.{◌+◌, drop, slice_range}
use Rattle.nal_unit.specs.PutCode.{Escaping}
use Rattle.nal_unit.proofs.put.put_bytes.Given as goal

abbrev pub invariant-loop-b : goal.invariant-loop-b
invariant-loop-b l = Escaping l.initial.out l.at (slice_range l.s l.p (l.p + l.n)) l.out l.a (drop l.b-index (slice_range l.s l.p (l.p + l.n)))
