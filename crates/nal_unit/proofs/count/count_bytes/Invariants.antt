use Rattle.std.proofs.Common.{◌+◌, drop, slice_range}
use Rattle.nal_unit.specs.CountCode.{Counting}
use Rattle.nal_unit.proofs.count.count_bytes.Given as goal

abbrev pub invariant-loop-b : goal.invariant-loop-b
invariant-loop-b l = Counting l.z (slice_range l.s l.p (l.p + l.n)) l.all.n l.all.z (drop l.b-index (slice_range l.s l.p (l.p + l.n)))
