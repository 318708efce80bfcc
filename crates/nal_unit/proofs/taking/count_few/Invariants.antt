use Rattle.std.proofs.Common.{◌+◌}
use Rattle.nal_unit.specs.TakingCode.{Counting}
use Rattle.nal_unit.proofs.taking.count_few.Given as goal

abbrev pub invariant-loop-q : goal.invariant-loop-q
invariant-loop-q l = Counting l.s l.p (l.p + l.n) l.c l.q
