use Rattle.std.proofs.Common.{◌-◌}
use Rattle.nal_unit.specs.TakingCode.{Taking}
use Rattle.nal_unit.proofs.taking.take_slow.Given as goal

abbrev pub invariant-loop-i : goal.invariant-loop-i
invariant-loop-i l = Taking l.s l.p l.e l.n l.initial.out l.at l.out l.q l.i

abbrev pub decreases-loop-i : goal.decreases-loop-i
decreases-loop-i l = l.e - l.q
