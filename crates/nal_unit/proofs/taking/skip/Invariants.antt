use Rattle.std.proofs.Common.{◌-◌, ◌≤◌}
use Rattle.nal_unit.specs.TakingCode.{Skipping}
use Rattle.nal_unit.proofs.taking.skip.Given as goal

abbrev pub invariant-loop-left : goal.invariant-loop-left
invariant-loop-left l = (l.p ≤ l.q) × Skipping l.s l.p l.e l.n l.q l.left

abbrev pub decreases-loop-left : goal.decreases-loop-left
decreases-loop-left l = l.e - l.q
