use Rattle.std.proofs.Common.{◌≡◌, ℕ, true, false, ◌<◌, ◌≤◌}
use Rattle.nal_unit.proofs.calm.at_each.Given as goal

abbrev pub invariant-loop-k : goal.invariant-loop-k
invariant-loop-k g l = record {
  holds : l.all ≡ true → (k : ℕ) → l.from ≤ k → k < l.k → goal.F-post g l.test k true;
  fails : l.all ≡ false → (k : ℕ) × (l.from ≤ k) × (k < l.to) × goal.F-post g l.test k false;
}
