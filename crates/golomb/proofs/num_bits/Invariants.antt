use Rattle.std.proofs.Common.{ℕ, cond, eqb, ◌≡◌, ◌+◌, ◌≤◌}
use Rattle.golomb.specs.Code.{num_bits}
use Rattle.golomb.proofs.num_bits.Given as goal

-- the digits of what is left, none of 0
unfoldable pub left : ℕ → ℕ
left r = cond (eqb r 0) 0 (num_bits r)

abbrev pub invariant-loop-rest : goal.invariant-loop-rest
invariant-loop-rest l = (l.value + left l.rest ≡ num_bits l.x) × (num_bits l.x ≤ 32)

abbrev pub decreases-loop-rest : goal.decreases-loop-rest
decreases-loop-rest l = l.rest
