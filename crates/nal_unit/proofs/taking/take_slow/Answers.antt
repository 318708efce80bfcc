-- `nal_unit::taking::take_slow` meets its contract: i bytes are taken, and what stands behind them is written over until all are. Assumes nothing.
use Rattle.std.proofs.Common.{ℕ, ◌<◌, List, arith}
use Rattle.nal_unit.specs.Kept.{kept_some}
use Rattle.nal_unit.specs.TakingCode.{Taking, taking_start, taking_some, taking_turn}
use Rattle.nal_unit.proofs.taking.take_slow.Goals as goal

-- in a turn the place is before the unit's end
inside : {s : List ℕ} {p e n : ℕ} {d : List ℕ} {a : ℕ} {out : List ℕ} {q i : ℕ} → Taking s p e n d a out q i → i < n → q < e
inside {s} {e = e} {q = q} g h = kept_some s q e (taking_some g h)

pub loop-i-init : goal.loop-i-init
loop-i-init c =
    let a = c.args in
    taking_start a.s.now a.p a.e a.n a.out.now a.at (omega arith) (omega arith) (omega arith)

pub bounds-s-q : goal.bounds-s-q
bounds-s-q c = omega (arith, inside c.loop-i.invariant c.loop-i-test.true)

pub plain_at-i-requires : goal.plain_at-i-requires
plain_at-i-requires c = let i = inside c.loop-i.invariant c.loop-i-test.true in (omega arith, omega arith)

pub loop-i-smaller : goal.loop-i-smaller
loop-i-smaller c = omega (arith, inside c.loop-i.invariant c.loop-i-test.true)

pub loop-i-preserved : goal.loop-i-preserved
loop-i-preserved c = taking_turn c.loop-i.invariant c.loop-i-test.true (omega arith) (omega arith) c.plain_at-i.ensures
