-- `golomb::mapped` meets its contract: each branch is a clause of the definition. Assumes nothing.
use Rattle.std.proofs.Common.{◌≡◌, refl, true, false, ◌-◌, ◌*◌, arith, pos, negsuc, zero, suc, ℤ, nat_abs, ltb-false}
use lib.Signed.{lt_z}
use mir.Facts.{to_z-of_z}
use Rattle.golomb.specs.Signed.{mapped}
use Rattle.golomb.proofs.mapped.Goals as goal

above : (z : ℤ) → lt_z (pos 0) z ≡ true → mapped z ≡ 2 * nat_abs z - 1
unfolding mapped
above (pos zero) h = cc
above (pos (suc n)) h = refl
above (negsuc n) h = cc

below : (z : ℤ) → lt_z (pos 0) z ≡ false → mapped z ≡ 2 * nat_abs z
unfolding mapped
below (pos zero) h = refl
below (pos (suc n)) h = absurd (omega (arith, ltb-false 0 (suc n) h))
below (negsuc n) h = refl

pub returns-then-above : goal.returns-then-above
returns-then-above c = grind (arith, to_z-of_z, above)

pub returns-else-above : goal.returns-else-above
returns-else-above c = grind (arith, to_z-of_z, below)
