-- `golomb::num_bits` meets its contract: the digits shifted out and those that are left are the number's. Assumes nothing.

use Rattle.std.proofs.Common.{◌≡◌, refl, sym, ap, ◌∙◌, ℕ, ◌+◌, ◌/◌, arith, ne_eqb}
use Rattle.lists.specs.Test.{either}
use Rattle.golomb.specs.Code.{num_bits, num_most, num-half, num_one, num-zero}
use Rattle.golomb.proofs.num_bits.Invariants.{left}
use Rattle.golomb.proofs.num_bits.Goals as goal

left_some : (r : ℕ) → (r ≡ 0 → ⊥) → left r ≡ num_bits r
unfolding left
left_some r h = rw (ne_eqb r 0 h) refl

left_none : left 0 ≡ 0
unfolding left
left_none = refl

left_half : (r : ℕ) → (r ≡ 0 → ⊥) → left r ≡ left (r / 2) + 1
left_half r h =
    left_some r h ∙
    either r 1
    (λ l. let e : r ≡ 1 = omega arith in rw (e, left_none, num_one) refl)
    (λ l. rw (num-half r l) (ap (λ (n : ℕ). n + 1) (sym (left_some (r / 2) (omega arith)))))

pub returns-then-x-eq0 : goal.returns-then-x-eq0
returns-then-x-eq0 c = sym (ap num_bits c.if-x-eq0.true ∙ num-zero)

pub loop-rest-init : goal.loop-rest-init
loop-rest-init c = (omega (arith, left_some c.args.x c.if-x-eq0.false), num_most c.args.x 32 (omega arith) c.ranges.x.fits)

pub loop-rest-preserved : goal.loop-rest-preserved
loop-rest-preserved c = (omega (arith, left_half c.loop-rest.rest c.loop-rest-test.true), c.loop-rest.invariant.1)

pub returns : goal.returns
returns c = omega (arith, ap left c.loop-rest-test.false, left_none)
