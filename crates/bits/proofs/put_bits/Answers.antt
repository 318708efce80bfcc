-- `bits::put_bits` meets its contract: the buffer's bits are being filled with the number's, a bit a turn. Assumes nothing.
use Rattle.std.proofs.Common.{refl, ◌∙◌, add-zero, add_assoc, arith}
use native.Mathlib.Nat.{sub-zero}
use Rattle.lists.specs.Fill.{start_at, put, done_at}
use Rattle.bits.specs.Bits.{low_bits, bits_of, bits-length, count-length, count-lt, low-length, low_step, low_end}
use Rattle.bits.proofs.put_bits.Goals as goal

pub loop-i-init : goal.loop-i-init
loop-i-init c = (
  refl,
  rw (add-zero c.args.place, sub-zero c.args.n)
      (start_at (bits_of c.args.s.now) c.args.place (low_bits c.args.n c.args.v) (omega (arith, count-length c.args.s.now, bits-length c.args.s.now, low-length c.args.n c.args.v))),
)

pub overflow_add-place : goal.overflow_add-place
overflow_add-place c = omega (arith, count-lt c.args.s.now)

pub set_bit-requires : goal.set_bit-requires
set_bit-requires c = (omega (arith, count-length c.args.s.now), omega arith)

pub loop-i-preserved : goal.loop-i-preserved
loop-i-preserved c =
    let l = c.loop-i in
    let g = put (rw (low_step c.args.n c.args.v l.i (omega arith)) at l.invariant.1) in
    (c.set_bit.auto.s ∙ l.invariant.0, rw (c.set_bit.ensures, ← add_assoc c.args.place l.i 1) g)

pub overflow_add-result : goal.overflow_add-result
overflow_add-result c = omega (arith, count-lt c.args.s.now)

pub returns : goal.returns
returns c =
    let l = c.loop-i in
    let d = done_at c.args.place (low_bits c.args.n c.args.v) (rw (low_end c.args.n c.args.v l.i (omega arith)) at l.invariant.1) (omega (arith, count-length c.args.s.now, bits-length c.args.s.now)) in
    record { behind = omega (arith, low-length c.args.n c.args.v); bits = d.0 }
