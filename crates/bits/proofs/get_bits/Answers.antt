-- `bits::get_bits` meets its contract: the number read so far, with the bits still to come behind it, spells the answer. Assumes nothing.
use Rattle.std.proofs.Common.{◌≡◌, sym, ◌∙◌, ℕ, ◌+◌, ◌-◌, ◌*◌, ◌^◌, ◌<◌, add_assoc, pow-suc, add-one, arith, pow_mono}
use Rattle.lists.specs.Part.{part-cons, part_none}
use Rattle.bits.specs.Bits.{bits_of, bits-length, bits_below, count-length, count-lt, value-cons, value-nil}
use Rattle.bits.proofs.get_bits.Goals as goal

-- a number of i bits with a bit behind it has i + 1 bits
longer : (v b i : ℕ) → v < 2 ^ i → b < 2 → 2 * v + b < 2 ^ (i + 1)
longer v b i h k = rw (add-one i, pow-suc 2 i) (omega arith)

number : (c : goal.After-bit_at) → 2 * c.loop-i.v + c.bit_at.result < 2 ^ (c.loop-i.i + 1)
number c = longer _ _ _ (c.loop-i.invariant.0) (rw c.bit_at.ensures ((bits_below c.args.s.now).at (c.args.place + c.loop-i.i)))

pub overflow_add-place : goal.overflow_add-place
overflow_add-place c = omega (arith, count-lt c.args.s.now)

pub bit_at-requires : goal.bit_at-requires
bit_at-requires c = omega (arith, count-length c.args.s.now)

pub overflow_add-v : goal.overflow_add-v
overflow_add-v c = omega (arith, number c, pow_mono {i = c.loop-i.i + 1} {j = 64} (omega arith))

pub loop-i-preserved : goal.loop-i-preserved
loop-i-preserved c =
    let l = c.loop-i in
    let e : c.args.n - l.i ≡ c.args.n - (l.i + 1) + 1 = omega arith in
    let p = part-cons (bits_of c.args.s.now) (c.args.place + l.i) (c.args.n - (l.i + 1)) (omega (arith, bits-length c.args.s.now, count-length c.args.s.now)) in (
      number c,
      rw (c.bit_at.ensures, ← value-cons, ← add_assoc c.args.place l.i 1, ← p, ← e) l.invariant.1,
    )

pub returns : goal.returns
returns c =
    let l = c.loop-i in
    let e : c.args.n - l.i ≡ 0 = omega arith in
    sym (value-nil l.v) ∙ (rw (e, part_none (bits_of c.args.s.now) (c.args.place + l.i)) at l.invariant.1)
