-- `golomb::read_ue` meets its contract: the zeros are counted as far as 32, so the tests are the definition's. Assumes nothing.
use Rattle.std.proofs.Common.{◌≡◌, refl, sym, ap, ◌∙◌, ℕ, ◌+◌, ◌-◌, ◌*◌, ◌%◌, ◌^◌, ◌≤◌, ◌<◌, mod-eq_of_lt, arith, pow_mono, pow_pos}
use Rattle.lists.specs.Part.{part, part_length}
use Rattle.lists.specs.Every.{below_part}
use Rattle.bits.specs.Bits.{bits_of, bits_from, value-lt, bits_below, bits-length, room_true, room_false, count-lt, count-length, from_length, from_part}
use Rattle.golomb.specs.Read.{leading_zero_bits, code_bits, code_num, whole_long, whole_short, whole_yes, code-bits, code-num}
use Rattle.golomb.specs.Answers.{ue_none, ue_some}
use Rattle.golomb.proofs.read_ue.Goals as goal

pub returns-then-zeros-gt31 : goal.returns-then-zeros-gt31
returns-then-zeros-gt31 c =
    sym (ue_none _ _ (whole_long (bits_from c.args.payload.now c.args.place) (omega (arith, c.leading_zero_bits-zeros.ensures))))

pub returns-then-not-room : goal.returns-then-not-room
returns-then-not-room c =
    let s = c.args.payload.now in
    let bs = bits_from s c.args.place in
    let z = c.leading_zero_bits-zeros.ensures in
    let r = room_false s c.args.place (2 * c.leading_zero_bits-zeros.result + 1) (sym c.if-not-room.ensures) in
    sym (ue_none _ _ (whole_short bs (omega arith) (omega (arith, code-bits bs, from_length s c.args.place))))

pub overflow_add-place : goal.overflow_add-place
overflow_add-place c =
    let s = c.args.payload.now in
    omega (arith, room_true s c.args.place (2 * c.leading_zero_bits-zeros.result + 1) (sym c.if-not-room.ensures), count-lt s)

pub get_bits-suffix-requires : goal.get_bits-suffix-requires
get_bits-suffix-requires c =
    (omega arith, omega (arith, room_true c.args.payload.now c.args.place (2 * c.leading_zero_bits-zeros.result + 1) (sym c.if-not-room.ensures)))

-- the machine's 1 << z, and what the suffix can be
record Wide (z v : ℕ) : Type 0 where
  shift : 1 * 2 ^ z % 2 ^ 64 ≡ 2 ^ z
  some : 1 ≤ 2 ^ z
  most : 2 ^ z ≤ 2147483648
  below : v < 2 ^ z

wide : (c : goal.After-get_bits-suffix) → Wide c.leading_zero_bits-zeros.result c.get_bits-suffix.result
wide c =
    let s = c.args.payload.now in
    let z = c.leading_zero_bits-zeros.result in
    let few : z ≤ 31 = c.if-zeros-gt31.false in
    let m = pow_mono {j = 31} few in
    let r = room_true s c.args.place (2 * z + 1) (sym c.if-not-room.ensures) in
    let p = part (bits_of s) (c.args.place + (z + 1)) z in
    let n = part_length (bits_of s) (c.args.place + (z + 1)) z (omega (arith, count-length s, bits-length s)) in
    record {
      shift = rw (mod-eq_of_lt {n = 1 * 2 ^ z} {m = 2 ^ 64} (omega arith)) (omega arith);
      some = pow_pos z;
      most = m;
      below = rw c.get_bits-suffix.ensures (rw n at (value-lt p (below_part (bits_of s) (c.args.place + (z + 1)) z (bits_below s))));
    }

pub overflow_add-result : goal.overflow_add-result
overflow_add-result c = let w = wide c in omega arith

pub overflow_cast-result : goal.overflow_cast-result
overflow_cast-result c = let w = wide c in omega arith

pub overflow_add-result-2 : goal.overflow_add-result-2
overflow_add-result-2 c =
    let s = c.args.payload.now in
    omega (arith, room_true s c.args.place (2 * c.leading_zero_bits-zeros.result + 1) (sym c.if-not-room.ensures), count-lt s)

pub returns : goal.returns
returns c =
    let s = c.args.payload.now in
    let bs = bits_from s c.args.place in
    let z = c.leading_zero_bits-zeros.result in
    let w = wide c in
    let r = room_true s c.args.place (2 * z + 1) (sym c.if-not-room.ensures) in
    let q : leading_zero_bits bs ≡ z = omega (arith, c.leading_zero_bits-zeros.ensures) in
    let p : part bs (z + 1) z ≡ part (bits_of s) (c.args.place + (z + 1)) z = from_part s c.args.place (z + 1) z (omega arith) in
    let num : code_num bs ≡ 1 * 2 ^ z % 2 ^ 64 - 1 + c.get_bits-suffix.result =
    code-num bs ∙ rw (q, p, w.shift) (ap (λ (v : ℕ). 2 ^ z - 1 + v) (sym c.get_bits-suffix.ensures)) in
    let len : code_bits bs ≡ 2 * z + 1 = omega (arith, code-bits bs) in
    let yes = whole_yes bs (omega arith) (omega (arith, from_length s c.args.place)) in
    sym (ue_some _ _ yes ∙ rw (num, len) refl)
