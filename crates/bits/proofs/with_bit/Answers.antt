-- `bits::with_bit` meets its contract: one test over every byte, bit and value, which antt computes. Assumes nothing.

use Rattle.std.proofs.Common.{◌≡◌, Bool, ◌&&◌, ℕ, ◌+◌, ◌-◌, ◌*◌, ◌/◌, ◌%◌, ◌^◌, ◌≤◌, ◌<◌, arith, T, leb, leb→le, set}
use Rattle.lists.specs.Test.{all_below, at_below, left, right, same, same→eq}
use Rattle.bits.specs.Bits.{low_bits}
use Rattle.bits.proofs.with_bit.Goals as goal

-- the weight of the bit j, as the machine shifts
abbrev weight : ℕ → ℕ
weight j = 1 * 2 ^ (7 - j) % 2 ^ 32

abbrev above : ℕ → ℕ → ℕ → ℕ
above b j v = b / weight j / 2 * 2 + v

abbrev sum : ℕ → ℕ → ℕ → ℕ
sum b j v = above b j v * weight j + b % weight j

sound : ℕ → ℕ → ℕ → Bool
unfolding same low_bits
sound b j v = leb 1 (weight j) && (leb (above b j v) 255 && (leb (sum b j v) 255 && same (low_bits 8 (sum b j v)) (set (low_bits 8 b) j v)))

record Sound (b j v : ℕ) : Type 0 where
  some : 1 ≤ weight j
  few : above b j v ≤ 255
  byte : sum b j v ≤ 255
  bits : low_bits 8 (sum b j v) ≡ set (low_bits 8 b) j v

-- a byte, a bit and a value are one number below 4096
test : ℕ → Bool
test n = sound (n / 16) (n / 2 % 8) (n % 2)

tested : T (all_below 4096 test)
unfolding all_below test sound
tested = tt

all : (b j v : ℕ) → b < 256 → j < 8 → v < 2 → T (sound b j v)
unfolding test
all b j v hb hj hv =
    let eb : (b * 16 + j * 2 + v) / 16 ≡ b = omega arith in
    let ej : (b * 16 + j * 2 + v) / 2 % 8 ≡ j = omega arith in
    let ev : (b * 16 + j * 2 + v) % 2 ≡ v = omega arith in
    rw (eb, ej, ev) at (at_below 4096 test tested (b * 16 + j * 2 + v) (omega arith))

facts : (b j v : ℕ) → b < 256 → j < 8 → v < 2 → Sound b j v
unfolding sound
facts b j v hb hj hv =
    let t = all b j v hb hj hv in
    let u = right (leb 1 (weight j)) _ t in
    let w = right (leb (above b j v) 255) _ u in
    record {
      some = leb→le 1 (weight j) (left (leb 1 (weight j)) _ t);
      few = leb→le (above b j v) 255 (left (leb (above b j v) 255) _ u);
      byte = leb→le (sum b j v) 255 (left (leb (sum b j v) 255) _ w);
      bits = same→eq (low_bits 8 (sum b j v)) (set (low_bits 8 b) j v) (right (leb (sum b j v) 255) _ w);
    }

known : (c : goal.Start) → Sound c.args.b c.args.j c.args.v
known c = facts c.args.b c.args.j c.args.v c.ranges.b.fits c.requires.0 c.requires.1

pub overflow_cast-result-2 : goal.overflow_cast-result-2
overflow_cast-result-2 c = let k = known c in omega arith

pub returns : goal.returns
returns c = (known c).bits
