-- `golomb::put_ue` meets its contract: the code is x + 1 in as many bits as the code has. Assumes nothing.
use Rattle.std.proofs.Common.{◌≡◌, sym, ap, ◌∙◌, ℕ, ◌+◌, arith, length}
use Rattle.bits.specs.Bits.{low_bits}
use Rattle.golomb.specs.Code.{ue, num_most, ue-low, ue-length}
use Rattle.golomb.proofs.put_ue.Goals as goal

pub put_bits-requires : goal.put_bits-requires
put_bits-requires c = (
  omega (arith, c.code_len-n.ensures, ue-length c.args.x, num_most (c.args.x + 1) 32 (omega arith) (omega (arith, c.requires.0))),
  omega (arith, c.code_len-n.ensures, c.requires.1),
)

-- x + 1 in the code's length of bits
is_code : (x n : ℕ) → n ≡ length (ue x) → low_bits n (x + 1) ≡ ue x
is_code x n e = ap (λ (m : ℕ). low_bits m (x + 1)) (e ∙ ue-length x) ∙ sym (ue-low x)

pub returns : goal.returns
returns c =
    rw (is_code c.args.x c.code_len-n.result c.code_len-n.ensures) at c.put_bits.ensures
