-- `golomb::code_len` meets its contract: n digits make a code of 2n - 1 bits. Assumes nothing.
use Rattle.std.proofs.Common.{sym, ap, ◌∙◌, ℕ, ◌+◌, ◌-◌, ◌*◌, ◌≤◌, arith}
use Rattle.golomb.specs.Code.{num-bits, num_most, ue-length}
use Rattle.golomb.proofs.code_len.Goals as goal

few : (c : goal.After-num_bits) → (1 ≤ c.num_bits.result) × (c.num_bits.result ≤ 32)
few c =
    let x = c.args.x in
    (rw c.num_bits.ensures (num-bits (x + 1)).some, rw c.num_bits.ensures (num_most (x + 1) 32 (omega arith) (omega (arith, c.requires))))

pub overflow_mul-result : goal.overflow_mul-result
overflow_mul-result c = omega (arith, few c)

pub overflow_sub-result : goal.overflow_sub-result
overflow_sub-result c = omega (arith, few c)

pub returns : goal.returns
returns c = ap (λ (n : ℕ). 2 * n - 1) c.num_bits.ensures ∙ sym (ue-length c.args.x)
