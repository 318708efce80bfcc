-- The library's `next_multiple_of` gives the next multiple.
use Rattle.std.specs.Prelude.{◌≡◌, ℕ, suc, ◌+◌, ◌*◌, ◌/◌, ◌%◌, ◌≤◌, ◌<◌}
use Rattle.std.specs.Int.{next_multiple_of}
use Rattle.std.proofs.Common.{ap, ◌∙◌, suc-mul, arith}
use Rattle.std.proofs.Math.Nat.{lt_of_mul-lt-mul_right}
use Rattle.ycbcr_image.specs.Sizes.{div_ceil, next_multiple, next_low, next_high}

pub fits : (a b : ℕ) → 0 < b → next_multiple_of a b < a + b
fits a b h = omega arith

-- two multiples that are less than b apart are one
one : (b m n : ℕ) → m * b < n * b + b → n * b < m * b + b → m ≡ n
one b m n g h =
    let k : m * b < suc n * b = omega (arith, suc-mul n b) in
    let l : n * b < suc m * b = omega (arith, suc-mul m b) in
    let p : m < suc n = lt_of_mul-lt-mul_right b k in
    let q : n < suc m = lt_of_mul-lt-mul_right b l in
    omega arith

pub next : (a b r : ℕ) → 0 < b → a ≤ r → r < a + b → r % b ≡ 0 → r ≡ next_multiple a b
unfolding next_multiple
next a b r h l u m =
    let e : r ≡ r / b * b = omega arith in
    let lo : a ≤ div_ceil a b * b = next_low a b h in
    let hi : div_ceil a b * b < a + b = next_high a b h in
    let q : r / b ≡ div_ceil a b = one b (r / b) (div_ceil a b) (omega arith) (omega arith) in
    e ∙ ap (λ (n : ℕ). n * b) q
