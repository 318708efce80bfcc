-- Numbers as digits: q * m + r with r below m. That q is its quotient by m and r the remainder are digits_div and digits_mod of Rattle.std.proofs.Math.Arith.
-- Assumes nothing.
use Rattle.std.specs.Prelude.{◌≡◌, ℕ, zero, suc, ◌+◌, ◌*◌, ◌/◌, ◌%◌, ◌≤◌, ◌<◌}
use Rattle.std.proofs.Common.{mod-lt, div-lt_iff_lt-mul, mul-le-mul_right, arith}
use Rattle.lists.specs.Test.{either}

-- a factor of what has a number below it is not 0
above : (n m j : ℕ) → j < n * m → 0 < m
above n zero j h = absurd (omega arith)
above n (suc m) j h = omega arith

-- a number below n * m has its quotient below n
pub high_below : (n m j : ℕ) → j < n * m → j / m < n
high_below n m j h = (div-lt_iff_lt-mul (above n m j h)).1 h

-- and its remainder below m
pub low_below : (n m j : ℕ) → j < n * m → j % m < m
low_below n m j h = mod-lt j (above n m j h)

-- a number of the a-th stretch of m numbers has the quotient a
pub same_digit : (m a b v : ℕ) → v < m → a * m ≤ b * m + v → b * m + v < a * m + m → b ≡ a
same_digit m a b v h l u =
    let up : a ≤ b = either a b (λ g. g) (λ (g : b < a). absurd (omega (arith, mul-le-mul_right m g))) in
    let down : b ≤ a = either b a (λ g. g) (λ (g : a < b). absurd (omega (arith, mul-le-mul_right m g))) in
    omega arith
