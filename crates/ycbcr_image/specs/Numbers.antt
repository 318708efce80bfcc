-- The numbers of the writer's refusals.
--     number            a refusal's number, which is that of its row of the table
--     refusal_number    of a test's answer: 0 where nothing is refused
--     named             the refusal of a number from 1 to 8
--     number_low, number_high    there are 8 of them
--     named-number, number-named    so each refusal has a number of its own, and each number from 1 to 8 a refusal
-- Assumes nothing.
use Rattle.std.specs.Prelude.{◌≡◌, refl, cond, ℕ, zero, suc, ◌≤◌, Result, Ok, Err, eqb}
use Rattle.std.proofs.Common.{arith}
use Rattle.ycbcr_image.specs.declared.Refusal.{Refusal}
use Rattle.ycbcr_image.specs.declared.Refusal.TheVariants.{Size, Depths, Colour12Width, OddWidth, OddHeight, OtherThanSession, Stride, Rows}

abbrev pub number : Refusal → ℕ
number Size = 1
number Depths = 2
number Colour12Width = 3
number OddWidth = 4
number OddHeight = 5
number OtherThanSession = 6
number Stride = 7
number Rows = 8

abbrev pub refusal_number : Result (Unit {0}) Refusal → ℕ
refusal_number (Ok _) = 0
refusal_number (Err r) = number r

pub number_low : (r : Refusal) → 1 ≤ number r
number_low Size = omega arith
number_low Depths = omega arith
number_low Colour12Width = omega arith
number_low OddWidth = omega arith
number_low OddHeight = omega arith
number_low OtherThanSession = omega arith
number_low Stride = omega arith
number_low Rows = omega arith

pub number_high : (r : Refusal) → number r ≤ 8
number_high Size = omega arith
number_high Depths = omega arith
number_high Colour12Width = omega arith
number_high OddWidth = omega arith
number_high OddHeight = omega arith
number_high OtherThanSession = omega arith
number_high Stride = omega arith
number_high Rows = omega arith

-- no refusal has another number: there it is of no meaning which one stands here
unfoldable pub named : ℕ → Refusal
named n =
    cond (eqb n 1) Size
    (cond (eqb n 2) Depths
    (cond (eqb n 3) Colour12Width
    (cond (eqb n 4) OddWidth
    (cond (eqb n 5) OddHeight
    (cond (eqb n 6) OtherThanSession
    (cond (eqb n 7) Stride
    Rows))))))

pub named-number : (r : Refusal) → named (number r) ≡ r
unfolding named
named-number Size = refl
named-number Depths = refl
named-number Colour12Width = refl
named-number OddWidth = refl
named-number OddHeight = refl
named-number OtherThanSession = refl
named-number Stride = refl
named-number Rows = refl

pub number-named : (n : ℕ) → 1 ≤ n → n ≤ 8 → number (named n) ≡ n
unfolding named
number-named zero l h = absurd (omega arith)
number-named (suc zero) l h = refl
number-named (suc (suc zero)) l h = refl
number-named (suc (suc (suc zero))) l h = refl
number-named (suc (suc (suc (suc zero)))) l h = refl
number-named (suc (suc (suc (suc (suc zero))))) l h = refl
number-named (suc (suc (suc (suc (suc (suc zero)))))) l h = refl
number-named (suc (suc (suc (suc (suc (suc (suc zero))))))) l h = refl
number-named (suc (suc (suc (suc (suc (suc (suc (suc zero)))))))) l h = refl
number-named (suc (suc (suc (suc (suc (suc (suc (suc (suc n))))))))) l h = absurd (omega arith)
