-- The reader's refusals 10 to 19 by their numbers.
--     number        the number of a refusal
--     named         the refusal of a number of the table
--     named-number, number-named   each is the other's way back
-- Assumes nothing.
use Rattle.std.specs.Prelude.{◌≡◌, refl, ℕ, zero, suc, ◌+◌, ◌-◌, ◌≤◌, cond, eqb}
use Rattle.std.proofs.Common.{arith}
use Rattle.reader.specs.declared.Refusal.{Refusal}
use Rattle.reader.specs.declared.Refusal.TheVariants.{Stray, Empty, Escaping, Header, ParameterSet, OtherThanHeld, NothingHeld, PictureShort, PictureForm, Planes}

abbrev pub number : Refusal → ℕ
number Stray = 10
number Empty = 11
number Escaping = 12
number Header = 13
number ParameterSet = 14
number OtherThanHeld = 15
number NothingHeld = 16
number PictureShort = 17
number PictureForm = 18
number Planes = 19

abbrev pub named : ℕ → Refusal
named n =
    cond (eqb n 10) Stray
    (cond (eqb n 11) Empty
    (cond (eqb n 12) Escaping
    (cond (eqb n 13) Header
    (cond (eqb n 14) ParameterSet
    (cond (eqb n 15) OtherThanHeld
    (cond (eqb n 16) NothingHeld
    (cond (eqb n 17) PictureShort
    (cond (eqb n 18) PictureForm
    Planes))))))))

pub named-number : (r : Refusal) → named (number r) ≡ r
named-number Stray = refl
named-number Empty = refl
named-number Escaping = refl
named-number Header = refl
named-number ParameterSet = refl
named-number OtherThanHeld = refl
named-number NothingHeld = refl
named-number PictureShort = refl
named-number PictureForm = refl
named-number Planes = refl

pub number-named : (n : ℕ) → 10 ≤ n → n ≤ 19 → number (named n) ≡ n
number-named n l m =
    let e : n - 10 + 10 ≡ n = omega arith in
    rw e at (go (n - 10) (omega arith))
  where
    go : (k : ℕ) → k ≤ 9 → number (named (k + 10)) ≡ k + 10
    go zero h = refl
    go (suc zero) h = refl
    go (suc (suc zero)) h = refl
    go (suc (suc (suc zero))) h = refl
    go (suc (suc (suc (suc zero)))) h = refl
    go (suc (suc (suc (suc (suc zero))))) h = refl
    go (suc (suc (suc (suc (suc (suc zero)))))) h = refl
    go (suc (suc (suc (suc (suc (suc (suc zero))))))) h = refl
    go (suc (suc (suc (suc (suc (suc (suc (suc zero)))))))) h = refl
    go (suc (suc (suc (suc (suc (suc (suc (suc (suc zero))))))))) h = refl
    go (suc (suc (suc (suc (suc (suc (suc (suc (suc (suc k)))))))))) h = absurd (omega arith)
