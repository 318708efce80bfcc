-- Tests of bytes by their bits, and a test of many numbers by one flag.
--     or-zero, xor-zero    an or is zero where both are, an exclusive or where both are equal
--     every f p n          whether f holds at each of the n numbers from p on
--     Flag                 a loop that makes this test with a flag: flag_start; flag-keep, flag-raise, flag-or by one number; flag_end
-- Assumes nothing.
use Rattle.std.specs.Prelude.{◌≡◌, refl, Bool, true, false, ◌&&◌, ℕ, zero, suc, ◌+◌, ◌-◌, ◌≤◌, ◌<◌, eqb}
use Rattle.std.proofs.Common.{sym, ap, ◌∙◌, add-zero, add-one, arith, eqb-true, eq-eqb, ne_eqb}
use Rattle.std.proofs.Math.Bool.{and-true, and-false, and_assoc}
use Rattle.std.proofs.Math.Nat.{sub-zero}
use Rattle.std.proofs.Math.Dec.{eqb-suc-zero}
use Rattle.std.specs.Int.Bits.{bit_or, bit_xor, or_zero_l, or_add_and, xor_add_and, xor_self}
use Rattle.std.proofs.lemmas.Nat.{and_le_l, and_le_r}
use Rattle.std.proofs.lemmas.Bool.{eqb-false}

-- an or is zero where both are, an exclusive or where both are equal
pub or-zero : (a b : ℕ) → eqb (bit_or a b) 0 ≡ eqb a 0 && eqb b 0
or-zero zero b = rw (or_zero_l b) refl
or-zero (suc a) b = rw (ne_eqb (bit_or (suc a) b) 0 (λ e. omega (arith, or_add_and (suc a) b, and_le_r (suc a) b)), eqb-suc-zero a) refl

pub xor-zero : (a b : ℕ) → eqb (bit_xor a b) 0 ≡ eqb a b
xor-zero a b = by (eqb a b) refl
  where
    by : (p : Bool) → eqb a b ≡ p → eqb (bit_xor a b) 0 ≡ p
    by true e = eq-eqb (bit_xor a b) 0 (ap (λ (x : ℕ). bit_xor x b) (eqb-true a b e) ∙ xor_self b)
    by false e = ne_eqb (bit_xor a b) 0 (λ z. eqb-false a b e (omega (arith, xor_add_and a b, and_le_l a b, and_le_r a b)))

-- whether f holds at each of the n numbers from p on
unfoldable pub every : (ℕ → Bool) → ℕ → ℕ → Bool
every f p zero = true
every f p (suc n) = f p && every f (p + 1) n

pub every_none : (f : ℕ → Bool) (p : ℕ) → every f p 0 ≡ true
unfolding every
every_none f p = refl

pub every_step : (f : ℕ → Bool) (p n : ℕ) → every f p (n + 1) ≡ f p && every f (p + 1) n
unfolding every
every_step f p n = rw (add-one n) refl

-- A flag that a loop raises where f does not hold: the test of all n numbers is that of the flag and of those from p + k on.
pub record Flag (f : ℕ → Bool) (p n flag k : ℕ) : Type 0 where
  pub same : eqb flag 0 && every f (p + k) (n - k) ≡ every f p n

pub flag_start : (f : ℕ → Bool) (p n : ℕ) → Flag f p n 0 0
flag_start f p n = record { same = rw (add-zero p, sub-zero n) refl }

flag_step : {f : ℕ → Bool} {p n flag k : ℕ} → Flag f p n flag k → k < n → eqb flag 0 && (f (p + k) && every f (p + (k + 1)) (n - (k + 1))) ≡ every f p n
flag_step {f} {p} {n} {flag} {k} g h =
    let e : n - k ≡ n - (k + 1) + 1 = omega arith in
    let a : p + (k + 1) ≡ p + k + 1 = omega arith in
    rw a (rw (e, every_step f (p + k) (n - (k + 1))) at g.same)

pub flag-keep : {f : ℕ → Bool} {p n flag k : ℕ} → Flag f p n flag k → k < n → f (p + k) ≡ true → Flag f p n flag (k + 1)
flag-keep g h e = record { same = rw e at (flag_step g h) }

pub flag-raise : {f : ℕ → Bool} {p n flag k : ℕ} → Flag f p n flag k → k < n → f (p + k) ≡ false → Flag f p n 1 (k + 1)
flag-raise {f} {p} {n} {flag} {k} g h e = record { same = sym (and-false (eqb flag 0)) ∙ rw e at (flag_step g h) }

pub flag_end : {f : ℕ → Bool} {p n flag k : ℕ} → Flag f p n flag k → n ≤ k → eqb flag 0 ≡ every f p n
flag_end {f} {p} {n} {flag} {k} g h =
    let e : n - k ≡ 0 = omega arith in
    sym (and-true (eqb flag 0)) ∙ rw (e, every_none f (p + k)) at g.same

-- the same where the flag gathers bytes, of which f holds at the zeros
pub flag-or : {f : ℕ → Bool} {p n flag k : ℕ} (x : ℕ) → Flag f p n flag k → k < n → f (p + k) ≡ eqb x 0 → Flag f p n (bit_or flag x) (k + 1)
flag-or {f} {p} {n} {flag} {k} x g h e =
    record { same = rw (or-zero flag x, and_assoc (eqb flag 0) (eqb x 0) (every f (p + (k + 1)) (n - (k + 1)))) (rw e at (flag_step g h)) }
