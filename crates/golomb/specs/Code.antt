-- The unsigned Exp-Golomb code (9.1), in the words of paper 01: let v = x + 1 with n bits; n - 1 zeros, then v.
--     num_bits v   how many binary digits v has, 1 for 0
--     ue x         the code of x
-- Assumes nothing.
use Rattle.std.specs.Prelude.{◌≡◌, refl, List, ◌∷◌, ◌++◌, true, false, ℕ, zero, suc, ◌+◌, ◌-◌, ◌*◌, ◌/◌, ◌^◌, ◌≤◌, ◌<◌, ltb, length, replicate}
use Rattle.std.proofs.Common.{sym, ap, ◌∙◌, pow-suc, le_refl, add-one, arith, pow_mono, lt-ltb, le-ltb}
use Rattle.std.proofs.Math.Nat.{div-eq_of_lt-le}
use Rattle.lists.specs.Every.{Below}
use Rattle.lists.specs.Test.{either}
use Rattle.bits.specs.Bits.{low_bits, low-length, low_below, low_zeros}

-- the digits of v, of which no more than suc k are looked at
unfoldable pub digits_in : ℕ → ℕ → ℕ
digits_in zero v = 1
digits_in (suc k) v = elim (ltb v 2) [ true ↦ 1 | false ↦ suc (digits_in k (v / 2)) ]

-- a number has no more digits than itself, but for 0
unfoldable pub num_bits : ℕ → ℕ
num_bits v = digits_in v v

unfoldable pub ue : ℕ → List ℕ
ue x = replicate (num_bits (x + 1) - 1) 0 ++ low_bits (num_bits (x + 1)) (x + 1)

-- ---- the number of digits

-- that many digits hold v, and one fewer do not
pub record Digits (v n : ℕ) : Type 0 where
  pub some : 1 ≤ n
  pub holds : v < 2 ^ n
  pub least : 1 ≤ v → 2 ^ (n - 1) ≤ v

digits_in_lem : (k v : ℕ) → v ≤ k → Digits v (digits_in k v)
unfolding digits_in
digits_in_lem zero v h = record { some = omega arith; holds = omega arith; least = λ l. omega arith }
digits_in_lem (suc k) v h = either (v + 1) 2 few (many (digits_in_lem k (v / 2)))
  where
    few : v + 1 ≤ 2 → Digits v (elim (ltb v 2) [ true ↦ 1 | false ↦ suc (digits_in k (v / 2)) ])
    few l = rw (lt-ltb v 2 (omega arith)) (record { some = omega arith; holds = omega arith; least = λ m. m })

    many : (v / 2 ≤ k → Digits (v / 2) (digits_in k (v / 2))) → 2 < v + 1 → Digits v (elim (ltb v 2) [ true ↦ 1 | false ↦ suc (digits_in k (v / 2)) ])
    many rest l =
        let d = rest (omega arith) in
        let e : suc (digits_in k (v / 2)) - 1 ≡ suc (digits_in k (v / 2) - 1) = omega arith in
        rw (le-ltb v 2 (omega arith)) (record {
          some = omega arith;
          holds = rw (pow-suc 2 (digits_in k (v / 2))) (omega (arith, d.holds));
          least = λ m. rw (e, pow-suc 2 (digits_in k (v / 2) - 1)) (omega (arith, d.least (omega arith)));
        })

pub num-bits : (v : ℕ) → Digits v (num_bits v)
unfolding num_bits
num-bits v = digits_in_lem v v (le_refl v)

-- there is one such number of digits
pub digits_same : (v m n : ℕ) → 1 ≤ v → Digits v m → Digits v n → m ≡ n
digits_same v m n h a b = either m n (λ l. either n m (λ k. omega arith) (λ k. absurd (less a b k))) (λ l. absurd (less b a l))
  where
    less : {i j : ℕ} → Digits v i → Digits v j → i < j → ⊥
    less {i} {j} c d l = omega (arith, c.holds, d.least h, pow_mono {i = i} {j = j - 1} (omega arith))

pub num_same : (v n : ℕ) → 1 ≤ v → 1 ≤ n → v < 2 ^ n → 2 ^ (n - 1) ≤ v → num_bits v ≡ n
num_same v n h l a b = digits_same v (num_bits v) n h (num-bits v) (record { some = l; holds = a; least = λ m. b })

-- a number of two digits or more has one more than its half
pub num-half : (v : ℕ) → 2 ≤ v → num_bits v ≡ num_bits (v / 2) + 1
num-half v h =
    let d = num-bits (v / 2) in
    let n : ℕ = num_bits (v / 2) in
    let e : n + 1 - 1 ≡ suc (n - 1) = omega arith in
    num_same v (n + 1) (omega arith) (omega arith)
    (rw (add-one n, pow-suc 2 n) (omega (arith, d.holds)))
    (rw (e, pow-suc 2 (n - 1)) (omega (arith, d.least (omega arith))))

pub num-zero : num_bits 0 ≡ 1
unfolding num_bits digits_in
num-zero = refl

pub num_one : num_bits 1 ≡ 1
num_one = num_same 1 1 (omega arith) (omega arith) (omega arith) (omega arith)

-- at most k digits below 2 ^ k
pub num_most : (v k : ℕ) → 1 ≤ v → v < 2 ^ k → num_bits v ≤ k
num_most v k l h =
    let d = num-bits v in
    either (num_bits v) k (λ m. m) (λ m. absurd (omega (arith, d.least l, pow_mono {i = k} {j = num_bits v - 1} (omega arith))))

-- ---- the code

-- the code is x + 1 in twice as many bits as it has, less one: the leading zeros are the number's own
pub ue-low : (x : ℕ) → ue x ≡ low_bits (2 * num_bits (x + 1) - 1) (x + 1)
unfolding ue
ue-low x =
    let d = num-bits (x + 1) in
    let n : ℕ = num_bits (x + 1) in
    let e : 2 * n - 1 ≡ (n - 1) + n = omega arith in
    rw e (sym (low_zeros (n - 1) n (x + 1) d.holds))

pub ue-length : (x : ℕ) → length (ue x) ≡ 2 * num_bits (x + 1) - 1
ue-length x = rw (ue-low x) (low-length (2 * num_bits (x + 1) - 1) (x + 1))

pub ue_below : (x : ℕ) → Below 2 (ue x)
ue_below x = rw (ue-low x) (low_below (2 * num_bits (x + 1) - 1) (x + 1))

-- v begins with a 1
pub ue-top : (x : ℕ) → (x + 1) / 2 ^ (num_bits (x + 1) - 1) ≡ 1
ue-top x =
    let d = num-bits (x + 1) in
    let m : ℕ = num_bits (x + 1) - 1 in
    let e : num_bits (x + 1) ≡ suc m = omega arith in
    div-eq_of_lt-le {k = 1} (2 ^ m) (omega (arith, d.least (omega arith))) (omega (arith, (rw (e, pow-suc 2 m) at d.holds)))

-- the code spelled out: n - 1 zeros, the 1 that v begins with, and its other n - 1 bits
pub ue-shape : (x : ℕ) → ue x ≡ replicate (num_bits (x + 1) - 1) 0 ++ (1 ∷ low_bits (num_bits (x + 1) - 1) (x + 1))
unfolding ue low_bits
ue-shape x =
    let d = num-bits (x + 1) in
    let m : ℕ = num_bits (x + 1) - 1 in
    let e : num_bits (x + 1) ≡ suc m = omega arith in
    let t : low_bits (suc m) (x + 1) ≡ 1 ∷ low_bits m (x + 1) = rw (ue-top x) refl in
    ap (λ (l : List ℕ). replicate m 0 ++ l) (ap (λ (n : ℕ). low_bits n (x + 1)) e ∙ t)

-- no code is empty
pub ue-long : (x : ℕ) → 1 ≤ length (ue x)
ue-long x = let d = num-bits (x + 1) in omega (arith, ue-length x)
