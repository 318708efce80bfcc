-- The signed Exp-Golomb code (9.1.1, Table 9-3), in the words of paper 01: x > 0 becomes 2x - 1, otherwise -2x.
--     mapped x      the number whose unsigned code x has
--     unmapped k    what the unsigned number k stands for: (-1) ^ (k + 1) * Ceil(k / 2)
--     se x          the code of x
-- Assumes nothing.
use Rattle.std.specs.Prelude.{◌≡◌, refl, List, cond, ℕ, zero, suc, ◌+◌, ◌-◌, ◌*◌, ◌/◌, ◌%◌, ◌^◌, ◌≤◌, leb, eqb, ℤ, pos, negsuc, neg_ℤ, nat_abs}
use Rattle.std.proofs.Common.{sym, ap, ◌∙◌, arith, le-leb, leb-true, eq-eqb, ne_eqb}
use Rattle.std.proofs.lemmas.Bool.{lt-leb}
use Rattle.lists.specs.Every.{Below}
use Rattle.lists.specs.Test.{either}
use Rattle.golomb.specs.Code.{ue, ue_below}

unfoldable pub mapped : ℤ → ℕ
mapped (pos zero) = 0
mapped (pos (suc n)) = 2 * suc n - 1
mapped (negsuc n) = 2 * suc n

unfoldable pub unmapped : ℕ → ℤ
unmapped k = cond (eqb (k % 2) 1) (pos ((k + 1) / 2)) (neg_ℤ (pos (k / 2)))

unfoldable pub se : ℤ → List ℕ
se x = ue (mapped x)

pub se_below : (x : ℤ) → Below 2 (se x)
unfolding se
se_below x = ue_below (mapped x)

pub unmap_map : (x : ℤ) → unmapped (mapped x) ≡ x
unfolding unmapped mapped
unmap_map (pos zero) = refl
unmap_map (pos (suc n)) = rw (eq-eqb ((2 * suc n - 1) % 2) 1 (omega arith)) (ap pos (omega arith))
unmap_map (negsuc n) =
    let e : 2 * suc n / 2 ≡ suc n = omega arith in
    rw (ne_eqb (2 * suc n % 2) 1 (omega arith), e) refl

positive : (m : ℕ) → 1 ≤ m → mapped (pos m) ≡ 2 * m - 1
unfolding mapped
positive zero h = absurd (omega arith)
positive (suc m) h = refl

negative : (m : ℕ) → mapped (neg_ℤ (pos m)) ≡ 2 * m
unfolding mapped
negative zero = refl
negative (suc m) = refl

pub map_unmap : (k : ℕ) → mapped (unmapped k) ≡ k
unfolding unmapped
map_unmap k =
    either 1 (k % 2)
    (λ h. rw (eq-eqb (k % 2) 1 (omega arith), positive ((k + 1) / 2) (omega arith)) (omega arith))
    (λ h. rw (ne_eqb (k % 2) 1 (omega arith), negative (k / 2)) (omega arith))

-- the two domains of paper 01 are one: x has a code exactly if the number that it becomes has one
pub map-domain : (x : ℤ) → leb (nat_abs x) (2 ^ 31 - 1) ≡ leb (mapped x) (2 ^ 32 - 2)
unfolding mapped
map-domain (pos zero) = refl
map-domain (pos (suc n)) =
    either (suc n) (2 ^ 31 - 1)
    (λ h. le-leb (suc n) (2 ^ 31 - 1) h ∙ sym (le-leb (2 * suc n - 1) (2 ^ 32 - 2) (omega arith)))
    (λ h. lt-leb (suc n) (2 ^ 31 - 1) h ∙ sym (lt-leb (2 * suc n - 1) (2 ^ 32 - 2) (omega arith)))
map-domain (negsuc n) =
    either (suc n) (2 ^ 31 - 1)
    (λ h. le-leb (suc n) (2 ^ 31 - 1) h ∙ sym (le-leb (2 * suc n) (2 ^ 32 - 2) (omega arith)))
    (λ h. lt-leb (suc n) (2 ^ 31 - 1) h ∙ sym (lt-leb (2 * suc n) (2 ^ 32 - 2) (omega arith)))

pub map_most : (x : ℤ) → nat_abs x ≤ 2 ^ 31 - 1 → mapped x ≤ 2 ^ 32 - 2
map_most x h = leb-true (mapped x) (2 ^ 32 - 2) (sym (map-domain x) ∙ le-leb (nat_abs x) (2 ^ 31 - 1) h)

pub unmap_most : (k : ℕ) → k ≤ 2 ^ 32 - 2 → nat_abs (unmapped k) ≤ 2 ^ 31 - 1
unmap_most k h = leb-true (nat_abs (unmapped k)) (2 ^ 31 - 1) (map-domain (unmapped k) ∙ rw (map_unmap k) (le-leb k (2 ^ 32 - 2) h))
