-- Facts by computation, and a choice by an order.
--     all_below n f    whether f holds at each number below n: a law of all bytes is one such test, which antt computes
--     at_below, all_at, all_true   the test at each number
--     same             whether two lists are equal, for such a test
--     either           one of two numbers is at most the other, or above it
--     or_left .. and_right     what a test that failed says of its parts
--     by_test, by_tests        what both values have that a test chooses from, the chosen one has; and so of two values that one test chooses
-- Assumes nothing.
use Rattle.std.specs.Prelude.{Bool, true, false, cond, ◌&&◌, ◌||◌, List, [], ◌∷◌, ◌≡◌, refl, ℕ, zero, suc, ◌≤◌, ◌<◌, T, eqb}
use Rattle.std.proofs.Math.Bool.{and-eq-true_iff}
use Rattle.std.proofs.Common.{not-suc-le-zero, le_of_suc-le-suc, eq-or-lt_of_le, lt_of_not-le, arith, inl, inr, eqb→eq, eq-eqb}
use Rattle.std.proofs.Math.Decide.{dec_le}

unfoldable pub all_below : ℕ → (ℕ → Bool) → Bool
all_below zero f = true
all_below (suc n) f = f n && all_below n f

-- both parts of a test hold
pub left : (a b : Bool) → T (a && b) → T a
left true b t = tt
left false b t = t

pub right : (a b : Bool) → T (a && b) → T b
right true b t = t
right false b t = absurd t

pub at_below : (n : ℕ) (f : ℕ → Bool) → T (all_below n f) → (k : ℕ) → k < n → T (f k)
unfolding all_below
at_below zero f t k h = absurd (not-suc-le-zero h)
at_below (suc n) f t k h = elim (eq-or-lt_of_le (le_of_suc-le-suc h)) [ inl e ↦ rw e (left (f n) (all_below n f) t) | inr l ↦ at_below n f (right (f n) (all_below n f) t) k l ]

-- a test that holds at each number below n holds of all
pub all_true : (n : ℕ) (f : ℕ → Bool) → ((k : ℕ) → k < n → f k ≡ true) → all_below n f ≡ true
unfolding all_below
all_true zero f h = refl
all_true (suc n) f h = (and-eq-true_iff (f n) (all_below n f)).1 (h n (omega arith), all_true n f (λ k l. h k (omega arith)))

-- and one that holds of all holds at each
pub all_at : (n : ℕ) (f : ℕ → Bool) → all_below n f ≡ true → (k : ℕ) → k < n → f k ≡ true
all_at n f h k l = go (f k) (at_below n f (rw h tt) k l)
  where
    go : (b : Bool) → T b → b ≡ true
    go true t = refl
    go false t = absurd t

unfoldable pub same : List ℕ → List ℕ → Bool
same [] [] = true
same [] (y ∷ ys) = false
same (x ∷ xs) [] = false
same (x ∷ xs) (y ∷ ys) = eqb x y && same xs ys

pub same→eq : (xs ys : List ℕ) → T (same xs ys) → xs ≡ ys
unfolding same
same→eq [] [] t = refl
same→eq [] (y ∷ ys) t = absurd t
same→eq (x ∷ xs) [] t = absurd t
same→eq (x ∷ xs) (y ∷ ys) t = rw (eqb→eq x y (left (eqb x y) (same xs ys) t), same→eq xs ys (right (eqb x y) (same xs ys) t)) refl

pub same_refl : (xs : List ℕ) → same xs xs ≡ true
unfolding same
same_refl [] = refl
same_refl (x ∷ xs) = rw (eq-eqb x x refl, same_refl xs) refl

pub either {ℓ} : {X : Type ℓ} (a b : ℕ) → (a ≤ b → X) → (b < a → X) → X
either a b f g = elim (dec_le a b) [ yes h ↦ f h | no h ↦ g (lt_of_not-le h) ]

-- neither part of an "or" that failed holds; of an "and" that failed one part fails where the other holds
pub or_left : (a b : Bool) → (a || b) ≡ false → a ≡ false
or_left true b e = e
or_left false b e = refl

pub or_right : (a b : Bool) → (a || b) ≡ false → b ≡ false
or_right true b e = cc
or_right false b e = e

pub and_left : (a b : Bool) → (a && b) ≡ false → b ≡ true → a ≡ false
and_left true b e t = cc
and_left false b e t = refl

pub and_right : (a b : Bool) → (a && b) ≡ false → a ≡ true → b ≡ false
and_right true b e t = e
and_right false b e t = cc

pub by_test : {A : Type 0} (P : A → Type 0) (b : Bool) {v w : A} → P v → P w → P (cond b v w)
by_test P true x y = x
by_test P false x y = y

pub by_tests : {A : Type 0} (R : A → A → Type 0) (b : Bool) {v v' w w' : A} → R v w → R v' w' → R (cond b v v') (cond b w w')
by_tests R true x y = x
by_tests R false x y = y
