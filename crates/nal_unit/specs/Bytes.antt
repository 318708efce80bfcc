-- Laws of lists that the other files of this crate share.
--     last_of d xs    the last element of xs, or d where there is none
--     drop-three      three elements in a row
-- Assumes nothing.
use Rattle.std.specs.Prelude.{◌≡◌, refl, List, [], ◌∷◌, ◌++◌, ℕ, ◌+◌, ◌≤◌, ◌<◌, length, drop, get_or}
use Rattle.std.proofs.Common.{arith}
use Rattle.lists.specs.Part.{drop_step}

unfoldable pub last_of : ℕ → List ℕ → ℕ
last_of d [] = d
last_of d (x ∷ xs) = last_of x xs

-- of a list with a first element
pub last_cons : (d x : ℕ) (xs : List ℕ) → last_of d (x ∷ xs) ≡ last_of x xs
unfolding last_of
last_cons d x xs = refl

-- of two lists
pub last_append : (d : ℕ) (xs ys : List ℕ) → last_of d (xs ++ ys) ≡ last_of (last_of d xs) ys
unfolding last_of
last_append d [] ys = refl
last_append d (x ∷ xs) ys = last_append x xs ys

-- whether the last element is above 0 does not turn on what stands for none, if that is above 0
pub last_above : (c d : ℕ) (xs : List ℕ) → 0 < d → 0 < last_of c xs → 0 < last_of d xs
unfolding last_of
last_above c d [] h l = h
last_above c d (x ∷ xs) h l = l

-- what stands from i on, where there are three or more
pub drop-three : (s : List ℕ) (i : ℕ) → i + 3 ≤ length s → drop i s ≡ get_or s i 0 ∷ get_or s (i + 1) 0 ∷ get_or s (i + 2) 0 ∷ drop (i + 3) s
drop-three s i h =
    let e : i + 1 + 1 ≡ i + 2 = omega arith in
    let f : i + 2 + 1 ≡ i + 3 = omega arith in
    rw (drop_step s i (omega arith), drop_step s (i + 1) (omega arith), e, drop_step s (i + 2) (omega arith), f) refl
