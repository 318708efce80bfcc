-- A list that stands in another.
--     stands vs s p    whether vs stands in s from the place p on, a test that code can make element by element
--     stands-part, part-stands   it does exactly if the part there is vs
-- Assumes nothing.
use Rattle.std.specs.Prelude.{◌≡◌, refl, List, [], ◌∷◌, Bool, true, false, ◌&&◌, ℕ, eqb, length, take, drop}
use Rattle.std.proofs.Common.{ap, arith, eqb-true, eq-eqb}
use Rattle.std.proofs.Math.Bool.{and-eq-true_iff}
use Rattle.lists.specs.Part.{part}

-- whether xs begins with vs
unfoldable pub begins : List ℕ → List ℕ → Bool
begins [] xs = true
begins (v ∷ vs) [] = false
begins (v ∷ vs) (x ∷ xs) = eqb x v && begins vs xs

-- whether vs stands in s from the place p on
unfoldable pub stands : List ℕ → List ℕ → ℕ → Bool
stands vs s p = begins vs (drop p s)

-- what stands is the part there
pub stands-part : (vs s : List ℕ) (p : ℕ) → stands vs s p ≡ true → part s p (length vs) ≡ vs
unfolding stands part begins
stands-part vs s p h = go vs (drop p s) h
  where
    go : (vs xs : List ℕ) → begins vs xs ≡ true → take (length vs) xs ≡ vs
    go [] xs h = refl
    go (v ∷ vs) [] h = cc
    go (v ∷ vs) (x ∷ xs) h =
        let b = (and-eq-true_iff (eqb x v) (begins vs xs)).0 h in
        rw (eqb-true x v b.0, go vs xs b.1) refl

-- and the part stands there
pub part-stands : (vs s : List ℕ) (p : ℕ) → part s p (length vs) ≡ vs → stands vs s p ≡ true
unfolding stands part begins
part-stands vs s p h = go vs (drop p s) h
  where
    go : (vs xs : List ℕ) → take (length vs) xs ≡ vs → begins vs xs ≡ true
    go [] xs h = refl
    go (v ∷ vs) [] h = absurd (omega (arith, ap length h))
    go (v ∷ vs) (x ∷ xs) h =
        let e : x ≡ v = cc in
        let t : take (length vs) xs ≡ vs = cc in
        (and-eq-true_iff (eqb x v) (begins vs xs)).1 (eq-eqb x v e, go vs xs t)
