-- The library's test of two slices is `same`. Assumes nothing.
use Rattle.std.specs.Prelude.{◌≡◌, List, [], ◌∷◌, ℕ, ◌&&◌, eqb}
use Rattle.std.proofs.Common.{refl, ap}
use lib.Pointwise.{pointwise}
use Rattle.lists.specs.Test.{same}

pub pointwise_same : (xs ys : List ℕ) → pointwise eqb xs ys ≡ same xs ys
unfolding same
pointwise_same [] [] = refl
pointwise_same [] (y ∷ ys) = refl
pointwise_same (x ∷ xs) [] = refl
pointwise_same (x ∷ xs) (y ∷ ys) = ap (λ b. eqb x y && b) (pointwise_same xs ys)
