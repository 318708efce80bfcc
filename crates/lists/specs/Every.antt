-- Lists whose every element is below a bound: of bytes `Below 256`, of bits `Below 2`. Past the end `get_or` reads 0, so a slice's own rule, that each
-- element is a value of its type, is this record as it stands.
-- Assumes nothing.
use Rattle.std.specs.Prelude.{List, [], ◌∷◌, ◌++◌, ℕ, zero, suc, ◌+◌, ◌<◌, length, take, drop, get_or, replicate}
use Rattle.std.proofs.Common.{arith, get_or-drop}
use Rattle.lists.specs.Fill.{splice}
use Rattle.lists.specs.Part.{part}

pub record Below (m : ℕ) (xs : List ℕ) : Type 0 where
  pub at : (i : ℕ) → get_or xs i 0 < m

pub below_nil : {m : ℕ} → 0 < m → Below m []
below_nil h = record { at = λ i. h }

pub below_cons : {m x : ℕ} {xs : List ℕ} → x < m → Below m xs → Below m (x ∷ xs)
below_cons {m} {x} {xs} h b = record { at = go }
  where
    go : (i : ℕ) → get_or (x ∷ xs) i 0 < m
    go zero = h
    go (suc i) = b.at i

pub below_head : {m x : ℕ} {xs : List ℕ} → Below m (x ∷ xs) → x < m
below_head b = b.at 0

pub below_tail : {m x : ℕ} {xs : List ℕ} → Below m (x ∷ xs) → Below m xs
below_tail b = record { at = λ i. b.at (suc i) }

pub below_append : {m : ℕ} (xs ys : List ℕ) → Below m xs → Below m ys → Below m (xs ++ ys)
below_append [] ys b c = c
below_append (x ∷ xs) ys b c = below_cons (below_head b) (below_append xs ys (below_tail b) c)

pub below_drop : {m : ℕ} (n : ℕ) (xs : List ℕ) → Below m xs → Below m (drop n xs)
below_drop {m} n xs b = record { at = λ i. rw (get_or-drop n xs i 0) (b.at (n + i)) }

pub below_take : {m : ℕ} (n : ℕ) (xs : List ℕ) → Below m xs → Below m (take n xs)
below_take zero xs b = below_nil (lower b)
  where
    lower : {m : ℕ} {ys : List ℕ} → Below m ys → 0 < m
    lower c = omega (arith, c.at 0)
below_take (suc n) [] b = b
below_take (suc n) (x ∷ xs) b = below_cons (below_head b) (below_take n xs (below_tail b))

-- zeros
pub below_zeros : {m : ℕ} (k : ℕ) → 0 < m → Below m (replicate k 0)
below_zeros zero h = below_nil h
below_zeros (suc k) h = below_cons h (below_zeros k h)

pub below_splice : {m : ℕ} (d : List ℕ) (at : ℕ) (v : List ℕ) → Below m d → Below m v → Below m (splice d at v)
unfolding splice
below_splice d at v b c = below_append (take at d) (v ++ drop (at + length v) d) (below_take at d b) (below_append v (drop (at + length v) d) c (below_drop (at + length v) d b))

pub below_part : {m : ℕ} (s : List ℕ) (p n : ℕ) → Below m s → Below m (part s p n)
unfolding part
below_part s p n b = below_take n (drop p s) (below_drop p s b)
