-- Parts of lists.
--     part s p n        the n elements of s from the place p on
--     drop_step         what stands from i on is the element at i, then what stands from i + 1 on (as code counts)
--     part_step         the same inside a part
--     part_cut, part_rest, part-part     a part in two, what stands behind one, a part of a part
--     splice-part, splice_own            what was written stands where it was written; a part written where it stands
-- Assumes nothing.
use Rattle.std.specs.Prelude.{◌≡◌, refl, List, [], ◌∷◌, ◌++◌, ℕ, zero, suc, ◌+◌, ◌-◌, ◌≤◌, ◌<◌, length, take, drop, get_or, set}
use Rattle.std.proofs.Common.{sym, ap, ◌∙◌, zero-add, suc-add, add-one, arith, length-take, length-drop, take-append-drop, drop_of_length-le, drop-cons, drop-drop, take-add, take-take, take_all, take_at, drop_at, get_or-take, get_or-drop, length-take-le}
use Rattle.std.proofs.Math.Seq.{take-nil, drop-append-add}
use Rattle.std.proofs.lemmas.List.{take-append-le, drop-append-le}
use Rattle.lists.specs.Fill.{splice}

pub drop_step : (s : List ℕ) (i : ℕ) → i < length s → drop i s ≡ get_or s i 0 ∷ drop (i + 1) s
drop_step s i h = rw (add-one i) (drop-cons s i 0 h)

-- a store in the second of two lists
pub set-append-add : (xs ys : List ℕ) (n v : ℕ) → set (xs ++ ys) (length xs + n) v ≡ xs ++ set ys n v
set-append-add [] ys n v = rw (zero-add n) refl
set-append-add (x ∷ xs) ys n v = rw (suc-add (length xs) n) (ap (λ (l : List ℕ). x ∷ l) (set-append-add xs ys n v))

unfoldable pub part : List ℕ → ℕ → ℕ → List ℕ
part s p n = take n (drop p s)

pub part_length : (s : List ℕ) (p n : ℕ) → p + n ≤ length s → length (part s p n) ≡ n
unfolding part
part_length s p n h = simp (length-take, length-drop) (omega arith)

pub part_at : (s : List ℕ) (p n i : ℕ) → i < n → get_or (part s p n) i 0 ≡ get_or s (p + i) 0
unfolding part
part_at s p n i h = rw (get_or-take n (drop p s) i 0 h) (get_or-drop p s i 0)

pub part_step : (s : List ℕ) (p n k : ℕ) → p + n ≤ length s → k < n → drop k (part s p n) ≡ get_or s (p + k) 0 ∷ drop (k + 1) (part s p n)
part_step s p n k h l =
    rw (drop_step (part s p n) k (omega (arith, part_length s p n h)), part_at s p n k l) refl

pub part_none : (s : List ℕ) (p : ℕ) → part s p 0 ≡ []
unfolding part
part_none s p = refl

-- a part and the one behind it are one part
pub part-append : (s : List ℕ) (p m n : ℕ) → part s p (m + n) ≡ part s p m ++ part s (p + m) n
unfolding part
part-append s p m n = rw (take-add m n (drop p s), drop-drop m p s) refl

-- one element, then the rest of the part
pub part-cons : (s : List ℕ) (p n : ℕ) → p < length s → part s p (n + 1) ≡ get_or s p 0 ∷ part s (p + 1) n
unfolding part
part-cons s p n h = rw (add-one n, drop_step s p h) refl

-- what stands from a on in the first a + k elements is the first k of what stands from a on
drop-take : (a k : ℕ) (l : List ℕ) → drop a (take (a + k) l) ≡ take k (drop a l)
drop-take zero k l = rw (zero-add k) refl
drop-take (suc a) k [] = rw (take-nil {A = ℕ} (suc a + k), take-nil {A = ℕ} k) refl
drop-take (suc a) k (x ∷ l) = rw (suc-add a k) (drop-take a k l)

-- a part of a part
pub part-part : (s : List ℕ) (p n a m : ℕ) → a + m ≤ n → part (part s p n) a m ≡ part s (p + a) m
unfolding part
part-part s p n a m h =
    let e : n ≡ a + (n - a) = omega arith in
    rw (e, drop-take a (n - a) (drop p s), drop-drop a p s) (take-take m (n - a) (drop (p + a) s) (omega arith))

-- a part of what stands from a place on, and of what stands before one
pub part-drop : (s : List ℕ) (p i n : ℕ) → part (drop p s) i n ≡ part s (p + i) n
unfolding part
part-drop s p i n = rw (drop-drop i p s) refl

pub part-take : (s : List ℕ) (k p n : ℕ) → p + n ≤ k → part (take k s) p n ≡ part s p n
unfolding part
part-take s k p n h = rw (zero-add p) at (part-part s 0 k p n h)

-- the part that stands between two lists
pub part-between : (a v b : List ℕ) (p n : ℕ) → length a ≡ p → length v ≡ n → part (a ++ (v ++ b)) p n ≡ v
unfolding part
part-between a v b p n h k = rw (drop_at a (v ++ b) p h) (take_at v b n k)

-- what stands from p on is n elements, then what stands behind them
pub part_rest : (s : List ℕ) (p n : ℕ) → drop p s ≡ part s p n ++ drop (p + n) s
unfolding part
part_rest s p n = rw (← drop-drop n p s) (sym (take-append-drop n (drop p s)))

-- what was written stands where it was written
pub splice-part : (d : List ℕ) (at : ℕ) (v : List ℕ) → at + length v ≤ length d → part (splice d at v) at (length v) ≡ v
unfolding splice
splice-part d at v h = part-between (take at d) v (drop (at + length v) d) at (length v) (length-take-le at d (omega arith)) refl

-- a part that lies in the first of two lists
pub part_left : (xs ys : List ℕ) (a l : ℕ) → a + l ≤ length xs → part (xs ++ ys) a l ≡ part xs a l
unfolding part
part_left xs ys a l h = rw (drop-append-le a xs ys (omega arith)) (take-append-le l (drop a xs) ys (omega (arith, length-drop a xs)))

-- a part that lies in the second
pub part_right : (xs ys : List ℕ) (a l : ℕ) → part (xs ++ ys) (length xs + a) l ≡ part ys a l
unfolding part
part_right xs ys a l = rw (drop-append-add xs ys a) refl

-- the whole list as a part
pub part_all : (s : List ℕ) (n : ℕ) → length s ≡ n → part s 0 n ≡ s
unfolding part
part_all s n h = take_all n s (omega arith)

-- nothing is left of a part behind its last element
pub part_end : (s : List ℕ) (p n k : ℕ) → p + n ≤ length s → n ≤ k → drop k (part s p n) ≡ []
part_end s p n k h l =
    let e : length (part s p n) ≤ k = omega (arith, part_length s p n h) in
    drop_of_length-le (part s p n) e

-- a part is its first m elements, then the others
pub part_cut : (s : List ℕ) (p n m : ℕ) → m ≤ n → part s p n ≡ part s p m ++ part s (p + m) (n - m)
part_cut s p n m h =
    let e : n ≡ m + (n - m) = omega arith in
    ap (λ (l : ℕ). part s p l) e ∙ part-append s p m (n - m)

-- a part written where it stands changes nothing
pub splice_own : (d : List ℕ) (at n : ℕ) → at + n ≤ length d → splice d at (part d at n) ≡ d
unfolding splice
splice_own d at n h = rw (part_length d at n h, ← part_rest d at n) (take-append-drop at d)
