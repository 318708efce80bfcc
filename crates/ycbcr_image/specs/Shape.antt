-- Which numbers a picture is refused with (01, "Writer's refusals"): 1 to 5 for its size, kind and depths, all others for something else.
--     of_shape                     1 to 5
--     depths-alike                 planes of one depth are not refused with 2
--     Shaped, shaped, shaped_next  of planes of one depth 1 to 5 are given exactly where the size is not accepted, and no number is over 8
-- Assumes nothing.
use Rattle.std.specs.Prelude.{◌≡◌, refl, Bool, true, false, cond, not, ◌&&◌, ◌||◌, ℕ, zero, suc, ◌≤◌, eqb, leb, ltb}
use Rattle.std.proofs.Common.{ap, ◌∙◌, arith, eq-eqb, ne_eqb, le-leb, lt-ltb}
use Rattle.ycbcr_image.specs.declared.DataPlane.{DataPlane}
use Rattle.ycbcr_image.specs.declared.YCbCrImage.{YCbCrImage}
use Rattle.ycbcr_image.specs.Form.{depth_of, mono, colour}
use Rattle.ycbcr_image.specs.Sizes.{Sequence}
use Rattle.ycbcr_image.specs.Refusals.{of_picture, size_bad, depths_bad, four_bad, odd_bad, height_bad, session_bad, accepted, stride_bad, rows_bad, shape_refusal, plane_refusal, first, chroma_refusal, planes_refusal, refusal_of, refusal_next}
use Rattle.ycbcr_image.specs.Passed.{first_none, first_some}

abbrev pub of_shape : ℕ → Bool
of_shape n = ltb 0 n && leb n 5

-- what both numbers of a test have, the one that it gives has
both_ways : (P : ℕ → Type 0) (b : Bool) {n m : ℕ} → P n → P m → P (cond b n m)
both_ways P true g h = g
both_ways P false g h = h

-- a refusal that is tested behind 5
record Later (n : ℕ) : Type 0 where
  other : of_shape n ≡ false
  most : n ≤ 8

none : Later 0
none = record { other = refl; most = omega arith }

six : Later 6
six = record { other = refl; most = omega arith }

later-plane : (q : Sequence) (p : ℕ) (a : DataPlane) → Later (plane_refusal q p a)
unfolding plane_refusal
later-plane q p a =
    both_ways Later (stride_bad q p a) (record { other = refl; most = omega arith }) (both_ways Later (rows_bad q p a) (record { other = refl; most = omega arith }) none)

later_first : {n m : ℕ} → Later n → Later m → Later (first n m)
unfolding first
later_first {n} g h = both_ways Later (eqb n 0) h g

later-planes : (i : YCbCrImage) → Later (planes_refusal i)
unfolding planes_refusal chroma_refusal
later-planes i =
    let q = of_picture i in
    later_first (later-plane q 0 i.y) (both_ways Later (mono q.form) none (later_first (later-plane q 1 i.cb) (later-plane q 2 i.cr)))

shape_most : (i : YCbCrImage) → shape_refusal i ≤ 5
unfolding shape_refusal
shape_most i =
    let q = of_picture i in
    row (size_bad q) (omega arith) (row (depths_bad i) (omega arith) (row (four_bad q) (omega arith) (row (odd_bad q) (omega arith) (row (height_bad q) (omega arith) (omega arith)))))
  where
    row : (b : Bool) {n m : ℕ} → n ≤ 5 → m ≤ 5 → cond b n m ≤ 5
    row = both_ways (λ (n : ℕ). n ≤ 5)

pub depths-alike : (i : YCbCrImage) → i.y.depth ≡ i.cb.depth → i.y.depth ≡ i.cr.depth → depths_bad i ≡ false
unfolding depths_bad
depths-alike i e f =
    rw (eq-eqb (depth_of i.y.depth) (depth_of i.cb.depth) (ap depth_of e), eq-eqb (depth_of i.y.depth) (depth_of i.cr.depth) (ap depth_of f))
    (go (colour (of_picture i).form))
  where
    go : (b : Bool) → (b && false) ≡ false
    go true = refl
    go false = refl

-- where 2 is not given the size and kind alone decide
shape_none : (i : YCbCrImage) → depths_bad i ≡ false → eqb (shape_refusal i) 0 ≡ accepted (of_picture i)
unfolding shape_refusal accepted
shape_none i e = rw e (go (size_bad (of_picture i)) (four_bad (of_picture i)) (odd_bad (of_picture i)) (height_bad (of_picture i)))
  where
    go : (a b c d : Bool) → eqb (cond a 1 (cond b 3 (cond c 4 (cond d 5 0)))) 0 ≡ not (a || (b || (c || d)))
    go true b c d = refl
    go false true c d = refl
    go false false true d = refl
    go false false false true = refl
    go false false false false = refl

-- the number n that the picture i is refused with, 0 for none
pub record Shaped (i : YCbCrImage) (n : ℕ) : Type 0 where
  pub most : n ≤ 8
  pub shape : depths_bad i ≡ false → of_shape n ≡ not (accepted (of_picture i))

shaped_first : (i : YCbCrImage) {n : ℕ} → Later n → Shaped i (first (shape_refusal i) n)
shaped_first i {n} g =
    let h = go (shape_refusal i) (shape_most i) in
    record { most = h.0; shape = λ e. h.1 ∙ ap not (shape_none i e) }
  where
    go : (s : ℕ) → s ≤ 5 → (first s n ≤ 8) × (of_shape (first s n) ≡ not (eqb s 0))
    go zero l = rw (first_none 0 n refl) (g.most, g.other)
    go (suc s) l = rw (first_some (suc s) n (λ e. omega arith)) (omega arith, rw (lt-ltb 0 (suc s) (omega arith), le-leb (suc s) 5 l, ne_eqb (suc s) 0 (λ e. omega arith)) refl)

pub shaped : (i : YCbCrImage) → Shaped i (refusal_of i)
unfolding refusal_of
shaped i = shaped_first i (later-planes i)

pub shaped_next : (s : Sequence) (i : YCbCrImage) → Shaped i (refusal_next s i)
unfolding refusal_next
shaped_next s i = shaped_first i (both_ways Later (session_bad s (of_picture i)) six (later-planes i))
