-- What the refusals leave.
--     first_none, first_some       which of two refusals is given
--     shape-accepted               a picture that passes 1 to 5 has an accepted size
--     Lent                         what 7 and 8 leave: a stride holds a padded row, and the plane the padded rows
--     inside                       so every row of every block lies inside its plane; `across` and `down` say it of whole rows
--     Passed, passed, passed_next  what passes the refusals of a start call, and of a next call
--     mono-alone                   monochrome looks at no chroma plane
--     stride-zero                  stride 0 falls to 7
-- Of these proofs/Passed.antt has `passed` and `passed_next`, since an edit of must-fail/ changes what they rest on.
-- Assumes nothing.
use Rattle.std.specs.Prelude.{◌≡◌, refl, Bool, true, false, cond, ◌||◌, ℕ, zero, suc, ◌+◌, ◌*◌, ◌≤◌, ◌<◌}
use Rattle.std.proofs.Common.{sym, ◌∙◌, mul-le-mul_right, suc-mul, mul_assoc, arith, eqb-true, lt-ltb, ne_eqb}
use Rattle.std.proofs.lemmas.Bool.{not-false}
use Rattle.ycbcr_image.specs.declared.DataPlane.{DataPlane}
use Rattle.ycbcr_image.specs.declared.YCbCrImage.{YCbCrImage}
use Rattle.ycbcr_image.specs.declared.Kind.TheVariants.{Mono}
use Rattle.lists.specs.Test.{or_left, or_right}
use Rattle.ycbcr_image.specs.Form.{mono, planes, block_height, block_row_bytes}
use Rattle.ycbcr_image.specs.Sizes.{Sequence, pic_width_in_mbs, frame_height_in_mbs, padded_row_bytes, padded_height}
use Rattle.ycbcr_image.specs.Refusals.{plane_of, of_picture, size_bad, depths_bad, four_bad, odd_bad, height_bad, session_bad, accepted, stride_bad, shape_refusal, first, planes_refusal, differ, refusal_of, refusal_next}
use Rattle.ycbcr_image.specs.Accepted.{Fine, row_some}

pub first_none : (n later : ℕ) → n ≡ 0 → first n later ≡ later
unfolding first
first_none n later e = rw e refl

pub first_some : (n later : ℕ) → (n ≡ 0 → ⊥) → first n later ≡ n
unfolding first
first_some n later h = rw (ne_eqb n 0 h) refl

pub neither : (n later : ℕ) → first n later ≡ 0 → (n ≡ 0) × (later ≡ 0)
unfolding first
neither zero later e = (refl, e)
neither (suc n) later e = absurd (omega (arith, sym (first_some (suc n) later (λ z. omega arith)) ∙ e))

-- a row of the table that gives no number does not apply, and the rows behind it give none
pub row_none : (b : Bool) (n later : ℕ) → cond b (suc n) later ≡ 0 → (b ≡ false) × (later ≡ 0)
row_none true n later e = absurd (omega arith)
row_none false n later e = (refl, e)

pub shape-accepted : (i : YCbCrImage) → shape_refusal i ≡ 0 → accepted (of_picture i) ≡ true
unfolding shape_refusal accepted
shape-accepted i e =
    let a = row_none (size_bad (of_picture i)) _ _ e in
    let b = row_none (depths_bad i) _ _ a.1 in
    let c = row_none (four_bad (of_picture i)) _ _ b.1 in
    let d = row_none (odd_bad (of_picture i)) _ _ c.1 in
    let f = row_none (height_bad (of_picture i)) _ _ d.1 in
    rw (a.0, c.0, d.0, f.0) refl

-- plane p of a picture of the sequence q
pub record Lent (q : Sequence) (p : ℕ) (a : DataPlane) : Type 0 where
  pub row : padded_row_bytes q p ≤ a.stride
  pub rows : padded_height q p * a.stride ≤ a.len

-- row r of the padded plane, in the block column x
pub inside : {q : Sequence} {p : ℕ} {a : DataPlane} → Fine q → Lent q p a → (r x : ℕ) → r < padded_height q p → x < pic_width_in_mbs q
    → r * a.stride + x * block_row_bytes q.form p + block_row_bytes q.form p ≤ a.len
inside {q} {p} {a} g l r x h k =
    omega (arith, (g.plane p).row, l.row, l.rows, suc-mul r a.stride, suc-mul x (block_row_bytes q.form p), mul-le-mul_right a.stride h, mul-le-mul_right (block_row_bytes q.form p) k)

-- the padded rows of all macroblocks, and the blocks of a row
pub down : {q : Sequence} {p : ℕ} {a : DataPlane} → Fine q → Lent q p a → frame_height_in_mbs q * (block_height q.form p * a.stride) ≤ a.len
down {q} {p} {a} g l = rw (← mul_assoc (frame_height_in_mbs q) (block_height q.form p) a.stride, ← (g.plane p).high) l.rows

pub across : {q : Sequence} {p : ℕ} {a : DataPlane} → Fine q → Lent q p a → pic_width_in_mbs q * block_row_bytes q.form p ≤ a.stride
across {q} {p} {a} g l = rw (← (g.plane p).row) l.row

-- an accepted picture: each plane that its kind has is lent whole
pub record Passed (i : YCbCrImage) : Type 0 where
  pub sizes : accepted (of_picture i) ≡ true
  pub fine : Fine (of_picture i)
  pub lent : (p : ℕ) → p < planes (of_picture i).form → Lent (of_picture i) p (plane_of i p)

-- a plane beside Y is there only in colour, and then it is Cb or Cr
pub in_colour : (b : Bool) (p : ℕ) → suc p < cond b 1 3 → (b ≡ false) × (p < 2)
in_colour true p h = absurd (omega arith)
in_colour false p h = (refl, omega arith)

-- a picture that 6 does not refuse is the session's
pub same : (s q : Sequence) → session_bad s q ≡ false → s ≡ q
unfolding session_bad
same s q e =
    let l = or_left (differ q.width s.width || differ q.height s.height) _ e in
    let r = or_right (differ q.width s.width || differ q.height s.height) _ e in
    equal
    (eqb-true _ _ (not-false _ (or_left _ _ l)))
    (eqb-true _ _ (not-false _ (or_right (differ q.width s.width) _ l)))
    (eqb-true _ _ (not-false _ (or_left _ _ r)))
    (eqb-true _ _ (not-false _ (or_right (differ q.form.chroma s.form.chroma) _ r)))
  where
    of : ℕ → ℕ → ℕ → ℕ → Sequence
    of w h c d = record { width = w; height = h; form = record { chroma = c; depth = d } }

    equal : {w h c d w' h' c' d' : ℕ} → w ≡ w' → h ≡ h' → c ≡ c' → d ≡ d' → of w' h' c' d' ≡ of w h c d
    equal a b c d = rw (a, b, c, d) refl

abbrev pub mono_image : ℕ → ℕ → DataPlane → DataPlane → DataPlane → YCbCrImage
mono_image w h y cb cr = record { width = w; height = h; kind = Mono; y = y; cb = cb; cr = cr }

pub mono-alone : (w h : ℕ) (y cb cr cb' cr' : DataPlane) → (refusal_of (mono_image w h y cb cr) ≡ refusal_of (mono_image w h y cb' cr')) × ((s : Sequence) → refusal_next s (mono_image w h y cb cr) ≡ refusal_next s (mono_image w h y cb' cr'))
unfolding refusal_of refusal_next shape_refusal planes_refusal depths_bad mono
mono-alone w h y cb cr cb' cr' = (refl, λ s. refl)

pub stride-zero : {q : Sequence} → Fine q → (p : ℕ) → p < planes q.form → (a : DataPlane) → a.stride ≡ 0 → stride_bad q p a ≡ true
unfolding stride_bad
stride-zero {q} g p l a e = let h : a.stride < padded_row_bytes q p = omega (arith, row_some g p l) in lt-ltb _ _ h
