-- What the sizes that 1 to 5 let pass have, so that the code above forms no number that does not fit (01, "Pictures accepted").
--     Fine, fine         of an accepted size: the form, the counts of macroblocks, the crop, the planes. `fine` takes a session, which of a picture is `session_of`
--     fine_props         it has one proof at most, so that a value can keep it
--     Known, known       of its form: the chroma format and the depth are known, and a macroblock is its blocks
--     Units              of its crop
--     FinePlane          of a plane: its padded size is whole blocks, its rows are whole bytes, what is visible lies in what is padded, bounds
--     Present            of a plane that the kind has: nothing of it is empty
--     tight_most ..      bounds of products: a plane stored tight, the macroblocks, a picture's payload
--     row_in_lem         a row of a block is a row of its plane
-- Of these proofs/Accepted.antt has `fine`, since an edit of must-fail/ changes what it rests on.
-- Assumes nothing.
use Rattle.std.specs.Prelude.{◌≡◌, refl, true, false, not, ◌&&◌, ◌||◌, ◌⊎◌, ℕ, zero, suc, ◌+◌, ◌-◌, ◌*◌, ◌/◌, ◌%◌, ◌≤◌, ◌<◌, eqb, ltb}
use Rattle.std.proofs.Common.{ap, inl, inr, mul-le-mul, arith, ltb-false, eqb-true, eq-eqb}
use Rattle.std.proofs.lemmas.Bool.{eqb-false, not-true, not-false}
use Rattle.std.proofs.Math.Nat.{ℕ_set}
use Rattle.std.proofs.Math.Arith.{digits_lt}
use Rattle.std.proofs.Props.{props}
use Rattle.ycbcr_image.specs.declared.BitDepth.{BitDepth}
use Rattle.ycbcr_image.specs.declared.BitDepth.TheVariants.{Depth8, Depth12}
use Rattle.ycbcr_image.specs.declared.Kind.{Kind}
use Rattle.ycbcr_image.specs.declared.Kind.TheVariants.{Mono, Colour}
use Rattle.lists.specs.Test.{or_left, or_right, and_left, and_right}
use Rattle.ycbcr_image.specs.Form.{Form, form_of, mono, planes, in_plane, bytes_of, sub_width_c, sub_height_c, block_width, block_height, block_row_bytes, block_bytes, mb_bytes, crop_unit_x, crop_unit_y}
use Rattle.ycbcr_image.specs.Sizes.{Sequence, div_ceil, next_multiple, pic_width_in_mbs, frame_height_in_mbs, visible_width, visible_height, padded_width, padded_height, visible_row_bytes, padded_row_bytes, tight_length}
use Rattle.ycbcr_image.specs.Refusals.{size_bad, four_bad, odd_bad, height_bad, accepted}

-- plane p, be it there or not; in monochrome Cb and Cr are empty
pub record FinePlane (q : Sequence) (p : ℕ) : Type 0 where
  pub wide : padded_width q p ≡ pic_width_in_mbs q * block_width q.form p
  pub high : padded_height q p ≡ frame_height_in_mbs q * block_height q.form p
  pub row : padded_row_bytes q p ≡ pic_width_in_mbs q * block_row_bytes q.form p
  pub whole : visible_row_bytes q p * 8 ≡ visible_width q p * q.form.depth
  pub visible-wide : visible_width q p ≤ padded_width q p
  pub visible-high : visible_height q p ≤ padded_height q p
  pub visible-row : visible_row_bytes q p ≤ padded_row_bytes q p
  pub wide_most : padded_width q p ≤ 16384
  pub high_most : padded_height q p ≤ 16384
  pub row_most : padded_row_bytes q p ≤ 24576
  pub block-row_most : block_row_bytes q.form p ≤ 24

-- plane p, where it is there
pub record Present (q : Sequence) (p : ℕ) : Type 0 where
  pub block-wide : 8 ≤ block_width q.form p
  pub block-high : 8 ≤ block_height q.form p
  pub block-row : 8 ≤ block_row_bytes q.form p
  pub wide : 1 ≤ visible_width q p
  pub high : 1 ≤ visible_height q p
  pub row : 1 ≤ visible_row_bytes q p

-- a form that the code's types can say
pub record Known (f : Form) : Type 0 where
  pub chroma : f.chroma ≤ 1
  pub depth : (f.depth ≡ 8) ⊎ (f.depth ≡ 12)
  pub mb_most : mb_bytes f ≤ 576
  pub mb-blocks : mb_bytes f ≡ block_bytes f 0 + (block_bytes f 1 + block_bytes f 2)

-- what is visible and what is cropped at the right and at the bottom are whole crop units
pub record Units (q : Sequence) : Type 0 where
  pub width : q.width % crop_unit_x q.form ≡ 0
  pub height : q.height % crop_unit_y q.form ≡ 0
  pub right : (padded_width q 0 - q.width) % crop_unit_x q.form ≡ 0
  pub bottom : (padded_height q 0 - q.height) % crop_unit_y q.form ≡ 0

-- a size that passes
pub record Fine (q : Sequence) : Type 0 where
  pub known : Known q.form
  pub width_low : 1 ≤ q.width
  pub width-high : q.width ≤ 16384
  pub height-low : 1 ≤ q.height
  pub height-high : q.height ≤ 16384
  pub across-low : 1 ≤ pic_width_in_mbs q
  pub across-high : pic_width_in_mbs q ≤ 1024
  pub down_low : 1 ≤ frame_height_in_mbs q
  pub down_high : frame_height_in_mbs q ≤ 1024
  pub units : Units q
  pub plane : (p : ℕ) → FinePlane q p
  pub present : (p : ℕ) → p < planes q.form → Present q p

pub depth-prop : (n : ℕ) → IsProp ((n ≡ 8) ⊎ (n ≡ 12))
depth-prop n (inl a) (inl b) = ap inl (ℕ_set n 8 a b)
depth-prop n (inl a) (inr b) = absurd (omega arith)
depth-prop n (inr a) (inl b) = absurd (omega arith)
depth-prop n (inr a) (inr b) = ap inr (ℕ_set n 12 a b)

pub ruleset fine_props = (depth-prop, props)

-- the rows 1, 3, 4 and 5, read as facts
pub record Sound (q : Sequence) : Type 0 where
  pub width_low : 1 ≤ q.width
  pub width-high : q.width ≤ 16384
  pub height-low : 1 ≤ q.height
  pub height-high : q.height ≤ 16384
  pub four : mono q.form ≡ false → q.form.depth ≡ 12 → q.width % 4 ≡ 0
  pub odd : (mono q.form && eqb q.form.depth 8) ≡ false → q.width % 2 ≡ 0
  pub high : mono q.form ≡ false → q.height % 2 ≡ 0

pub sound : (q : Sequence) → accepted q ≡ true → Sound q
unfolding accepted size_bad four_bad odd_bad height_bad
sound q t =
    let all : (size_bad q || (four_bad q || (odd_bad q || height_bad q))) ≡ false = not-true _ t in
    let rest : (four_bad q || (odd_bad q || height_bad q)) ≡ false = or_right (size_bad q) _ all in
    let last : (odd_bad q || height_bad q) ≡ false = or_right (four_bad q) _ rest in
    let w : (eqb q.width 0 || ltb 16384 q.width) ≡ false = or_left _ _ (or_left (size_bad q) _ all) in
    let h : (eqb q.height 0 || ltb 16384 q.height) ≡ false = or_right (eqb q.width 0 || ltb 16384 q.width) _ (or_left (size_bad q) _ all) in
    record {
      width_low = omega (arith, eqb-false q.width 0 (or_left _ _ w));
      width-high = ltb-false _ _ (or_right (eqb q.width 0) _ w);
      height-low = omega (arith, eqb-false q.height 0 (or_left _ _ h));
      height-high = ltb-false _ _ (or_right (eqb q.height 0) _ h);
      four = λ m d. eqb-true _ _ (not-false _ (and_right _ _ (and_right _ _ (or_left (four_bad q) _ rest) (ap not m)) (eq-eqb _ _ d)));
      odd = λ m. eqb-true _ _ (not-false _ (and_left _ _ (or_left (odd_bad q) _ last) (ap not m)));
      high = λ m. eqb-true _ _ (not-false _ (and_right _ _ (or_right (odd_bad q) _ last) (ap not m)));
    }

-- two samples of 12 bits are three bytes
packed : (n : ℕ) → n % 2 ≡ 0 → n * 12 / 8 * 8 ≡ n * 12
packed n e = let k : n ≡ n / 2 * 2 = omega arith in rw k (omega arith)

abbrev pub of : Kind → BitDepth → ℕ → ℕ → Sequence
of k d w h = record { width = w; height = h; form = form_of k d }

pub in_plane_lem : (k : Kind) (d : BitDepth) (w h p : ℕ) → Sound (of k d w h) → FinePlane (of k d w h) p
unfolding mono in_plane sub_width_c sub_height_c div_ceil next_multiple pic_width_in_mbs frame_height_in_mbs visible_width visible_height padded_width padded_height visible_row_bytes padded_row_bytes block_width block_height block_row_bytes bytes_of
in_plane_lem Mono Depth8 w h zero g = omega arith
in_plane_lem Mono Depth12 w h zero g = omega (arith, packed w (g.odd refl))
in_plane_lem Colour Depth8 w h zero g = omega arith
in_plane_lem Colour Depth12 w h zero g = omega (arith, packed w (g.odd refl))
in_plane_lem Mono Depth8 w h (suc p) g = omega arith
in_plane_lem Mono Depth12 w h (suc p) g = omega arith
in_plane_lem Colour Depth8 w h (suc p) g = omega (arith, g.odd refl, g.high refl)
in_plane_lem Colour Depth12 w h (suc p) g =
    let four : w % 4 ≡ 0 = g.four refl refl in
    let even : w / 2 % 2 ≡ 0 = omega arith in
    omega (arith, g.high refl, packed (w / 2) even)

pub in_present : (k : Kind) (d : BitDepth) (w h p : ℕ) → Sound (of k d w h) → p < planes (form_of k d) → Present (of k d w h) p
unfolding mono planes in_plane sub_width_c sub_height_c visible_width visible_height visible_row_bytes block_width block_height block_row_bytes bytes_of
in_present Mono Depth8 w h zero g l = omega arith
in_present Mono Depth12 w h zero g l = omega arith
in_present Colour Depth8 w h zero g l = omega arith
in_present Colour Depth12 w h zero g l = omega arith
in_present Mono d w h (suc p) g l = absurd (omega arith)
in_present Colour Depth8 w h (suc p) g l = omega (arith, g.odd refl, g.high refl)
in_present Colour Depth12 w h (suc p) g l = omega (arith, g.odd refl, g.high refl)

pub known : (k : Kind) (d : BitDepth) → Known (form_of k d)
unfolding mono in_plane sub_width_c sub_height_c block_width block_height block_row_bytes bytes_of block_bytes mb_bytes
known Mono Depth8 = record { chroma = omega arith; depth = inl refl; mb_most = omega arith; mb-blocks = omega arith }
known Mono Depth12 = record { chroma = omega arith; depth = inr refl; mb_most = omega arith; mb-blocks = omega arith }
known Colour Depth8 = record { chroma = omega arith; depth = inl refl; mb_most = omega arith; mb-blocks = omega arith }
known Colour Depth12 = record { chroma = omega arith; depth = inr refl; mb_most = omega arith; mb-blocks = omega arith }

-- a plane's visible rows, stored tight
pub tight_most : {q : Sequence} → Fine q → (p : ℕ) → tight_length q p ≤ 402653184
unfolding tight_length
tight_most {q} g p =
    let a = g.plane p in
    let v : visible_height q p ≤ 16384 = omega arith in
    let r : visible_row_bytes q p ≤ 24576 = omega arith in
    mul-le-mul v r

-- the macroblocks of a picture
pub mbs_most : {q : Sequence} → Fine q → frame_height_in_mbs q * pic_width_in_mbs q ≤ 1048576
mbs_most g = mul-le-mul g.down_high g.across-high

-- their bytes, with the two bytes that stand before each one's samples
pub payload_most : {q : Sequence} → Fine q → frame_height_in_mbs q * pic_width_in_mbs q * (2 + mb_bytes q.form) ≤ 606076928
payload_most {q} g =
    let b : 2 + mb_bytes q.form ≤ 578 = omega arith in
    mul-le-mul (mbs_most g) b

-- a padded row of a plane that is there is not empty
pub row_some : {q : Sequence} → Fine q → (p : ℕ) → p < planes q.form → 0 < padded_row_bytes q p
row_some g p l = omega (arith, (g.plane p).visible-row, (g.present p l).row)

-- row y of the block in macroblock row my
pub row_in_lem : {q : Sequence} → Fine q → (p my y : ℕ) → my < frame_height_in_mbs q → y < block_height q.form p → my * block_height q.form p + y < padded_height q p
row_in_lem g p my y a b = rw (g.plane p).high (digits_lt a b)
