-- A picture's payload from the lent planes of its kind, and its visible samples read back from it (paper 01, "The bits of a take", and "Reading a take").
--     Lend, Lends             a lent plane's bytes and stride; the three of a picture. Planes are numbered: 0 is Y, 1 Cb, 2 Cr
--     planes_in f L           the planes that the form f has, by their blocks
--     picture_of q L          the payload
--     picture_length q        its exact length
--     grid_in q p             where the samples of plane p stand in it
--     samples_in q p X        the visible samples of plane p in the payload X, stored tight
--     visible_in q p a        those of the lent plane a
--     Whole q L               each plane that the form has is lent whole
--     picture_length_lem, picture_right, picture_back, picture_last     such a picture's payload has the exact length, its header, heads and last byte
--                             are right, the visible samples are read back, and it does not end in zero
-- Assumes nothing.
use Rattle.std.specs.Prelude.{◌≡◌, List, [], ◌∷◌, ◌++◌, Bool, cond, ℕ, zero, suc, ◌+◌, ◌-◌, ◌*◌, ◌≤◌, ◌<◌, get_or}
use Rattle.std.proofs.Math.Path.{refl, sym, ap}
use Rattle.std.proofs.Common.{◌∙◌, mul-le-mul}
use Rattle.std.proofs.Math.Bool.{true, false}
use Rattle.std.proofs.Math.Nat.{zero-mul}
use native.Mathlib.Omega.{arith}
use Rattle.std.proofs.Math.ListN.{length}
use Rattle.ycbcr_image.specs.Form.{Form, mono, planes, in_plane, block_height, block_row_bytes, block_bytes, mb_bytes, planes_some, planes-colour}
use Rattle.ycbcr_image.specs.Sizes.{Sequence, pic_width_in_mbs, frame_height_in_mbs, visible_height, visible_row_bytes}
use Rattle.ycbcr_image.specs.Accepted.{Fine, mbs_most, payload_most}
use Rattle.slice.specs.Cat.{cat_none, tab}
use Rattle.slice.specs.Layout.{Plane, lent, mb_size, payload, payload-length, Good, none, more, Rows, lent_rows, slice_last}
use Rattle.slice.specs.Grid.{Grid, tight_of, visible, grid_of, tight-lent}
use Rattle.slice.specs.Formed.{right, formed_right, payload-formed}
use Rattle.slice.specs.Header.{header_of, header_is}

pub record Lend : Type 0 where
  pub bytes : List ℕ
  pub stride : ℕ

pub record Lends : Type 0 where
  pub y : Lend
  pub cb : Lend
  pub cr : Lend

abbrev pub lend_at : Lends → ℕ → Lend
lend_at L zero = L.y
lend_at L (suc zero) = L.cb
lend_at L (suc (suc p)) = L.cr

-- plane p by its blocks
abbrev pub plane_in : Form → ℕ → Lend → Plane
plane_in f p a = lent a.bytes a.stride (block_row_bytes f p) (block_height f p)

unfoldable pub planes_in : Form → Lends → List Plane
planes_in f L = cond (mono f) (plane_in f 0 L.y ∷ []) (plane_in f 0 L.y ∷ plane_in f 1 L.cb ∷ plane_in f 2 L.cr ∷ [])

-- the macroblocks of a picture (PicSizeInMbs)
abbrev pub mbs_in : Sequence → ℕ
mbs_in q = frame_height_in_mbs q * pic_width_in_mbs q

unfoldable pub picture_of : Sequence → Lends → List ℕ
picture_of q L = payload (header_of 0 0) (pic_width_in_mbs q) (planes_in q.form L) (mbs_in q)

-- four bytes of header, two bytes before each other macroblock, the samples, the last byte
unfoldable pub picture_length : Sequence → ℕ
picture_length q = 3 + mbs_in q * (2 + mb_bytes q.form)

-- the length by the numbers that the code has, none of which is too large
pub record LengthBy (q : Sequence) (h w b : ℕ) : Type 0 where
  pub mbs : h * w ≤ 1048576
  pub mb : b ≤ 576
  pub all : h * w * (2 + b) ≤ 606076928
  pub sum : 3 + h * w * (2 + b) ≡ picture_length q

pub length_by : (q : Sequence) (h w b : ℕ) → Fine q → h ≡ frame_height_in_mbs q → w ≡ pic_width_in_mbs q → b ≡ mb_bytes q.form → LengthBy q h w b
unfolding picture_length
length_by q h w b g eh ew eb = rw (eh, ew, eb) (record { mbs = mbs_most g; mb = g.known.mb_most; all = payload_most g; sum = refl })

pub length_most : {q : Sequence} → Fine q → picture_length q ≤ 606076931
unfolding picture_length
length_most g = omega (arith, payload_most g)

-- the bytes of a macroblock before the block of plane p
abbrev pub off_in : Form → ℕ → ℕ
off_in f zero = 0
off_in f (suc zero) = block_bytes f 0
off_in f (suc (suc p)) = block_bytes f 0 + block_bytes f 1

abbrev pub grid_in : Sequence → ℕ → Grid
grid_in q p =
    record { lead = 4; mw = pic_width_in_mbs q; size = mb_bytes q.form; off = off_in q.form p; bw = block_row_bytes q.form p; bh = block_height q.form p }

unfoldable pub samples_in : Sequence → ℕ → List ℕ → List ℕ
samples_in q p X = tight_of (grid_in q p) X (visible_row_bytes q p) (visible_height q p)

unfoldable pub visible_in : Sequence → ℕ → Lend → List ℕ
visible_in q p a = visible a.bytes a.stride (visible_row_bytes q p) (visible_height q p)

-- a plane that is there has its padded rows, each within the stride
pub record Whole (q : Sequence) (L : Lends) : Type 0 where
  pub across : (p : ℕ) → p < planes q.form → pic_width_in_mbs q * block_row_bytes q.form p ≤ (lend_at L p).stride
  pub down : (p : ℕ) → p < planes q.form → frame_height_in_mbs q * block_height q.form p * (lend_at L p).stride ≤ length (lend_at L p).bytes

module _ (q : Sequence) (L : Lends) (g : Fine q) (w : Whole q L) where
  abbrev f : Form
  f = q.form

  pub rows : (p : ℕ) → p < planes f → Rows (pic_width_in_mbs q) (frame_height_in_mbs q) (plane_in f p (lend_at L p))
  rows p l = lent_rows (lend_at L p).bytes (lend_at L p).stride (block_row_bytes f p) (block_height f p) (pic_width_in_mbs q) (frame_height_in_mbs q) (w.across p l) (w.down p l)

  -- each plane has its rows
  pub good : Good (pic_width_in_mbs q) (frame_height_in_mbs q) (planes_in f L)
  unfolding planes_in planes
  good = go (mono f) refl
    where
      go : (b : Bool) → mono f ≡ b → Good (pic_width_in_mbs q) (frame_height_in_mbs q) (cond b (plane_in f 0 L.y ∷ []) (plane_in f 0 L.y ∷ plane_in f 1 L.cb ∷ plane_in f 2 L.cr ∷ []))
      go true e = more (rows 0 (rw e (omega arith))) none
      go false e = more (rows 0 (rw e (omega arith))) (more (rows 1 (rw e (omega arith))) (more (rows 2 (rw e (omega arith))) none))

  -- monochrome has no chroma block
  no_block : mono f ≡ true → (p : ℕ) → block_height f (suc p) ≡ 0
  unfolding block_height in_plane
  no_block e p = rw e refl

  -- the bytes of a macroblock's samples
  pub size : mb_size (planes_in f L) ≡ mb_bytes f
  unfolding planes_in mb_size block_bytes
  size = go (mono f) refl ∙ sym g.known.mb-blocks
    where
      go : (b : Bool) → mono f ≡ b → mb_size (cond b (plane_in f 0 L.y ∷ []) (plane_in f 0 L.y ∷ plane_in f 1 L.cb ∷ plane_in f 2 L.cr ∷ [])) ≡ block_bytes f 0 + (block_bytes f 1 + block_bytes f 2)
      go true e = rw (no_block e 0, no_block e 1) (omega (arith, zero-mul (block_row_bytes f 1), zero-mul (block_row_bytes f 2)))
      go false e = omega arith

  some : 0 < mbs_in q
  some = let m = mul-le-mul g.down_low g.across-low in omega arith

  pub picture_length_lem : length (picture_of q L) ≡ picture_length q
  unfolding picture_of picture_length
  picture_length_lem = omega (arith, ap length header_is, rw size at (payload-length (header_of 0 0) good (mbs_in q) some (omega arith)))

  -- header, heads and last byte are right
  pub picture_right : right (header_of 0 0) (mb_bytes f) (mbs_in q) (picture_of q L) ≡ true
  unfolding picture_of
  picture_right = rw (← size) (formed_right (payload-formed (header_of 0 0) good (mbs_in q) some (omega arith)))

  pub picture_last : get_or (picture_of q L) (length (picture_of q L) - 1) 0 ≡ 128
  unfolding picture_of
  picture_last = slice_last (header_of 0 0) _ (mbs_in q)

  -- a plane that is there, with the planes As before it and Bs behind it
  back : (p : ℕ) (As Bs : List Plane) → p < planes f → planes_in f L ≡ As ++ (plane_in f p (lend_at L p) ∷ Bs) → mb_size As ≡ off_in f p
      → Good (pic_width_in_mbs q) (frame_height_in_mbs q) As → Good (pic_width_in_mbs q) (frame_height_in_mbs q) Bs → samples_in q p (picture_of q L) ≡ visible_in q p (lend_at L p)
  unfolding samples_in visible_in picture_of
  back p As Bs l e o a b =
      let t : Lend = lend_at L p in
      let v : visible_row_bytes q p ≤ pic_width_in_mbs q * block_row_bytes f p = omega (arith, (g.plane p).row, (g.plane p).visible-row) in
      let h : visible_height q p ≤ frame_height_in_mbs q * block_height f p = omega (arith, (g.plane p).high, (g.plane p).visible-high) in
      let same : grid_of (header_of 0 0) (pic_width_in_mbs q) As (plane_in f p t) Bs ≡ grid_in q p = rw (← e, size, o, header_is) refl in
      rw (← same, e)
      (tight-lent (header_of 0 0) a b t.bytes t.stride (block_row_bytes f p) (block_height f p) (visible_row_bytes q p) (visible_height q p) (w.across p l) (w.down p l) v h)

  -- a plane that monochrome has not has no sample
  none_back : mono f ≡ true → (p : ℕ) → samples_in q (suc p) (picture_of q L) ≡ visible_in q (suc p) (lend_at L (suc p))
  unfolding samples_in visible_in visible_height in_plane visible tight_of tab
  none_back e p = rw (e, cat_none, zero-mul (visible_row_bytes q (suc p))) refl

  -- the planes of each kind
  alone : mono f ≡ true → planes_in f L ≡ plane_in f 0 L.y ∷ []
  unfolding planes_in
  alone e = rw e refl

  three : mono f ≡ false → planes_in f L ≡ plane_in f 0 L.y ∷ plane_in f 1 L.cb ∷ plane_in f 2 L.cr ∷ []
  unfolding planes_in
  three e = rw e refl

  -- the bytes before the second and third block
  behind_y : mb_size (plane_in f 0 L.y ∷ []) ≡ block_bytes f 0
  unfolding mb_size block_bytes
  behind_y = omega arith

  behind_cb : mb_size (plane_in f 0 L.y ∷ plane_in f 1 L.cb ∷ []) ≡ block_bytes f 0 + block_bytes f 1
  unfolding mb_size block_bytes
  behind_cb = omega arith

  nothing : mb_size [] ≡ 0
  unfolding mb_size
  nothing = refl

  in_colour : (p : ℕ) → mono f ≡ false → p < 3 → p < planes f
  in_colour p e l = rw (planes-colour f e) l

  -- every visible sample of every plane is read back
  pub picture_back : (p : ℕ) → p < 3 → samples_in q p (picture_of q L) ≡ visible_in q p (lend_at L p)
  picture_back p l = go p l (mono f) refl
    where
      row : (p : ℕ) → mono f ≡ false → p < 3 → Rows (pic_width_in_mbs q) (frame_height_in_mbs q) (plane_in f p (lend_at L p))
      row p e l = rows p (in_colour p e l)

      go : (p : ℕ) → p < 3 → (b : Bool) → mono f ≡ b → samples_in q p (picture_of q L) ≡ visible_in q p (lend_at L p)
      go zero l true e = back 0 [] [] (planes_some f) (alone e) nothing none none
      go (suc p) l true e = none_back e p
      go zero l false e = back 0 [] (plane_in f 1 L.cb ∷ plane_in f 2 L.cr ∷ []) (planes_some f) (three e) nothing none (more (row 1 e (omega arith)) (more (row 2 e (omega arith)) none))
      go (suc zero) l false e =
          back 1 (plane_in f 0 L.y ∷ []) (plane_in f 2 L.cr ∷ []) (in_colour 1 e (omega arith)) (three e) behind_y (more (row 0 e (omega arith)) none) (more (row 2 e (omega arith)) none)
      go (suc (suc zero)) l false e =
          back 2 (plane_in f 0 L.y ∷ plane_in f 1 L.cb ∷ []) [] (in_colour 2 e (omega arith)) (three e) behind_cb (more (row 0 e (omega arith)) (more (row 1 e (omega arith)) none)) none
      go (suc (suc (suc p))) l false e = absurd (omega arith)
