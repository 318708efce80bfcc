-- The form of a picture: what fixes the layout of its samples beside its size, and what follows from it (ITU-T H.264 6.2 and 7.4.2.1.1).
--     chroma_of, depth_of       the numbers of the code's `Kind` and `BitDepth`, which tell them apart (kind_one, depth_one)
--     Form, form_of k d         chroma_format_idc and the bits of a sample
--     mono, colour              whether there is no chroma, or some
--     planes                    how many planes there are. They are numbered: 0 is Y, 1 Cb, 2 Cr. A plane that a monochrome picture has not is empty: its sizes are 0
--     in_plane                  a number of luma or one of chroma, by the plane
--     bytes_of f n              the bytes of n samples in a row
--     sub_width_c, sub_height_c     SubWidthC and SubHeightC (Table 6-1)
--     block_width ..            a plane's block in a macroblock: its columns, rows, bytes of a row, bytes. Of chroma it is MbWidthC by MbHeightC
--     mb_bytes                  the bytes of a macroblock's samples
--     crop_unit_x, crop_unit_y  CropUnitX and CropUnitY
-- Another chroma format is one more row of `chroma_of`, `sub_width_c` and `sub_height_c`.
-- Assumes nothing.
use Rattle.std.specs.Prelude.{◌≡◌, refl, Bool, true, false, cond, not, ℕ, zero, suc, ◌+◌, ◌-◌, ◌*◌, ◌/◌, ◌≤◌, ◌<◌, eqb}
use Rattle.std.proofs.Common.{arith}
use Rattle.ycbcr_image.specs.declared.BitDepth.{BitDepth}
use Rattle.ycbcr_image.specs.declared.BitDepth.TheVariants.{Depth8, Depth12}
use Rattle.ycbcr_image.specs.declared.Kind.{Kind}
use Rattle.ycbcr_image.specs.declared.Kind.TheVariants.{Mono, Colour}

-- chroma_format_idc: 0 is monochrome, 1 is 4:2:0 (Table 6-1)
abbrev pub chroma_of : Kind → ℕ
chroma_of Mono = 0
chroma_of Colour = 1

-- the bits of a sample
abbrev pub depth_of : BitDepth → ℕ
depth_of Depth8 = 8
depth_of Depth12 = 12

-- the numbers tell the kinds and the depths apart
pub kind_one : (k l : Kind) → chroma_of k ≡ chroma_of l → k ≡ l
kind_one Mono Mono e = refl
kind_one Mono Colour e = absurd (omega arith)
kind_one Colour Mono e = absurd (omega arith)
kind_one Colour Colour e = refl

pub depth_one : (d e : BitDepth) → depth_of d ≡ depth_of e → d ≡ e
depth_one Depth8 Depth8 h = refl
depth_one Depth8 Depth12 h = absurd (omega arith)
depth_one Depth12 Depth8 h = absurd (omega arith)
depth_one Depth12 Depth12 h = refl

pub record Form : Type 0 where
  pub chroma : ℕ
  pub depth : ℕ

abbrev pub form_of : Kind → BitDepth → Form
form_of k d = record { chroma = chroma_of k; depth = depth_of d }

unfoldable pub mono : Form → Bool
mono f = eqb f.chroma 0

abbrev pub colour : Form → Bool
colour f = not (mono f)

unfoldable pub planes : Form → ℕ
planes f = cond (mono f) 1 3

-- of plane p: the number `luma` for Y, `chroma` for Cb and Cr, and 0 for a plane that a monochrome picture has not
unfoldable pub in_plane : Form → ℕ → ℕ → ℕ → ℕ
in_plane f zero luma chroma = luma
in_plane f (suc p) luma chroma = cond (mono f) 0 chroma

-- samples are packed, most significant bits first
unfoldable pub bytes_of : Form → ℕ → ℕ
bytes_of f n = n * f.depth / 8

-- Table 6-1. It has no row for monochrome, and nothing looks there
unfoldable pub sub_width_c : Form → ℕ
sub_width_c f = cond (eqb f.chroma 1) 2 1

unfoldable pub sub_height_c : Form → ℕ
sub_height_c f = cond (eqb f.chroma 1) 2 1

-- 16 for luma; for chroma MbWidthC = 16 / SubWidthC, which is 0 in monochrome (6.2)
unfoldable pub block_width : Form → ℕ → ℕ
block_width f p = in_plane f p 16 (16 / sub_width_c f)

-- 16 for luma; for chroma MbHeightC = 16 / SubHeightC, which is 0 in monochrome (6.2)
unfoldable pub block_height : Form → ℕ → ℕ
block_height f p = in_plane f p 16 (16 / sub_height_c f)

unfoldable pub block_row_bytes : Form → ℕ → ℕ
block_row_bytes f p = bytes_of f (block_width f p)

unfoldable pub block_bytes : Form → ℕ → ℕ
block_bytes f p = block_height f p * block_row_bytes f p

-- RawMbBits / 8: 256 samples of luma and 2 * MbWidthC * MbHeightC of chroma (7.4.2.1.1)
unfoldable pub mb_bytes : Form → ℕ
mb_bytes f = bytes_of f (256 + 2 * (block_width f 1 * block_height f 1))

-- frame_mbs_only_flag: all pictures are frames of frame macroblocks
abbrev pub frame_mbs_only_flag : ℕ
frame_mbs_only_flag = 1

-- 1 in monochrome, else SubWidthC (7.4.2.1.1)
unfoldable pub crop_unit_x : Form → ℕ
crop_unit_x f = cond (mono f) 1 (sub_width_c f)

-- 2 - frame_mbs_only_flag in monochrome, else SubHeightC times that (7.4.2.1.1)
unfoldable pub crop_unit_y : Form → ℕ
crop_unit_y f = cond (mono f) (2 - frame_mbs_only_flag) (sub_height_c f * (2 - frame_mbs_only_flag))

-- Y is there in every form
pub planes_some : (f : Form) → 0 < planes f
unfolding planes
planes_some f = some (mono f)
  where
    some : (b : Bool) → 0 < cond b 1 3
    some true = omega arith
    some false = omega arith

pub planes-colour : (f : Form) → mono f ≡ false → planes f ≡ 3
unfolding planes
planes-colour f e = rw e refl

-- a plane that is not Y
pub in_chroma : (f : Form) (p luma chroma : ℕ) → (p ≡ 0 → ⊥) → in_plane f p luma chroma ≡ cond (mono f) 0 chroma
unfolding in_plane
in_chroma f zero luma chroma h = absurd (h refl)
in_chroma f (suc p) luma chroma h = refl

-- a sample of 8 bits is a byte
pub bytes-eight : (f : Form) (n : ℕ) → f.depth ≡ 8 → bytes_of f n ≡ n
unfolding bytes_of
bytes-eight f n e = rw e (omega arith)

-- two samples of 12 bits are three bytes
pub bytes_twelve : (f : Form) (n : ℕ) → f.depth ≡ 12 → bytes_of f n ≡ n * 3 / 2
unfolding bytes_of
bytes_twelve f n e = rw e (omega arith)

-- a side of a chroma block, by whether there is chroma and whether it is halved there
side_most : (none half : Bool) → cond none 0 (16 / cond half 2 1) ≤ 16
side_most true half = omega arith
side_most false true = omega arith
side_most false false = omega arith

side_some : (none half : Bool) (p : ℕ) → suc p < cond none 1 3 → 8 ≤ cond none 0 (16 / cond half 2 1)
side_some true half p h = absurd (omega arith)
side_some false true p h = omega arith
side_some false false p h = omega arith

pub block-wide_most : (f : Form) (p : ℕ) → block_width f p ≤ 16
unfolding block_width in_plane sub_width_c
block-wide_most f zero = omega arith
block-wide_most f (suc p) = side_most (mono f) (eqb f.chroma 1)

pub block-high_most : (f : Form) (p : ℕ) → block_height f p ≤ 16
unfolding block_height in_plane sub_height_c
block-high_most f zero = omega arith
block-high_most f (suc p) = side_most (mono f) (eqb f.chroma 1)

-- there are at most three planes
pub planes_few : (f : Form) → planes f ≤ 3
unfolding planes
planes_few f = go (mono f)
  where
    go : (b : Bool) → cond b 1 3 ≤ 3
    go true = omega arith
    go false = omega arith

-- a plane that is there has a block
pub block-wide_some : (f : Form) (p : ℕ) → p < planes f → 8 ≤ block_width f p
unfolding planes block_width in_plane sub_width_c
block-wide_some f zero h = omega arith
block-wide_some f (suc p) h = side_some (mono f) (eqb f.chroma 1) p h

pub block-high_some : (f : Form) (p : ℕ) → p < planes f → 8 ≤ block_height f p
unfolding planes block_height in_plane sub_height_c
block-high_some f zero h = omega arith
block-high_some f (suc p) h = side_some (mono f) (eqb f.chroma 1) p h
