-- The sizes of a picture and of its planes (ITU-T H.264 6.2 and 7.4.2.1.1; 01, "Pictures accepted" and "Writer's refusals").
--     Sequence, sequence_of          what stays the same through a take: width, height, form. A session holds it, and a sequence parameter set says it
--     session_one                    two sessions that say the same are one
--     div_ceil, next_multiple        the quotient rounded up; the next multiple of b: the least that is not below a (next_low, next_high)
--     pic_width_in_mbs, frame_height_in_mbs     PicWidthInMbs and FrameHeightInMbs
--     visible_width ..               a plane's own columns, rows and bytes of a row
--     padded_width ..                the same with the padding, which fills the last blocks
--     tight_length                   the bytes of a plane's visible rows, stored tight
-- Planes are numbered as in Form. Assumes nothing.
use Rattle.std.specs.Prelude.{◌≡◌, refl, Bool, true, false, cond, ℕ, zero, suc, ◌+◌, ◌-◌, ◌*◌, ◌/◌, ◌≤◌, ◌<◌, eqb}
use Rattle.std.proofs.Common.{ap, mul-le-mul_left, div-mul-le_self, arith}
use Rattle.std.proofs.Math.Nat.{lt-div-mul-add}
use Rattle.ycbcr_image.specs.declared.BitDepth.{BitDepth}
use Rattle.ycbcr_image.specs.declared.Kind.{Kind}
use Rattle.ycbcr_image.specs.declared.Session.{Session}
use Rattle.ycbcr_image.specs.Form.{kind_one, depth_one, Form, form_of, mono, in_plane, bytes_of, sub_width_c, sub_height_c, block_width, block_height, block-wide_most, block-high_most}

pub record Sequence : Type 0 where
  pub width : ℕ
  pub height : ℕ
  pub form : Form

abbrev pub sequence_of : Session → Sequence
sequence_of s = record { width = s.width; height = s.height; form = form_of s.kind s.depth }

pub session_one : (s t : Session) → sequence_of s ≡ sequence_of t → s ≡ t
session_one s t e =
    of
    (ap (λ (q : Sequence). q.width) e)
    (ap (λ (q : Sequence). q.height) e)
    (kind_one s.kind t.kind (ap (λ (q : Sequence). q.form.chroma) e))
    (depth_one s.depth t.depth (ap (λ (q : Sequence). q.form.depth) e))
  where
    made : ℕ → ℕ → Kind → BitDepth → Session
    made w h k d = record { width = w; height = h; kind = k; depth = d }

    of : {w h w' h' : ℕ} {k k' : Kind} {d d' : BitDepth} → w ≡ w' → h ≡ h' → k ≡ k' → d ≡ d' → made w h k d ≡ made w' h' k' d'
    of a b c d = rw (a, b, c, d) refl

unfoldable pub div_ceil : ℕ → ℕ → ℕ
div_ceil a b = (a + b - 1) / b

unfoldable pub next_multiple : ℕ → ℕ → ℕ
next_multiple a b = div_ceil a b * b

-- the macroblocks across and down: the next multiple of 16, divided by 16
unfoldable pub pic_width_in_mbs : Sequence → ℕ
pic_width_in_mbs q = next_multiple q.width 16 / 16

unfoldable pub frame_height_in_mbs : Sequence → ℕ
frame_height_in_mbs q = next_multiple q.height 16 / 16

-- chroma has a sample for each SubWidthC by SubHeightC of luma (6.2)
unfoldable pub visible_width : Sequence → ℕ → ℕ
visible_width q p = in_plane q.form p q.width (q.width / sub_width_c q.form)

unfoldable pub visible_height : Sequence → ℕ → ℕ
visible_height q p = in_plane q.form p q.height (q.height / sub_height_c q.form)

unfoldable pub visible_row_bytes : Sequence → ℕ → ℕ
visible_row_bytes q p = bytes_of q.form (visible_width q p)

-- padded sizes are multiples of the block's: of 16 for luma, of 8 for the chroma of 4:2:0
unfoldable pub padded_width : Sequence → ℕ → ℕ
padded_width q p = next_multiple (visible_width q p) (block_width q.form p)

unfoldable pub padded_height : Sequence → ℕ → ℕ
padded_height q p = next_multiple (visible_height q p) (block_height q.form p)

unfoldable pub padded_row_bytes : Sequence → ℕ → ℕ
padded_row_bytes q p = bytes_of q.form (padded_width q p)

unfoldable pub tight_length : Sequence → ℕ → ℕ
tight_length q p = visible_height q p * visible_row_bytes q p

pub next_low : (a b : ℕ) → 0 < b → a ≤ next_multiple a b
unfolding next_multiple div_ceil
next_low a b h = omega (arith, lt-div-mul-add {a = a + b - 1} {b = b} h)

pub next_high : (a b : ℕ) → 0 < b → next_multiple a b < a + b
unfolding next_multiple div_ceil
next_high a b h = omega (arith, div-mul-le_self (a + b - 1) b)

-- a plane has its block's share of the picture
share : (none half : Bool) (n : ℕ) → cond none 0 (n / cond half 2 1) ≡ n * cond none 0 (16 / cond half 2 1) / 16
share true half n = omega arith
share false true n = omega arith
share false false n = omega arith

pub visible-wide : (q : Sequence) (p : ℕ) → visible_width q p ≡ q.width * block_width q.form p / 16
unfolding visible_width block_width in_plane sub_width_c
visible-wide q zero = omega arith
visible-wide q (suc p) = share (mono q.form) (eqb q.form.chroma 1) q.width

pub visible-high : (q : Sequence) (p : ℕ) → visible_height q p ≡ q.height * block_height q.form p / 16
unfolding visible_height block_height in_plane sub_height_c
visible-high q zero = omega arith
visible-high q (suc p) = share (mono q.form) (eqb q.form.chroma 1) q.height

-- no plane is larger than the picture
pub visible-wide_most : (q : Sequence) (p : ℕ) → visible_width q p ≤ q.width
visible-wide_most q p = omega (arith, visible-wide q p, mul-le-mul_left q.width (block-wide_most q.form p))

pub visible-high_most : (q : Sequence) (p : ℕ) → visible_height q p ≤ q.height
visible-high_most q p = omega (arith, visible-high q p, mul-le-mul_left q.height (block-high_most q.form p))
