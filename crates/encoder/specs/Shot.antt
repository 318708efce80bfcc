-- A picture as a host lends it to a call, and when the call is accepted (paper 01, "Pictures accepted" and "Writer's refusals").
--     Lent, Shot             a lent plane with its bytes, stride and depth; a picture of three of them
--     image_of, lends_of     its numbers, by which the refusals go; its bytes, which the payload is made of
--     sequence_in            what it says of the take: size and kind
--     shot, shot_of          the picture of its parts, and that of a call's argument
--     shot_whole             a picture that passes 1 to 8 is lent whole
-- Assumes nothing.
use Rattle.std.specs.Prelude.{List, ℕ, zero, suc, ◌*◌, ◌≤◌, ◌<◌, length}
use Rattle.std.proofs.Common.{mul_assoc}
use Rattle.slice.specs.declared.Strides.{Strides}
use Rattle.slice.specs.Picture.{Lends, lend_at, Whole}
use Rattle.encoder.specs.declared.Depths.{Depths}
use Rattle.encoder.specs.declared.Picture.{Picture}
use Rattle.ycbcr_image.specs.declared.BitDepth.{BitDepth}
use Rattle.ycbcr_image.specs.declared.Kind.{Kind}
use Rattle.ycbcr_image.specs.declared.DataPlane.{DataPlane}
use Rattle.ycbcr_image.specs.declared.YCbCrImage.{YCbCrImage}
use Rattle.ycbcr_image.specs.Form.{planes, block_height, block_row_bytes}
use Rattle.ycbcr_image.specs.Sizes.{Sequence, pic_width_in_mbs, frame_height_in_mbs}
use Rattle.ycbcr_image.specs.Refusals.{of_picture}
use Rattle.ycbcr_image.specs.Passed.{Passed, across, down}

pub record Lent : Type 0 where
  pub bytes : List ℕ
  pub stride : ℕ
  pub depth : BitDepth

pub record Shot : Type 0 where
  pub width : ℕ
  pub height : ℕ
  pub kind : Kind
  pub y : Lent
  pub cb : Lent
  pub cr : Lent

abbrev pub plane_of : Lent → DataPlane
plane_of a = record { len = length a.bytes; stride = a.stride; depth = a.depth }

abbrev pub image_of : Shot → YCbCrImage
image_of s = record { width = s.width; height = s.height; kind = s.kind; y = plane_of s.y; cb = plane_of s.cb; cr = plane_of s.cr }

abbrev pub lends_of : Shot → Lends
lends_of s =
    record {
      y = record { bytes = s.y.bytes; stride = s.y.stride };
      cb = record { bytes = s.cb.bytes; stride = s.cb.stride };
      cr = record { bytes = s.cr.bytes; stride = s.cr.stride };
    }

abbrev pub sequence_in : Shot → Sequence
sequence_in s = of_picture (image_of s)

abbrev pub lent : List ℕ → ℕ → BitDepth → Lent
lent s stride depth = record { bytes = s; stride = stride; depth = depth }

abbrev pub shot : ℕ → ℕ → Kind → List ℕ → List ℕ → List ℕ → Strides → Depths → Shot
shot w h k y cb cr t d =
    record { width = w; height = h; kind = k; y = lent y t.y d.y; cb = lent cb t.cb d.cb; cr = lent cr t.cr d.cr }

abbrev pub shot_of : Picture → Shot
shot_of p = shot p.width p.height p.kind p.planes.y.now p.planes.cb.now p.planes.cr.now p.planes.strides p.depths

-- a picture that passes is lent whole
pub shot_whole : (s : Shot) → Passed (image_of s) → Whole (sequence_in s) (lends_of s)
shot_whole s g = record { across = wide; down = high }
  where
    wide : (p : ℕ) → p < planes (sequence_in s).form → pic_width_in_mbs (sequence_in s) * block_row_bytes (sequence_in s).form p ≤ (lend_at (lends_of s) p).stride
    wide zero l = across g.fine (g.lent 0 l)
    wide (suc zero) l = across g.fine (g.lent 1 l)
    wide (suc (suc p)) l = across g.fine (g.lent (suc (suc p)) l)

    high : (p : ℕ) → p < planes (sequence_in s).form → frame_height_in_mbs (sequence_in s) * block_height (sequence_in s).form p * (lend_at (lends_of s) p).stride ≤ length (lend_at (lends_of s) p).bytes
    high zero l = rw (mul_assoc (frame_height_in_mbs (sequence_in s)) (block_height (sequence_in s).form 0) s.y.stride) (down g.fine (g.lent 0 l))
    high (suc zero) l = rw (mul_assoc (frame_height_in_mbs (sequence_in s)) (block_height (sequence_in s).form 1) s.cb.stride) (down g.fine (g.lent 1 l))
    high (suc (suc p)) l = rw (mul_assoc (frame_height_in_mbs (sequence_in s)) (block_height (sequence_in s).form (suc (suc p))) s.cr.stride) (down g.fine (g.lent (suc (suc p)) l))
