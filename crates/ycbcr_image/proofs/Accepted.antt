-- Theorems over specs/Accepted.antt that rest on a definition which a must-fail edit of this crate changes. They stand here, so that the edit is read and refused.
use Rattle.std.specs.Prelude.{◌≡◌, refl, true, ℕ}
use Rattle.std.proofs.Common.{arith}
use Rattle.ycbcr_image.specs.declared.BitDepth.{BitDepth}
use Rattle.ycbcr_image.specs.declared.Kind.{Kind}
use Rattle.ycbcr_image.specs.declared.Kind.TheVariants.{Mono, Colour}
use Rattle.ycbcr_image.specs.declared.Session.{Session}
use Rattle.ycbcr_image.specs.Form.{mono, in_plane, sub_width_c, sub_height_c, block_width, block_height, crop_unit_x, crop_unit_y}
use Rattle.ycbcr_image.specs.Sizes.{sequence_of, div_ceil, next_multiple, pic_width_in_mbs, frame_height_in_mbs, visible_width, visible_height, padded_width, padded_height}
use Rattle.ycbcr_image.specs.Refusals.{accepted}
use Rattle.ycbcr_image.specs.Accepted.{Units, Fine, Sound, sound, of, in_plane_lem, in_present, known}

units : (k : Kind) (d : BitDepth) (w h : ℕ) → Sound (of k d w h) → Units (of k d w h)
unfolding mono in_plane sub_width_c sub_height_c div_ceil next_multiple visible_width visible_height padded_width padded_height crop_unit_x crop_unit_y block_width block_height
units Mono d w h g = omega arith
units Colour d w h g = omega (arith, g.odd refl, g.high refl)

pub fine : (s : Session) → accepted (sequence_of s) ≡ true → Fine (sequence_of s)
unfolding div_ceil next_multiple pic_width_in_mbs frame_height_in_mbs
fine s t =
    let g = sound _ t in
    record {
      known = known s.kind s.depth;
      width_low = g.width_low;
      width-high = g.width-high;
      height-low = g.height-low;
      height-high = g.height-high;
      across-low = omega arith;
      across-high = omega arith;
      down_low = omega arith;
      down_high = omega arith;
      units = units s.kind s.depth s.width s.height g;
      plane = λ p. in_plane_lem s.kind s.depth s.width s.height p g;
      present = λ p. in_present s.kind s.depth s.width s.height p g;
    }
