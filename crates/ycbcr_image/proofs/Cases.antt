-- Theorems over specs/Cases.antt that rest on a definition which a must-fail edit of this crate changes. They stand here, so that the edit is read and refused.
use Rattle.std.specs.Prelude.{refl}
use Rattle.ycbcr_image.specs.Form.{mono, in_plane, bytes_of, sub_width_c, sub_height_c, block_width, block_height}
use Rattle.ycbcr_image.specs.Sizes.{div_ceil, next_multiple, visible_width, visible_height, padded_width, padded_height, padded_row_bytes}
use Rattle.ycbcr_image.specs.Refusals.{size_bad, depths_bad, four_bad, odd_bad, height_bad, session_bad, stride_bad, rows_bad, shape_refusal, plane_refusal, first, chroma_refusal, planes_refusal, refusal_of, refusal_next}
use Rattle.ycbcr_image.specs.Cases.{Worked}

pub worked : Worked
unfolding refusal_of refusal_next planes_refusal chroma_refusal first plane_refusal shape_refusal size_bad depths_bad four_bad odd_bad height_bad session_bad stride_bad rows_bad padded_width padded_height padded_row_bytes visible_width visible_height next_multiple div_ceil block_width block_height sub_width_c sub_height_c bytes_of in_plane mono
worked = record {
  largest = refl;
  too_wide = refl;
  no_height = refl;
  mixed = refl;
  colour_12_wide_6 = refl;
  colour_12_wide_4 = refl;
  colour_12_wide_5 = refl;
  colour_8_wide_15 = refl;
  mono_8_wide_1 = refl;
  colour-high_17 = refl;
  colour-high_16 = refl;
  next_other-kind = refl;
  next_other-depth = refl;
  stride_of_visible = refl;
  stride_none = refl;
  byte_short = refl;
  row_short = refl;
  cb_first = refl;
}
