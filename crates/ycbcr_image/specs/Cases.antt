-- The refusals computed on worked pictures: 01's sizes at the limits, a plane one byte short, and a picture for each row of the table and for its order.
-- Assumes nothing.
use Rattle.std.specs.Prelude.{◌≡◌, ℕ}
use Rattle.ycbcr_image.specs.declared.BitDepth.{BitDepth}
use Rattle.ycbcr_image.specs.declared.BitDepth.TheVariants.{Depth8, Depth12}
use Rattle.ycbcr_image.specs.declared.DataPlane.{DataPlane}
use Rattle.ycbcr_image.specs.declared.Kind.{Kind}
use Rattle.ycbcr_image.specs.declared.Kind.TheVariants.{Mono, Colour}
use Rattle.ycbcr_image.specs.declared.YCbCrImage.{YCbCrImage}
use Rattle.ycbcr_image.specs.Refusals.{of_picture, refusal_of, refusal_next}

abbrev plane : ℕ → ℕ → BitDepth → DataPlane
plane l s d = record { len = l; stride = s; depth = d }

-- a picture whose planes all have the stride s and the depth d, Y with the length l and each chroma plane with the length m
abbrev image : Kind → BitDepth → ℕ → ℕ → ℕ → ℕ → ℕ → YCbCrImage
image k d w h s l m = record { width = w; height = h; kind = k; y = plane l s d; cb = plane m s d; cr = plane m s d }

pub record Worked : Type 0 where
  pub largest : refusal_of (image Mono Depth8 16384 16384 16384 268435456 0) ≡ 0
  pub too_wide : refusal_of (image Mono Depth8 16385 16384 16400 268697600 0) ≡ 1
  pub no_height : refusal_of (image Mono Depth8 16 0 16 256 0) ≡ 1
  pub mixed : refusal_of (record { width = 16; height = 16; kind = Colour; y = plane 256 16 Depth8; cb = plane 256 16 Depth8; cr = plane 256 16 Depth12 }) ≡ 2
  pub colour_12_wide_6 : refusal_of (image Colour Depth12 6 16 24 384 192) ≡ 3
  pub colour_12_wide_4 : refusal_of (image Colour Depth12 4 16 24 384 192) ≡ 0
  pub colour_12_wide_5 : refusal_of (image Colour Depth12 5 16 24 384 192) ≡ 3
  pub colour_8_wide_15 : refusal_of (image Colour Depth8 15 16 16 256 128) ≡ 4
  pub mono_8_wide_1 : refusal_of (image Mono Depth8 1 16 16 256 0) ≡ 0
  pub colour-high_17 : refusal_of (image Colour Depth8 16 17 16 512 256) ≡ 5
  pub colour-high_16 : refusal_of (image Colour Depth8 16 16 16 256 128) ≡ 0
  pub next_other-kind : refusal_next (of_picture (image Mono Depth8 16 16 0 0 0)) (image Colour Depth8 16 16 0 0 0) ≡ 6
  pub next_other-depth : refusal_next (of_picture (image Mono Depth8 16 16 0 0 0)) (image Mono Depth12 16 16 0 0 0) ≡ 6
  pub stride_of_visible : refusal_of (image Mono Depth8 15 16 15 256 0) ≡ 7
  pub stride_none : refusal_of (image Mono Depth8 16 16 0 256 0) ≡ 7
  pub byte_short : refusal_of (image Mono Depth8 16 16 16 255 0) ≡ 8
  pub row_short : refusal_of (image Mono Depth8 16 15 16 240 0) ≡ 8
  pub cb_first : refusal_of (record { width = 16; height = 16; kind = Colour; y = plane 256 16 Depth8; cb = plane 63 8 Depth8; cr = plane 64 7 Depth8 }) ≡ 8
