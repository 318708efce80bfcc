-- Facts that the proofs of the functions look for: what a session's sizes are where its kind is looked at, and what they are at most.
use Rattle.std.specs.Prelude.{◌≡◌, refl, true, ℕ, zero, suc, ◌*◌, ◌/◌, ◌≤◌, ◌<◌, eqb}
use Rattle.std.proofs.Common.{mul-le-mul}
use denote.Enum.Bare.{sameb}
use Rattle.ycbcr_image.specs.contracts.BitDepth.{the_type as depths}
use Rattle.ycbcr_image.specs.contracts.Kind.{the_type as kinds}
use Rattle.ycbcr_image.specs.declared.BitDepth.{BitDepth}
use Rattle.ycbcr_image.specs.declared.BitDepth.TheVariants.{Depth8, Depth12}
use Rattle.ycbcr_image.specs.declared.Kind.{Kind}
use Rattle.ycbcr_image.specs.declared.Kind.TheVariants.{Mono, Colour}
use Rattle.ycbcr_image.specs.declared.Session.{Session}
use Rattle.ycbcr_image.specs.Form.{chroma_of, depth_of, Form, form_of, mono, planes, in_plane, sub_width_c, sub_height_c, block_width, block_height, block-wide_most, block-high_most, block-wide_some, block-high_some, planes_some, planes-colour}
use Rattle.ycbcr_image.specs.Sizes.{sequence_of, visible_width, visible_height, padded_row_bytes, tight_length, visible-wide_most, visible-high_most}
use Rattle.ycbcr_image.specs.Refusals.{accepted}
use Rattle.ycbcr_image.specs.Accepted.{row_some, tight_most}
use Rattle.ycbcr_image.proofs.Accepted.{fine}

-- chroma is half of luma, across and down, and in monochrome 0 whatever it is half of
half_across : (k : Kind) (d : BitDepth) (p luma n : ℕ) → in_plane (form_of k d) p luma (n / sub_width_c (form_of k d)) ≡ in_plane (form_of k d) p luma (n / 2)
unfolding in_plane mono sub_width_c
half_across k d zero luma n = refl
half_across Mono d (suc p) luma n = refl
half_across Colour d (suc p) luma n = refl

half_down : (k : Kind) (d : BitDepth) (p luma n : ℕ) → in_plane (form_of k d) p luma (n / sub_height_c (form_of k d)) ≡ in_plane (form_of k d) p luma (n / 2)
unfolding in_plane mono sub_height_c
half_down k d zero luma n = refl
half_down Mono d (suc p) luma n = refl
half_down Colour d (suc p) luma n = refl

pub block_wide : (s : Session) (p : ℕ) → block_width (sequence_of s).form p ≡ in_plane (sequence_of s).form p 16 8
unfolding block_width
block_wide s p = half_across s.kind s.depth p 16 16

pub block_high : (s : Session) (p : ℕ) → block_height (sequence_of s).form p ≡ in_plane (sequence_of s).form p 16 8
unfolding block_height
block_high s p = half_down s.kind s.depth p 16 16

pub visible_wide : (s : Session) (p : ℕ) → visible_width (sequence_of s) p ≡ in_plane (sequence_of s).form p s.width (s.width / 2)
unfolding visible_width
visible_wide s p = half_across s.kind s.depth p s.width s.width

pub visible_high : (s : Session) (p : ℕ) → visible_height (sequence_of s) p ≡ in_plane (sequence_of s).form p s.height (s.height / 2)
unfolding visible_height
visible_high s p = half_down s.kind s.depth p s.height s.height

pub chroma_most : (f : Form) → block_width f 1 * block_height f 1 ≤ 256
chroma_most f = mul-le-mul (block-wide_most f 1) (block-high_most f 1)

pub row_there : (s : Session) (p : ℕ) → accepted (sequence_of s) ≡ true → p < planes (sequence_of s).form → 0 < padded_row_bytes (sequence_of s) p
row_there s p t l = row_some (fine s t) p l

pub tight_fits : (s : Session) (p : ℕ) → accepted (sequence_of s) ≡ true → tight_length (sequence_of s) p ≤ 402653184
tight_fits s p t = tight_most (fine s t) p

-- kinds and depths are equal where their numbers are
pub same_kind : (k l : Kind) → sameb kinds k l ≡ eqb (chroma_of k) (chroma_of l)
same_kind Mono Mono = refl
same_kind Mono Colour = refl
same_kind Colour Mono = refl
same_kind Colour Colour = refl

pub same_depth : (d e : BitDepth) → sameb depths d e ≡ eqb (depth_of d) (depth_of e)
same_depth Depth8 Depth8 = refl
same_depth Depth8 Depth12 = refl
same_depth Depth12 Depth8 = refl
same_depth Depth12 Depth12 = refl

pub ruleset sides = (block-wide_most, block-high_most, block-wide_some, block-high_some, visible-wide_most, visible-high_most)

pub ruleset there = (planes_some, planes-colour)
