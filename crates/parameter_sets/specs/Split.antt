-- The sequence parameter set taken apart at the codes that tell sizes: what stands before them, and how long everything is. Assumes nothing.
use Rattle.std.specs.Prelude.{◌≡◌, refl, Some, List, [], ◌∷◌, ◌++◌, Bool, true, false, cond, ℕ, ◌+◌, ◌-◌, ◌*◌, ◌^◌, ◌≤◌, ◌<◌, length, get_or}
use Rattle.std.proofs.Common.{◌∙◌, append_assoc, div-le_self, arith, length-append, drop_at}
use Rattle.std.proofs.lemmas.List.{get_or_at}
use Rattle.lists.specs.Every.{Below, below_nil, below_append}
use Rattle.bits.specs.Bits.{low_bits, bits_of, low_below, from_small}
use Rattle.golomb.specs.Code.{digits_in, num_bits, ue, ue-length, ue_below, num_most}
use Rattle.golomb.specs.Answers.{read_ue}
use Rattle.golomb.specs.Laws.{ue-stands}
use Rattle.ycbcr_image.specs.declared.BitDepth.{BitDepth}
use Rattle.ycbcr_image.specs.declared.BitDepth.TheVariants.{Depth8, Depth12}
use Rattle.ycbcr_image.specs.declared.Kind.{Kind}
use Rattle.ycbcr_image.specs.declared.Kind.TheVariants.{Mono, Colour}
use Rattle.ycbcr_image.specs.Accepted.{Fine}
use Rattle.ycbcr_image.specs.Form.{Form, form_of, mono, crop_unit_x, crop_unit_y}
use Rattle.ycbcr_image.specs.Sizes.{Sequence, pic_width_in_mbs, frame_height_in_mbs}
use Rattle.parameter_sets.specs.Sps.{u, profile_idc, chroma_fields, crop_right, crop_bottom, cropped, crop_fields, vui_fields, sps_bits}

-- the fields before pic_width_in_mbs_minus1
unfoldable pub sps_head : ℕ → Form → List ℕ
sps_head level f = u 8 (profile_idc f) ++ (u 8 0 ++ (u 8 level ++ (ue 0 ++ (chroma_fields f ++ (ue 0 ++ (ue 0 ++ (ue 0 ++ (ue 0 ++ u 1 0))))))))

-- the fields behind cropping
unfoldable pub sps_tail : List ℕ
sps_tail = u 1 1 ++ (vui_fields ++ u 1 1)

pub sps-split : (level : ℕ) (q : Sequence)
    → sps_bits level q ≡ sps_head level q.form ++ (ue (pic_width_in_mbs q - 1) ++ (ue (frame_height_in_mbs q - 1) ++ (1 ∷ 0 ∷ (crop_fields q ++ sps_tail))))
unfolding sps_bits sps_head sps_tail low_bits
sps-split level q = simp append_assoc

-- behind three bytes and a code of one bit: the chroma fields, four codes of one bit and a flag
pub head-length : (level : ℕ) (f : Form) → length (sps_head level f) ≡ 30 + length (chroma_fields f)
unfolding sps_head ue num_bits digits_in low_bits
head-length level f = rw (length-append (chroma_fields f) (1 ∷ 1 ∷ 1 ∷ 1 ∷ 0 ∷ [])) (omega arith)

-- every field is bits
below_cond : {m : ℕ} (b : Bool) (xs ys : List ℕ) → Below m xs → Below m ys → Below m (cond b xs ys)
below_cond true xs ys h k = h
below_cond false xs ys h k = k

no_bits : Below 2 []
no_bits = below_nil (omega arith)

chroma_below : (f : Form) → Below 2 (chroma_fields f)
unfolding chroma_fields
chroma_below f = search (below_cond, no_bits, below_append, low_below, ue_below) depth 12 fits 2000

crop_below : (q : Sequence) → Below 2 (crop_fields q)
unfolding crop_fields
crop_below q = search (below_cond, below_append, low_below, ue_below) depth 12 fits 2000

vui_below : Below 2 vui_fields
unfolding vui_fields
vui_below = search (below_append, low_below) depth 30 fits 2000

pub sps_below : (level : ℕ) (q : Sequence) → Below 2 (sps_bits level q)
unfolding sps_bits
sps_below level q = search (below_append, low_below, ue_below, chroma_below, crop_below, vui_below) depth 40 fits 2000

-- where a code stands behind what is known, it is read
pub code-stands : (p a t : List ℕ) (at x : ℕ) → 8 * length p < 2 ^ 64 → x ≤ 2 ^ 32 - 2 → bits_of p ≡ a ++ (ue x ++ t) → length a ≡ at
    → read_ue p at ≡ Some (x, at + length (ue x))
code-stands p a t at x h l e n = ue-stands p at x t l (from_small p at h ∙ rw e (drop_at a (ue x ++ t) at n))

-- a bit behind what is known
pub bit-stands : (p a t : List ℕ) (at b : ℕ) → bits_of p ≡ a ++ (b ∷ t) → length a ≡ at → get_or (bits_of p) at 0 ≡ b
bit-stands p a t at b e n = rw e (get_or_at a b t 0 at n)

-- the code of 0 is one bit
ue-zero : ue 0 ≡ 1 ∷ []
unfolding ue num_bits digits_in low_bits
ue-zero = refl

-- the code of a number with at most k digits behind it
ue_short : (x k : ℕ) → x + 1 < 2 ^ k → length (ue x) ≤ 2 * k - 1
ue_short x k h = omega (arith, ue-length x, num_most (x + 1) k (omega arith) h)

chroma_short : (k : Kind) (d : BitDepth) → length (chroma_fields (form_of k d)) ≤ 15
unfolding chroma_fields profile_idc mono ue num_bits digits_in low_bits
chroma_short Mono Depth8 = omega arith
chroma_short Mono Depth12 = omega arith
chroma_short Colour Depth8 = omega arith
chroma_short Colour Depth12 = omega arith

-- what cropping takes off is no more than the padded size
pub right_most : (q : Sequence) → Fine q → crop_right q ≤ 16384
unfolding crop_right
right_most q g = omega (arith, div-le_self (16 * pic_width_in_mbs q - q.width) (crop_unit_x q.form), g.across-high)

pub bottom_most : (q : Sequence) → Fine q → crop_bottom q ≤ 16384
unfolding crop_bottom
bottom_most q g = omega (arith, div-le_self (16 * frame_height_in_mbs q - q.height) (crop_unit_y q.form), g.down_high)

-- cropping, where it is present and where not
pub crop_yes : (q : Sequence) → cropped q ≡ true → crop_fields q ≡ 1 ∷ 1 ∷ (ue (crop_right q) ++ (1 ∷ ue (crop_bottom q)))
unfolding crop_fields low_bits
crop_yes q e = rw (e, ue-zero) refl

pub crop_no : (q : Sequence) → cropped q ≡ false → crop_fields q ≡ 0 ∷ []
unfolding crop_fields low_bits
crop_no q e = rw e refl

crop_short : (q : Sequence) → Fine q → length (crop_fields q) ≤ 61
crop_short q g = go (cropped q) refl
  where
    go : (b : Bool) → cropped q ≡ b → length (crop_fields q) ≤ 61
    go true e =
        rw (crop_yes q e, length-append (ue (crop_right q)) (1 ∷ ue (crop_bottom q)))
        (omega (arith, ue_short (crop_right q) 15 (omega (arith, right_most q g)), ue_short (crop_bottom q) 15 (omega (arith, bottom_most q g))))
    go false e = rw (crop_no q e) (omega arith)

-- a sequence parameter set has room in 32 bytes
pub sps_short : (level : ℕ) (k : Kind) (d : BitDepth) (w h : ℕ) → Fine (record { width = w; height = h; form = form_of k d })
    → length (sps_bits level (record { width = w; height = h; form = form_of k d })) ≤ 256
unfolding sps_tail vui_fields low_bits
sps_short level k d w h g =
    let q : Sequence = record { width = w; height = h; form = form_of k d } in
    let a = ue (pic_width_in_mbs q - 1) in
    let b = ue (frame_height_in_mbs q - 1) in
    rw (
      sps-split level q,
      length-append (sps_head level (form_of k d)) (a ++ (b ++ (1 ∷ 0 ∷ (crop_fields q ++ sps_tail)))),
      length-append a (b ++ (1 ∷ 0 ∷ (crop_fields q ++ sps_tail))),
      length-append b (1 ∷ 0 ∷ (crop_fields q ++ sps_tail)),
    )
    (omega (
      arith,
      length-append (crop_fields q) sps_tail,
      head-length level (form_of k d),
      chroma_short k d,
      crop_short q g,
      ue_short (pic_width_in_mbs q - 1) 11 (omega (arith, g.across-high)),
      ue_short (frame_height_in_mbs q - 1) 11 (omega (arith, g.down_high)),
    ))
