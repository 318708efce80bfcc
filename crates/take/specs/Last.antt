-- Every payload of a take ends in a nonzero byte, so its units are whole (the frame law of crate nal_unit applies). Assumes nothing.
use Rattle.std.specs.Prelude.{◌≡◌, refl, List, [], ◌∷◌, ◌++◌, ℕ, suc, ◌-◌, ◌<◌, length, get_or}
use Rattle.std.proofs.Common.{◌∙◌, append_assoc, arith, length-append}
use Rattle.bits.specs.Bits.{low_bits, value_from}
use Rattle.bits.specs.Pack.{packed}
use Rattle.golomb.specs.Code.{ue}
use Rattle.nal_unit.specs.Bytes.{last_of}
use Rattle.nal_unit.specs.Walk.{Whole}
use Rattle.nal_unit.proofs.Units.{whole}
use Rattle.parameter_sets.specs.Sps.{sps_bits, sps_payload, crop_fields, vui_fields, base_level}
use Rattle.parameter_sets.specs.Pps.{pps_payload, pps_is}
use Rattle.parameter_sets.specs.Split.{sps_head, sps_tail, sps-split}
use Rattle.slice.specs.Picture as P
use Rattle.ycbcr_image.specs.Accepted.{Fine}
use Rattle.ycbcr_image.specs.Sizes.{Sequence, pic_width_in_mbs, frame_height_in_mbs}
use Rattle.encoder.specs.Units.{sps_unit, pps_unit, picture_unit}

-- the last element of a list that has one
last_some : (c d : ℕ) (xs : List ℕ) → 0 < length xs → last_of c xs ≡ last_of d xs
unfolding last_of
last_some c d [] h = absurd (omega arith)
last_some c d (x ∷ xs) h = refl

last_is : (d : ℕ) (xs : List ℕ) → 0 < length xs → last_of d xs ≡ get_or xs (length xs - 1) 0
unfolding last_of
last_is d [] h = absurd (omega arith)
last_is d (x ∷ []) h = refl
last_is d (x ∷ y ∷ xs) h =
    let e : suc (suc (length xs)) - 1 ≡ suc (length xs) = omega arith in
    let k : suc (length xs) - 1 ≡ length xs = omega arith in
    rw e (rw k at (last_is x (y ∷ xs) (omega arith)))

-- bits that end in a 1 are packed into bytes that end in a nonzero one
packed_some : (bs : List ℕ) → 0 < length bs → 0 < length (packed bs)
unfolding packed
packed_some [] n = absurd (omega arith)
packed_some (a ∷ []) n = omega arith
packed_some (a ∷ b ∷ []) n = omega arith
packed_some (a ∷ b ∷ c ∷ []) n = omega arith
packed_some (a ∷ b ∷ c ∷ d ∷ []) n = omega arith
packed_some (a ∷ b ∷ c ∷ d ∷ e ∷ []) n = omega arith
packed_some (a ∷ b ∷ c ∷ d ∷ e ∷ f ∷ []) n = omega arith
packed_some (a ∷ b ∷ c ∷ d ∷ e ∷ f ∷ g ∷ []) n = omega arith
packed_some (a ∷ b ∷ c ∷ d ∷ e ∷ f ∷ g ∷ h ∷ t) n = omega arith

packed_last : (bs : List ℕ) → 0 < last_of 1 (packed (bs ++ (1 ∷ [])))
unfolding packed last_of value_from
packed_last [] = omega arith
packed_last (a ∷ []) = omega arith
packed_last (a ∷ b ∷ []) = omega arith
packed_last (a ∷ b ∷ c ∷ []) = omega arith
packed_last (a ∷ b ∷ c ∷ d ∷ []) = omega arith
packed_last (a ∷ b ∷ c ∷ d ∷ e ∷ []) = omega arith
packed_last (a ∷ b ∷ c ∷ d ∷ e ∷ f ∷ []) = omega arith
packed_last (a ∷ b ∷ c ∷ d ∷ e ∷ f ∷ g ∷ []) = omega arith
packed_last (a ∷ b ∷ c ∷ d ∷ e ∷ f ∷ g ∷ h ∷ t) =
    rw (last_some _ 1 (packed (t ++ (1 ∷ []))) (packed_some (t ++ (1 ∷ [])) (omega (arith, length-append t (1 ∷ []))))) (packed_last t)

-- ---- the payloads

tail_is : sps_tail ≡ (1 ∷ vui_fields) ++ (1 ∷ [])
unfolding sps_tail vui_fields low_bits
tail_is = refl

-- a sequence parameter set ends with its stop bit
sps_last : (level : ℕ) (q : Sequence) → 0 < last_of 1 (sps_payload level q)
unfolding sps_payload
sps_last level q = rw (ends level q) (packed_last (before level q))
  where
    before : ℕ → Sequence → List ℕ
    before level q = sps_head level q.form ++ (ue (pic_width_in_mbs q - 1) ++ (ue (frame_height_in_mbs q - 1) ++ (1 ∷ 0 ∷ (crop_fields q ++ (1 ∷ vui_fields)))))

    ends : (level : ℕ) (q : Sequence) → sps_bits level q ≡ before level q ++ (1 ∷ [])
    ends level q = sps-split level q ∙ rw (tail_is) (simp append_assoc)

pps_last : 0 < last_of 1 pps_payload
unfolding last_of
pps_last = rw pps_is (omega arith)

picture_ends : (q : Sequence) (L : P.Lends) → Fine q → P.Whole q L → 0 < last_of 1 (P.picture_of q L)
unfolding P.picture_length
picture_ends q L g w = rw (last_is 1 (P.picture_of q L) (omega (arith, P.picture_length_lem q L g w)), P.picture_last q L g w) (omega arith)

-- ---- the units

pub sps-unit : (q : Sequence) → Whole (sps_unit q)
unfolding sps_unit
sps-unit q = whole 0x67 (sps_payload base_level q) (omega arith) (sps_last base_level q)

pub pps_unit_lem : Whole pps_unit
unfolding pps_unit
pps_unit_lem = whole 0x68 pps_payload (omega arith) pps_last

pub picture_unit_lem : (q : Sequence) (L : P.Lends) → Fine q → P.Whole q L → Whole (picture_unit q L)
unfolding picture_unit
picture_unit_lem q L g w = whole 0x25 (P.picture_of q L) (omega arith) (picture_ends q L g w)
