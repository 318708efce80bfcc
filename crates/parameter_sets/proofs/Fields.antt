-- The lengths of the fields that a function writes, as a set for the tactics. Assumes nothing.
use Rattle.std.specs.Prelude.{◌≡◌, true, false, ℕ, ◌+◌, ◌-◌, ◌≤◌, length}
use Rattle.std.proofs.Common.{refl, ap, arith, length-append}
use Rattle.bits.specs.Bits.{low_bits, low-length}
use Rattle.golomb.specs.Code.{digits_in, num_bits, ue}
use Rattle.ycbcr_image.specs.declared.Session.{Session}
use Rattle.ycbcr_image.specs.Form.{Form}
use Rattle.ycbcr_image.specs.Sizes.{Sequence, sequence_of, pic_width_in_mbs, frame_height_in_mbs}
use Rattle.ycbcr_image.specs.Refusals.{accepted}
use Rattle.ycbcr_image.proofs.Accepted.{fine}
use Rattle.parameter_sets.specs.Sps.{profile_idc, chroma_fields, crop_right, crop_bottom, cropped, crop_fields}
use Rattle.parameter_sets.specs.Split.{sps_tail, sps_short, crop_yes, crop_no}
use Rattle.parameter_sets.specs.Code.{head_fields, size_fields, size_is, tail_is, chroma_some, sps-pieces}

pub low_length : (n v : ℕ) → length (low_bits n v) ≡ n
low_length n v = low-length n v

pub code_zero : length (ue 0) ≡ 1
unfolding ue num_bits digits_in low_bits
code_zero = refl

pub head_length : (level : ℕ) (f : Form) → length (head_fields level f) ≡ 25
unfolding head_fields ue num_bits digits_in low_bits
head_length level f = refl

pub chroma_length : (f : Form) → (profile_idc f ≡ 66 → ⊥) → length (chroma_fields f) ≡ length (ue f.chroma) + (length (ue (f.depth - 8)) + (length (ue (f.depth - 8)) + 2))
chroma_length f h = rw (chroma_some f h, length-append, length-append, length-append, low-length 2 0) refl

pub size_length : (q : Sequence) → length (size_fields q) ≡ 5 + (length (ue (pic_width_in_mbs q - 1)) + (length (ue (frame_height_in_mbs q - 1)) + 2))
size_length q = rw (size_is q, length-append, length-append, length-append, low-length 5 30, low-length 2 2) refl

pub cropped_length : (q : Sequence) → cropped q ≡ true → length (crop_fields q) ≡ 2 + (length (ue (crop_right q)) + (1 + length (ue (crop_bottom q))))
cropped_length q h = rw (crop_yes q h) (omega (arith, length-append {A = ℕ}))

pub whole_length : (q : Sequence) → cropped q ≡ false → length (crop_fields q) ≡ 1
whole_length q h = rw (crop_no q h) refl

pub tail_length : length sps_tail ≡ 16
tail_length = rw tail_is (low-length 16 0x9B01)

pub ruleset lengths = (low_length, code_zero, head_length, chroma_length, size_length, cropped_length, whole_length, tail_length)

-- all of them have room in 32 bytes
pub room : (level : ℕ) (s : Session) → accepted (sequence_of s) ≡ true
    → 25 + (length (chroma_fields (sequence_of s).form) + (length (size_fields (sequence_of s)) + (length (crop_fields (sequence_of s)) + 16))) ≤ 256
room level s h =
    let q : Sequence = sequence_of s in
    omega (
      arith,
      sps_short level s.kind s.depth s.width s.height (fine s h),
      ap length (sps-pieces level q),
      length-append {A = ℕ},
      head_length level q.form,
      tail_length,
    )
