-- The slice header of a picture (7.3.3, with dec_ref_pic_marking of 7.3.3.3), field by field, and the first mb_type, which follows it without alignment
-- (7.3.4, 7.3.5). The first macroblock and the picture's identifier are arguments, both 0 in the base.
--     header_bits first id   the bits, one line a field
--     header_of first id     the bytes: pcm_alignment_zero_bit fills the last one (7.3.5)
--     header_is              paper 01: 88 84 28 68
--     mb_type_is             the mb_type of every later macroblock with its alignment: 0D 00
-- Assumes nothing.
use Rattle.std.specs.Prelude.{◌≡◌, refl, List, [], ◌∷◌, ◌++◌, ℕ, pos}
use Rattle.bits.specs.Bits.{low_bits, value_from}
use Rattle.bits.specs.Pack.{packed}
use Rattle.golomb.specs.Code.{digits_in, num_bits, ue}
use Rattle.golomb.specs.Signed.{mapped, se}

-- mb_type of I_PCM (Table 7-11)
abbrev pub i_pcm : ℕ
i_pcm = 25

unfoldable pub header_bits : ℕ → ℕ → List ℕ
header_bits first id =
    ue first  -- first_mb_in_slice
    ++ (ue 7  -- slice_type: I, as all slices of the picture
    ++ (ue 0  -- pic_parameter_set_id
    ++ (low_bits 4 0  -- frame_num, of log2_max_frame_num_minus4 + 4 bits
    ++ (ue id  -- idr_pic_id
    ++ (low_bits 4 0  -- pic_order_cnt_lsb, of log2_max_pic_order_cnt_lsb_minus4 + 4 bits
    ++ (low_bits 1 1  -- no_output_of_prior_pics_flag
    ++ (low_bits 1 0  -- long_term_reference_flag
    ++ (se (pos 0)  -- slice_qp_delta
    ++ ue i_pcm))))))))  -- mb_type of the first macroblock

unfoldable pub header_of : ℕ → ℕ → List ℕ
header_of first id = packed (header_bits first id)

pub header_is : header_of 0 0 ≡ 0x88 ∷ 0x84 ∷ 0x28 ∷ 0x68 ∷ []
unfolding header_of header_bits packed value_from ue num_bits digits_in low_bits se mapped
header_is = refl

pub mb_type_is : packed (ue i_pcm) ≡ 0x0D ∷ 0x00 ∷ []
unfolding packed value_from ue num_bits digits_in low_bits
mb_type_is = refl
