-- The picture parameter set of a take (7.3.2.2), field by field. Assumes nothing.
use Rattle.std.specs.Prelude.{◌≡◌, refl, List, [], ◌∷◌, ◌++◌, ℕ, pos}
use Rattle.bits.specs.Bits.{low_bits, value_from}
use Rattle.bits.specs.Pack.{packed}
use Rattle.golomb.specs.Code.{digits_in, num_bits, ue}
use Rattle.golomb.specs.Signed.{mapped, se}
use Rattle.parameter_sets.specs.Sps.{u}

unfoldable pub pps_bits : List ℕ
pps_bits =
    ue 0  -- pic_parameter_set_id
    ++ (ue 0  -- seq_parameter_set_id
    ++ (u 1 0  -- entropy_coding_mode_flag
    ++ (u 1 0  -- bottom_field_pic_order_in_frame_present_flag
    ++ (ue 0  -- num_slice_groups_minus1
    ++ (ue 0  -- num_ref_idx_l0_default_active_minus1
    ++ (ue 0  -- num_ref_idx_l1_default_active_minus1
    ++ (u 1 0  -- weighted_pred_flag
    ++ (u 2 0  -- weighted_bipred_idc
    ++ (se (pos 0)  -- pic_init_qp_minus26
    ++ (se (pos 0)  -- pic_init_qs_minus26
    ++ (se (pos 0)  -- chroma_qp_index_offset
    ++ (u 1 0  -- deblocking_filter_control_present_flag
    ++ (u 1 0  -- constrained_intra_pred_flag
    ++ (u 1 0  -- redundant_pic_cnt_present_flag
    ++ u 1 1))))))))))))))  -- rbsp_stop_one_bit

unfoldable pub pps_payload : List ℕ
pps_payload = packed pps_bits

-- paper 01: CE 38 80
pub pps_is : pps_payload ≡ 0xCE ∷ 0x38 ∷ 0x80 ∷ []
unfolding pps_payload pps_bits packed value_from ue num_bits digits_in low_bits se mapped
pps_is = refl
