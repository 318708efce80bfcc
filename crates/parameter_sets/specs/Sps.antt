-- The sequence parameter set of a take (7.3.2.1, 7.3.2.1.1; Annex E), field by field, with the choices of paper 01 ("The bits of a take").
--     profile_idc f           66 for colour 8, 100 for mono 8, 244 for both 12-bit kinds (Annex A)
--     crop_right, crop_bottom   the samples that padding adds, in crop units
--     sps_bits level q        the bits, one line a field
--     sps_payload level q     the payload's bytes
-- Assumes nothing.
use Rattle.std.specs.Prelude.{List, [], ◌++◌, Bool, cond, not, ◌&&◌, ℕ, ◌-◌, ◌*◌, ◌/◌, eqb}
use Rattle.bits.specs.Bits.{low_bits}
use Rattle.bits.specs.Pack.{packed}
use Rattle.golomb.specs.Code.{ue}
use Rattle.ycbcr_image.specs.Form.{Form, mono, crop_unit_x, crop_unit_y}
use Rattle.ycbcr_image.specs.Sizes.{Sequence, pic_width_in_mbs, frame_height_in_mbs}

-- u(n): v in n bits (7.2)
abbrev pub u : ℕ → ℕ → List ℕ
u n v = low_bits n v

unfoldable pub profile_idc : Form → ℕ
profile_idc f = cond (eqb f.depth 8) (cond (mono f) 100 66) 244

-- profiles 100 and 244 say the chroma format and the depths; profile 66 is 4:2:0 with 8 bits
unfoldable pub chroma_fields : Form → List ℕ
chroma_fields f =
    cond (eqb (profile_idc f) 66) []
    (ue f.chroma  -- chroma_format_idc
    ++ (ue (f.depth - 8)  -- bit_depth_luma_minus8
    ++ (ue (f.depth - 8)  -- bit_depth_chroma_minus8
    ++ (u 1 0  -- qpprime_y_zero_transform_bypass_flag
    ++ u 1 0))))  -- seq_scaling_matrix_present_flag

unfoldable pub crop_right : Sequence → ℕ
crop_right q = (16 * pic_width_in_mbs q - q.width) / crop_unit_x q.form

unfoldable pub crop_bottom : Sequence → ℕ
crop_bottom q = (16 * frame_height_in_mbs q - q.height) / crop_unit_y q.form

-- cropping is present exactly when a padded size differs
unfoldable pub cropped : Sequence → Bool
cropped q = not (eqb (16 * pic_width_in_mbs q) q.width && eqb (16 * frame_height_in_mbs q) q.height)

unfoldable pub crop_fields : Sequence → List ℕ
crop_fields q =
    cond (cropped q)
    (u 1 1  -- frame_cropping_flag
    ++ (ue 0  -- frame_crop_left_offset
    ++ (ue (crop_right q)  -- frame_crop_right_offset
    ++ (ue 0  -- frame_crop_top_offset
    ++ ue (crop_bottom q)))))  -- frame_crop_bottom_offset
    (u 1 0)  -- frame_cropping_flag

-- E.1.1: video_format 5, full range, all else absent
unfoldable pub vui_fields : List ℕ
vui_fields =
    u 1 0  -- aspect_ratio_info_present_flag
    ++ (u 1 0  -- overscan_info_present_flag
    ++ (u 1 1  -- video_signal_type_present_flag
    ++ (u 3 5  -- video_format
    ++ (u 1 1  -- video_full_range_flag
    ++ (u 1 0  -- colour_description_present_flag
    ++ (u 1 0  -- chroma_loc_info_present_flag
    ++ (u 1 0  -- timing_info_present_flag
    ++ (u 1 0  -- nal_hrd_parameters_present_flag
    ++ (u 1 0  -- vcl_hrd_parameters_present_flag
    ++ (u 1 0  -- pic_struct_present_flag
    ++ u 1 0))))))))))  -- bitstream_restriction_flag

unfoldable pub sps_bits : ℕ → Sequence → List ℕ
sps_bits level q =
    u 8 (profile_idc q.form)  -- profile_idc
    ++ (u 8 0  -- constraint_set0_flag to constraint_set5_flag, reserved_zero_2bits
    ++ (u 8 level  -- level_idc
    ++ (ue 0  -- seq_parameter_set_id
    ++ (chroma_fields q.form
    ++ (ue 0  -- log2_max_frame_num_minus4
    ++ (ue 0  -- pic_order_cnt_type
    ++ (ue 0  -- log2_max_pic_order_cnt_lsb_minus4
    ++ (ue 0  -- max_num_ref_frames
    ++ (u 1 0  -- gaps_in_frame_num_value_allowed_flag
    ++ (ue (pic_width_in_mbs q - 1)  -- pic_width_in_mbs_minus1
    ++ (ue (frame_height_in_mbs q - 1)  -- pic_height_in_map_units_minus1
    ++ (u 1 1  -- frame_mbs_only_flag
    ++ (u 1 0  -- direct_8x8_inference_flag
    ++ (crop_fields q
    ++ (u 1 1  -- vui_parameters_present_flag
    ++ (vui_fields
    ++ u 1 1))))))))))))))))  -- rbsp_stop_one_bit

-- zero bits up to a whole byte follow the stop bit (7.3.2.11)
unfoldable pub sps_payload : ℕ → Sequence → List ℕ
sps_payload level q = packed (sps_bits level q)

-- the level of the base (7.4.2.1.1, Annex A): 1.0
abbrev pub base_level : ℕ
base_level = 10
