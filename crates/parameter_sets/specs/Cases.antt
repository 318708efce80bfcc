-- The worked cases 3 to 6 of paper 01: sequence parameter sets, with their header byte. Assumes nothing.
use Rattle.std.specs.Prelude.{◌≡◌, refl, [], ◌∷◌}
use Rattle.bits.specs.Bits.{low_bits, value_from}
use Rattle.bits.specs.Pack.{packed}
use Rattle.golomb.specs.Code.{digits_in, num_bits, ue}
use Rattle.ycbcr_image.specs.Form.{mono, sub_width_c, sub_height_c, crop_unit_x, crop_unit_y}
use Rattle.ycbcr_image.specs.Sizes.{Sequence, div_ceil, next_multiple, pic_width_in_mbs, frame_height_in_mbs}
use Rattle.parameter_sets.specs.Sps.{profile_idc, chroma_fields, crop_right, crop_bottom, cropped, crop_fields, vui_fields, sps_bits, sps_payload, base_level}

abbrev mono8 : Sequence
mono8 = record { width = 16; height = 16; form = record { chroma = 0; depth = 8 } }

abbrev mono8wide : Sequence
mono8wide = record { width = 17; height = 16; form = record { chroma = 0; depth = 8 } }

abbrev mono12 : Sequence
mono12 = record { width = 16; height = 16; form = record { chroma = 0; depth = 12 } }

abbrev colour8 : Sequence
colour8 = record { width = 16; height = 16; form = record { chroma = 1; depth = 8 } }

pub sps-cases : (sps_payload base_level mono8 ≡ 0x64 ∷ 0x00 ∷ 0x0A ∷ 0xF3 ∷ 0xDC ∷ 0x9B ∷ 0x01 ∷ [])
    × (sps_payload base_level mono8wide ≡ 0x64 ∷ 0x00 ∷ 0x0A ∷ 0xF3 ∷ 0xCB ∷ 0x61 ∷ 0x0E ∷ 0x6C ∷ 0x04 ∷ [])
    × (sps_payload base_level mono12 ≡ 0xF4 ∷ 0x00 ∷ 0x0A ∷ 0xCA ∷ 0x53 ∷ 0xDC ∷ 0x9B ∷ 0x01 ∷ [])
    × (sps_payload base_level colour8 ≡ 0x42 ∷ 0x00 ∷ 0x0A ∷ 0xFB ∷ 0x93 ∷ 0x60 ∷ 0x20 ∷ [])
unfolding sps_payload sps_bits profile_idc chroma_fields crop_right crop_bottom cropped crop_fields vui_fields packed value_from ue num_bits digits_in low_bits mono sub_width_c sub_height_c crop_unit_x crop_unit_y pic_width_in_mbs frame_height_in_mbs next_multiple div_ceil
sps-cases = (refl, refl, refl, refl)
