-- The units of a take (paper 01, "The bits of a take"): each is 00 00 00 01, a header byte, the escaped payload (7.3.1, Annex B).
--     sps_unit, pps_unit, picture_unit  a unit's header byte and escaped payload
--     start_bytes q L                   what a start call writes: SPS, PPS, the first picture
--     next_bytes q L                    what a next call writes: one picture
-- Assumes nothing.
use Rattle.std.specs.Prelude.{List, [], ◌∷◌, ℕ}
use Rattle.nal_unit.specs.Escape.{esc}
use Rattle.nal_unit.specs.Frame.{joined}
use Rattle.parameter_sets.specs.Sps.{sps_payload, base_level}
use Rattle.parameter_sets.specs.Pps.{pps_payload}
use Rattle.slice.specs.Picture.{Lends, picture_of}
use Rattle.ycbcr_image.specs.Sizes.{Sequence}

-- header bytes: nal_ref_idc 3 with nal_unit_type 7 and 8, and nal_ref_idc 1 with nal_unit_type 5 (7.4.1)
abbrev pub sps_header : ℕ
sps_header = 0x67

abbrev pub pps_header : ℕ
pps_header = 0x68

abbrev pub picture_header : ℕ
picture_header = 0x25

unfoldable pub sps_unit : Sequence → List ℕ
sps_unit q = sps_header ∷ esc (sps_payload base_level q)

unfoldable pub pps_unit : List ℕ
pps_unit = pps_header ∷ esc pps_payload

unfoldable pub picture_unit : Sequence → Lends → List ℕ
picture_unit q L = picture_header ∷ esc (picture_of q L)

abbrev pub start_units : Sequence → Lends → List (List ℕ)
start_units q L = sps_unit q ∷ pps_unit ∷ picture_unit q L ∷ []

unfoldable pub start_bytes : Sequence → Lends → List ℕ
start_bytes q L = joined (start_units q L) []

unfoldable pub next_bytes : Sequence → Lends → List ℕ
next_bytes q L = joined (picture_unit q L ∷ []) []
