-- What the code's sums and products need of the sizes of a session: bounds, as a set for the tactics. Assumes nothing.
use Rattle.std.specs.Prelude.{◌≡◌, true, ◌*◌, ◌≤◌}
use Rattle.std.proofs.Common.{refl}
use Rattle.ycbcr_image.specs.declared.Session.{Session}
use Rattle.ycbcr_image.specs.Form.{crop_unit_x, crop_unit_y}
use Rattle.ycbcr_image.specs.Sizes.{sequence_of, pic_width_in_mbs, frame_height_in_mbs}
use Rattle.ycbcr_image.specs.Refusals.{accepted}
use Rattle.ycbcr_image.proofs.Accepted.{fine}
use Rattle.parameter_sets.specs.Code.{cover-x, cover-y, unit-x, unit-y}

-- an accepted picture has 1 to 1,024 macroblocks across and down
pub across_low : (s : Session) → accepted (sequence_of s) ≡ true → 1 ≤ pic_width_in_mbs (sequence_of s)
across_low s h = (fine s h).across-low

pub across_high : (s : Session) → accepted (sequence_of s) ≡ true → pic_width_in_mbs (sequence_of s) ≤ 1024
across_high s h = (fine s h).across-high

pub down_low : (s : Session) → accepted (sequence_of s) ≡ true → 1 ≤ frame_height_in_mbs (sequence_of s)
down_low s h = (fine s h).down_low

pub down_high : (s : Session) → accepted (sequence_of s) ≡ true → frame_height_in_mbs (sequence_of s) ≤ 1024
down_high s h = (fine s h).down_high

-- they hold the picture
pub covers_width : (s : Session) → s.width ≤ 16 * pic_width_in_mbs (sequence_of s)
covers_width s = cover-x (sequence_of s)

pub covers_height : (s : Session) → s.height ≤ 16 * frame_height_in_mbs (sequence_of s)
covers_height s = cover-y (sequence_of s)

-- crop units are 1 or 2
pub unit_x_low : (s : Session) → 1 ≤ crop_unit_x (sequence_of s).form
unit_x_low s = (unit-x (sequence_of s).form refl).0

pub unit_x_high : (s : Session) → crop_unit_x (sequence_of s).form ≤ 2
unit_x_high s = (unit-x (sequence_of s).form refl).1

pub unit_y_low : (s : Session) → 1 ≤ crop_unit_y (sequence_of s).form
unit_y_low s = (unit-y (sequence_of s).form refl).0

pub unit_y_high : (s : Session) → crop_unit_y (sequence_of s).form ≤ 2
unit_y_high s = (unit-y (sequence_of s).form refl).1

pub ruleset sides = (across_low, across_high, down_low, down_high, covers_width, covers_height, unit_x_low, unit_x_high, unit_y_low, unit_y_high)
