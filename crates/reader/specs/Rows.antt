-- What the code says of the rows of macroblocks of a coded picture.
--     Took w i j ..        the visible samples of the macroblocks from i to j were taken, and the place behind them is r
--     first_of, behind_of  the first macroblock of a row, and of the next
--     RowTook, BandTook    a row was taken into the three planes, into one
--     RowDark              all its samples are zero
-- Assumes nothing.
use Rattle.std.specs.Prelude.{List, ℕ, ◌+◌, ◌*◌}
use Rattle.ycbcr_image.specs.Sizes.{sequence_of, pic_width_in_mbs}
use Rattle.reader.specs.declared.samples.Coded.{Coded}
use Rattle.reader.specs.declared.samples.Row.{Row}
use Rattle.reader.specs.Units.{payload_of}
use Rattle.reader.specs.Samples.{MbsTook, Steps, IsDark}

abbrev pub Took : Coded → ℕ → ℕ → List ℕ → List ℕ → List ℕ → List ℕ → List ℕ → List ℕ → ℕ → Type 0
Took w i j y y' cb cb' cr cr' r = MbsTook w.unit.take.now w.unit.begin w.unit.end (sequence_of w.q) i j y y' cb cb' cr cr' r

abbrev pub first_of : Row → ℕ
first_of w = w.my * pic_width_in_mbs (sequence_of w.coded.q)

abbrev pub behind_of : Row → ℕ
behind_of w = w.my * pic_width_in_mbs (sequence_of w.coded.q) + pic_width_in_mbs (sequence_of w.coded.q)

abbrev pub RowTook : Row → List ℕ → List ℕ → List ℕ → List ℕ → List ℕ → List ℕ → ℕ → Type 0
RowTook w y y' cb cb' cr cr' r = Took w.coded (first_of w) (behind_of w) y y' cb cb' cr cr' r

abbrev pub BandTook : Row → ℕ → List ℕ → List ℕ → Type 0
BandTook w k d d' = Steps (sequence_of w.coded.q) k (payload_of w.coded.unit) (first_of w) (behind_of w) d d'

abbrev pub RowDark : Row → Type 0
RowDark w = IsDark (payload_of w.coded.unit) (sequence_of w.coded.q) (first_of w)
