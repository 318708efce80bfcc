use Rattle.ycbcr_image.specs.Sizes.{sequence_of, frame_height_in_mbs}
use Rattle.slice.specs.Macroblocks.{lends_in, row_in}
use Rattle.slice.specs.Pieces.{Tally}
use Rattle.slice.proofs.picture.Picture.count_rows.Given as goal

abbrev pub invariant-loop-my : goal.invariant-loop-my
invariant-loop-my l = Tally 0 (row_in (sequence_of l.self.s) (lends_in l.self.planes)) 0 (frame_height_in_mbs (sequence_of l.self.s)) l.rows.n l.rows.z l.my
