use Rattle.ycbcr_image.specs.Sizes.{sequence_of, frame_height_in_mbs}
use Rattle.slice.specs.Macroblocks.{lends_in, row_in}
use Rattle.slice.specs.Pieces.{Pieces}
use Rattle.slice.proofs.picture.Picture.put_rows.Given as goal

abbrev pub invariant-loop-my : goal.invariant-loop-my
invariant-loop-my l = Pieces l.initial.out l.at (row_in (sequence_of l.self.s) (lends_in l.self.planes)) 0 (frame_height_in_mbs (sequence_of l.self.s)) l.out l.a l.my
