use Rattle.std.proofs.Common.{◌*◌}
use Rattle.ycbcr_image.specs.Sizes.{sequence_of, pic_width_in_mbs}
use Rattle.slice.specs.Macroblocks.{lends_in, macroblock_in}
use Rattle.slice.specs.Pieces.{Tally}
use Rattle.slice.proofs.picture.Picture.count_row.Given as goal

abbrev pub invariant-loop-mx : goal.invariant-loop-mx
invariant-loop-mx l = Tally l.z (macroblock_in (sequence_of l.self.s) (lends_in l.self.planes)) (l.my * pic_width_in_mbs (sequence_of l.self.s)) (pic_width_in_mbs (sequence_of l.self.s)) l.row.n l.row.z l.mx
