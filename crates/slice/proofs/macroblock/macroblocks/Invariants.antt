use Rattle.std.proofs.Common.{◌+◌, ◌*◌}
use Rattle.ycbcr_image.specs.Sizes.{sequence_of, pic_width_in_mbs}
use Rattle.slice.specs.Macroblocks.{lends_in, macroblock_in}
use Rattle.slice.specs.Laid.{Laying}
use Rattle.slice.proofs.macroblock.macroblocks.Given as goal

abbrev pub invariant-loop-k : goal.invariant-loop-k
invariant-loop-k l = Laying l.initial.out l.at (macroblock_in (sequence_of l.s) (lends_in l.planes)) (l.my * pic_width_in_mbs (sequence_of l.s) + l.mx) l.n l.out l.a l.k
