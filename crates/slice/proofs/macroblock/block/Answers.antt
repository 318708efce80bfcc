-- `slice::macroblock::block` meets its contract. Assumes nothing.
use Rattle.std.proofs.Common.{length}
use Rattle.ycbcr_image.specs.Sizes.{sequence_of}
use Rattle.slice.specs.Macroblocks.{lend, laid-block, block_room}
use Rattle.slice.proofs.macroblock.block.Goals as goal

pub lay_rows-requires-clause-w_in_bounds_2 : goal.lay_rows-requires-clause-w_in_bounds_2
lay_rows-requires-clause-w_in_bounds_2 c =
    block_room (sequence_of c.args.s).form c.args.p _ _ c.args.at (length c.args.out.now) c.block_row_bytes-w.ensures c.mb_height-h.ensures c.requires.p_in_bounds

pub returns : goal.returns
returns c =
    laid-block (sequence_of c.args.s).form c.args.p (lend c.args.a.now c.args.stride) c.args.my c.args.mx _ _ c.block_row_bytes-w.ensures c.mb_height-h.ensures c.lay_rows.ensures
