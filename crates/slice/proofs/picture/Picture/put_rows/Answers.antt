-- `slice::Picture::put_rows` meets its contract. The loop's invariant: what is written and what is still to come. Assumes nothing.
use Rattle.std.proofs.Common.{◌<◌, arith, zero-add}
use Rattle.ycbcr_image.specs.Sizes.{sequence_of, frame_height_in_mbs}
use Rattle.slice.specs.Pieces.{pieces_room, pieces_front, pieces_end}
use Rattle.slice.proofs.picture.Picture.put_rows.Goals as goal

pub put_row-a-requires-clause-my_in_bounds : goal.put_row-a-requires-clause-my_in_bounds
put_row-a-requires-clause-my_in_bounds c =
    let l : c.loop-my.my < frame_height_in_mbs (sequence_of c.args.self.now.s) = omega (arith, c.loop-my-test.true, c.mbs_height-mh.ensures) in
    rw (zero-add c.loop-my.my) at (pieces_room c.loop-my.invariant l)

pub loop-my-preserved : goal.loop-my-preserved
loop-my-preserved c = pieces_front c.loop-my.invariant (omega (arith, c.loop-my-test.true, c.mbs_height-mh.ensures)) c.put_row-a.ensures

pub returns : goal.returns
returns c = pieces_end c.loop-my.invariant (omega (arith, c.loop-my-test.false, c.mbs_height-mh.ensures))
