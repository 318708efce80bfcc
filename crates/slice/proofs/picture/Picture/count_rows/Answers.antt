-- `slice::Picture::count_rows` meets its contract. The loop's invariant: what is counted and what is still to come. Assumes nothing.
use Rattle.std.proofs.Common.{arith}
use Rattle.slice.specs.Macroblocks.{rows_most}
use Rattle.slice.specs.Pieces.{tally_start, tally_front, tally_most, tally_end}
use Rattle.slice.proofs.picture.Picture.count_rows.Goals as goal

pub loop-my-init : goal.loop-my-init
loop-my-init c = tally_start 0 _ 0 _ (omega arith) (rows_most c.args.self.now.ready)

pub overflow_add-rows : goal.overflow_add-rows
overflow_add-rows c = omega (arith, tally_most (tally_front c.loop-my.invariant (omega (arith, c.loop-my-test.true, c.mbs_height-mh.ensures)) c.count_row-next.ensures))

pub loop-my-preserved : goal.loop-my-preserved
loop-my-preserved c = tally_front c.loop-my.invariant (omega (arith, c.loop-my-test.true, c.mbs_height-mh.ensures)) c.count_row-next.ensures

pub returns : goal.returns
returns c = tally_end c.loop-my.invariant (omega (arith, c.loop-my-test.false, c.mbs_height-mh.ensures))
