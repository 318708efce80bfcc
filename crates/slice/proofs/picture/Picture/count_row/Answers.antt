-- `slice::Picture::count_row` meets its contract. The loop's invariant: what is counted and what is still to come. Assumes nothing.
use Rattle.std.proofs.Common.{arith}
use Rattle.slice.specs.Macroblocks.{row_few}
use Rattle.slice.specs.Pieces.{row_is, tally_start, tally_turn, tally_most, tally_end}
use Rattle.slice.proofs.picture.Picture.count_row.Goals as goal

pub loop-mx-init : goal.loop-mx-init
loop-mx-init c =
    tally_start c.args.z _ _ _ c.requires.z_bound (omega (arith, row_few c.args.self.now.ready c.args.my c.requires.my_bound))

pub overflow_add-row : goal.overflow_add-row
overflow_add-row c = omega (arith, tally_most (tally_turn c.loop-mx.invariant (omega (arith, c.loop-mx-test.true, c.mbs_width-mw.ensures)) c.count_macroblock-next.ensures))

pub loop-mx-preserved : goal.loop-mx-preserved
loop-mx-preserved c = tally_turn c.loop-mx.invariant (omega (arith, c.loop-mx-test.true, c.mbs_width-mw.ensures)) c.count_macroblock-next.ensures

pub returns : goal.returns
returns c =
    rw (row_is _ _ c.args.my) (tally_end c.loop-mx.invariant (omega (arith, c.loop-mx-test.false, c.mbs_width-mw.ensures)))
