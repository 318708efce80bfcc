-- `slice::Picture::put_row` meets its contract. The loop's invariant: what is written and what is still to come. Assumes nothing.
use Rattle.std.proofs.Common.{◌≡◌, ◌+◌, ◌≤◌, arith}
use Rattle.ycbcr_image.specs.Sizes.{sequence_of, pic_width_in_mbs}
use Rattle.slice.specs.Macroblocks.{once}
use Rattle.slice.specs.Pieces.{row_is, pieces_start, pieces_end, some_room, some_turn, some_end}
use Rattle.slice.proofs.picture.Picture.put_row.Goals as goal

pub nonzero_div-n : goal.nonzero_div-n
nonzero_div-n c = omega (arith, c.at_once-n.ensures, (once c.args.self.now.s).some)

pub loop-mx-init : goal.loop-mx-init
loop-mx-init c =
    pieces_start c.args.out.now c.args.at _ _ _ (rw (row_is _ _ c.args.my) at c.requires.my_in_bounds)

pub put_some-a-requires-clause-n_in_bounds : goal.put_some-a-requires-clause-n_in_bounds
put_some-a-requires-clause-n_in_bounds c =
    let g = c.loop-mx.invariant in
    let l : c.loop-mx.mx + c.min.result ≤ pic_width_in_mbs (sequence_of c.args.self.now.s) = omega (arith, c.mbs_width-mw.ensures, c.min.ensures, g.within) in
    some_room _ g l

pub loop-mx-smaller : goal.loop-mx-smaller
loop-mx-smaller c = omega (arith, c.loop-mx-test.true, c.at_once-n.ensures, (once c.args.self.now.s).some)

pub loop-mx-preserved : goal.loop-mx-preserved
loop-mx-preserved c =
    let g = c.loop-mx.invariant in
    let e : c.min.result ≡ c.at_once-n.result = omega (arith, c.min.ensures) in
    some_turn _ g (omega (arith, c.mbs_width-mw.ensures)) (rw e at c.put_some-a.ensures)

pub returns : goal.returns
returns c =
    rw (row_is _ _ c.args.my) (pieces_end c.loop-mx.invariant (omega (arith, c.loop-mx-test.false, c.mbs_width-mw.ensures)))

pub returns-2 : goal.returns-2
returns-2 c =
    rw (row_is _ _ c.args.my) (some_end _ c.loop-mx.invariant (omega (arith, c.min.ensures, c.mbs_width-mw.ensures)) c.put_some-a.ensures)
