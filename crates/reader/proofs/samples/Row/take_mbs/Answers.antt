-- `reader::samples::Row::take_mbs` meets its contract. The loop's invariant: the macroblocks that are taken, and the place behind them. Assumes nothing.
use Rattle.std.proofs.Common.{◌≡◌, sym, ◌+◌, ◌*◌, add-zero, arith}
use Rattle.ycbcr_image.specs.Sizes.{sequence_of, pic_width_in_mbs}
use Rattle.reader.specs.Samples.{mbs_start, mbs_turn, mbs_as, mbs_end}
use Rattle.reader.proofs.samples.Row.take_mbs.Goals as goal

pub loop-mx-init : goal.loop-mx-init
loop-mx-init c =
    let q = sequence_of c.args.self.coded.q in
    let i = c.args.self.my * pic_width_in_mbs q in
    mbs_as (sym (add-zero i)) (mbs_start q i c.args.y.now c.args.cb.now c.args.cr.now c.args.self.stands c.requires.rooms)

pub loop-mx-preserved : goal.loop-mx-preserved
loop-mx-preserved c =
    let i = c.args.self.my * pic_width_in_mbs (sequence_of c.args.self.coded.q) in
    let e : i + c.loop-mx.mx + 1 ≡ i + (c.loop-mx.mx + 1) = omega arith in
    mbs_as e (mbs_turn c.loop-mx.invariant c.take_macroblock-p.ensures)

pub returns : goal.returns
returns c = mbs_end c.loop-mx.invariant (omega (arith, c.loop-mx-test.false))
