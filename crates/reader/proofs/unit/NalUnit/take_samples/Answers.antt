-- `reader::unit::NalUnit::take_samples` meets its contract. The loop's invariant: the macroblocks that are taken, and the place behind them. Assumes nothing.
use Rattle.std.proofs.Common.{◌≡◌, sym, ap, ℕ, ◌+◌, ◌*◌, zero-mul, arith}
use Rattle.ycbcr_image.specs.Sizes.{sequence_of, pic_width_in_mbs, frame_height_in_mbs}
use Rattle.nal_unit.specs.Taking.{stands-pass}
use Rattle.reader.specs.Heads.{unit-stands, right_room}
use Rattle.reader.specs.Samples.{stands_as, mbs_start, mbs_turn, mbs_as, mbs_end, first_head, planes-took}
use Rattle.reader.proofs.unit.NalUnit.take_samples.Goals as goal

pub skip-p-requires-clause-n_in_bounds : goal.skip-p-requires-clause-n_in_bounds
skip-p-requires-clause-n_in_bounds c = omega (arith, right_room c.requires.fine.0 c.requires.unit_at c.requires.fine.1)

pub loop-my-init : goal.loop-my-init
loop-my-init c =
    let q = sequence_of c.args.q in
    let e = stands-pass (unit-stands c.requires.unit_at) c.skip-p.ensures in
    mbs_as (sym (zero-mul (pic_width_in_mbs q))) (mbs_start q 0 c.args.y.now c.args.cb.now c.args.cr.now (stands_as (first_head q) e) c.requires.rooms)

pub loop-my-preserved : goal.loop-my-preserved
loop-my-preserved c =
    let w = pic_width_in_mbs (sequence_of c.args.q) in
    let e : c.loop-my.my * w + w ≡ (c.loop-my.my + 1) * w = omega arith in
    mbs_as e (mbs_turn c.loop-my.invariant c.take-p.ensures)

pub returns : goal.returns
returns c =
    let m : c.loop-my.my ≡ frame_height_in_mbs (sequence_of c.args.q) = omega (arith, c.loop-my-test.false) in
    planes-took c.requires.fine.0 c.requires.rooms (mbs_end c.loop-my.invariant (ap (λ (k : ℕ). k * pic_width_in_mbs (sequence_of c.args.q)) m))
