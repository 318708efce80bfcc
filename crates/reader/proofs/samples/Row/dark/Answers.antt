-- `reader::samples::Row::dark` meets its contract. The loop's invariant: the macroblocks that were found dark, and the place behind them. Assumes nothing.
use Rattle.std.proofs.Common.{◌≡◌, ◌+◌, ◌*◌, ◌≤◌, refl, length, Some, rules}
use Rattle.ycbcr_image.specs.Sizes.{sequence_of, pic_width_in_mbs}
use Rattle.nal_unit.specs.Taking.{stands-pass, behind_zeros}
use Rattle.nal_unit.specs.TakingCode.{zeros-behind, zeros-are}
use Rattle.reader.specs.Heads.{payload_at}
use Rattle.reader.specs.Samples.{head_place, row-long, dark_head, dark_samples, dark_turn}
use Rattle.reader.proofs.samples.Row.dark.Goals as goal
use Rattle.reader.proofs.samples.Row.dark.Goals.{In-loop-mx}

-- the payload has the row
long : (c : In-loop-mx) → let a = c.args.self in
    head_place (sequence_of a.coded.q) (a.my * pic_width_in_mbs (sequence_of a.coded.q)) + c.mbs_width-mx-end.result * (2 + c.mb_bytes-size.result) ≤ length (payload_at a.coded.unit.take.now a.coded.unit.begin a.coded.unit.end)
long c =
    let a = c.args.self in
    row-long (payload_at a.coded.unit.take.now a.coded.unit.begin a.coded.unit.end) a.coded.fine a.coded.exact a.my a.my_bound refl c.mbs_width-mx-end.ensures c.mb_bytes-size.ensures

pub pass-b-requires-clause-n_in_bounds : goal.pass-b-requires-clause-n_in_bounds
pass-b-requires-clause-n_in_bounds c = dark_head c.loop-mx.invariant c.loop-mx-test.true (long (goal.at.pass-b-requires-clause-n_in_bounds c).In-loop-mx)

pub zeros-requires-clause-n_in_bounds : goal.zeros-requires-clause-n_in_bounds
zeros-requires-clause-n_in_bounds c =
    dark_samples c.loop-mx.invariant c.loop-mx-test.true (long (goal.at.zeros-requires-clause-n_in_bounds c).In-loop-mx) c.pass-b.ensures

pub loop-mx-preserved : goal.loop-mx-preserved
loop-mx-preserved c =
    let a = c.args.self.coded in
    let t = stands-pass c.loop-mx.invariant.at c.pass-b.ensures in
    let f : Some c.in_ok-p.p ≡ behind_zeros a.unit.take.now c.pass-b.result a.unit.end c.mb_bytes-size.result = search rules in
    dark_turn c.loop-mx.invariant c.pass-b.ensures (zeros-behind a.unit.take.now c.pass-b.result a.unit.end c.mb_bytes-size.result c.in_ok-p.p f) (zeros-are a.unit.take.now c.pass-b.result a.unit.end c.mb_bytes-size.result c.in_ok-p.p t.low t.high t.inside f)
