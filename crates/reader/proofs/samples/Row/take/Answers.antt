-- `reader::samples::Row::take` meets its contract: a row without inserted bytes is taken whole, a dark one is written, another macroblock by macroblock. Assumes nothing.
use Rattle.std.proofs.Common.{refl, ◌+◌, ◌*◌, ◌≤◌, arith}
use Rattle.ycbcr_image.specs.Form.{mb_bytes}
use Rattle.ycbcr_image.specs.Sizes.{sequence_of, pic_width_in_mbs}
use Rattle.nal_unit.specs.Taking.{calm_behind}
use Rattle.reader.specs.Samples.{row_there, dark_behind, colour-row}
use Rattle.reader.proofs.samples.Row.take.Goals as goal
use Rattle.reader.proofs.samples.Row.take.Goals.{Start}

-- the row is there
there : (c : Start) → let a = c.args.self in let q = sequence_of a.coded.q in a.p + pic_width_in_mbs q * (2 + mb_bytes q.form) ≤ a.coded.unit.end
there c = let a = c.args.self in row_there a.coded.fine a.coded.exact a.my a.my_bound refl a.stands

pub take_calm-requires-clause-q_value : goal.take_calm-requires-clause-q_value
take_calm-requires-clause-q_value c =
    let a = c.args.self in
    calm_behind a.coded.unit.take.now a.coded.calm a.p a.coded.unit.end _ (omega (arith, a.stands.low)) c.if-self.true (there (goal.at.take_calm-requires-clause-q_value c).Start) a.stands.inside a.coded.calm_at

pub returns-in-Some : goal.returns-in-Some
returns-in-Some c =
    let a = c.args.self in
    colour-row c.take_dark.ensures.in_y c.take_dark.ensures.in_cb c.take_dark.ensures.in_cr (dark_behind (sequence_of a.coded.q) (a.my * pic_width_in_mbs (sequence_of a.coded.q)) c.in-Some.ensures)

pub calm-requires : goal.calm-requires
calm-requires c =
    (c.args.self.stands.low, omega (arith, there (goal.at.calm-requires c).Start, c.len.ensures, c.args.self.stands.inside))
