use Rattle.std.proofs.Common.{◌+◌, ◌*◌}
use Rattle.ycbcr_image.specs.Sizes.{sequence_of, pic_width_in_mbs}
use Rattle.reader.specs.Samples.{MbsTaking}
use Rattle.reader.proofs.samples.Row.take_mbs.Given as goal

abbrev pub invariant-loop-mx : goal.invariant-loop-mx
invariant-loop-mx l = MbsTaking l.self.coded.unit.take.now l.self.coded.unit.begin l.self.coded.unit.end (sequence_of l.self.coded.q) (l.self.my * pic_width_in_mbs (sequence_of l.self.coded.q)) (l.self.my * pic_width_in_mbs (sequence_of l.self.coded.q) + l.mx) l.initial.y l.y l.initial.cb l.cb l.initial.cr l.cr l.p
