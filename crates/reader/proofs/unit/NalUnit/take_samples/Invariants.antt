use Rattle.std.proofs.Common.{◌*◌}
use Rattle.ycbcr_image.specs.Sizes.{sequence_of, pic_width_in_mbs}
use Rattle.reader.specs.Samples.{MbsTaking}
use Rattle.reader.proofs.unit.NalUnit.take_samples.Given as goal

abbrev pub invariant-loop-my : goal.invariant-loop-my
invariant-loop-my l = MbsTaking l.fn.self.take.now l.fn.self.begin l.fn.self.end (sequence_of l.fn.q) 0 (l.my * pic_width_in_mbs (sequence_of l.fn.q)) l.initial.y l.y l.initial.cb l.cb l.initial.cr l.cr l.p
