use Rattle.std.proofs.Common.{◌*◌}
use Rattle.ycbcr_image.specs.Sizes.{sequence_of, pic_width_in_mbs}
use Rattle.reader.specs.Units.{payload_of}
use Rattle.reader.specs.Samples.{head_place, DarkRow}
use Rattle.reader.proofs.samples.Row.dark.Given as goal

abbrev pub invariant-loop-mx : goal.invariant-loop-mx
invariant-loop-mx l = DarkRow l.self.coded.unit.take.now l.self.coded.unit.end (payload_of l.self.coded.unit) l.size (head_place (sequence_of l.self.coded.q) (l.self.my * pic_width_in_mbs (sequence_of l.self.coded.q))) l._mx l.p
