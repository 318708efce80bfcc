use Rattle.slice.specs.Laid.{Laying}
use Rattle.reader.specs.Bands.{lines_of}
use Rattle.reader.proofs.samples.Pieces.band.Given as goal

abbrev pub invariant-loop-y : goal.invariant-loop-y
invariant-loop-y l = Laying l.initial.out l.at (lines_of l.self.s.now l.self.unit l.p l.self.bw l.self.full l.self.rest) 0 l.h l.out l.a l.y
