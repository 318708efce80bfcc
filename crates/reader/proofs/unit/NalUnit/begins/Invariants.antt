use Rattle.reader.specs.Heads.{Beginning}
use Rattle.reader.proofs.unit.NalUnit.begins.Given as goal

abbrev pub invariant-loop-b : goal.invariant-loop-b
invariant-loop-b l = Beginning l.self.take.now l.fn.p l.self.end l.v l.p l.b-index
