use Rattle.reader.specs.Heads.{Heading}
use Rattle.reader.specs.Units.{payload_of}
use Rattle.reader.proofs.unit.NalUnit.has_heads.Given as goal

abbrev pub invariant-loop-i : goal.invariant-loop-i
invariant-loop-i l = Heading l.self.take.now l.self.end (payload_of l.self) l.size l.n l.p l._i
