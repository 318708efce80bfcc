use Rattle.reader.specs.Samples.{RowsTaking}
use Rattle.reader.proofs.samples.Coded.take_rows.Given as goal

abbrev pub invariant-loop-y : goal.invariant-loop-y
invariant-loop-y g l = RowsTaking l.self.unit.take.now l.self.unit.begin l.self.unit.end g.n l.initial.out l.at l.w l.bw l.step l.h l.out l.p l.a l._y
