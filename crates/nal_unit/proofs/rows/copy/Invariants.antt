use Rattle.lists.specs.Part.{part}
use Rattle.lists.specs.Copy.{Copied}
use Rattle.nal_unit.proofs.rows.copy.Given as goal

abbrev pub invariant-loop-k : goal.invariant-loop-k
invariant-loop-k l = Copied l.initial.out l.at (part l.s l.p l.n) l.out l.k
