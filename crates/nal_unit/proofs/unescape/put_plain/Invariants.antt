use Rattle.std.proofs.Common.{◌+◌}
use Rattle.nal_unit.specs.UnescapeCode.{Unescaping}
use Rattle.nal_unit.proofs.unescape.put_plain.Given as goal

abbrev pub invariant-loop-k : goal.invariant-loop-k
invariant-loop-k l = Unescaping l.s l.p l.e l.initial.out l.a l.out l.b (l.p + l.k)
