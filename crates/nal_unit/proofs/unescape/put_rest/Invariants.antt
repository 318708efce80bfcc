use Rattle.std.proofs.Common.{◌+◌, ◌*◌, length}
use Rattle.nal_unit.specs.UnescapeCode.{Unescaping}
use Rattle.nal_unit.proofs.unescape.put_rest.Given as goal

abbrev pub invariant-loop-k : goal.invariant-loop-k
invariant-loop-k l = Unescaping l.s l.p (length l.s) l.initial.out l.a l.out l.b (l.p + 64 * l.k)
