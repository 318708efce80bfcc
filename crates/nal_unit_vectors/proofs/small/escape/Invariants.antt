-- `small::escape` has the room: no byte has more than one before it that is inserted.
use Rattle.std.proofs.Common.{◌*◌, ◌≤◌}
use Rattle.arrayvec.specs.ArrayVec.{array_vec_len}
use Rattle.nal_unit_vectors.proofs.small.escape.Given as goal

abbrev pub invariant-loop-b : goal.invariant-loop-b
invariant-loop-b l = array_vec_len l.out ≤ 2 * l.b-index
