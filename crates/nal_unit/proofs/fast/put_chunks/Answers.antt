-- `nal_unit::fast::put_chunks` meets its contract. The loop's invariant: what is written, what is still to come, and how many zeros stand before it. Assumes nothing.
use Rattle.std.proofs.Common.{◌≡◌, ◌+◌, ◌*◌, ◌/◌, arith}
use Rattle.nal_unit.specs.PutCode.{along_room, along_turn, along_end}
use Rattle.nal_unit.proofs.fast.put_chunks.Goals as goal

pub put64-a-requires-clause-p_in_bounds : goal.put64-a-requires-clause-p_in_bounds
put64-a-requires-clause-p_in_bounds c = along_room 64 c.loop-i.invariant (omega arith)

pub loop-i-preserved : goal.loop-i-preserved
loop-i-preserved c =
    let e : 64 * c.loop-i.i + 64 ≡ 64 * (c.loop-i.i + 1) = omega arith in
    rw (← e) (along_turn 64 c.loop-i.invariant (omega arith) c.put64-a.ensures)

pub returns : goal.returns
returns c =
    let e : c.loop-i.i ≡ c.args.n / 64 = omega arith in
    along_end (rw e at c.loop-i.invariant) c.put_bytes.ensures
