-- `nal_unit::unescape::put_rest` meets its contract: what the bytes of the first k blocks hold of the payload is written. Assumes nothing.
use Rattle.std.proofs.Common.{◌≡◌, ◌+◌, ◌-◌, ◌*◌, ◌/◌, arith, length}
use Rattle.nal_unit.specs.UnescapeCode.{unescaping_room, unescaping_turn, unescaping_end}
use Rattle.nal_unit.proofs.unescape.put_rest.Goals as goal

pub put64-b-requires-clause-p_in_bounds : goal.put64-b-requires-clause-p_in_bounds
put64-b-requires-clause-p_in_bounds c = unescaping_room (c.args.p + 64 * c.loop-k.k + 64) c.loop-k.invariant (omega arith) (omega arith)

pub loop-k-preserved : goal.loop-k-preserved
loop-k-preserved c =
    let e : c.args.p + 64 * (c.loop-k.k + 1) ≡ c.args.p + 64 * c.loop-k.k + 64 = omega arith in
    rw e (unescaping_turn c.loop-k.invariant c.put64-b.ensures (omega arith) (omega arith))

pub returns : goal.returns
returns c =
    let e : c.loop-k.k ≡ (length c.args.s.now - c.args.p) / 64 = omega arith in
    unescaping_end (unescaping_turn (rw e at c.loop-k.invariant) c.put_plain.ensures (omega arith) (omega arith)) (omega arith)
