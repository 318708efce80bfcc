-- `nal_unit::unescape::put_plain` meets its contract: what the first k bytes hold of the payload is written. Assumes nothing.
use Rattle.std.proofs.Common.{◌≡◌, ◌+◌, arith}
use Rattle.nal_unit.specs.UnescapeCode.{unescaping_room, unescaping_turn, unescaping_end}
use Rattle.nal_unit.proofs.unescape.put_plain.Goals as goal

pub put_byte-b-requires-clause-p_in_bounds : goal.put_byte-b-requires-clause-p_in_bounds
put_byte-b-requires-clause-p_in_bounds c = unescaping_room (c.args.p + c.loop-k.k + 1) c.loop-k.invariant (omega arith) (omega arith)

pub loop-k-preserved : goal.loop-k-preserved
loop-k-preserved c =
    let e : c.args.p + (c.loop-k.k + 1) ≡ c.args.p + c.loop-k.k + 1 = omega arith in
    rw e (unescaping_turn c.loop-k.invariant c.put_byte-b.ensures (omega arith) (omega arith))

pub returns : goal.returns
returns c = unescaping_end c.loop-k.invariant (omega arith)
