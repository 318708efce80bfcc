-- `nal_unit::scan::seek` meets its contract. The invariant: the search has reached the next 64 places. Assumes nothing.
use Rattle.std.proofs.Common.{◌≡◌, ◌+◌, ◌*◌, arith}
use Rattle.nal_unit.specs.ScanCode.{seek_more, seek_past}
use Rattle.nal_unit.proofs.scan.seek.Goals as goal
use Rattle.nal_unit.proofs.scan.seek.Goals.{then-low64+else-fault64, else-low64}

pub loop-b-preserved : goal.loop-b-preserved
loop-b-preserved c =
    let g = c.loop-b.invariant in
    let i = c.args.from + 64 * c.loop-b.b in
    let q : c.args.from + 64 * (c.loop-b.b + 1) ≡ i + 64 = omega arith in
    rw q (elim c.if-low64.branch [
      | then-low64+else-fault64 w ↦ rw w.calm-is (seek_past g (omega arith) (w.fault64.ensures w.if-fault64.false))
      | else-low64 w ↦ rw w.calm-is (seek_more g (c.low64.ensures w.if-low64.false))
    ])
