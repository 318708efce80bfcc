-- `nal_unit::scan::seek_plain` meets its contract. The invariant: the search has reached the place i. Assumes nothing.
use Rattle.std.proofs.Common.{sym, ◌∙◌, arith}
use Rattle.nal_unit.specs.ScanCode.{seek-keep, seek-raise, seek_found, seek_end}
use Rattle.nal_unit.proofs.scan.seek_plain.Goals as goal
use Rattle.nal_unit.proofs.scan.seek_plain.Goals.{then-low_at+else-fault_at, else-low_at}

pub returns-then-fault_at : goal.returns-then-fault_at
returns-then-fault_at c = seek_found c.loop-i.invariant (sym c.fault_at.ensures ∙ c.if-fault_at.true)

pub loop-i-preserved : goal.loop-i-preserved
loop-i-preserved c =
    let g = c.loop-i.invariant in
    elim c.if-low_at.branch [
      | then-low_at+else-fault_at w ↦ rw w.calm-is (seek-raise g (omega arith) (sym w.fault_at.ensures ∙ w.if-fault_at.false))
      | else-low_at w ↦ rw w.calm-is (seek-keep g (omega arith) (c.low_at.ensures w.if-low_at.false))
    ]

pub returns : goal.returns
returns c = seek_end c.loop-i.invariant (omega arith)
