-- `nal_unit::taking::zeros` meets its contract: the place is found where all four tests are met. Assumes nothing.
use Rattle.std.proofs.Common.{sym, ◌∙◌, arith}
use Rattle.nal_unit.specs.TakingCode.{zeros-found, zeros_not, zeros_short, zeros_odd, zeros_few}
use Rattle.nal_unit.proofs.taking.zeros.Goals as goal
use Rattle.nal_unit.proofs.taking.zeros.Goals.{else-m-gt0-via-then-m-gt0+then-m-n+then-m-e+else-pairs, else-m-gt0-via-then-m-gt0+then-m-n+else-m-e, else-m-gt0-via-then-m-gt0+else-m-n, else-m-gt0-via-else-m-gt0}

pub returns-then-pairs : goal.returns-then-pairs
returns-then-pairs c =
    let a = c.args in
    zeros-found a.s.now a.p a.e a.n (omega arith) c.if-m-n.true (omega arith) (sym c.pairs.ensures ∙ c.if-pairs.true)

pub returns : goal.returns
returns c =
    let a = c.args in
    elim c.else-m-gt0.branch [
      | else-m-gt0-via-then-m-gt0+then-m-n+then-m-e+else-pairs w ↦ zeros_not a.s.now a.p a.e a.n (sym w.pairs.ensures ∙ w.if-pairs.false)
      | else-m-gt0-via-then-m-gt0+then-m-n+else-m-e w ↦ zeros_short a.s.now a.p a.e a.n (omega arith)
      | else-m-gt0-via-then-m-gt0+else-m-n w ↦ zeros_odd a.s.now a.p a.e a.n w.if-m-n.false
      | else-m-gt0-via-else-m-gt0 w ↦ zeros_few a.s.now a.p a.e a.n (omega arith)
    ]
