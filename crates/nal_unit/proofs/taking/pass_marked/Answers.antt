-- `nal_unit::taking::pass_marked` meets its contract: zeros are passed at once. Assumes nothing.
use Rattle.std.proofs.Common.{arith}
use Rattle.nal_unit.specs.Taking.{pass-zeros}
use Rattle.nal_unit.specs.TakingCode.{zeros-behind, zeros-are}
use Rattle.nal_unit.proofs.taking.pass_marked.Goals as goal

pub returns-in-Some : goal.returns-in-Some
returns-in-Some c =
    let a = c.args in
    let h = zeros-behind a.s.now a.p a.e a.n c.in-Some.r c.in-Some.ensures in
    pass-zeros a.p a.e c.in-Some.r a.n (omega arith) (omega arith) (omega arith) (zeros-are a.s.now a.p a.e a.n c.in-Some.r (omega arith) (omega arith) (omega arith) c.in-Some.ensures)
