-- `nal_unit::taking::inserted_at` meets its contract: no bit is set exactly where both bytes before are 0 and the byte is 3. Assumes nothing.
use Rattle.std.proofs.Common.{sym, ◌∙◌, arith, get_or, ◌-◌}
use Rattle.nal_unit.specs.Kept.{ins_at_lem}
use Rattle.nal_unit.specs.TakingCode.{ins-bits}
use Rattle.nal_unit.proofs.taking.inserted_at.Goals as goal

pub returns : goal.returns
returns c =
    let a = c.args in
    ins-bits (get_or a.s.now (a.p - 2) 0) (get_or a.s.now (a.p - 1) 0) (get_or a.s.now a.p 0) ∙ sym (ins_at_lem a.s.now a.p (omega arith))
