-- `nal_unit::calm::plain` meets its contract: the three bytes by their bits. Assumes nothing.
use Rattle.std.proofs.Common.{◌≡◌, sym, ◌+◌, ◌-◌, arith}
use Rattle.nal_unit.specs.CalmCode.{plain-bits}
use Rattle.nal_unit.proofs.calm.plain.Goals as goal

pub returns : goal.returns
returns c =
    let k = c.args.k in
    let one : k - 2 + 1 ≡ k - 1 = omega arith in
    let two : k - 2 + 2 ≡ k = omega arith in
    sym (rw (one, two) at (plain-bits c.args.s.now k (k - 2) (omega arith) (omega arith) (omega (arith, c.type_inv.s (k - 2 + 2)))))
