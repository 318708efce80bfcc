-- `nal_unit::taking::pass` meets its contract: calm bytes are passed as they stand. Assumes nothing.
use Rattle.std.proofs.Common.{◌≤◌, ◌+◌, sym, ◌∙◌, arith}
use Rattle.nal_unit.specs.Kept.{kept_room}
use Rattle.nal_unit.specs.Taking.{pass-calm, calm_behind}
use Rattle.nal_unit.proofs.taking.pass.Goals as goal

pub returns-then-c-p : goal.returns-then-c-p
returns-then-c-p c =
    let a = c.args in
    let r : a.p + a.n ≤ a.e = kept_room a.s.now a.p a.e a.n (omega arith) (omega arith) c.requires.n_in_bounds in
    pass-calm a.p a.e a.n (omega arith) r (omega arith) (calm_behind a.s.now a.c a.p a.e a.n (omega arith) (omega arith) r (omega arith) c.requires.e_value)

pub returns-then-calm : goal.returns-then-calm
returns-then-calm c =
    let a = c.args in
    let r : a.p + a.n ≤ a.e = kept_room a.s.now a.p a.e a.n (omega arith) (omega arith) c.requires.n_in_bounds in
    pass-calm a.p a.e a.n (omega arith) r (omega arith) (sym c.calm.ensures ∙ c.if-calm.true)
