-- `nal_unit::count::count64` meets its contract: a quiet stretch is its own escape, 64 zeros take 96 bytes, and the byte loop counts any other. Assumes nothing.
use Rattle.std.proofs.Common.{sym, ◌∙◌}
use Rattle.nal_unit.specs.CalmCode.{quiet-part, zero-part}
use Rattle.nal_unit.specs.CountCode.{counts-quiet, counts-blanks}
use Rattle.nal_unit.proofs.count.count64.Goals as goal

pub returns-then-calm : goal.returns-then-calm
returns-then-calm c =
    rw c.zeros_before.ensures
    (counts-quiet c.args.s.now c.args.p 62 c.args.z c.requires.z_bound c.requires.le_p.1
    (quiet-part c.args.s.now c.args.p 64 c.args.z c.requires.le_p.1 c.requires.z_bound c.requires.z_bound_2 (sym c.calm.ensures ∙ c.if-calm.true)))

pub returns-then-void : goal.returns-then-void
returns-then-void c =
    rw (zero-part c.args.s.now c.args.p 64 c.requires.le_p.1 (sym c.void.ensures ∙ c.if-void.true)) (counts-blanks c.args.z c.if-z-gt0.true c.requires.z_bound)
