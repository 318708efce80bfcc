-- `nal_unit::taking::next_at` meets its contract: it is the place itself, or the one behind the inserted byte there. Assumes nothing.
use Rattle.std.proofs.Common.{sym, ◌∙◌}
use Rattle.nal_unit.specs.TakingCode.{next_plain, next_more}
use Rattle.nal_unit.proofs.taking.next_at.Goals as goal

pub returns-then-inserted_at : goal.returns-then-inserted_at
returns-then-inserted_at c =
    next_more c.args.s.now c.args.p c.args.e c.requires.le_p.0 c.requires.le_p.1 c.requires.nonzero (sym c.inserted_at.ensures ∙ c.if-inserted_at.true)

pub returns : goal.returns
returns c =
    next_plain c.args.s.now c.args.p c.args.e c.requires.le_p.0 c.requires.le_p.1 c.requires.nonzero (sym c.inserted_at.ensures ∙ c.if-inserted_at.false)
