-- `nal_unit::taking::pair` meets its contract: the inserted byte is the first of the three, the second or the third. Assumes nothing.
use Rattle.std.proofs.Common.{sym, ◌∙◌}
use Rattle.nal_unit.specs.TakingCode.{pair_first, pair-second, pair-third}
use Rattle.nal_unit.proofs.taking.pair.Goals as goal

pub returns-then-inserted_at : goal.returns-then-inserted_at
returns-then-inserted_at c =
    let a = c.args in
    pair_first a.s.now a.p (sym c.inserted_at.ensures ∙ c.if-inserted_at.true)

pub returns-then-inserted_at-2 : goal.returns-then-inserted_at-2
returns-then-inserted_at-2 c =
    let a = c.args in
    pair-second a.s.now a.p (sym c.inserted_at.ensures ∙ c.if-inserted_at.false) (sym c.inserted_at-2.ensures ∙ c.if-inserted_at-2.true)

pub returns : goal.returns
returns c =
    let a = c.args in
    c.inserted_at-3.ensures ∙ pair-third a.s.now a.p (sym c.inserted_at.ensures ∙ c.if-inserted_at.false) (sym c.inserted_at-2.ensures ∙ c.if-inserted_at-2.false)
