-- `nal_unit::taking::pairs` meets its contract: three bytes are a pair, and all others are as those three further on. Assumes nothing.
use Rattle.std.proofs.Common.{sym, ◌∙◌, rules}
use Rattle.nal_unit.specs.Taking.{alike}
use Rattle.nal_unit.specs.TakingCode.{pairs_not, pairs_by}
use Rattle.nal_unit.proofs.taking.pairs.Goals as goal

pub returns-then-pair : goal.returns-then-pair
unfolding alike
returns-then-pair c =
    pairs_by c.at_each.result c.args.s.now c.args.p c.args.n (sym c.pair.ensures ∙ c.if-pair.true)
    (λ e k a l. let h = c.at_each.ensures.holds e k a l in search rules)
    (λ e. let w = c.at_each.ensures.fails e in (w.0, w.1, w.2, let h = w.3 in search rules))

pub returns-else-pair : goal.returns-else-pair
returns-else-pair c =
    let a = c.args in
    c.if-pair.false ∙ pairs_not a.s.now a.p a.n (sym c.pair.ensures ∙ c.if-pair.false)
