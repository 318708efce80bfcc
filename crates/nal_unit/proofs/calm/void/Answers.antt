-- `nal_unit::calm::void` meets its contract: the test of all bytes is that of each. Assumes nothing.
use Rattle.std.proofs.Common.{rules}
use Rattle.nal_unit.specs.CalmCode.{zero_at, every_by}
use Rattle.nal_unit.proofs.calm.void.Goals as goal

pub returns : goal.returns
unfolding zero_at
returns c =
    every_by c.at_each.result (zero_at c.args.s.now) c.args.p c.args.n (λ e k a l. let h = c.at_each.ensures.holds e k a l in search rules) (λ e. let w = c.at_each.ensures.fails e in (w.0, w.1, w.2, let h = w.3 in search rules))
