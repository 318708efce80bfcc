-- `nal_unit::calm::calm` meets its contract: the test of all bytes is that of each. Assumes nothing.
use Rattle.std.proofs.Common.{rules}
use Rattle.nal_unit.specs.CalmCode.{plain_at, every_by}
use Rattle.nal_unit.proofs.calm.calm.Goals as goal

pub returns : goal.returns
returns c =
    every_by c.at_each.result (plain_at c.args.s.now) c.args.p c.args.n (λ e k a l. let h = c.at_each.ensures.holds e k a l in search rules) (λ e. let w = c.at_each.ensures.fails e in (w.0, w.1, w.2, let h = w.3 in search rules))
