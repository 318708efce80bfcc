-- `nal_unit::taking::skip` meets its contract: of the n bytes, those before q are passed, and `left` are not. Assumes nothing.
use Rattle.std.proofs.Common.{arith, rules}
use Rattle.nal_unit.specs.TakingCode.{skip_start, skip_turn}
use Rattle.nal_unit.proofs.taking.skip.Goals as goal

pub loop-left-init : goal.loop-left-init
loop-left-init c =
    (search rules, skip_start c.args.s.now c.args.p c.args.e c.args.n c.requires.le_p.1 c.requires.le_p.2 c.requires.n_in_bounds)

pub loop-left-preserved : goal.loop-left-preserved
loop-left-preserved c =
    (omega arith, rw c.count_inserted-m.ensures (skip_turn c.loop-left.invariant.1 (omega arith) c.requires.le_p.2))
