-- `nal_unit::rows::copy` meets its contract, by the laws of a copy of any width. Assumes nothing.
use Rattle.std.proofs.Common.{arith}
use Rattle.lists.specs.Part.{part, part_length}
use Rattle.lists.specs.Copy.{copy_start, copy-part, copy_end}
use Rattle.nal_unit.proofs.rows.copy.Goals as goal

pub loop-k-init : goal.loop-k-init
loop-k-init c =
    let a = c.args in
    copy_start a.out.now a.at (part a.s.now a.p a.n) (omega (arith, part_length a.s.now a.p a.n c.requires.n_in_bounds, c.requires))

pub bounds-out-at : goal.bounds-out-at
bounds-out-at c = omega (arith, c.loop-k.invariant.writing.long, c.requires)

pub loop-k-preserved : goal.loop-k-preserved
loop-k-preserved c = copy-part c.args.s.now c.args.p c.args.n c.loop-k.invariant c.requires.n_in_bounds c.loop-k-test.true

pub returns : goal.returns
returns c =
    let a = c.args in
    copy_end c.loop-k.invariant (omega (arith, part_length a.s.now a.p a.n c.requires.n_in_bounds, c.loop-k-test.false))
