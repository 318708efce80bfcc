-- `slice::macroblock::copy_any_rows` meets its contract. The loop's invariant: the rows that are laid. Assumes nothing.
use Rattle.slice.proofs.Rows.{rows_start, rows_turn}
use Rattle.slice.proofs.macroblock.copy_any_rows.Goals as goal

pub loop-k-init : goal.loop-k-init
loop-k-init c =
    let a = c.args in
    rows_start a.s.now a.p a.stride a.w a.h c.requires.w_in_bounds.0 a.out.now a.at c.requires.w_in_bounds_2

pub loop-k-preserved : goal.loop-k-preserved
loop-k-preserved c =
    let a = c.args in
    rows_turn a.s.now a.p a.stride a.w a.h c.requires.w_in_bounds.0 c.loop-k.invariant c.loop-k-test.true c.copy.ensures
