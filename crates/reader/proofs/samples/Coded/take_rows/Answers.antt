-- `reader::samples::Coded::take_rows` meets its contract. The loop's invariant: the rows that are taken, and the places behind them. Assumes nothing.
use Rattle.std.proofs.Common.{mul-le-mul_right, arith}
use Rattle.reader.specs.Samples.{rows_start, rows-kept, rows_room, rows_cut, rows_rest, rows_turn, rows_end}
use Rattle.reader.proofs.samples.Coded.take_rows.Goals as goal

pub loop-y-init : goal.loop-y-init
loop-y-init g c =
    rows_start c.args.out.now c.args.at c.args.w c.args.bw c.args.step c.args.h c.requires.0 c.requires.1.0.0 c.requires.1.0.1 c.requires.1.1.0

pub take_row-p-requires-clause-le_p : goal.take_row-p-requires-clause-le_p
take_row-p-requires-clause-le_p g c =
    let t = c.loop-y.invariant.took.at in
    (t.low, t.high, t.inside)

pub take_row-p-requires-clause-n_in_bounds : goal.take_row-p-requires-clause-n_in_bounds
take_row-p-requires-clause-n_in_bounds g c = rows-kept c.loop-y.invariant c.loop-y-test.true

pub take_row-p-requires-clause-n_in_bounds_2 : goal.take_row-p-requires-clause-n_in_bounds_2
take_row-p-requires-clause-n_in_bounds_2 g c = rows_room c.loop-y.invariant c.loop-y-test.true

pub skip-p-requires-clause-le_p : goal.skip-p-requires-clause-le_p
skip-p-requires-clause-le_p g c =
    let t = rows_cut c.loop-y.invariant c.take_row-p.ensures in
    (t.low, t.high, t.inside)

pub skip-p-requires-clause-n_in_bounds : goal.skip-p-requires-clause-n_in_bounds
skip-p-requires-clause-n_in_bounds g c = rows_rest c.loop-y.invariant c.loop-y-test.true c.take_row-p.ensures

pub overflow_add-a : goal.overflow_add-a
overflow_add-a g c = omega (arith, c.loop-y.invariant.place, c.requires.1.1, mul-le-mul_right c.args.step c.loop-y-test.true)

pub loop-y-preserved : goal.loop-y-preserved
loop-y-preserved g c = rows_turn c.loop-y.invariant c.loop-y-test.true c.take_row-p.ensures c.skip-p.ensures

pub returns : goal.returns
returns g c = rows_end c.loop-y.invariant c.loop-y-test.false
