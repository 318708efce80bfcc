-- `reader::read` meets its contract: the end, bytes that belong to no unit, or a unit. Assumes nothing.
use Rattle.std.proofs.Common.{arith}
use Rattle.reader.specs.ReadCode.{next_inside, next_three, reads-beyond, reads-stray, reads_over, reads-unit}
use Rattle.reader.proofs.read.Goals as goal

pub returns-then-take-place : goal.returns-then-take-place
returns-then-take-place c =
    let a = c.args in
    reads-beyond a.take.now a.reader a.y.now a.cb.now a.cr.now c.if-take-place.true

pub all_zero-requires : goal.all_zero-requires
all_zero-requires c =
    let a = c.args in
    next_inside a.take.now a.reader.place (omega (arith, c.if-take-place.false)) c.next_code-code.ensures

pub returns-then-not-all_zero : goal.returns-then-not-all_zero
returns-then-not-all_zero c =
    let a = c.args in
    reads-stray a.take.now a.reader a.y.now a.cb.now a.cr.now c.next_code-code.ensures c.all_zero.ensures c.if-not-all_zero.true

pub returns-then-take-code : goal.returns-then-take-code
returns-then-take-code c =
    let a = c.args in
    reads_over a.take.now a.reader a.y.now a.cb.now a.cr.now c.next_code-code.ensures c.all_zero.ensures c.if-not-all_zero.false c.if-take-code.true

pub read_unit-requires : goal.read_unit-requires
read_unit-requires c =
    let a = c.args in
    (omega arith, next_three a.take.now a.reader.place c.next_code-code.ensures c.if-take-code.false)

pub returns : goal.returns
returns c =
    let a = c.args in
    reads-unit a.take.now a.reader a.y.now a.cb.now a.cr.now c.next_code-code.ensures c.all_zero.ensures c.if-not-all_zero.false c.if-take-code.false c.read_unit.ensures
