-- `reader::unit::NalUnit::begins` meets its contract. The loop's invariant: the bytes that are there. Assumes nothing.
use Rattle.reader.specs.Heads.{beginning_some, beginning_not, beginning_turn, beginning_end}
use Rattle.reader.proofs.unit.NalUnit.begins.Goals as goal

pub returns-then-byte_at-b : goal.returns-then-byte_at-b
returns-then-byte_at-b c =
    let g = c.loop-b.invariant in
    let l = c.loop-b-test.true in
    beginning_not g l (beginning_some g l c.requires.v_in_bounds) c.byte_at.ensures c.if-byte_at-b.true

pub loop-b-preserved : goal.loop-b-preserved
loop-b-preserved c =
    let g = c.loop-b.invariant in
    let l = c.loop-b-test.true in
    beginning_turn g l (beginning_some g l c.requires.v_in_bounds) c.byte_at.ensures c.if-byte_at-b.false c.past-p.ensures

pub returns : goal.returns
returns c = beginning_end c.loop-b.invariant c.loop-b-test.false
