-- `reader::unit::NalUnit::has_heads` meets its contract. The loop's invariant: the place of a macroblock's samples, and the heads that are right. Assumes nothing.
use Rattle.reader.specs.Heads.{heading_start, heading_not, heading_turn, heading_end}
use Rattle.reader.proofs.unit.NalUnit.has_heads.Goals as goal

pub loop-i-init : goal.loop-i-init
loop-i-init c = heading_start c.args.size c.args.n c.requires.stands c.requires.n_nonzero.0 c.requires.n_nonzero.1

pub returns-then-not-begins : goal.returns-then-not-begins
returns-then-not-begins c = heading_not _ c.loop-i.invariant c.loop-i-test.true c.pass-p.ensures c.begins.ensures c.if-not-begins.true

pub loop-i-preserved : goal.loop-i-preserved
loop-i-preserved c = heading_turn c.loop-i.invariant c.loop-i-test.true c.pass-p.ensures c.begins.ensures c.if-not-begins.false c.pass-p-in-loop-i.ensures

pub returns : goal.returns
returns c = heading_end c.loop-i.invariant c.loop-i-test.false c.pass-p-2.ensures c.byte_at.ensures
