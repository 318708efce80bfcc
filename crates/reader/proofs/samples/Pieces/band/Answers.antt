-- `reader::samples::Pieces::band` meets its contract. The loop's invariant: the lines that are laid. Assumes nothing.
use Rattle.std.proofs.Common.{refl, ◌+◌, ◌*◌, arith}
use Rattle.slice.specs.Cat.{Even, cat-length}
use Rattle.slice.specs.Laid.{laying_start, laying_room, laying_turn, laying_end}
use Rattle.reader.specs.Bands.{lines_of, lines_even, line-laid}
use Rattle.reader.proofs.samples.Pieces.band.Goals as goal
use Rattle.reader.proofs.samples.Pieces.band.Goals.{Start}

-- the lines have their bytes
even : (c : Start) → let a = c.args in Even (lines_of a.self.s.now a.self.unit a.p a.self.bw a.self.full a.self.rest) (a.self.full * a.self.bw + a.self.rest) 0 a.h
even c = let a = c.args in lines_even a.self.s.now a.self.unit a.p a.self.bw a.self.full a.self.rest a.h c.requires.banded

pub loop-y-init : goal.loop-y-init
loop-y-init c =
    laying_start c.args.out.now c.args.at _ 0 c.args.h (omega (arith, cat-length (even (goal.at.loop-y-init c).Start), c.requires.rest_in_bounds))

pub line-a-requires-clause-rest_in_bounds : goal.line-a-requires-clause-rest_in_bounds
line-a-requires-clause-rest_in_bounds c =
    omega (arith, laying_room c.loop-y.invariant c.loop-y-test.true, (even (goal.at.line-a-requires-clause-rest_in_bounds c).Start).each c.loop-y.y c.loop-y-test.true)

pub loop-y-preserved : goal.loop-y-preserved
loop-y-preserved c =
    let a = c.args in
    laying_turn c.loop-y.invariant c.loop-y-test.true (line-laid a.self.s.now a.self.unit a.p a.self.bw a.self.full a.self.rest c.loop-y.y refl c.line-a.ensures)

pub returns : goal.returns
returns c = laying_end c.loop-y.invariant c.loop-y-test.false
