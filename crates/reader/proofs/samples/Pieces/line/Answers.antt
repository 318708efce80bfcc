-- `reader::samples::Pieces::line` meets its contract: the whole pieces, and where there are more bytes those. Assumes nothing.
use Rattle.std.proofs.Common.{◌≡◌, ◌*◌, arith, length}
use Rattle.slice.specs.Cat.{cat, cat-length, rows_of}
use Rattle.slice.specs.Laid.{laid-length}
use Rattle.reader.specs.Bands.{pieces_even, line_whole, line_more}
use Rattle.reader.proofs.samples.Pieces.line.Goals as goal
use Rattle.reader.proofs.samples.Pieces.line.Goals.{After-lay_rows-a}

-- the whole pieces have their bytes
long : (c : After-lay_rows-a) → let a = c.args in length (cat (rows_of a.self.s.now a.self.unit a.p a.self.bw) 0 a.self.full) ≡ a.self.full * a.self.bw
long c = let a = c.args in cat-length (pieces_even a.self.s.now a.self.unit a.p a.self.bw a.self.full a.self.rest c.requires.pieced)

pub returns-then-self-eq0 : goal.returns-then-self-eq0
returns-then-self-eq0 c =
    let a = c.args in
    line_whole a.self.s.now a.self.unit a.p a.self.bw a.self.full c.if-self-eq0.true c.lay_rows-a.ensures

pub copy-requires-clause-n_in_bounds_2 : goal.copy-requires-clause-n_in_bounds_2
copy-requires-clause-n_in_bounds_2 c =
    let g = c.lay_rows-a.ensures in
    let l = long (goal.at.copy-requires-clause-n_in_bounds_2 c).After-lay_rows-a in
    omega (arith, l, g.place, c.requires.rest_in_bounds, laid-length g (omega (arith, l, c.requires.rest_in_bounds)))

pub overflow_add-result : goal.overflow_add-result
overflow_add-result c =
    omega (arith, long (goal.at.overflow_add-result c).After-lay_rows-a, c.lay_rows-a.ensures.place, c.requires.rest_in_bounds)

pub returns : goal.returns
returns c = line_more c.args.self.s.now c.requires.pieced c.requires.rest_in_bounds c.lay_rows-a.ensures c.copy.ensures
