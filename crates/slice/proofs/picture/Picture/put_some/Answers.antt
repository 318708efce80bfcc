-- `slice::Picture::put_some` meets its contract: the macroblocks are escaped where they were laid. Assumes nothing.
use Rattle.std.proofs.Common.{arith}
use Rattle.slice.specs.Laid.{laid-length}
use Rattle.slice.specs.Macroblocks.{some_most}
use Rattle.slice.specs.Pieces.{laid_room, mend_room, put-laid}
use Rattle.slice.proofs.picture.Picture.put_some.Goals as goal

pub macroblocks-end-requires-clause-n_in_bounds : goal.macroblocks-end-requires-clause-n_in_bounds
macroblocks-end-requires-clause-n_in_bounds c =
    laid_room c.args.out.now c.args.at _ _ c.requires.n_in_bounds

pub mend-requires-clause-n_bound : goal.mend-requires-clause-n_bound
mend-requires-clause-n_bound c =
    let m = some_most c.args.self.now.s c.args.self.now.ready c.args.my c.args.mx c.args.n c.requires.my_bound.0 c.requires.my_bound.1 c.requires.n_bound in
    omega (arith, m, c.macroblocks-end.ensures.place)

pub mend-requires-clause-n_in_bounds : goal.mend-requires-clause-n_in_bounds
mend-requires-clause-n_in_bounds c =
    let g = c.macroblocks-end.ensures in
    let l = laid_room c.args.out.now c.args.at _ _ c.requires.n_in_bounds in
    omega (arith, l, g.place, laid-length g l)

pub mend-requires-clause-n_in_bounds_2 : goal.mend-requires-clause-n_in_bounds_2
mend-requires-clause-n_in_bounds_2 c =
    mend_room c.macroblocks-end.ensures c.requires.n_in_bounds

pub returns : goal.returns
returns c = put-laid c.macroblocks-end.ensures c.requires.n_in_bounds c.mend.ensures
