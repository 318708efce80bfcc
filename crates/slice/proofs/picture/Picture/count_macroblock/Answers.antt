-- `slice::Picture::count_macroblock` meets its contract: the macroblock is counted where it was laid. Assumes nothing.
use Rattle.std.proofs.Common.{arith}
use Rattle.slice.specs.Macroblocks.{macroblock_most}
use Rattle.slice.specs.Pieces.{counts-laid}
use Rattle.slice.proofs.picture.Picture.count_macroblock.Goals as goal

pub macroblock-n-requires-clause-mx_in_bounds : goal.macroblock-n-requires-clause-mx_in_bounds
macroblock-n-requires-clause-mx_in_bounds c =
    omega (arith, macroblock_most c.args.self.now.ready c.args.my c.args.mx c.requires.my_bound.0 c.requires.my_bound.1)

pub count_slice-requires-clause-n_in_bounds : goal.count_slice-requires-clause-n_in_bounds
count_slice-requires-clause-n_in_bounds c =
    omega (arith, c.macroblock-n.ensures.place, macroblock_most c.args.self.now.ready c.args.my c.args.mx c.requires.my_bound.0 c.requires.my_bound.1)

pub returns : goal.returns
returns c =
    counts-laid c.macroblock-n.ensures (omega (arith, macroblock_most c.args.self.now.ready c.args.my c.args.mx c.requires.my_bound.0 c.requires.my_bound.1)) c.count_slice.ensures
