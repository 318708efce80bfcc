-- `slice::Picture::samples` meets its contract: the three blocks in turn. Assumes nothing.
use Rattle.std.proofs.Common.{arith}
use Rattle.slice.specs.Macroblocks.{inside, second_room, third_room, samples_laid}
use Rattle.slice.proofs.picture.Picture.samples.Goals as goal

pub block-a-requires-clause-inside : goal.block-a-requires-clause-inside
block-a-requires-clause-inside c =
    inside c.args.self.now.ready 0 c.args.my c.args.mx (omega arith) c.requires.my_bound.0 c.requires.my_bound.1

pub block-b-requires-clause-inside : goal.block-b-requires-clause-inside
block-b-requires-clause-inside c =
    inside c.args.self.now.ready 1 c.args.my c.args.mx (omega arith) c.requires.my_bound.0 c.requires.my_bound.1

pub block-b-requires-clause-p_in_bounds : goal.block-b-requires-clause-p_in_bounds
block-b-requires-clause-p_in_bounds c =
    omega (arith, second_room c.args.self.now.ready c.args.my c.args.mx c.requires.my_bound.0 c.requires.my_bound.1 c.requires.s_in_bounds c.block-a.ensures)

pub block-requires-clause-inside : goal.block-requires-clause-inside
block-requires-clause-inside c =
    inside c.args.self.now.ready 2 c.args.my c.args.mx (omega arith) c.requires.my_bound.0 c.requires.my_bound.1

pub block-requires-clause-p_in_bounds : goal.block-requires-clause-p_in_bounds
block-requires-clause-p_in_bounds c =
    let r = c.args.self.now.ready in
    let h = c.requires.my_bound.0 in
    let k = c.requires.my_bound.1 in
    let my = c.args.my in
    let mx = c.args.mx in
    third_room r my mx h k (second_room r my mx h k c.requires.s_in_bounds c.block-a.ensures) c.block-b.ensures

pub returns : goal.returns
returns c =
    let r = c.args.self.now.ready in
    let h = c.requires.my_bound.0 in
    let k = c.requires.my_bound.1 in
    let my = c.args.my in
    let mx = c.args.mx in
    samples_laid r my mx h k c.requires.s_in_bounds c.block-a.ensures c.block-b.ensures c.block.ensures
