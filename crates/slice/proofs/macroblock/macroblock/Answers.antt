-- `slice::macroblock::macroblock` meets its contract: the head, then the samples. Assumes nothing.
use Rattle.std.proofs.Common.{arith, length}
use Rattle.slice.specs.Laid.{laid-length}
use Rattle.slice.specs.Macroblocks.{macroblock-laid, head_room}
use Rattle.slice.proofs.macroblock.macroblock.Goals as goal

pub head-a-requires : goal.head-a-requires
head-a-requires c =
    let r = c.requires.ready in
    let h = c.requires.my_bound.0 in
    let k = c.requires.my_bound.1 in
    let my = c.args.my in
    let mx = c.args.mx in
    omega (arith, head_room r my mx h k _ c.mbs_width-mw.ensures c.args.at (length c.args.out.now) c.requires.mx_in_bounds)

pub samples-requires-clause-s_in_bounds : goal.samples-requires-clause-s_in_bounds
samples-requires-clause-s_in_bounds c =
    let r = c.requires.ready in
    let h = c.requires.my_bound.0 in
    let k = c.requires.my_bound.1 in
    let my = c.args.my in
    let mx = c.args.mx in
    let m = head_room r my mx h k _ c.mbs_width-mw.ensures c.args.at (length c.args.out.now) c.requires.mx_in_bounds in
    let g = c.head-a.ensures in omega (arith, g.place, laid-length g (omega arith))

pub returns : goal.returns
returns c =
    let r = c.requires.ready in
    let h = c.requires.my_bound.0 in
    let k = c.requires.my_bound.1 in
    let my = c.args.my in
    let mx = c.args.mx in
    macroblock-laid r my mx h k _ c.mbs_width-mw.ensures c.requires.mx_in_bounds c.head-a.ensures c.samples.ensures
