-- `slice::macroblock::macroblocks` meets its contract. The loop's invariant: the macroblocks that are laid. Assumes nothing.
use Rattle.std.proofs.Common.{◌*◌, add_assoc}
use Rattle.ycbcr_image.specs.Sizes.{sequence_of, pic_width_in_mbs}
use Rattle.slice.specs.Laid.{laying_start, laying_room, laying_turn}
use Rattle.slice.proofs.macroblock.macroblocks.Goals as goal

pub loop-k-init : goal.loop-k-init
loop-k-init c = laying_start _ _ _ _ _ c.requires.n_in_bounds

pub macroblock-a-requires-clause-mx_in_bounds : goal.macroblock-a-requires-clause-mx_in_bounds
macroblock-a-requires-clause-mx_in_bounds c =
    let e = add_assoc (c.args.my * pic_width_in_mbs (sequence_of c.args.s)) c.args.mx c.loop-k.k in
    rw e at (laying_room c.loop-k.invariant c.loop-k-test.true)

pub loop-k-preserved : goal.loop-k-preserved
loop-k-preserved c =
    let g = c.loop-k.invariant in
    let e = add_assoc (c.args.my * pic_width_in_mbs (sequence_of c.args.s)) c.args.mx c.loop-k.k in
    laying_turn g c.loop-k-test.true (rw e c.macroblock-a.ensures)
