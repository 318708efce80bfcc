-- `nal_unit::unit::put_unit` meets its contract: the unit is opened, and the payload escaped behind. Assumes nothing.
use Rattle.std.proofs.Common.{refl, arith, length}
use Rattle.lists.specs.Part.{part_all}
use Rattle.nal_unit.specs.UnitCode.{framed-length}
use Rattle.nal_unit.proofs.UnitCode.{frame_room, frame-put}
use Rattle.nal_unit.proofs.unit.put_unit.Goals as goal

pub open_unit-a-requires : goal.open_unit-a-requires
open_unit-a-requires c = omega (arith, c.requires, framed-length c.args.header c.args.payload.now)

pub put_slice-requires-clause-n_in_bounds_2 : goal.put_slice-requires-clause-n_in_bounds_2
put_slice-requires-clause-n_in_bounds_2 c =
    rw (part_all c.args.payload.now (length c.args.payload.now) refl)
    (frame_room c.args.out.now c.args.at c.args.header c.args.payload.now c.requires.header_nonzero c.requires.payload_in_bounds c.open_unit-a.ensures.out_after c.open_unit-a.ensures.value)

pub returns : goal.returns
returns c =
    frame-put c.args.out.now c.args.at c.args.header c.args.payload.now c.requires.header_nonzero c.requires.payload_in_bounds c.open_unit-a.ensures.out_after c.open_unit-a.ensures.value
    (rw (part_all c.args.payload.now (length c.args.payload.now) refl) at c.put_slice.ensures)
