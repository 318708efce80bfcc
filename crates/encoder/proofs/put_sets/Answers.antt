-- `encoder::put_sets` meets its contract: one unit behind the other. Assumes nothing.
use Rattle.std.proofs.Common.{◌+◌, ◌≤◌, arith, length}
use Rattle.nal_unit.specs.UnitCode.{framed, framed-length}
use Rattle.ycbcr_image.specs.Sizes.{sequence_of}
use Rattle.parameter_sets.specs.Sps.{sps_payload, base_level}
use Rattle.encoder.specs.Units.{sps_header}
use Rattle.encoder.specs.Code.{sets-length, set_room, set-framed, second_room, framed_as, laid-sets}
use Rattle.encoder.proofs.put_sets.Goals as goal

pub open_unit-a-requires : goal.open_unit-a-requires
open_unit-a-requires c =
    omega (arith, c.requires.s_in_bounds, sets-length (sequence_of c.args.s))

pub put_slice-b-requires-clause-n_in_bounds_2 : goal.put_slice-b-requires-clause-n_in_bounds_2
put_slice-b-requires-clause-n_in_bounds_2 c =
    let q = sequence_of c.args.s in
    let g = c.sps-sps.ensures in
    let d = c.args.out.now in
    let m : 0 + length (framed sps_header (sps_payload base_level q)) ≤ length d = omega (arith, c.requires.s_in_bounds, sets-length q, framed-length sps_header (sps_payload base_level q)) in
    let o = c.open_unit-a.ensures in
    set_room d 0 sps_header g (omega arith) m o.out_after o.value

pub put_unit-requires-clause-payload_in_bounds : goal.put_unit-requires-clause-payload_in_bounds
put_unit-requires-clause-payload_in_bounds c =
    let q = sequence_of c.args.s in
    let g = c.sps-sps.ensures in
    let d = c.args.out.now in
    let m : 0 + length (framed sps_header (sps_payload base_level q)) ≤ length d = omega (arith, c.requires.s_in_bounds, sets-length q, framed-length sps_header (sps_payload base_level q)) in
    let o = c.open_unit-a.ensures in
    second_room q c.pps-pps.ensures c.requires.s_in_bounds (set-framed d 0 sps_header g (omega arith) m o.out_after o.value c.put_slice-b.ensures)

pub returns : goal.returns
returns c =
    let q = sequence_of c.args.s in
    let g = c.sps-sps.ensures in
    let d = c.args.out.now in
    let m : 0 + length (framed sps_header (sps_payload base_level q)) ≤ length d = omega (arith, c.requires.s_in_bounds, sets-length q, framed-length sps_header (sps_payload base_level q)) in
    let o = c.open_unit-a.ensures in
    laid-sets q c.requires.s_in_bounds (set-framed d 0 sps_header g (omega arith) m o.out_after o.value c.put_slice-b.ensures) (framed_as c.pps-pps.ensures c.put_unit.ensures)
