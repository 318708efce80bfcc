-- `encoder::sets_len` meets its contract: both payloads are counted where they are held. Assumes nothing.
use Rattle.std.proofs.Common.{arith}
use Rattle.ycbcr_image.specs.Sizes.{sequence_of}
use Rattle.encoder.specs.Code.{sets-length, sps-counted, sps_few, pps_counted}
use Rattle.encoder.proofs.sets_len.Goals as goal

pub overflow_add-result : goal.overflow_add-result
overflow_add-result c =
    let a = sps-counted c.sps-sps.ensures c.count_slice-a.ensures in
    let m = sps_few c.args.s c.requires in
    omega arith

pub overflow_add-result-2 : goal.overflow_add-result-2
overflow_add-result-2 c =
    let a = sps-counted c.sps-sps.ensures c.count_slice-a.ensures in
    let m = sps_few c.args.s c.requires in
    omega (arith, pps_counted c.pps-pps.ensures c.count_slice-b.ensures)

pub returns : goal.returns
returns c =
    let a = sps-counted c.sps-sps.ensures c.count_slice-a.ensures in
    let m = sps_few c.args.s c.requires in
    let b = pps_counted c.pps-pps.ensures c.count_slice-b.ensures in
    (omega (arith, sets-length (sequence_of c.args.s)), omega arith)
