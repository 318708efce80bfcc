-- `encoder::Admitted::put` meets its contract: the unit is opened, and the payload written behind. Assumes nothing.
use Rattle.std.proofs.Common.{arith, length}
use Rattle.nal_unit.proofs.UnitCode.{frame_room, frame-put}
use Rattle.ycbcr_image.specs.Sizes.{sequence_of}
use Rattle.slice.specs.Picture.{picture_of}
use Rattle.slice.specs.Macroblocks.{lends_in}
use Rattle.encoder.specs.Units.{picture_header}
use Rattle.encoder.specs.Code.{picture_size, laid_picture, picture_room}
use Rattle.encoder.proofs.Admitted.put.Goals as goal

pub open_unit-a-requires : goal.open_unit-a-requires
open_unit-a-requires c =
    let q = sequence_of c.args.self.now.session in
    let l = lends_in c.args.self.now.planes in
    let d = c.args.out.now in
    omega (arith, c.requires, picture_size q l)

pub put_picture-requires-clause-strides_in_bounds : goal.put_picture-requires-clause-strides_in_bounds
put_picture-requires-clause-strides_in_bounds c =
    let q = sequence_of c.args.self.now.session in
    let l = lends_in c.args.self.now.planes in
    let d = c.args.out.now in
    let o = c.open_unit-a.ensures in
    frame_room d c.args.at picture_header (picture_of q l) (omega arith) (picture_room q l c.args.at (length d) c.requires) o.out_after o.value

pub returns : goal.returns
returns c =
    let q = sequence_of c.args.self.now.session in
    let l = lends_in c.args.self.now.planes in
    let d = c.args.out.now in
    let o = c.open_unit-a.ensures in
    laid_picture q l (frame-put d c.args.at picture_header (picture_of q l) (omega arith) (picture_room q l c.args.at (length d) c.requires) o.out_after o.value c.put_picture.ensures)
