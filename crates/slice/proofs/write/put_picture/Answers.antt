-- `slice::write::put_picture` meets its contract: the macroblocks, then the last byte. Assumes nothing.
use Rattle.lists.specs.Part.{part}
use Rattle.ycbcr_image.specs.Sizes.{sequence_of}
use Rattle.slice.specs.Macroblocks.{lends_in, picture_first, picture_last_room, picture_put}
use Rattle.slice.proofs.write.put_picture.Goals as goal

pub put_rows-a-requires-clause-s_in_bounds : goal.put_rows-a-requires-clause-s_in_bounds
put_rows-a-requires-clause-s_in_bounds c =
    picture_first (sequence_of c.args.s) (lends_in c.args.planes) c.args.out.now c.args.at c.requires.strides_in_bounds

pub put_slice-requires-clause-n_in_bounds_2 : goal.put_slice-requires-clause-n_in_bounds_2
unfolding part
put_slice-requires-clause-n_in_bounds_2 c =
    picture_last_room (sequence_of c.args.s) (lends_in c.args.planes) c.args.out.now c.args.at c.requires.strides_in_bounds c.put_rows-a.ensures

pub returns : goal.returns
unfolding part
returns c =
    picture_put (sequence_of c.args.s) (lends_in c.args.planes) c.args.out.now c.args.at c.requires.strides_in_bounds c.put_rows-a.ensures c.put_slice.ensures
