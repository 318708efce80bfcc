-- `slice::count::escaped_len` meets its contract: the macroblocks, and one byte more, which is never escaped. Assumes nothing.
use Rattle.std.proofs.Common.{arith}
use Rattle.nal_unit.specs.CountCode.{counts-fit}
use Rattle.ycbcr_image.specs.Sizes.{sequence_of}
use Rattle.slice.specs.Macroblocks.{lends_in, rows_most, picture_counted}
use Rattle.slice.proofs.count.escaped_len.Goals as goal

pub overflow_add-result : goal.overflow_add-result
overflow_add-result c = omega (arith, counts-fit (omega arith) c.count_rows-r.ensures, rows_most c.requires)

pub returns : goal.returns
returns c =
    let s = c.args in
    picture_counted (sequence_of s.s) (lends_in s.planes) c.count_rows-r.ensures
