-- `reader::samples::Row::take_band` meets its contract: the lines of the band are the plane's. Assumes nothing.
use Rattle.std.proofs.Common.{◌*◌, ◌≤◌, ◌<◌, mul-le-mul_right, arith}
use Rattle.ycbcr_image.specs.Sizes.{sequence_of}
use Rattle.reader.specs.Samples.{BlockBy, block_by, band_room, band_fits, band_steps}
use Rattle.reader.proofs.samples.Row.take_band.Goals as goal
use Rattle.reader.proofs.samples.Row.take_band.Goals.{After-visible_rows-vh}

-- the numbers of the plane's blocks
by : (c : After-visible_rows-vh) → let a = c.args in
    BlockBy (sequence_of a.self.coded.q) a.k a.self.my 0 c.block_row_bytes-bw.result c.mb_height-bh.result c.visible_row_bytes-vb.result c.visible_rows-vh.result
by c =
    let f = c.args.self.coded.fine in
    block_by f c.args.k c.args.self.my 0 c.requires.k_bound.1 c.args.self.my_bound (omega (arith, f.across-low)) c.block_row_bytes-bw.ensures c.mb_height-bh.ensures c.visible_row_bytes-vb.ensures c.visible_rows-vh.ensures

some : (c : After-visible_rows-vh) → 0 < c.block_row_bytes-bw.result
some c = omega (arith, (by c).row, (c.args.self.coded.fine.present c.args.k c.requires.k_bound.1).block-row)

pub overflow_sub-vh : goal.overflow_sub-vh
overflow_sub-vh c = omega (arith, (by (goal.at.overflow_sub-vh c).After-visible_rows-vh).down)

pub overflow_add-self-2 : goal.overflow_add-self-2
overflow_add-self-2 c =
    let p = (goal.at.overflow_add-self-2 c).After-visible_rows-vh in
    let g = band_room c.args.self.coded.fine c.requires.k_bound.0 c.requires.k_bound.1 (by p) c.requires.row_stands c.min-h.ensures c.mb_bytes-size.ensures c.requires.off_value in
    omega (arith, g.last, g.few)

pub overflow_mul-self-3 : goal.overflow_mul-self-3
overflow_mul-self-3 c =
    let g = by (goal.at.overflow_mul-self-3 c).After-visible_rows-vh in
    let m : c.args.self.my * c.mb_height-bh.result ≤ c.visible_rows-vh.result = omega (arith, g.down) in
    omega (arith, g.tight_few, mul-le-mul_right c.visible_row_bytes-vb.result m)

pub band-requires-clause-banded : goal.band-requires-clause-banded
band-requires-clause-banded c =
    let p = (goal.at.band-requires-clause-banded c).After-visible_rows-vh in
    band_room c.args.self.coded.fine c.requires.k_bound.0 c.requires.k_bound.1 (by p) c.requires.row_stands c.min-h.ensures c.mb_bytes-size.ensures c.requires.off_value

pub band-requires-clause-rest_in_bounds : goal.band-requires-clause-rest_in_bounds
band-requires-clause-rest_in_bounds c =
    let p = (goal.at.band-requires-clause-rest_in_bounds c).After-visible_rows-vh in
    band_fits (by p) c.min-h.ensures (some p) c.requires.k_in_bounds

pub returns : goal.returns
returns c =
    band_steps c.args.self.coded.fine c.requires.k_bound.0 c.requires.k_bound.1 (by (goal.at.returns c).After-visible_rows-vh) c.requires.row_stands c.min-h.ensures c.mb_bytes-size.ensures c.requires.off_value c.requires.k_in_bounds c.band.ensures
