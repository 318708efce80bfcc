-- `reader::samples::Row::zero_band` meets its contract: the lines of the band are zeros. Assumes nothing.
use Rattle.std.proofs.Common.{refl, ◌*◌, ◌≤◌, mul-le-mul_right, arith}
use Rattle.ycbcr_image.specs.Form.{block_row_bytes}
use Rattle.ycbcr_image.specs.Sizes.{sequence_of}
use Rattle.reader.specs.Samples.{BlockBy, block_by, dark_fits, dark_steps}
use Rattle.reader.proofs.samples.Row.zero_band.Goals as goal
use Rattle.reader.proofs.samples.Row.zero_band.Goals.{After-visible_rows-vh}

-- the numbers of the plane's blocks
by : (c : After-visible_rows-vh) → let a = c.args in
    BlockBy (sequence_of a.self.coded.q) a.k a.self.my 0 (block_row_bytes (sequence_of a.self.coded.q).form a.k) c.mb_height-bh.result c.visible_row_bytes-vb.result c.visible_rows-vh.result
by c =
    let f = c.args.self.coded.fine in
    block_by f c.args.k c.args.self.my 0 c.requires.k_bound.1 c.args.self.my_bound (omega (arith, f.across-low)) refl c.mb_height-bh.ensures c.visible_row_bytes-vb.ensures c.visible_rows-vh.ensures

pub overflow_sub-vh : goal.overflow_sub-vh
overflow_sub-vh c = omega (arith, (by (goal.at.overflow_sub-vh c).After-visible_rows-vh).down)

pub overflow_mul-self-3 : goal.overflow_mul-self-3
overflow_mul-self-3 c =
    let g = by (goal.at.overflow_mul-self-3 c).After-visible_rows-vh in
    let m : c.args.self.my * c.mb_height-bh.result ≤ c.visible_rows-vh.result = omega (arith, g.down) in
    omega (arith, g.tight_few, mul-le-mul_right c.visible_row_bytes-vb.result m)

pub write_zeros-requires : goal.write_zeros-requires
write_zeros-requires c = dark_fits (by (goal.at.write_zeros-requires c).After-visible_rows-vh) c.min-h.ensures c.requires.k_in_bounds

pub returns : goal.returns
returns c =
    dark_steps c.args.self.coded.fine c.requires.k_bound.0 c.requires.k_bound.1 (by (goal.at.returns c).After-visible_rows-vh) c.requires.dark c.min-h.ensures c.requires.k_in_bounds c.write_zeros.ensures
