-- `reader::samples::Coded::take_block` meets its contract: what is visible of the rows is taken, the rest passed. Assumes nothing.
use Rattle.std.proofs.Common.{◌≡◌, sym, ◌-◌, ◌+◌, ◌*◌, ◌≤◌, mul-le-mul_right, arith, length}
use Rattle.nal_unit.specs.Kept.{kept}
use Rattle.ycbcr_image.specs.Sizes.{sequence_of, pic_width_in_mbs}
use Rattle.reader.specs.Heads.{payload_at}
use Rattle.reader.specs.Samples.{block_place, BlockBy, block_by, block-there, place_byte, stands_as, rows-took_as, taking, rest_most, rest_there, block-took}
use Rattle.reader.proofs.samples.Coded.take_block.Goals as goal
use Rattle.reader.proofs.samples.Coded.take_block.Goals.{After-visible_rows-vh}

-- the numbers of the block
by : (c : After-visible_rows-vh) → let a = c.args in
    BlockBy (sequence_of a.self.q) a.k a.my a.mx c.block_row_bytes-bw.result c.mb_height-bh.result c.visible_row_bytes-vb.result c.visible_rows-vh.result
by c =
    block_by c.args.self.fine c.args.k c.args.my c.args.mx c.requires.k_bound.1 c.requires.my_bound.0 c.requires.my_bound.1
    c.block_row_bytes-bw.ensures c.mb_height-bh.ensures c.visible_row_bytes-vb.ensures c.visible_rows-vh.ensures

-- where the block stands in the payload
byte : (c : After-visible_rows-vh) → let a = c.args in let X = payload_at a.self.unit.take.now a.self.unit.begin a.self.unit.end in
    length X - length (kept a.self.unit.take.now a.p a.self.unit.end) ≡ block_place (sequence_of a.self.q) (a.my * pic_width_in_mbs (sequence_of a.self.q) + a.mx) a.k
byte c =
    let a = c.args in
    place_byte c.requires.stands (omega (arith, block-there (payload_at a.self.unit.take.now a.self.unit.begin a.self.unit.end) a.self.fine a.self.exact a.k a.my a.mx c.requires.k_bound.0 c.requires.my_bound.0 c.requires.my_bound.1))

pub overflow_sub-vb : goal.overflow_sub-vb
overflow_sub-vb c = omega (arith, (by (goal.at.overflow_sub-vb c).After-visible_rows-vh).across)

pub overflow_sub-vh : goal.overflow_sub-vh
overflow_sub-vh c = omega (arith, (by (goal.at.overflow_sub-vh c).After-visible_rows-vh).down)

pub overflow_mul-my-3 : goal.overflow_mul-my-3
overflow_mul-my-3 c =
    let g = by (goal.at.overflow_mul-my-3 c).After-visible_rows-vh in
    let m : c.args.my * c.mb_height-bh.result ≤ c.visible_rows-vh.result = omega (arith, g.down) in
    omega (arith, g.tight_few, mul-le-mul_right c.visible_row_bytes-vb.result m)

pub overflow_add-my : goal.overflow_add-my
overflow_add-my c =
    let g = by (goal.at.overflow_add-my c).After-visible_rows-vh in
    let m : c.args.my * c.mb_height-bh.result ≤ c.visible_rows-vh.result = omega (arith, g.down) in
    omega (arith, g.tight_few, mul-le-mul_right c.visible_row_bytes-vb.result m, g.across, g.wide_most)

pub take_rows-r-requires : goal.take_rows-r-requires
take_rows-r-requires c =
    let p = (goal.at.take_rows-r-requires c).After-visible_rows-vh in
    let a = c.args in
    let X = payload_at a.self.unit.take.now a.self.unit.begin a.self.unit.end in
    let there = block-there X a.self.fine a.self.exact a.k a.my a.mx c.requires.k_bound.0 c.requires.my_bound.0 c.requires.my_bound.1 in
    let t = taking _ _ (block_place (sequence_of a.self.q) (a.my * pic_width_in_mbs (sequence_of a.self.q) + a.mx) a.k) (length X) (length a.out.now) (by p) c.min-w.ensures c.min-h.ensures there c.requires.k_in_bounds in
    (stands_as (sym (byte p)) c.requires.stands, ((t.narrow, omega (arith, t.there, byte p)), (t.room, t.rows)))

pub overflow_mul-bh : goal.overflow_mul-bh
overflow_mul-bh c = omega (arith, rest_most (by (goal.at.overflow_mul-bh c).After-visible_rows-vh) c.min-h.ensures)

pub skip-requires-clause-n_in_bounds : goal.skip-requires-clause-n_in_bounds
skip-requires-clause-n_in_bounds c =
    let p = (goal.at.skip-requires-clause-n_in_bounds c).After-visible_rows-vh in
    let a = c.args in
    let there = block-there (payload_at a.self.unit.take.now a.self.unit.begin a.self.unit.end) a.self.fine a.self.exact a.k a.my a.mx c.requires.k_bound.0 c.requires.my_bound.0 c.requires.my_bound.1 in
    rest_there (by p) c.min-h.ensures there (rows-took_as (byte p) c.take_rows-r.ensures)

pub returns : goal.returns
returns c =
    let p = (goal.at.returns c).After-visible_rows-vh in
    block-took (by p) c.min-w.ensures c.min-h.ensures (rows-took_as (byte p) c.take_rows-r.ensures) c.skip.ensures
