-- `reader::samples::Row::take_calm` meets its contract: the row stands in the unit as it does in the payload, and each plane has its band. Assumes nothing.
use Rattle.std.proofs.Common.{◌≡◌, refl, sym, ap, ◌∙◌, ℕ, ◌+◌, ◌*◌, arith}
use Rattle.ycbcr_image.specs.Form.{block_bytes, mb_bytes, planes_some}
use Rattle.ycbcr_image.specs.Sizes.{sequence_of, pic_width_in_mbs}
use Rattle.nal_unit.specs.Taking.{Stands}
use Rattle.reader.specs.Heads.{payload_at}
use Rattle.reader.specs.Samples.{head_place, RowStands, row_there, row-stands, bytes_as, bytes_most, stands_at, in_colour, mono-row, colour-row}
use Rattle.reader.proofs.samples.Row.take_calm.Goals as goal
use Rattle.reader.proofs.samples.Row.take_calm.Goals.{Start, After-block_row_bytes, After-block_row_bytes-2, then-not-is_monochrome, else-not-is_monochrome}

-- the row of macroblocks and the place behind it
stood : (c : Start) → let a = c.args.self in let q = sequence_of a.coded.q in
    RowStands a.coded.unit.take.now (payload_at a.coded.unit.take.now a.coded.unit.begin a.coded.unit.end) q (a.my * pic_width_in_mbs q) a.p
    × Stands a.coded.unit.take.now a.coded.unit.end (payload_at a.coded.unit.take.now a.coded.unit.begin a.coded.unit.end) (head_place q (a.my * pic_width_in_mbs q + pic_width_in_mbs q)) (a.p + pic_width_in_mbs q * (2 + mb_bytes q.form))
stood c =
    let a = c.args.self in
    row-stands (a.my * pic_width_in_mbs (sequence_of a.coded.q)) a.stands refl (row_there a.coded.fine a.coded.exact a.my a.my_bound refl a.stands) c.requires.q_value

luma : (c : After-block_row_bytes) → c.mb_height.result * c.block_row_bytes.result ≡ block_bytes (sequence_of c.args.self.coded.q).form 0
luma c = bytes_as (sequence_of c.args.self.coded.q).form 0 c.mb_height.ensures c.block_row_bytes.ensures

chroma : (c : After-block_row_bytes-2) → c.mb_height-2.result * c.block_row_bytes-2.result ≡ block_bytes (sequence_of c.args.self.coded.q).form 1
chroma c = bytes_as (sequence_of c.args.self.coded.q).form 1 c.mb_height-2.ensures c.block_row_bytes-2.ensures

pub overflow_mul-luma : goal.overflow_mul-luma
overflow_mul-luma c = omega (arith, bytes_most c.args.self.coded.fine 0 c.mb_height.ensures c.block_row_bytes.ensures)

pub overflow_mul-chroma : goal.overflow_mul-chroma
overflow_mul-chroma c = omega (arith, bytes_most c.args.self.coded.fine 1 c.mb_height-2.ensures c.block_row_bytes-2.ensures)

pub take_band-requires-clause-row_stands : goal.take_band-requires-clause-row_stands
take_band-requires-clause-row_stands c = (stood (goal.at.take_band-requires-clause-row_stands c).Start).0

pub take_band-requires-clause-k_bound : goal.take_band-requires-clause-k_bound
take_band-requires-clause-k_bound c = (omega arith, planes_some (sequence_of c.args.self.coded.q).form)

pub take_band-requires-then-not-is_monochrome-clause-row_stands : goal.take_band-requires-then-not-is_monochrome-clause-row_stands
take_band-requires-then-not-is_monochrome-clause-row_stands c = (stood (goal.at.take_band-requires-then-not-is_monochrome-clause-row_stands c).Start).0

pub take_band-requires-then-not-is_monochrome-clause-k_bound : goal.take_band-requires-then-not-is_monochrome-clause-k_bound
take_band-requires-then-not-is_monochrome-clause-k_bound c =
    (omega arith, in_colour (sequence_of c.args.self.coded.q).form 1 (sym c.is_monochrome.ensures ∙ c.if-not-is_monochrome.true) (omega arith))

pub take_band-requires-then-not-is_monochrome-clause-off_value : goal.take_band-requires-then-not-is_monochrome-clause-off_value
take_band-requires-then-not-is_monochrome-clause-off_value c = luma (goal.at.take_band-requires-then-not-is_monochrome-clause-off_value c).After-block_row_bytes

pub overflow_add-luma : goal.overflow_add-luma
overflow_add-luma c =
    let g = c.args.self.coded.fine in
    omega (arith, bytes_most g 0 c.mb_height.ensures c.block_row_bytes.ensures, bytes_most g 1 c.mb_height-2.ensures c.block_row_bytes-2.ensures)

pub take_band-requires-then-not-is_monochrome-2-clause-row_stands : goal.take_band-requires-then-not-is_monochrome-2-clause-row_stands
take_band-requires-then-not-is_monochrome-2-clause-row_stands c = (stood (goal.at.take_band-requires-then-not-is_monochrome-2-clause-row_stands c).Start).0

pub take_band-requires-then-not-is_monochrome-2-clause-k_bound : goal.take_band-requires-then-not-is_monochrome-2-clause-k_bound
take_band-requires-then-not-is_monochrome-2-clause-k_bound c =
    (omega arith, in_colour (sequence_of c.args.self.coded.q).form 2 (sym c.is_monochrome.ensures ∙ c.if-not-is_monochrome.true) (omega arith))

pub take_band-requires-then-not-is_monochrome-2-clause-off_value : goal.take_band-requires-then-not-is_monochrome-2-clause-off_value
take_band-requires-then-not-is_monochrome-2-clause-off_value c =
    let p = goal.at.take_band-requires-then-not-is_monochrome-2-clause-off_value c in
    omega (arith, luma p.After-block_row_bytes, chroma p.After-block_row_bytes-2)

pub returns : goal.returns
returns c =
    let i = c.args.self.my * pic_width_in_mbs (sequence_of c.args.self.coded.q) in
    let at = stands_at (ap (λ (k : ℕ). c.args.self.p + k) (sym c.len.ensures)) (stood (goal.at.returns c).Start).1 in
    elim c.if-not-is_monochrome.branch [
      | then-not-is_monochrome w ↦ rw (w.cb-is, w.cr-is) (colour-row c.take_band.ensures w.take_band-then-not-is_monochrome.ensures w.take_band-then-not-is_monochrome-2.ensures at)
      | else-not-is_monochrome w ↦ rw (w.cb-is, w.cr-is) (mono-row i c.args.cb.now c.args.cr.now (sym c.is_monochrome.ensures ∙ w.if-not-is_monochrome.false) c.take_band.ensures at)
    ]
