-- `reader::samples::Coded::take_macroblock` meets its contract: what stands before the samples is passed, then each block taken. Assumes nothing.
use Rattle.std.proofs.Common.{◌≡◌, sym, ◌∙◌, ◌+◌, ◌*◌, arith}
use Rattle.ycbcr_image.specs.Form.{planes_some}
use Rattle.ycbcr_image.specs.Sizes.{sequence_of, pic_width_in_mbs}
use Rattle.nal_unit.specs.Taking.{stands-pass, stands_room}
use Rattle.reader.specs.Heads.{payload_at}
use Rattle.reader.specs.Samples.{head_place, block_place, mb_there, stands_as, in_colour, mono-took, colour-took}
use Rattle.reader.proofs.samples.Coded.take_macroblock.Goals as goal

pub skip-a-requires-clause-n_in_bounds : goal.skip-a-requires-clause-n_in_bounds
skip-a-requires-clause-n_in_bounds c =
    let a = c.args in
    stands_room 2 c.requires.stands (omega (arith, mb_there (payload_at a.self.unit.take.now a.self.unit.begin a.self.unit.end) a.self.fine a.self.exact a.my a.mx c.requires.my_bound.0 c.requires.my_bound.1))

pub take_block-b-requires-clause-stands : goal.take_block-b-requires-clause-stands
take_block-b-requires-clause-stands c =
    let q = sequence_of c.args.self.q in
    let i = c.args.my * pic_width_in_mbs q + c.args.mx in
    let e : head_place q i + 2 ≡ block_place q i 0 = omega arith in
    stands_as e (stands-pass c.requires.stands c.skip-a.ensures)

pub take_block-b-requires-clause-k_bound : goal.take_block-b-requires-clause-k_bound
take_block-b-requires-clause-k_bound c = (omega arith, planes_some (sequence_of c.args.self.q).form)

pub returns-then-is_monochrome : goal.returns-then-is_monochrome
returns-then-is_monochrome c =
    mono-took c.args.cb.now c.args.cr.now c.args.self.fine (sym c.is_monochrome.ensures ∙ c.if-is_monochrome.true) c.args.my c.args.mx c.requires.my_bound.0 c.requires.my_bound.1 c.take_block-b.ensures

pub take_block-c-requires-clause-k_bound : goal.take_block-c-requires-clause-k_bound
take_block-c-requires-clause-k_bound c = (omega arith, in_colour (sequence_of c.args.self.q).form 1 (sym c.is_monochrome.ensures ∙ c.if-is_monochrome.false) (omega arith))

pub take_block-requires-clause-k_bound : goal.take_block-requires-clause-k_bound
take_block-requires-clause-k_bound c = (omega arith, in_colour (sequence_of c.args.self.q).form 2 (sym c.is_monochrome.ensures ∙ c.if-is_monochrome.false) (omega arith))

pub returns : goal.returns
returns c =
    colour-took c.args.self.fine (sym c.is_monochrome.ensures ∙ c.if-is_monochrome.false) c.args.my c.args.mx c.requires.my_bound.0 c.requires.my_bound.1 c.take_block-b.ensures c.take_block-c.ensures c.take_block.ensures
