-- `parameter_sets::Writer::sizes` meets its contract, field by field. Assumes nothing.
use Rattle.std.proofs.Common.{ap, ◌-◌, ℕ, arith}
use Rattle.golomb.specs.Code.{ue}
use Rattle.ycbcr_image.specs.Sizes.{sequence_of, pic_width_in_mbs, frame_height_in_mbs}
use Rattle.parameter_sets.specs.Sps.{u}
use Rattle.parameter_sets.specs.Code.{size_is, putting, put_as, put_next, put_last}
use Rattle.parameter_sets.proofs.Writer.sizes.Goals as goal

pub returns : goal.returns
returns c =
    let q = sequence_of c.args.s in
    let begun = putting (size_is q) (omega arith) c.requires.1 in
    let fixed = put_next (u 5 30) _ begun c.bits.ensures in
    let width = put_next (ue (pic_width_in_mbs q - 1)) _ fixed (put_as (ap (λ (n : ℕ). ue (n - 1)) c.mbs_width.ensures) c.ue.ensures) in
    let height = put_next (ue (frame_height_in_mbs q - 1)) _ width (put_as (ap (λ (n : ℕ). ue (n - 1)) c.mbs_height.ensures) c.ue-2.ensures) in
    put_last height c.bits-2.ensures
