-- `parameter_sets::Writer::chroma` meets its contract, field by field. Assumes nothing.
use Rattle.std.proofs.Common.{sym, ap, ◌∙◌, ◌-◌, ℕ, arith}
use Rattle.bits.specs.Bits.{put_none}
use Rattle.golomb.specs.Code.{ue}
use Rattle.ycbcr_image.specs.Sizes.{sequence_of}
use Rattle.parameter_sets.specs.Code.{chroma_none, chroma_some, putting, put_as, put_next, put_last}
use Rattle.parameter_sets.proofs.Writer.chroma.Goals as goal

pub returns-then-profile_idc-eq66 : goal.returns-then-profile_idc-eq66
returns-then-profile_idc-eq66 c =
    rw (chroma_none (sequence_of c.args.s).form (sym c.profile_idc.ensures ∙ c.if-profile_idc-eq66.true)) (put_none _ _)

pub returns : goal.returns
returns c =
    let f = (sequence_of c.args.s).form in
    let begun = putting (chroma_some f (λ x. c.if-profile_idc-eq66.false (c.profile_idc.ensures ∙ x))) (omega arith) c.requires in
    let format = put_next (ue f.chroma) _ begun (put_as (ap ue c.chroma_format_idc.ensures) c.ue.ensures) in
    let luma = put_next (ue (f.depth - 8)) _ format (put_as (ap (λ (n : ℕ). ue (n - 8)) c.num_bits-bit_depth_minus8.ensures) c.ue-2.ensures) in
    let chroma = put_next (ue (f.depth - 8)) _ luma (put_as (ap (λ (n : ℕ). ue (n - 8)) c.num_bits-bit_depth_minus8.ensures) c.ue-3.ensures) in
    put_last chroma c.bits.ensures
