-- `parameter_sets::Writer::head` meets its contract, field by field. Assumes nothing.
use Rattle.std.proofs.Common.{refl, ap, ◌++◌, arith}
use Rattle.golomb.specs.Code.{ue}
use Rattle.ycbcr_image.specs.Sizes.{sequence_of}
use Rattle.parameter_sets.specs.Sps.{u, profile_idc}
use Rattle.parameter_sets.specs.Code.{head_fields, putting, put_as, put_next, put_last}
use Rattle.parameter_sets.proofs.Writer.head.Goals as goal

pub returns : goal.returns
unfolding head_fields
returns c =
    let f = (sequence_of c.args.s).form in
    let begun = putting {rest = u 8 (profile_idc f) ++ (u 8 0 ++ (u 8 c.args.level ++ ue 0))} refl (omega arith) c.requires in
    let profile = put_next (u 8 (profile_idc f)) _ begun (put_as (ap (u 8) c.profile_idc.ensures) c.bits.ensures) in
    let constraints = put_next (u 8 0) _ profile c.bits-2.ensures in
    let level = put_next (u 8 c.args.level) _ constraints c.bits-3.ensures in
    put_last level c.ue.ensures
