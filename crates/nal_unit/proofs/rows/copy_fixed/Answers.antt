-- `nal_unit::rows::copy_fixed` meets its contract. Assumes nothing.
use Rattle.std.proofs.Common.{◌∙◌, ap, arith, take, take_all}
use Rattle.lists.specs.Part.{part, part_length}
use Rattle.nal_unit.proofs.Copying.{range-part, mid-splice}
use Rattle.nal_unit.proofs.rows.copy_fixed.Goals as goal

pub returns : goal.returns
returns g c =
    let a = c.args in
    let n = g.row.N in
    let v = part a.s.now a.p n in
    let l = part_length a.s.now a.p n c.requires.0 in
    let e = c.copy_from_slice-2.ensures.after ∙ ap (take _) (c.copy_from_slice.ensures.after ∙ range-part a.s.now a.p n) ∙ take_all _ v (omega (arith, l)) in
    rw e (mid-splice a.out.now v _ a.at (omega (arith, l)))
