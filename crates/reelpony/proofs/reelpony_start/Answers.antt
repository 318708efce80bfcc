-- `reelpony::reelpony_start` meets its contract: the numbers are looked at first, then the writer is called. Assumes nothing.
use Rattle.std.proofs.Common.{sym, ◌∙◌}
use Rattle.reelpony.specs.Numbers.{PictureIn, plane, picture_in}
use Rattle.reelpony.specs.Code.{start_unformed, start_formed}
use Rattle.reelpony.proofs.reelpony_start.Goals as goal

pub returns-in_default : goal.returns-in_default
returns-in_default c =
    let s = c.args in
    let p : PictureIn = picture_in s.width s.height s.colour (plane s.y.now s.y_stride s.y_depth) (plane s.cb.now s.cb_stride s.cb_depth) (plane s.cr.now s.cr_stride s.cr_depth) in
    start_unformed p s.out.now s.session.now (sym c.in_default.is ∙ c.form_of.ensures)

pub returns : goal.returns
returns c =
    let s = c.args in
    let p : PictureIn = picture_in s.width s.height s.colour (plane s.y.now s.y_stride s.y_depth) (plane s.cb.now s.cb_stride s.cb_depth) (plane s.cr.now s.cr_stride s.cr_depth) in
    start_formed p s.out.now s.session.now (sym c.in-Some.is ∙ c.form_of.ensures) c.start-a.ensures.value c.start-a.ensures.out_after c.keep_after.ensures c.length_in.ensures c.number.ensures
