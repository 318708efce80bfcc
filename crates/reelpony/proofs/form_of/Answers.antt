-- `reelpony::form_of` meets its contract: each number is asked in turn. Assumes nothing.
use Rattle.std.proofs.Common.{sym, ap, ◌∙◌, Some}
use Rattle.reelpony.specs.Code.{unformed-colour, unformed-luma, unformed-cb, unformed-cr, formed-mono, formed-colour}
use Rattle.reelpony.proofs.form_of.Goals as goal

pub returns-in_err-kind : goal.returns-in_err-kind
returns-in_err-kind c = let a = c.args in c.from_residual.ensures ∙ unformed-colour a.colour a.y a.cb a.cr (sym c.kind_of.ensures ∙ c.in_err-kind.was)

pub returns-in_err-y : goal.returns-in_err-y
returns-in_err-y c = let a = c.args in c.from_residual-in_err-y.ensures ∙ unformed-luma a.colour a.y a.cb a.cr (sym c.depth_of.ensures ∙ c.in_err-y.was)

pub returns-in_err-depth_of-in-Colour : goal.returns-in_err-depth_of-in-Colour
returns-in_err-depth_of-in-Colour c =
    let a = c.args in
    c.from_residual-in_err-depth_of-in-Colour.ensures
    ∙ unformed-cb a.colour a.y a.cb a.cr (sym c.kind_of.ensures ∙ (c.in_ok-kind.was ∙ ap Some c.in-Colour.is)) (sym c.depth_of-in-Colour.ensures ∙ c.in_err-depth_of-in-Colour.was)

pub returns-in_err-depth_of-in-Colour-2 : goal.returns-in_err-depth_of-in-Colour-2
returns-in_err-depth_of-in-Colour-2 c =
    let a = c.args in
    c.from_residual-in_err-depth_of-in-Colour-2.ensures
    ∙ unformed-cr a.colour a.y a.cb a.cr (sym c.kind_of.ensures ∙ (c.in_ok-kind.was ∙ ap Some c.in-Colour.is)) (sym c.depth_of-in-Colour-2.ensures ∙ c.in_err-depth_of-in-Colour-2.was)

pub returns-in-Mono : goal.returns-in-Mono
returns-in-Mono c =
    let a = c.args in
    rw c.in-Mono.is (formed-mono a.colour a.y a.cb a.cr (sym c.kind_of.ensures ∙ (c.in_ok-kind.was ∙ ap Some c.in-Mono.is)) (sym c.depth_of.ensures ∙ c.in_ok-y.was))

pub returns-in_ok-depth_of-in-Colour-2 : goal.returns-in_ok-depth_of-in-Colour-2
returns-in_ok-depth_of-in-Colour-2 c =
    let a = c.args in
    rw c.in-Colour.is (formed-colour a.colour a.y a.cb a.cr (sym c.kind_of.ensures ∙ (c.in_ok-kind.was ∙ ap Some c.in-Colour.is)) (sym c.depth_of.ensures ∙ c.in_ok-y.was)
    (sym c.depth_of-in-Colour.ensures ∙ c.in_ok-depth_of-in-Colour.was) (sym c.depth_of-in-Colour-2.ensures ∙ c.in_ok-depth_of-in-Colour-2.was))
