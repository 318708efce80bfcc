-- `golomb::read_se` meets its contract: the unsigned code at the place, and what its number stands for. Assumes nothing.
use Rattle.std.proofs.Common.{sym, ap, ◌∙◌, Some, ℤ}
use mir.Syntax.{w32}
use mir.Facts.{to_z-of_z}
use Rattle.golomb.specs.Answers.{signed, se_is, ue-domain}
use Rattle.golomb.proofs.read_se.Goals as goal

pub unmapped-requires : goal.unmapped-requires
unmapped-requires c = ue-domain _ _ _ _ (sym c.read_ue.ensures ∙ c.in_ok-k.was)

pub returns-in_err-k : goal.returns-in_err-k
returns-in_err-k c =
    c.from_residual.ensures ∙ sym (se_is _ _ ∙ ap signed (sym c.read_ue.ensures ∙ c.in_err-k.was))

pub returns : goal.returns
returns c =
    ap (λ (z : ℤ). Some (z, c.in_ok-k.behind)) (to_z-of_z {w = w32} (record { sfits = c.unmapped.type_inv }) ∙ c.unmapped.ensures)
    ∙ sym (se_is _ _ ∙ ap signed (sym c.read_ue.ensures ∙ c.in_ok-k.was))
