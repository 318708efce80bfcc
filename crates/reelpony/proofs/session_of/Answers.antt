-- `reelpony::session_of` meets its contract: colour and bits are asked in turn. Assumes nothing.
use Rattle.std.proofs.Common.{sym, ◌∙◌}
use Rattle.reelpony.specs.Code.{session-colour, session-depth, session-said}
use Rattle.reelpony.proofs.session_of.Goals as goal

pub returns-in_err-kind : goal.returns-in_err-kind
returns-in_err-kind c = let a = c.args in c.from_residual.ensures ∙ session-colour a.width a.height a.colour a.bits (sym c.kind_of.ensures ∙ c.in_err-kind.was)

pub returns-in_err-depth : goal.returns-in_err-depth
returns-in_err-depth c = let a = c.args in c.from_residual-in_err-depth.ensures ∙ session-depth a.width a.height a.colour a.bits (sym c.depth_of.ensures ∙ c.in_err-depth.was)

pub returns : goal.returns
returns c = let a = c.args in session-said a.width a.height a.colour a.bits (sym c.kind_of.ensures ∙ c.in_ok-kind.was) (sym c.depth_of.ensures ∙ c.in_ok-depth.was)
