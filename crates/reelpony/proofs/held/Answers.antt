-- `reelpony::held` meets its contract: numbers that say a session, and others. Assumes nothing.
use Rattle.std.proofs.Common.{sym, ◌∙◌}
use Rattle.reelpony.specs.Code.{held_said, held_unsaid}
use Rattle.reelpony.proofs.held.Goals as goal

pub returns-in-Some : goal.returns-in-Some
returns-in-Some c = held_said c.args.session.now (sym c.session_of.ensures ∙ c.in-Some.is)

pub returns-in-None : goal.returns-in-None
returns-in-None c = held_unsaid c.args.session.now (sym c.session_of.ensures ∙ c.in-None.is)
