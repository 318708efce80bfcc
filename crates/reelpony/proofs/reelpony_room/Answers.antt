-- `reelpony::reelpony_room` meets its contract: the numbers are looked at first, then the writer is asked. Assumes nothing.
use Rattle.std.proofs.Common.{sym, ◌∙◌}
use Rattle.reelpony.specs.Room.{room_unformed, room_formed}
use Rattle.reelpony.proofs.reelpony_room.Goals as goal

pub returns-in_default : goal.returns-in_default
returns-in_default c = let a = c.args in room_unformed a.width a.height a.colour a.depth (sym c.in_default.is ∙ c.form_of.ensures)

pub returns : goal.returns
returns c = let a = c.args in room_formed a.width a.height a.colour a.depth (sym c.in-Some.is ∙ c.form_of.ensures) c.room.ensures
