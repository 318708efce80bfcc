-- `nal_unit::has_room` meets its contract: an escape is no shorter than its payload, and longer by half at most. Assumes nothing.
use Rattle.std.proofs.Common.{sym, arith, length, le-leb}
use borrow.Author.Tests.{lt-leb}
use Rattle.nal_unit.specs.Escape.{esc, esc_most}
use Rattle.nal_unit.specs.EscapeCode.{esc_least}
use Rattle.nal_unit.proofs.has_room.Goals as goal

pub returns-then-room-n : goal.returns-then-room-n
returns-then-room-n c = let a = c.args in sym (lt-leb (length (esc a.payload.now)) a.room (omega (arith, esc_least 0 a.payload.now)))

pub returns-then-room-n-2 : goal.returns-then-room-n-2
returns-then-room-n-2 c = let a = c.args in sym (le-leb (length (esc a.payload.now)) a.room (omega (arith, esc_most 0 a.payload.now)))
