-- `nal_unit::unescape::has_room` meets its contract: unescaping never lengthens, so room for all bytes is room enough. Assumes nothing.
use Rattle.std.proofs.Common.{sym, arith, length, le-leb}
use Rattle.nal_unit.specs.Unescape.{un, un-length}
use Rattle.nal_unit.proofs.unescape.has_room.Goals as goal

pub returns-then-ebsp-room : goal.returns-then-ebsp-room
returns-then-ebsp-room c =
    let a = c.args in
    sym (le-leb (length (un a.ebsp.now)) a.room (omega (arith, un-length 0 a.ebsp.now)))
