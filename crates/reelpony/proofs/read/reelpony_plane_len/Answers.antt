-- `reelpony_plane_len` meets its contract. Assumes nothing.
use Rattle.reader.specs.Read.{held_of}
use Rattle.reelpony.specs.ReadingCode.{plane_as}
use Rattle.reelpony.proofs.read.reelpony_plane_len.Goals as goal

pub returns : goal.returns
returns c = plane_as c.args.reader.now c.args.plane (held_of c.sets_in.result) c.sets_in.ensures c.plane_len.ensures
