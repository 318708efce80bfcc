use Rattle.std.proofs.Common.{◌-◌, length}
use Rattle.nal_unit.specs.Kept.{kept}
use Rattle.reader.specs.Heads.{payload_at}
use Rattle.reader.proofs.samples.Coded.take_block.Given as goal

-- the byte of the payload that stands at the rows' place
abbrev pub ghost-take_rows : goal.ghost-take_rows
ghost-take_rows a = length (payload_at a.self.unit.take.now a.self.unit.begin a.self.unit.end) - length (kept a.self.unit.take.now a.p a.self.unit.end)
