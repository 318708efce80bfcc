-- `nal_unit::scan::low_at` meets its contract: each fault has two zeros and a byte of 03 or less. Assumes nothing.
use Rattle.std.proofs.Common.{rules}
use Rattle.nal_unit.specs.ScanCode.{low_none}
use Rattle.nal_unit.proofs.scan.low_at.Goals as goal

pub returns : goal.returns
returns c =
    low_none c.args.s.now c.args.i c.requires (search rules)
