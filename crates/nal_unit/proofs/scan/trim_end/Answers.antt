-- `nal_unit::scan::trim_end` meets its contract: the last byte that is not zero stays, and all behind it go. Assumes nothing.
use Rattle.std.proofs.Common.{rules}
use Rattle.nal_unit.specs.ScanCode.{trim_by}
use Rattle.nal_unit.proofs.scan.trim_end.Goals as goal

pub returns : goal.returns
returns c =
    let a = c.args in
    let f = c.last_nonzero.ensures in
    trim_by a.s.now a.from a.end c.map_or.result c.last_nonzero.result c.requires.from_le_end c.requires.end_in_bounds f.none f.some (search rules) (search rules)
