-- `nal_unit::scan::fault_bytes` meets its contract: `|`, `&` and the leaf test what the definition does. Assumes nothing.
use Rattle.nal_unit.specs.ScanCode.{fault-bits}
use Rattle.nal_unit.proofs.scan.fault_bytes.Goals as goal

pub returns : goal.returns
returns c =
    let a = c.args in
    fault-bits a.a a.b a.c a.d c.inserted.result c.ranges.c.fits c.inserted.ensures
