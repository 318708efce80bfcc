-- `nal_unit::scan::inserted` meets its contract. Assumes nothing.
use Rattle.nal_unit.specs.ScanCode.{inserted-test}
use Rattle.nal_unit.proofs.scan.inserted.Goals as goal

pub returns : goal.returns
returns c = inserted-test c.args.c c.args.d c.ranges.d.fits
