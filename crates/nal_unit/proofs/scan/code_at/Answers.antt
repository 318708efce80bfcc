-- `nal_unit::scan::code_at` meets its contract: the three bytes are 00 00 01 where their or, the third turned by 1, is zero. Assumes nothing.
use Rattle.nal_unit.specs.ScanCode.{code-test}
use Rattle.nal_unit.proofs.scan.code_at.Goals as goal

pub returns : goal.returns
returns c = code-test c.args.s.now c.args.i c.requires
