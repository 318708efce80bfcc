-- `nal_unit::scan::fault_in` meets its contract: four bytes decide. Assumes nothing.
use Rattle.std.proofs.Common.{sym, ◌∙◌, arith}
use Rattle.nal_unit.specs.ScanCode.{fault-four}
use Rattle.nal_unit.proofs.scan.fault_in.Goals as goal

pub returns : goal.returns
returns c =
    c.fault_bytes.ensures ∙ sym (fault-four c.args.s.now c.args.i (omega (arith, c.requires)))
