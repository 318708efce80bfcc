-- `nal_unit::scan::fault_at` meets its contract: four bytes decide, and where there are three the fourth counts as zero. Assumes nothing.
use Rattle.std.proofs.Common.{◌≡◌, sym, ◌∙◌, ◌+◌, get_or, rules}
use Rattle.nal_unit.specs.ScanCode.{fault-four}
use Rattle.nal_unit.proofs.scan.fault_at.Goals as goal

pub returns : goal.returns
returns c =
    let s = c.args.s.now in
    let i = c.args.i in
    let e : c.unwrap_or.result ≡ get_or s (i + 3) 0 = search rules in
    rw e at c.fault_bytes.ensures ∙ sym (fault-four s i c.requires)
