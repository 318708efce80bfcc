-- `nal_unit::scan::low64` meets its contract: where the test of each place is false, all 64 are passed. Assumes nothing.
use Rattle.std.proofs.Common.{arith, rules}
use borrow.Author.Tests.{not-false}
use Rattle.nal_unit.specs.ScanCode.{seek-low}
use Rattle.nal_unit.proofs.scan.low64.Goals as goal

pub returns : goal.returns
returns c = λ e. seek-low c.args.i 64 (omega (arith, c.requires)) (λ k a l. let h = c.at_each.ensures.holds (not-false _ e) k a l in search rules)
