-- `nal_unit::scan::code64` meets its contract: where no place has a start code, the next one is that from behind them on. Assumes nothing.
use Rattle.std.proofs.Common.{◌+◌, arith, rules}
use borrow.Author.Tests.{not-false}
use Rattle.nal_unit.specs.ScanCode.{next_over}
use Rattle.nal_unit.proofs.scan.code64.Goals as goal

pub returns : goal.returns
returns c =
    let i = c.args.i in
    λ e. next_over c.args.s.now i (i + 64) (omega arith) (omega (arith, c.requires)) (λ k a l. let h = c.at_each.ensures.holds (not-false _ e) k a l in search rules)
