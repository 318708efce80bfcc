-- `nal_unit::scan::all_zero` meets its contract. The invariant: the bytes of the blocks passed are zero. Assumes nothing.
use Rattle.std.proofs.Common.{rules, false, refl, ◌+◌, ◌*◌, ◌/◌, sym, true≢false, arith}
use Rattle.lists.specs.Test.{either}
use Rattle.nal_unit.specs.ScanCode.{blank_by}
use Rattle.nal_unit.proofs.scan.all_zero.Goals as goal

pub returns-then-not-at_each : goal.returns-then-not-at_each
returns-then-not-at_each c =
    let w = c.if-not-at_each.ensures.fails refl in
    blank_by false c.args.s.now c.args.from c.args.to c.requires (λ e. absurd (true≢false (sym e)))
    (λ e. (w.0, omega (arith, w.1), omega (arith, w.2), let h = w.3 in search rules))

pub loop-b-preserved : goal.loop-b-preserved
loop-b-preserved c k a l =
    either (c.args.from + 64 * c.loop-b.b) k
    (λ m. let h = c.if-not-at_each.ensures.holds refl k m (omega arith) in search rules)
    (λ m. c.loop-b.invariant k a m)

pub returns : goal.returns
returns c =
    let at = c.args.from + 64 * (c.saturating_sub-blocks.result / 64) in
    blank_by c.at_each-2.result c.args.s.now c.args.from c.args.to c.requires
    (λ e k a l. either at k (λ m. let h = c.at_each-2.ensures.holds e k m l in search rules) (λ m. c.loop-b.invariant k a (omega arith)))
    (λ e. let w = c.at_each-2.ensures.fails e in (w.0, omega (arith, w.1), w.2, let h = w.3 in search rules))
