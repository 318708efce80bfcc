-- `nal_unit::unescape::unescaped_len` meets its contract: behind the first two bytes, those that were not inserted are kept. Assumes nothing.
use Rattle.std.proofs.Common.{◌≡◌, sym, ap, ◌+◌, arith, length}
use Rattle.nal_unit.specs.Unescape.{un}
use Rattle.nal_unit.specs.Kept.{un_few}
use Rattle.nal_unit.specs.UnescapeCode.{payload-count}
use Rattle.nal_unit.proofs.unescape.unescaped_len.Goals as goal

pub returns-then-ebsp-lt2 : goal.returns-then-ebsp-lt2
returns-then-ebsp-lt2 c = sym (ap length (un_few c.args.ebsp.now c.if-ebsp-lt2.true))

-- the payload and what was inserted are all bytes
sum : (c : goal.After-count_inserted) → let s = c.args.ebsp.now in length (un s) + c.count_inserted.result ≡ length s
sum c = rw c.count_inserted.ensures (payload-count c.args.ebsp.now c.if-ebsp-lt2.false)

pub overflow_sub-result : goal.overflow_sub-result
overflow_sub-result c = omega (arith, sum c)

pub returns : goal.returns
returns c = omega (arith, sum c)
