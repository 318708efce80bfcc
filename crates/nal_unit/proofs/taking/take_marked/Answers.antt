-- `nal_unit::taking::take_marked` meets its contract: pairs of zeros are passed and zeros written, or the bytes are taken one by one. Assumes nothing.
use Rattle.std.proofs.Common.{sym, ◌∙◌, arith}
use Rattle.nal_unit.specs.TakingCode.{pairs-are, took-pairs}
use Rattle.nal_unit.proofs.taking.take_marked.Goals as goal

pub returns-then-pairs : goal.returns-then-pairs
returns-then-pairs c =
    let a = c.args in
    took-pairs a.p a.e a.n (omega arith) (omega arith) (omega arith) (pairs-are a.s.now a.p a.n (omega arith) (omega arith) (omega arith) (sym c.pairs.ensures ∙ c.if-pairs.true)) c.write_zeros.ensures
