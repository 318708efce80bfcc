-- `nal_unit::taking::payload_len` meets its contract: what is kept behind the header is the payload, and the rest was inserted. Assumes nothing.
use Rattle.std.proofs.Common.{◌≡◌, ap, ◌∙◌, ◌+◌, ◌-◌, arith, length}
use Rattle.nal_unit.specs.Kept.{kept, kept-length, kept-un}
use Rattle.nal_unit.proofs.taking.payload_len.Goals as goal

sum : (c : goal.After-count_inserted) → let a = c.args in length (kept a.s.now (a.o + 1) a.e) + c.count_inserted.result ≡ a.e - (a.o + 1)
sum c =
    let a = c.args in
    rw c.count_inserted.ensures (kept-length a.s.now (a.o + 1) a.e (omega arith) (omega arith))

pub overflow_sub-result-2 : goal.overflow_sub-result-2
overflow_sub-result-2 c = omega (arith, sum c)

pub returns : goal.returns
returns c =
    let a = c.args in
    let e : a.e - (a.o + 1) - c.count_inserted.result ≡ length (kept a.s.now (a.o + 1) a.e) = omega (arith, sum c) in
    e ∙ ap length (kept-un a.s.now a.o a.e (omega arith) (omega arith) c.requires.nonzero)
