-- `nal_unit::taking::payload_len_to` meets its contract: what is inserted behind the header stands before the place c. Assumes nothing.
use Rattle.std.proofs.Common.{◌≡◌, ap, ◌∙◌, ◌+◌, ◌-◌, arith, length}
use Rattle.nal_unit.specs.Kept.{kept, kept-un, kept-length, count-append}
use Rattle.nal_unit.proofs.taking.payload_len_to.Goals as goal

sum : (c : goal.After-count_inserted) → let a = c.args in length (kept a.s.now (a.o + 1) a.e) + c.count_inserted.result ≡ a.e - (a.o + 1)
sum c =
    let a = c.args in
    let s = a.s.now in
    omega (arith, c.count_inserted.ensures, c.requires.e_value, kept-length s (a.o + 1) a.e (omega arith) (omega arith), count-append s (a.o + 1) a.c a.e (omega arith) (omega arith) (omega arith))

pub overflow_sub-result-then-c-e : goal.overflow_sub-result-then-c-e
overflow_sub-result-then-c-e c = omega (arith, sum c)

pub returns-then-c-e : goal.returns-then-c-e
returns-then-c-e c =
    let a = c.args in
    let e : a.e - (a.o + 1) - c.count_inserted.result ≡ length (kept a.s.now (a.o + 1) a.e) = omega (arith, sum c) in
    e ∙ ap length (kept-un a.s.now a.o a.e (omega arith) (omega arith) c.requires.nonzero)
