-- `nal_unit::taking::count_inserted` meets its contract: after i turns the inserted ones of 224 * i bytes are counted. Assumes nothing.
use Rattle.std.proofs.Common.{◌≡◌, ap, ◌∙◌, ℕ, ◌+◌, ◌-◌, ◌*◌, ◌/◌, arith}
use Rattle.nal_unit.specs.Kept.{ins_count}
use Rattle.nal_unit.specs.TakingCode.{Counting, count_more}
use Rattle.nal_unit.proofs.taking.count_inserted.Goals as goal

-- what is counted after one more turn
next : (c : goal.After-count_few-c)
    → let a = c.args in Counting a.s.now a.p a.e (c.loop-i.c + c.count_few-c.result) (a.p + 224 * (c.loop-i.i + 1))
next c =
    let a = c.args in
    let q : ℕ = a.p + 224 * c.loop-i.i in
    let e : q + 224 ≡ a.p + 224 * (c.loop-i.i + 1) = omega arith in
    rw (← e) (count_more (q + 224) c.loop-i.invariant (omega arith) (omega arith) (omega arith) (omega arith) c.count_few-c.ensures)

pub overflow_add-c : goal.overflow_add-c
overflow_add-c c = let g = next c in omega arith

pub loop-i-preserved : goal.loop-i-preserved
loop-i-preserved c = next c

last : (c : goal.After-count_few)
    → let a = c.args in Counting a.s.now a.p a.e (c.loop-i.c + c.count_few.result) a.e
last c =
    let a = c.args in
    let m : ℕ = (a.e - a.p) / 224 in
    let h : c.loop-i.i ≡ m = omega arith in
    let q : ℕ = a.p + 224 * m in
    count_more a.e (rw h at c.loop-i.invariant) (omega arith) (omega arith) (omega arith) (omega arith)
    (c.count_few.ensures ∙ ap (λ (r : ℕ). ins_count a.s.now q r) (omega arith))

pub overflow_add-result : goal.overflow_add-result
overflow_add-result c = let g = last c in omega arith
