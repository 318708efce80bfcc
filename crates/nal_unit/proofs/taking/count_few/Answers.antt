-- `nal_unit::taking::count_few` meets its contract: the inserted ones before q are counted. Assumes nothing.
use mir.Val.{bool_byte}
use Rattle.std.proofs.Common.{◌≡◌, ◌∙◌, ap, Bool, true, false, cond, ℕ, ◌+◌, arith}
use Rattle.nal_unit.specs.TakingCode.{count_turn, count-done}
use Rattle.nal_unit.proofs.taking.count_few.Goals as goal

one_more : (c : ℕ) (t : Bool) → c + bool_byte t ≡ cond t 1 0 + c
one_more c true = omega arith
one_more c false = omega arith

pub loop-q-preserved : goal.loop-q-preserved
loop-q-preserved c =
    let l = c.loop-q in
    let e = ap (λ (k : ℕ). l.c + k) c.from-c.ensures ∙ one_more l.c c.inserted_at.result in
    count_turn l.invariant (omega arith) (omega arith) (omega arith) c.inserted_at.ensures e

pub returns : goal.returns
returns c = c.from.ensures ∙ count-done c.loop-q.invariant (omega arith)
