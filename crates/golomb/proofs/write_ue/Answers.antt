-- `golomb::write_ue` meets its contract: of all u32 the largest alone has no code. Assumes nothing.
use Rattle.std.proofs.Common.{◌≡◌, refl, sym, true, false, ℕ, ◌-◌, ◌^◌, ◌≤◌, arith, le-leb}
use borrow.Author.Tests.{lt-leb}
use Rattle.golomb.specs.Code.{ue}
use Rattle.golomb.specs.Answers.{has_ue}
use Rattle.golomb.proofs.Answers.{write_none}
use Rattle.golomb.proofs.write_ue.Goals as goal

no_code : (x : ℕ) → x ≡ 4294967295 → has_ue x ≡ false
unfolding has_ue
no_code x e = lt-leb x (2 ^ 32 - 2) (omega arith)

code : (x : ℕ) → x ≤ 2 ^ 32 - 2 → has_ue x ≡ true
unfolding has_ue
code x h = le-leb x (2 ^ 32 - 2) h

pub returns-then-x-eq4294967295 : goal.returns-then-x-eq4294967295
returns-then-x-eq4294967295 c =
    let n = no_code c.args.x c.if-x-eq4294967295.true in
    let e = write_none (ue c.args.x) c.args.buffer.now c.args.place in record { answer = rw n (sym e); bytes = rw (n, e) refl }

pub returns : goal.returns
returns c =
    rw (code c.args.x (omega arith)) c.put_code.ensures
