-- `golomb::write_se` meets its contract: of all i32 the least alone has no code, and the code of any other is that of the number it becomes. Assumes nothing.
use Rattle.std.proofs.Common.{◌≡◌, refl, sym, ap, ◌∙◌, true, false, ℕ, ◌-◌, ◌^◌, ◌≤◌, arith, ℤ, pos, negsuc, nat_abs, le-leb}
use mir.Syntax.{w32}
use mir.Val.{SFits, of_z}
use mir.Facts.{to_z-of_z}
use borrow.Author.Tests.{lt-leb}
use Rattle.golomb.specs.Code.{ue}
use Rattle.golomb.specs.Signed.{mapped, map_most, se}
use Rattle.golomb.specs.Answers.{has_se}
use Rattle.golomb.proofs.Answers.{write_none}
use Rattle.golomb.proofs.write_se.Goals as goal

-- the bits of the least number
no_code : (x : ℤ) → SFits w32 x → of_z w32 x ≡ 2147483648 → has_se x ≡ false
unfolding has_se
no_code (pos n) f e = absurd (omega (arith, f.sfits))
no_code (negsuc n) f e = lt-leb (nat_abs (negsuc n)) (2 ^ 31 - 1) (omega (arith, f.sfits))

small : (x : ℤ) → SFits w32 x → (of_z w32 x ≡ 2147483648 → ⊥) → nat_abs x ≤ 2 ^ 31 - 1
small (pos n) f e = omega (arith, f.sfits)
small (negsuc n) f e = omega (arith, f.sfits, e)

code : (x : ℤ) → nat_abs x ≤ 2 ^ 31 - 1 → has_se x ≡ true
unfolding has_se
code x h = le-leb (nat_abs x) (2 ^ 31 - 1) h

-- the code written is the signed code
is_se : (x : ℤ) (m : ℕ) → m ≡ mapped x → ue m ≡ se x
unfolding se
is_se x m e = ap ue e

pub returns-then-least : goal.returns-then-least
returns-then-least c =
    let n = no_code c.args.x c.ranges.x c.if-least.true in
    let e = write_none (se c.args.x) c.args.buffer.now c.args.place in
    record { answer = rw n (sym e); bytes = rw (n, e) refl }

-- a signed local holds bits, which `to_z-of_z` reads back
pub put_code-requires : goal.put_code-requires
put_code-requires c =
    rw (c.mapped.ensures, to_z-of_z c.ranges.x) (map_most c.args.x (small c.args.x c.ranges.x c.if-least.false))

pub returns : goal.returns
returns c =
    let m : c.mapped.result ≡ mapped c.args.x = c.mapped.ensures ∙ ap mapped (to_z-of_z c.ranges.x) in
    rw (code c.args.x (small c.args.x c.ranges.x c.if-least.false), ← is_se c.args.x c.mapped.result m) c.put_code.ensures
