-- `nal_unit::put::wants3` meets its contract: a byte over 03, a place behind fewer than two bytes, a byte that is not zero before it, and the byte before that one.
-- Assumes nothing.
use Rattle.std.proofs.Common.{sym, ◌∙◌, ◌≡◌, List, ◌&&◌, ◌-◌, ℕ, ◌≤◌, arith, eqb, leb, length, get_or, ne_eqb, eq-eqb, le-leb}
use mathlib.Core.Bool.{and-false, and-true}
use Rattle.nal_unit.specs.Escape.{inserts}
use Rattle.nal_unit.specs.EscapeCode.{counted, inserts-high, inserts_few, counted_few, inserts_at}
use Rattle.nal_unit.proofs.put.wants3.Goals as goal

at_two : (d : List ℕ) (at b : ℕ) → 2 ≤ at → at ≤ length d → inserts (counted d at) b ≡ eqb (get_or d (at - 2) 0) 0 && (eqb (get_or d (at - 1) 0) 0 && leb b 3)
at_two d at b h l = inserts_at d at (at - 1) (at - 2) b (omega arith) (omega arith) l

pub returns-then-large : goal.returns-then-large
returns-then-large c = sym (inserts-high (counted c.args.out.now c.args.at) c.args.b c.if-large.true)

pub returns-then-at-lt2 : goal.returns-then-at-lt2
returns-then-at-lt2 c = let a = c.args in sym (inserts_few (counted a.out.now a.at) a.b (omega (arith, counted_few a.out.now a.at)))

pub returns-then-out-at-ne0 : goal.returns-then-out-at-ne0
returns-then-out-at-ne0 c =
    let a = c.args in
    sym (at_two a.out.now a.at a.b (omega arith) (omega arith) ∙ rw (ne_eqb (get_or a.out.now (a.at - 1) 0) 0 c.if-out-at-ne0.true) (and-false (eqb (get_or a.out.now (a.at - 2) 0) 0)))

pub returns : goal.returns
returns c =
    let a = c.args in
    sym (at_two a.out.now a.at a.b (omega arith) (omega arith) ∙ rw (eq-eqb (get_or a.out.now (a.at - 1) 0) 0 c.if-out-at-ne0.false, le-leb a.b 3 (omega arith)) (and-true (eqb (get_or a.out.now (a.at - 2) 0) 0)))
