-- `nal_unit::calm::zeros_before` meets its contract: the count behind two bytes is theirs alone. Assumes nothing.
use Rattle.std.proofs.Common.{◌≡◌, refl, sym, ◌∙◌, ◌-◌, arith, get_or, eq-eqb, ne_eqb}
use Rattle.nal_unit.specs.EscapeCode.{counted, last_two, counted_at}
use Rattle.nal_unit.proofs.calm.zeros_before.Goals as goal

two1 : (a : goal.Then-s-p-ne0) → counted a.args.s.now a.args.p ≡ last_two (get_or a.args.s.now (a.args.p - 2) 0) (get_or a.args.s.now (a.args.p - 1) 0)
two1 a = counted_at a.args.s.now a.args.p (a.args.p - 1) (a.args.p - 2) (omega arith) (omega arith) a.requires.p_in_bounds

two2 : (a : goal.Then-s-p-ne0-2) → counted a.args.s.now a.args.p ≡ last_two (get_or a.args.s.now (a.args.p - 2) 0) (get_or a.args.s.now (a.args.p - 1) 0)
two2 a = counted_at a.args.s.now a.args.p (a.args.p - 1) (a.args.p - 2) (omega arith) (omega arith) a.requires.p_in_bounds

two3 : (a : goal.Else-s-p-ne0-2) → counted a.args.s.now a.args.p ≡ last_two (get_or a.args.s.now (a.args.p - 2) 0) (get_or a.args.s.now (a.args.p - 1) 0)
two3 a = counted_at a.args.s.now a.args.p (a.args.p - 1) (a.args.p - 2) (omega arith) (omega arith) a.requires.p_in_bounds

pub returns-then-s-p-ne0 : goal.returns-then-s-p-ne0
unfolding last_two
returns-then-s-p-ne0 c = sym (two1 c ∙ rw (ne_eqb (get_or c.args.s.now (c.args.p - 1) 0) 0 c.if-s-p-ne0.true) refl)

pub returns-then-s-p-ne0-2 : goal.returns-then-s-p-ne0-2
unfolding last_two
returns-then-s-p-ne0-2 c = sym (two2 c ∙ rw (eq-eqb (get_or c.args.s.now (c.args.p - 1) 0) 0 c.if-s-p-ne0.false, ne_eqb (get_or c.args.s.now (c.args.p - 2) 0) 0 c.if-s-p-ne0-2.true) refl)

pub returns : goal.returns
unfolding last_two
returns c = sym (two3 c ∙ rw (eq-eqb (get_or c.args.s.now (c.args.p - 1) 0) 0 c.if-s-p-ne0.false, eq-eqb (get_or c.args.s.now (c.args.p - 2) 0) 0 c.if-s-p-ne0-2.false) refl)
