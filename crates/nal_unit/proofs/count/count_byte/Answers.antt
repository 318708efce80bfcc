-- `nal_unit::count::count_byte` meets its contract: a case of the definition at each return. Assumes nothing.
use Rattle.std.proofs.Common.{refl, ◌+◌, arith, eq-eqb, ne_eqb}
use Rattle.nal_unit.specs.EscapeCode.{inserts-high, inserts_few, inserts_here}
use Rattle.nal_unit.specs.CountCode.{counts-hit, counts-plain}
use Rattle.nal_unit.proofs.count.count_byte.Goals as goal

pub returns-then-b-gt3 : goal.returns-then-b-gt3
returns-then-b-gt3 c = let a = c.args in counts-plain a.z a.b 0 (inserts-high a.z a.b c.if-b-gt3.true) (rw (ne_eqb a.b 0 (λ e. omega arith)) refl)

pub returns-then-b-eq0 : goal.returns-then-b-eq0
returns-then-b-eq0 c = let a = c.args in counts-plain a.z a.b (a.z + 1) (inserts_few a.z a.b c.if-z-lt2.true) (rw (eq-eqb a.b 0 c.if-b-eq0.true) refl)

pub returns-then-z-lt2 : goal.returns-then-z-lt2
returns-then-z-lt2 c = let a = c.args in counts-plain a.z a.b 0 (inserts_few a.z a.b c.if-z-lt2.true) (rw (ne_eqb a.b 0 c.if-b-eq0.false) refl)

pub returns-then-b-eq0-2 : goal.returns-then-b-eq0-2
returns-then-b-eq0-2 c = let a = c.args in counts-hit a.z a.b 1 (inserts_here a.z a.b c.if-z-lt2.false c.if-b-gt3.false) (rw (eq-eqb a.b 0 c.if-b-eq0-2.true) refl)

pub returns : goal.returns
returns c = let a = c.args in counts-hit a.z a.b 0 (inserts_here a.z a.b c.if-z-lt2.false c.if-b-gt3.false) (rw (ne_eqb a.b 0 c.if-b-eq0-2.false) refl)
