-- `golomb::unmapped` meets its contract: each branch is one of the definition's. Assumes nothing.
use Rattle.std.proofs.Common.{arith, ◌%◌, eq-eqb, ne_eqb}
use Rattle.std.proofs.lemmas.Int.{ints}
use Rattle.golomb.specs.Signed.{unmapped}
use Rattle.golomb.proofs.unmapped.Goals as goal

pub returns-then-odd : goal.returns-then-odd
unfolding unmapped
returns-then-odd c = rw (eq-eqb (c.args.k % 2) 1 c.if-odd.true) (omega (arith, ints))

pub returns-else-odd : goal.returns-else-odd
unfolding unmapped
returns-else-odd c = rw (ne_eqb (c.args.k % 2) 1 c.if-odd.false) (omega (arith, ints))
