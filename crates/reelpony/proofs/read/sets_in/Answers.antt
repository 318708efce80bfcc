-- `reelpony::read::sets_in` meets its contract. Assumes nothing.
use Rattle.std.proofs.Common.{refl, arith, inl, inr}
use Rattle.reelpony.specs.ReadingCode.{sets-flags, sets-missing, sets-impossible, sets-sized}
use Rattle.reelpony.proofs.read.sets_in.Goals as goal

pub returns-then-held-sps : goal.returns-then-held-sps
returns-then-held-sps c = sets-flags c.args.ws.now (λ l m. elim c.then-held-sps.either [ inl w ↦ omega arith | inr w ↦ omega arith ]) refl

pub returns-then-sps-eq0 : goal.returns-then-sps-eq0
returns-then-sps-eq0 c = sets-missing c.args.ws.now c.if-held-sps.false c.if-held-pps.false c.if-sps-eq0.true

pub returns-in_default : goal.returns-in_default
returns-in_default c = sets-impossible c.args.ws.now c.if-held-sps.false c.if-held-pps.false c.if-sps-eq0.false (c.session_in.ensures.none (rw c.in_default.is refl)) refl

pub returns : goal.returns
returns c = sets-sized c.args.ws.now c.if-held-sps.false c.if-held-pps.false c.if-sps-eq0.false (rw c.in-Some.is at c.session_in.ensures.some)
