-- `reelpony::read::session_in` meets its contract: each word is asked in turn. Assumes nothing.
use Rattle.std.proofs.Common.{refl}
use Rattle.reelpony.specs.ReadingCode.{says-wide, says-high, says-colour, says-bits, says}
use Rattle.reelpony.proofs.read.session_in.Goals as goal

pub returns-in_err-width : goal.returns-in_err-width
returns-in_err-width c = says-wide c.args.ws.now c.from_residual.ensures (c.short.ensures.none (rw c.in_err-width.was refl))

pub returns-in_err-height : goal.returns-in_err-height
returns-in_err-height c = says-high c.args.ws.now c.from_residual-in_err-height.ensures (c.short-2.ensures.none (rw c.in_err-height.was refl))

pub returns-in_err-colour : goal.returns-in_err-colour
returns-in_err-colour c = says-colour c.args.ws.now c.from_residual-in_err-colour.ensures (c.short-3.ensures.none (rw c.in_err-colour.was refl))

pub returns-in_err-bits : goal.returns-in_err-bits
returns-in_err-bits c = says-bits c.args.ws.now c.from_residual-in_err-bits.ensures (c.short-4.ensures.none (rw c.in_err-bits.was refl))

pub returns : goal.returns
returns c =
    let w = rw c.in_ok-width.was at c.short.ensures.some in
    let h = rw c.in_ok-height.was at c.short-2.ensures.some in
    let k = rw c.in_ok-colour.was at c.short-3.ensures.some in
    let d = rw c.in_ok-bits.was at c.short-4.ensures.some in
    says c.args.ws.now (rw (w, h, k, d) at c.session_of.ensures)
