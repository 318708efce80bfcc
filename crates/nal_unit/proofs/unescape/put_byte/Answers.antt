-- `nal_unit::unescape::put_byte` meets its contract. Assumes nothing.
use Rattle.std.proofs.Common.{refl, sym, ap, ◌∙◌, [], ◌∷◌, add-zero, arith, length, get_or}
use Rattle.lists.specs.Fill.{splice_none, set-splice}
use Rattle.nal_unit.specs.UnescapeCode.{unescapes_as, kept-mark, kept_byte}
use Rattle.nal_unit.proofs.unescape.put_byte.Goals as goal

pub returns-then-inserted_at : goal.returns-then-inserted_at
returns-then-inserted_at c =
    let a = c.args in
    let e = kept-mark a.s.now a.p (omega arith) (omega arith) (sym c.inserted_at.ensures ∙ c.if-inserted_at.true) in
    unescapes_as [] e (sym (splice_none a.out.now a.a)) (sym (add-zero a.a))

-- the byte is of the payload
pub bounds-out-a : goal.bounds-out-a
bounds-out-a c =
    let a = c.args in
    omega (arith, c.requires.p_in_bounds, ap length (kept_byte a.s.now a.p (omega arith) (omega arith) (sym c.inserted_at.ensures ∙ c.if-inserted_at.false)))

pub returns : goal.returns
returns c =
    let a = c.args in
    let e = kept_byte a.s.now a.p (omega arith) (omega arith) (sym c.inserted_at.ensures ∙ c.if-inserted_at.false) in
    unescapes_as (get_or a.s.now a.p 0 ∷ []) e (set-splice a.out.now a.a (get_or a.s.now a.p 0) (omega (arith, c.requires.p_in_bounds, ap length e))) refl
