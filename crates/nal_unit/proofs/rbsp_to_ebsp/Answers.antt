-- `nal_unit::rbsp_to_ebsp` meets its contract: the payload is written from the first byte on where its escape has room, and nothing is where it has not.
-- Assumes nothing.
use Rattle.std.proofs.Common.{sym, ap, ◌∙◌, arith, length, Some, leb-true, leb-false}
use Rattle.nal_unit.proofs.PutCode.{whole, put_whole}
use Rattle.nal_unit.specs.Answers.{escaped_room, escaped_none}
use Rattle.nal_unit.proofs.rbsp_to_ebsp.Goals as goal

pub returns-then-not-has_room : goal.returns-then-not-has_room
returns-then-not-has_room c =
    let a = c.args in
    let e = escaped_none a.rbsp.now a.nal.now (leb-false _ _ (sym c.has_room.ensures ∙ c.if-not-has_room.true)) in record { value = sym e.0; nal_after = sym e.1 }

pub put_slice-requires : goal.put_slice-requires
put_slice-requires c =
    let a = c.args in
    record {
      n_in_bounds = omega arith;
      n_in_bounds_2 = omega (arith, leb-true _ _ (sym c.has_room.ensures ∙ c.if-not-has_room.false), ap length (whole a.nal.now a.rbsp.now));
    }

pub returns : goal.returns
returns c =
    let s = c.args in
    let e = escaped_room s.rbsp.now s.nal.now (leb-true _ _ (sym c.has_room.ensures ∙ c.if-not-has_room.false)) in
    let p = put_whole s.nal.now s.rbsp.now c.put_slice.ensures in record { value = ap Some p.0 ∙ sym e.0; nal_after = p.1 ∙ sym e.1 }
