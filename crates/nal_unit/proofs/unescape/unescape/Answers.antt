-- `nal_unit::unescape::unescape` meets its contract: a fault is there where the first one is before the end. Assumes nothing.
use Rattle.std.proofs.Common.{◌≡◌, refl, sym, ap, ◌∙◌, List, ℕ, false, ◌+◌, ◌≤◌, arith, length, Ok, lt-ltb, le-ltb, leb-true, leb-false}
use Rattle.nal_unit.specs.Answers.{unescape-fault, unescape_short, unescape_fits}
use Rattle.nal_unit.specs.ScanCode.{first_fault, fault-place}
use Rattle.nal_unit.specs.Unescape.{fault}
use Rattle.nal_unit.proofs.unescape.unescape.Goals as goal

faultless : (s : List ℕ) (n : ℕ) → n ≡ 0 + first_fault s → length s ≤ n → fault s ≡ false
faultless s n e h = fault-place s ∙ le-ltb (first_fault s) (length s) (omega arith)

pub returns-then-first_fault-ebsp : goal.returns-then-first_fault-ebsp
returns-then-first_fault-ebsp c =
    let s = c.args.ebsp.now in
    let e = unescape-fault s c.args.out.now (fault-place s ∙ lt-ltb (first_fault s) (length s) (omega (arith, c.first_fault.ensures))) in
    record { answer = sym e; bytes = rw e refl }

pub returns-then-not-has_room : goal.returns-then-not-has_room
returns-then-not-has_room c =
    let s = c.args.ebsp.now in
    let e = unescape_short s c.args.out.now (faultless s _ c.first_fault.ensures c.if-first_fault-ebsp.false) (leb-false _ _ (sym c.has_room.ensures ∙ c.if-not-has_room.true)) in
    record { answer = sym e; bytes = rw e refl }

pub put_payload-requires : goal.put_payload-requires
put_payload-requires c = leb-true _ _ (sym c.has_room.ensures ∙ c.if-not-has_room.false)

pub returns : goal.returns
returns c =
    let s = c.args.ebsp.now in
    let e = unescape_fits s c.args.out.now (faultless s _ c.first_fault.ensures c.if-first_fault-ebsp.false) (leb-true _ _ (sym c.has_room.ensures ∙ c.if-not-has_room.false)) in
    let w = c.put_payload.ensures in record { answer = ap Ok w.0 ∙ sym e; bytes = rw e w.1 }
