-- `golomb::put_code` meets its contract: the code is written where it has room. Assumes nothing.
use Rattle.std.proofs.Common.{◌≡◌, refl, sym, ap, ◌∙◌, Ok, List, ℕ, arith}
use Rattle.lists.specs.Every.{Below}
use Rattle.lists.specs.Fill.{splice}
use Rattle.bits.specs.Bits.{bits_of, room_true, room_false, BitsPut}
use Rattle.bits.specs.Pack.{packed, packed-bits}
use Rattle.golomb.specs.Code.{ue}
use Rattle.golomb.specs.Answers.{write_short, write_fits}
use Rattle.golomb.proofs.put_code.Goals as goal

pub returns-then-not-room : goal.returns-then-not-room
returns-then-not-room c =
    let r = room_false c.args.buffer.now c.args.place c.code_len.result (sym c.if-not-room.ensures) in
    let e = write_short (ue c.args.x) c.args.buffer.now c.args.place (omega (arith, c.code_len.ensures)) in
    record { answer = sym e; bytes = rw e refl }

pub put_ue-requires : goal.put_ue-requires
put_ue-requires c =
    (c.requires, omega (arith, c.code_len.ensures, room_true c.args.buffer.now c.args.place c.code_len.result (sym c.if-not-room.ensures)))

-- bytes whose bits are known are those bits, packed
bytes : {s out : List ℕ} {place p : ℕ} (code : List ℕ) → Below 256 out → BitsPut s place code out p → out ≡ packed (splice (bits_of s) place code)
bytes {s} {out} code b w = sym (packed-bits out b) ∙ ap packed w.bits

pub returns : goal.returns
returns c =
    let r = room_true c.args.buffer.now c.args.place c.code_len.result (sym c.if-not-room.ensures) in
    let f = write_fits (ue c.args.x) c.args.buffer.now c.args.place (omega (arith, c.code_len.ensures)) in
    record {
      answer = ap Ok c.put_ue.ensures.behind ∙ sym f;
      bytes = rw f (bytes (ue c.args.x) (record { at = λ i. (c.type_inv.buffer i).fits }) c.put_ue.ensures);
    }
