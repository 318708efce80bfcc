-- `golomb::read_u` meets its contract: the tests are the definition's. Assumes nothing.
use Rattle.std.proofs.Common.{sym, ap, Some, ◌∙◌, ℕ, ◌+◌, arith}
use Rattle.bits.specs.Bits.{room_true, room_false, count-lt}
use Rattle.golomb.specs.Answers.{u-long, u_short, u_fits}
use Rattle.golomb.proofs.read_u.Goals as goal

pub returns-then-n-gt64 : goal.returns-then-n-gt64
returns-then-n-gt64 c = sym (u-long _ _ _ c.if-n-gt64.true)

pub returns-then-not-room : goal.returns-then-not-room
returns-then-not-room c = sym (u_short _ _ _ c.if-n-gt64.false (room_false _ _ _ (sym c.if-not-room.ensures)))

pub get_bits-requires : goal.get_bits-requires
get_bits-requires c = (c.if-n-gt64.false, room_true _ _ _ (sym c.if-not-room.ensures))

pub overflow_add-result : goal.overflow_add-result
overflow_add-result c = omega (arith, room_true c.args.payload.now c.args.place c.args.n (sym c.if-not-room.ensures), count-lt c.args.payload.now)

pub returns : goal.returns
returns c =
    ap (λ (v : ℕ). Some (v, c.args.place + c.args.n)) c.get_bits.ensures
    ∙ sym (u_fits _ _ _ c.if-n-gt64.false (room_true _ _ _ (sym c.if-not-room.ensures)))
