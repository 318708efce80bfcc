-- `golomb::leading_zero_bits` meets its contract: the zeros passed and those in front of what is left are those asked for. Assumes nothing.
use Rattle.std.proofs.Common.{◌≡◌, sym, ◌∙◌, ℕ, ◌+◌, add_assoc, arith}
use Rattle.bits.specs.Bits.{bits_from, room_true, room_false, count-length, count-lt, from_step, from_end}
use Rattle.golomb.specs.Read.{leading_zero_bits, lead-nil, lead_zero, lead_one}
use Rattle.golomb.proofs.leading_zero_bits.Goals as goal

pub returns-then-not-room : goal.returns-then-not-room
returns-then-not-room c =
    let s = c.args.payload.now in
    let at : ℕ = c.args.place + c.loop-zeros.zeros in
    let short = room_false s c.args.place (c.loop-zeros.zeros + 1) (sym c.if-not-room.ensures) in
    let z : leading_zero_bits (bits_from s at) ≡ 0 = rw (from_end s at (omega arith)) lead-nil in
    omega arith

pub overflow_add-place : goal.overflow_add-place
overflow_add-place c =
    omega (arith, room_true c.args.payload.now c.args.place (c.loop-zeros.zeros + 1) (sym c.if-not-room.ensures), count-lt c.args.payload.now)

pub bit_at-requires : goal.bit_at-requires
bit_at-requires c =
    omega (arith, room_true c.args.payload.now c.args.place (c.loop-zeros.zeros + 1) (sym c.if-not-room.ensures), count-length c.args.payload.now)

pub returns-then-bit_at-ne0 : goal.returns-then-bit_at-ne0
returns-then-bit_at-ne0 c =
    let s = c.args.payload.now in
    let at : ℕ = c.args.place + c.loop-zeros.zeros in
    let room = room_true s c.args.place (c.loop-zeros.zeros + 1) (sym c.if-not-room.ensures) in
    let z : leading_zero_bits (bits_from s at) ≡ 0 = rw (from_step s at (omega arith)) (lead_one _ _ (λ e. c.if-bit_at-ne0.true (c.bit_at.ensures ∙ e))) in
    omega arith

pub loop-zeros-preserved : goal.loop-zeros-preserved
loop-zeros-preserved c =
    let s = c.args.payload.now in
    let at : ℕ = c.args.place + c.loop-zeros.zeros in
    let room = room_true s c.args.place (c.loop-zeros.zeros + 1) (sym c.if-not-room.ensures) in
    let z : leading_zero_bits (bits_from s at) ≡ leading_zero_bits (bits_from s (at + 1)) + 1 =
    rw (from_step s at (omega arith), ← c.bit_at.ensures, c.if-bit_at-ne0.false) (lead_zero _) in
    rw (← add_assoc c.args.place c.loop-zeros.zeros 1) (omega arith)
