use Rattle.std.proofs.Common.{sym, ◌∙◌, ◌≡◌, length, ◌/◌, arith}
use Rattle.std.proofs.Math.Seq.{take-append_seam}
use Rattle.hex_words.proofs.Spelling.{accepted}
use Rattle.hex_words.proofs.decode_digits.Goals as goal

pub returns-in-Ok-clause-bytes : goal.returns-in-Ok-clause-bytes
returns-in-Ok-clause-bytes c =
    let found = accepted c.args.most c.args.word.now (c.is_accepted.ensures.0 c.if-not-is_accepted.false) in
    let room : length c.as_mut_slice.result.now ≡ length c.args.word.now / 2 =
    omega (arith, c.as_mut_slice.ensures.len, c.in_ok-bytes.ensures.len) in
    let value = rw (room, found.1) at c.decode_to_slice.ensures.value in
    let n : c.in_ok-bytes.bytes.len ≡ length c.decode_to_slice.new.out =
    omega (arith, c.as_mut_slice.ensures.len, c.in_ok-bytes.ensures.len) in
    rw (n, take-append_seam, value.1) (sym found.2)

pub returns-in-Err-clause-accepted : goal.returns-in-Err-clause-accepted
returns-in-Err-clause-accepted c =
    let found = accepted c.args.most c.args.word.now (c.is_accepted.ensures.0 c.if-not-is_accepted.false) in
    let room : length c.as_mut_slice.result.now ≡ length c.args.word.now / 2 =
    omega (arith, c.as_mut_slice.ensures.len, c.in_ok-bytes.ensures.len) in
    let value = rw (room, found.1) at c.decode_to_slice.ensures.value in
    cc (sym value.0 ∙ c.in-Err.is)
