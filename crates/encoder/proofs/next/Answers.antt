-- `encoder::next` meets its contract: the refusals in turn, then the room, then the bytes. Assumes nothing.
use Rattle.std.proofs.Common.{refl, arith}
use Rattle.std.proofs.lemmas.Grind.{common_steps}
use Rattle.ycbcr_image.specs.Numbers.{number_low, named-number}
use Rattle.encoder.specs.Shot.{Shot, shot_of}
use Rattle.encoder.specs.Code.{has_room, ready, taken_next, next_refused, next_lacking, next_written}
use Rattle.encoder.proofs.next.Goals as goal

pub returns-in_err-check_next : goal.returns-in_err-check_next
returns-in_err-check_next c =
    let s = c.args in
    let p : Shot = shot_of s.picture in
    let x = c.in_err-check_next.field-0.0 in
    let r = next_refused s.held p _ s.out.now c.image-image.ensures c.in_err-check_next.ensures (λ z. omega (arith, number_low x)) in
    let f = c.from_residual.ensures in
    record { value = grind (arith, common_steps, named-number x, r.0); out_after = r.1 }

pub invariant_of-admitted : goal.invariant_of-admitted
invariant_of-admitted c =
    let s = c.args in
    let p : Shot = shot_of s.picture in
    let t = taken_next {p = p} s.held c.image-image.ensures c.in_ok-check_next.ensures refl c.session.ensures in
    record { ready = ready t }

pub returns-in-Some : goal.returns-in-Some
returns-in-Some c =
    let s = c.args in
    let p : Shot = shot_of s.picture in
    let t = taken_next {p = p} s.held c.image-image.ensures c.in_ok-check_next.ensures refl c.session.ensures in
    let r = next_lacking s.held _ _ s.out.now t c.in_ok-check_next.ensures refl c.in-Some.ensures in
    record { value = r.0; out_after = r.1 }

pub put-length-requires : goal.put-length-requires
put-length-requires c =
    has_room _ _ _ c.in_default.ensures refl

pub returns : goal.returns
returns c =
    let s = c.args in
    let p : Shot = shot_of s.picture in
    let t = taken_next {p = p} s.held c.image-image.ensures c.in_ok-check_next.ensures refl c.session.ensures in
    let r = next_written s.held _ t c.in_ok-check_next.ensures refl (has_room _ _ _ c.in_default.ensures refl) c.put-length.ensures in
    record { value = r.0; out_after = r.1 }
