-- `encoder::start` meets its contract: the refusals in turn, then the room, then the bytes. Assumes nothing.
use Rattle.std.proofs.Common.{refl, arith}
use Rattle.std.proofs.lemmas.Grind.{common_steps}
use Rattle.ycbcr_image.specs.Numbers.{number_low, named-number}
use Rattle.slice.specs.Laid.{laid-length}
use Rattle.encoder.specs.Shot.{Shot, shot_of}
use Rattle.encoder.specs.Code.{has_room, ready, sized, taken_start, start_refused, start_lacking, start_written}
use Rattle.encoder.proofs.start.Goals as goal

pub returns-in_err-check_start : goal.returns-in_err-check_start
returns-in_err-check_start c =
    let s = c.args in
    let p : Shot = shot_of s.picture in
    let x = c.in_err-check_start.field-0.0 in
    let r = start_refused p _ s.out.now c.image-image.ensures c.in_err-check_start.ensures (λ z. omega (arith, number_low x)) in
    let f = c.from_residual.ensures in
    record { value = grind (arith, common_steps, named-number x, r.0); out_after = r.1 }

pub sets_len-before-requires : goal.sets_len-before-requires
sets_len-before-requires c =
    let s = c.args in
    let p : Shot = shot_of s.picture in
    let t = taken_start {p = p} c.image-image.ensures c.in_ok-check_start.ensures refl c.session-session.ensures in
    sized t

pub invariant_of-admitted : goal.invariant_of-admitted
invariant_of-admitted c =
    let s = c.args in
    let p : Shot = shot_of s.picture in
    let t = taken_start {p = p} c.image-image.ensures c.in_ok-check_start.ensures refl c.session-session.ensures in
    record { ready = ready t }

pub returns-in-Some : goal.returns-in-Some
returns-in-Some c =
    let s = c.args in
    let p : Shot = shot_of s.picture in
    let t = taken_start {p = p} c.image-image.ensures c.in_ok-check_start.ensures refl c.session-session.ensures in
    let r = start_lacking _ _ _ s.out.now t c.in_ok-check_start.ensures refl c.sets_len-before.ensures.0 c.in-Some.ensures in
    record { value = r.0; out_after = r.1 }

pub put_sets-at-requires : goal.put_sets-at-requires
put_sets-at-requires c =
    let s = c.args in
    let p : Shot = shot_of s.picture in
    let t = taken_start {p = p} c.image-image.ensures c.in_ok-check_start.ensures refl c.session-session.ensures in
    let m = has_room _ _ _ c.in_default.ensures refl in
    record { s_value = sized t; s_in_bounds = omega (arith, c.sets_len-before.ensures.0) }

pub put-length-requires : goal.put-length-requires
put-length-requires c =
    let m = has_room _ _ _ c.in_default.ensures refl in
    let g = c.put_sets-at.ensures in
    omega (arith, c.sets_len-before.ensures.0, g.place, laid-length g (omega (arith, c.sets_len-before.ensures.0)))

pub returns : goal.returns
returns c =
    let s = c.args in
    let p : Shot = shot_of s.picture in
    let t = taken_start {p = p} c.image-image.ensures c.in_ok-check_start.ensures refl c.session-session.ensures in
    let m = has_room _ _ _ c.in_default.ensures refl in
    let r = start_written _ t c.in_ok-check_start.ensures refl (omega (arith, c.sets_len-before.ensures.0)) c.put_sets-at.ensures c.put-length.ensures in
    record { value = r.0; out_after = r.1 }
