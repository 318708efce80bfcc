-- The room with which no call is refused with 9, whatever the samples: escaping adds at most half as many bytes again (nal_unit, Escape: esc_most).
--     sets_most                    the most that the units of both parameter sets have
--     picture_most q               the most that a picture's unit has: start code and header byte, the payload, half as many bytes again
--     room_of q                    both; 0 for a size that no call accepts
--     room_enough                  what a call writes has no more
--     Roomed, room_start, room_next     so a call with that room is not refused with 9, and it is 0 exactly where the call is refused with 1 to 5
-- Assumes nothing.
use Rattle.std.specs.Prelude.{◌≡◌, refl, List, Bool, true, false, cond, not, ℕ, zero, suc, ◌+◌, ◌/◌, ◌≤◌, Err, eqb, leb, length}
use Rattle.std.proofs.Common.{sym, ap, ◌∙◌, arith, length-append, le-leb, ne_eqb}
use Rattle.nal_unit.specs.Escape.{esc_most}
use Rattle.parameter_sets.specs.Pps.{pps_payload, pps_is}
use Rattle.ycbcr_image.specs.declared.Session.{Session}
use Rattle.ycbcr_image.specs.Sizes.{Sequence, sequence_of}
use Rattle.ycbcr_image.specs.Refusals.{session_of, depths_bad, accepted}
use Rattle.ycbcr_image.specs.Accepted.{Fine}
use Rattle.ycbcr_image.specs.Passed.{Passed}
use Rattle.ycbcr_image.proofs.Passed.{passed, passed_next}
use Rattle.ycbcr_image.specs.Shape.{of_shape, Shaped, shaped, shaped_next}
use Rattle.slice.specs.Picture.{Lends, picture_of, picture_length, picture_length_lem, length_most}
use Rattle.slice.specs.Macroblocks.{Ready}
use Rattle.ycbcr_image.specs.Numbers.{number-named}
use Rattle.encoder.specs.declared.EncodeError.TheVariants.{NoRoom}
use Rattle.encoder.specs.Shot.{Shot, image_of, lends_of, sequence_in, shot_whole}
use Rattle.encoder.specs.Units.{start_bytes, next_bytes}
use Rattle.encoder.specs.Answers.{wrote, number_of, answer_of, start_of, next_of}
use Rattle.encoder.specs.Code.{sets, picture_bytes, start_is, next_is, sets-length, sps_few, picture_size}

abbrev pub sets_most : ℕ
sets_most = 64

unfoldable pub picture_most : Sequence → ℕ
picture_most q = 5 + picture_length q + picture_length q / 2

unfoldable pub room_of : Sequence → ℕ
room_of q = cond (accepted q) (sets_most + picture_most q) 0

pub most_is : (q : Sequence) {n : ℕ} → n ≡ picture_length q → 5 + n + n / 2 ≡ picture_most q
unfolding picture_most
most_is q e = rw e refl

pub most_few : {q : Sequence} → Fine q → picture_most q ≤ 909115402
unfolding picture_most
most_few g = omega (arith, length_most g)

pub picture_within : {q : Sequence} {L : Lends} → Ready q L → length (picture_bytes q L) ≤ picture_most q
unfolding picture_most
picture_within {q} {L} r = omega (arith, picture_size q L, esc_most 0 (picture_of q L), picture_length_lem q L r.fine r.whole)

pub picture_few : {q : Sequence} {L : Lends} → Ready q L → length (picture_bytes q L) ≤ 909115402
picture_few r = omega (arith, picture_within r, most_few r.fine)

sets-within : (s : Session) → accepted (sequence_of s) ≡ true → length (sets (sequence_of s)) ≤ sets_most
sets-within s h = omega (arith, sets-length (sequence_of s), sps_few s h, esc_most 0 pps_payload, ap length pps_is)

pub room_some : (q : Sequence) → accepted q ≡ true → sets_most + picture_most q ≡ room_of q
unfolding room_of
room_some q e = rw e refl

pub room_zero : (q : Sequence) → accepted q ≡ false → 0 ≡ room_of q
unfolding room_of
room_zero q e = rw e refl

room_tested : (q : Sequence) → eqb (room_of q) 0 ≡ not (accepted q)
unfolding room_of
room_tested q = go (accepted q)
  where
    go : (b : Bool) → eqb (cond b (sets_most + picture_most q) 0) 0 ≡ not b
    go true = ne_eqb (sets_most + picture_most q) 0 (λ e. omega arith)
    go false = refl

pub room_enough : (s : Session) {L : Lends} → accepted (sequence_of s) ≡ true → Ready (sequence_of s) L
    → (length (start_bytes (sequence_of s) L) ≤ room_of (sequence_of s)) × (length (next_bytes (sequence_of s) L) ≤ room_of (sequence_of s))
room_enough s {L} h r =
    let q = sequence_of s in
    rw (start_is q L, next_is q L, length-append (sets q) (picture_bytes q L), ← room_some q h) (omega (arith, sets-within s h, picture_within r))

-- the number of an answer where there is room, of a call that 1 to 8 refuse with r, 0 for none, and that would write w; and with any room
with_room : (r : ℕ) (s : Session) (w : List ℕ) (n : ℕ) → r ≤ 8 → (r ≡ 0 → length w ≤ n) → number_of (answer_of r s w n) ≡ r
unfolding answer_of
with_room zero s w n l h = rw (le-leb (length w) n (h refl)) refl
with_room (suc r) s w n l h = rw (ne_eqb (suc r) 0 (λ e. omega arith)) (number-named (suc r) (omega arith) l)

any_room : (r : ℕ) (s : Session) (w : List ℕ) (n : ℕ) → r ≤ 8 → (number_of (answer_of r s w n) ≤ 9) × (of_shape (number_of (answer_of r s w n)) ≡ of_shape r)
unfolding answer_of
any_room zero s w n l = go (leb (length w) n)
  where
    go : (b : Bool) → (number_of (cond b (wrote s (length w)) (Err (NoRoom (length w)))) ≤ 9) × (of_shape (number_of (cond b (wrote s (length w)) (Err (NoRoom (length w))))) ≡ of_shape 0)
    go true = (omega arith, refl)
    go false = (omega arith, refl)
any_room (suc r) s w n l = rw (ne_eqb (suc r) 0 (λ e. omega arith), number-named (suc r) (omega arith) l) (omega arith, refl)

-- the number n that a call with the picture p and the output d answers: not 9 with that room; and of planes of one depth 1 to 5 exactly where the room is 0
pub record Roomed (p : Shot) (d : List ℕ) (n : ℕ) : Type 0 where
  pub enough : room_of (sequence_in p) ≤ length d → n ≡ 9 → ⊥
  pub none : depths_bad (image_of p) ≡ false → of_shape n ≡ eqb (room_of (sequence_in p)) 0
  pub most : n ≤ 9

roomed : (p : Shot) (d : List ℕ) (r : ℕ) (s : Session) (w : List ℕ) → Shaped (image_of p) r → (r ≡ 0 → length w ≤ room_of (sequence_in p)) → Roomed p d (number_of (answer_of r s w (length d)))
roomed p d r s w g h =
    let a = any_room r s w (length d) g.most in
    record {
      enough = λ l e. omega (arith, g.most, with_room r s w (length d) g.most (λ z. omega (arith, h z)));
      none = λ e. a.1 ∙ (g.shape e ∙ sym (room_tested (sequence_in p)));
      most = a.0;
    }

passed_room : (p : Shot) → Passed (image_of p)
    → (length (start_bytes (sequence_in p) (lends_of p)) ≤ room_of (sequence_in p)) × (length (next_bytes (sequence_in p) (lends_of p)) ≤ room_of (sequence_in p))
passed_room p g = room_enough (session_of (image_of p)) g.sizes (record { fine = g.fine; whole = shot_whole p g })

pub room_start : (p : Shot) (d : List ℕ) → Roomed p d (number_of (start_of p d))
unfolding start_of
room_start p d = roomed p d _ _ _ (shaped (image_of p)) (λ z. (passed_room p (passed (image_of p) z)).0)

pub room_next : (held : Session) (p : Shot) (d : List ℕ) → Roomed p d (number_of (next_of held p d))
unfolding next_of
room_next held p d = roomed p d _ _ _ (shaped_next (sequence_of held) (image_of p)) (λ z. (passed_room p (passed_next (sequence_of held) (image_of p) z).1).1)
