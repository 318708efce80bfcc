-- Laws of the two calls that their code cites.
--     sets, picture_bytes     the bytes of the parameter sets' units, and of a picture's
--     start_is, next_is       what the calls write is made of them
--     lack n room             None where n bytes have room, else n
-- Assumes nothing.
use Rattle.std.specs.Prelude.{◌≡◌, refl, List, [], ◌∷◌, ◌++◌, true, cond, ℕ, ◌+◌, ◌≤◌, ◌<◌, Option, Some, None, Err, leb, length}
use Rattle.std.proofs.Common.{sym, ap, ◌∙◌, append_assoc, append-nil, zero-add, arith, length-append, le-leb, eq-eqb, ne_eqb}
use Rattle.std.proofs.lemmas.Bool.{lt-leb}
use Rattle.lists.specs.Fill.{splice, splice-length, splice_front}
use Rattle.lists.specs.Part.{part, part_all}
use Rattle.lists.specs.Test.{either}
use Rattle.nal_unit.specs.Escape.{esc, esc_from, esc_most}
use Rattle.nal_unit.specs.Frame.{joined}
use Rattle.nal_unit.specs.EscapeCode.{counted}
use Rattle.nal_unit.specs.PutCode.{Put}
use Rattle.nal_unit.specs.CountCode.{Counts}
use Rattle.nal_unit.specs.UnitCode.{opening, framed, framed-length, Framed}
use Rattle.nal_unit.proofs.UnitCode.{frame_room, frame-put}
use Rattle.parameter_sets.specs.declared.Payload.{Payload}
use Rattle.parameter_sets.specs.Sps.{sps_payload, base_level}
use Rattle.parameter_sets.specs.Pps.{pps_payload, pps_is}
use Rattle.parameter_sets.specs.Answers.{Holds}
use Rattle.parameter_sets.specs.Code.{sps-length}
use Rattle.ycbcr_image.specs.declared.Session.{Session}
use Rattle.ycbcr_image.specs.declared.YCbCrImage.{YCbCrImage}
use Rattle.ycbcr_image.specs.Sizes.{Sequence, sequence_of}
use Rattle.ycbcr_image.specs.Refusals.{session_of, refusal_of, refusal_next, accepted}
use Rattle.ycbcr_image.specs.Passed.{Passed}
use Rattle.ycbcr_image.proofs.Passed.{passed, passed_next}
use Rattle.slice.specs.Picture.{Lends, picture_of}
use Rattle.slice.specs.Macroblocks.{Ready}
use Rattle.slice.specs.Laid.{Laid, laid_more}
use Rattle.ycbcr_image.specs.Numbers.{named}
use Rattle.encoder.specs.declared.EncodeError.TheVariants.{NoRoom, Refused}
use Rattle.encoder.specs.Shot.{Shot, image_of, lends_of, sequence_in, shot_whole}
use Rattle.encoder.specs.Units.{sps_header, pps_header, picture_header, sps_unit, pps_unit, picture_unit, start_bytes, next_bytes}
use Rattle.encoder.specs.Answers.{wrote, answer_of, out_of, start_of, start_out, next_of, next_out}

unfoldable pub sets : Sequence → List ℕ
sets q = framed sps_header (sps_payload base_level q) ++ framed pps_header pps_payload

unfoldable pub picture_bytes : Sequence → Lends → List ℕ
picture_bytes q L = framed picture_header (picture_of q L)

-- a unit in a row is framed
joined_more : (h : ℕ) (p : List ℕ) (us : List (List ℕ)) → joined ((h ∷ esc p) ∷ us) [] ≡ framed h p ++ joined us []
unfolding joined framed opening
joined_more h p us = refl

joined_last : (h : ℕ) (p : List ℕ) → joined ((h ∷ esc p) ∷ []) [] ≡ framed h p
unfolding joined
joined_last h p = joined_more h p [] ∙ append-nil (framed h p)

pub start_is : (q : Sequence) (L : Lends) → start_bytes q L ≡ sets q ++ picture_bytes q L
unfolding start_bytes sets picture_bytes sps_unit pps_unit picture_unit
start_is q L =
    let a = framed sps_header (sps_payload base_level q) in
    let b = framed pps_header pps_payload in
    let c = framed picture_header (picture_of q L) in
    joined_more sps_header (sps_payload base_level q) _ ∙ (ap (λ (l : List ℕ). a ++ l) (joined_more pps_header pps_payload _ ∙ ap (λ (l : List ℕ). b ++ l) (joined_last picture_header (picture_of q L))) ∙ sym (append_assoc a b c))

pub next_is : (q : Sequence) (L : Lends) → next_bytes q L ≡ picture_bytes q L
unfolding next_bytes picture_bytes picture_unit
next_is q L = joined_last picture_header (picture_of q L)

unfoldable pub lack : ℕ → ℕ → Option ℕ
lack n room = cond (leb n room) None (Some n)

pub lack_none : (n room : ℕ) → n ≤ room → None ≡ lack n room
unfolding lack
lack_none n room h = rw (le-leb n room h) refl

pub lack_some : (n room : ℕ) → room < n → Some n ≡ lack n room
unfolding lack
lack_some n room h = rw (lt-leb n room h) refl

-- where nothing is lacking there is room, and where something is there is none
pub has_room : (n room : ℕ) (m : Option ℕ) → m ≡ lack n room → m ≡ None → n ≤ room
has_room n room m e z =
    either n room (λ h. h) (λ h. let f : Some n ≡ None = lack_some n room h ∙ (sym e ∙ z) in cc)

no_room : (n room m : ℕ) → Some m ≡ lack n room → (room < n) × (m ≡ n)
no_room n room m e =
    either n room (λ h. let f : Some m ≡ None = e ∙ sym (lack_none n room h) in cc) (λ h. let f : Some m ≡ Some n = e ∙ sym (lack_some n room h) in (h, cc))

-- A picture p that passes 1 to 8, with its numbers i and its session s as the code has them.
pub record Taken (p : Shot) (i : YCbCrImage) (s : Session) : Type 0 where
  pub image : i ≡ image_of p
  pub session : s ≡ session_of i
  pub passed : Passed (image_of p)

pub taken_start : {p : Shot} {i : YCbCrImage} {s : Session} {r : ℕ} → i ≡ image_of p → r ≡ refusal_of i → r ≡ 0 → s ≡ session_of i → Taken p i s
taken_start {p} e f z h = record { image = e; session = h; passed = passed (image_of p) (sym (f ∙ ap refusal_of e) ∙ z) }

pub taken_next : {p : Shot} {i : YCbCrImage} {s : Session} {r : ℕ} (held : Session) → i ≡ image_of p → r ≡ refusal_next (sequence_of held) i → r ≡ 0 → s ≡ session_of i → Taken p i s
taken_next {p} held e f z h =
    record { image = e; session = h; passed = (passed_next (sequence_of held) (image_of p) (sym (f ∙ ap (λ (j : YCbCrImage). refusal_next (sequence_of held) j) e) ∙ z)).1 }

-- its session by its own numbers
own : {p : Shot} {i : YCbCrImage} {s : Session} → Taken p i s → s ≡ session_of (image_of p)
own t = t.session ∙ ap session_of t.image

-- it is ready to be written
pub ready : {p : Shot} {i : YCbCrImage} {s : Session} → Taken p i s → Ready (sequence_of s) (lends_of p)
ready {p} t = rw (own t) (record { fine = t.passed.fine; whole = shot_whole p t.passed })

pub sized : {p : Shot} {i : YCbCrImage} {s : Session} → Taken p i s → accepted (sequence_of s) ≡ true
sized t = rw (own t) t.passed.sizes

-- the length of the units of both sets
pub sets-length : (q : Sequence) → length (sets q) ≡ 10 + (length (esc (sps_payload base_level q)) + length (esc pps_payload))
unfolding sets
sets-length q =
    omega (arith, length-append (framed sps_header (sps_payload base_level q)) (framed pps_header pps_payload), framed-length sps_header (sps_payload base_level q), framed-length pps_header pps_payload)

-- a set where it is held: counted, and written behind the opening of its unit
sps-part : {r : Payload} {p : List ℕ} → Holds r p → part r.bytes 0 r.len ≡ p
unfolding part
sps-part h = h.bytes

pub sps-counted : {r : Payload} {p : List ℕ} {n y : ℕ} → Holds r p → Counts 0 (part r.bytes 0 r.len) n y → n ≡ length (esc p)
sps-counted h c = c.size ∙ ap (λ (l : List ℕ). length (esc l)) (sps-part h)

pub set_room : {r : Payload} {p : List ℕ} (d : List ℕ) (at h : ℕ) {d' : List ℕ} {at' : ℕ} → Holds r p → 0 < h → at + length (framed h p) ≤ length d
    → d' ≡ splice d at (opening h) → at' ≡ at + 5 → at' + length (esc_from (counted d' at') (part r.bytes 0 r.len)) ≤ length d'
set_room d at h g l m e f = rw (sps-part g) (frame_room d at h _ l m e f)

pub set-framed : {r : Payload} {p : List ℕ} (d : List ℕ) (at h : ℕ) {d' : List ℕ} {at' : ℕ} {d'' : List ℕ} {at'' : ℕ} → Holds r p → 0 < h → at + length (framed h p) ≤ length d
    → d' ≡ splice d at (opening h) → at' ≡ at + 5 → Put d' at' (part r.bytes 0 r.len) d'' at'' → Framed d at h p d'' at''
set-framed d at h g l m e f q = frame-put d at h _ l m e f (rw (sps-part g) at q)

pub sps_few : (s : Session) → accepted (sequence_of s) ≡ true → length (esc (sps_payload base_level (sequence_of s))) ≤ 48
sps_few s h = omega (arith, esc_most 0 (sps_payload base_level (sequence_of s)), sps-length base_level s h)

pub pps_counted : {v : List ℕ} {n y : ℕ} → v ≡ pps_payload → Counts 0 (part v 0 3) n y → (n ≡ length (esc pps_payload)) × (n ≤ 4)
pps_counted {v} x c =
    let l : length v ≡ 3 = rw x (ap length pps_is) in
    let e = c.size ∙ ap (λ (l : List ℕ). length (esc l)) (part_all v 3 l ∙ x) in
    (e, omega (arith, esc_most 0 pps_payload, ap length pps_is))

-- the second set behind the first
pub second_room : (q : Sequence) {d : List ℕ} {v d1 : List ℕ} {a1 : ℕ} → v ≡ pps_payload → length (sets q) ≤ length d → Framed d 0 sps_header (sps_payload base_level q) d1 a1
    → a1 + length (framed pps_header v) ≤ length d1
second_room q {d} e r f =
    let p = sps_payload base_level q in
    let l : length (framed sps_header p) + length (framed pps_header pps_payload) ≤ length d = omega (arith, sets-length q, framed-length sps_header p, framed-length pps_header pps_payload) in
    rw (e, f.place, f.bytes, splice-length d 0 (framed sps_header p) (omega arith)) (omega arith)

pub framed_as : {d : List ℕ} {at h : ℕ} {v p d' : List ℕ} {at' : ℕ} → v ≡ p → Framed d at h v d' at' → Framed d at h p d' at'
framed_as e f = rw e at f

-- a unit is laid
pub laid-framed : {d : List ℕ} {at h : ℕ} {p d' : List ℕ} {at' : ℕ} → Framed d at h p d' at' → Laid d at (framed h p) d' at'
laid-framed g = record { place = g.place; bytes = g.bytes }

pub laid-sets : (q : Sequence) {d d1 : List ℕ} {a1 : ℕ} {d2 : List ℕ} {a2 : ℕ} → length (sets q) ≤ length d
    → Framed d 0 sps_header (sps_payload base_level q) d1 a1 → Framed d1 a1 pps_header pps_payload d2 a2 → Laid d 0 (sets q) d2 a2
unfolding sets
laid-sets q r f g =
    laid_more (framed pps_header pps_payload) (omega (arith, length-append (framed sps_header (sps_payload base_level q)) (framed pps_header pps_payload))) (laid-framed f) (laid-framed g)

-- the length of a picture's unit
pub picture_size : (q : Sequence) (L : Lends) → length (picture_bytes q L) ≡ 5 + length (esc (picture_of q L))
unfolding picture_bytes
picture_size q L = framed-length picture_header (picture_of q L)

pub picture_as : (q : Sequence) (L : Lends) {n : ℕ} → n ≡ length (esc (picture_of q L)) → 5 + n ≡ length (picture_bytes q L)
picture_as q L e = rw e (sym (picture_size q L))

pub picture_room : (q : Sequence) (L : Lends) (at n : ℕ) → at + length (picture_bytes q L) ≤ n → at + length (framed picture_header (picture_of q L)) ≤ n
unfolding picture_bytes
picture_room q L at n h = h

pub laid_picture : (q : Sequence) (L : Lends) {d : List ℕ} {at : ℕ} {d' : List ℕ} {at' : ℕ} → Framed d at picture_header (picture_of q L) d' at' → Laid d at (picture_bytes q L) d' at'
unfolding picture_bytes
laid_picture q L g = laid-framed g

-- ---- the answers

pub refused-answer : (r : ℕ) (s : Session) (w d : List ℕ) → (r ≡ 0 → ⊥) → (Err (Refused (named r)) ≡ answer_of r s w (length d)) × (d ≡ out_of r w d)
unfolding answer_of out_of
refused-answer r s w d h = (rw (ne_eqb r 0 h) refl, rw (ne_eqb r 0 h) refl)

pub lacking_answer : (r m : ℕ) (s : Session) (w d : List ℕ) → r ≡ 0 → Some m ≡ lack (length w) (length d) → (Err (NoRoom m) ≡ answer_of r s w (length d)) × (d ≡ out_of r w d)
unfolding answer_of out_of
lacking_answer r m s w d z e =
    let n = no_room (length w) (length d) m e in
    (rw (eq-eqb r 0 z, lt-leb (length w) (length d) n.0, n.1) refl, rw (eq-eqb r 0 z, lt-leb (length w) (length d) n.0) refl)

pub written-answer : (r n : ℕ) (s : Session) (w d : List ℕ) {d' : List ℕ} → r ≡ 0 → length w ≤ length d → Laid d 0 w d' n → (wrote s n ≡ answer_of r s w (length d)) × (d' ≡ out_of r w d)
unfolding answer_of out_of
written-answer r n s w d z h g =
    let e : n ≡ length w = g.place ∙ zero-add (length w) in
    (rw (eq-eqb r 0 z, le-leb (length w) (length d) h, e) refl, rw (eq-eqb r 0 z, le-leb (length w) (length d) h) (g.bytes ∙ splice_front d w))

-- ---- the start call

pub start_refused : (p : Shot) {i : YCbCrImage} (r : ℕ) (d : List ℕ) → i ≡ image_of p → r ≡ refusal_of i → (r ≡ 0 → ⊥) → (Err (Refused (named r)) ≡ start_of p d) × (d ≡ start_out p d)
unfolding start_of start_out
start_refused p r d e f h = let g : r ≡ refusal_of (image_of p) = f ∙ ap refusal_of e in rw (← g) (refused-answer r _ _ d h)

-- what it writes, by the session that the code has
start_bytes_lem : {p : Shot} {i : YCbCrImage} {s : Session} → Taken p i s → sets (sequence_of s) ++ picture_bytes (sequence_of s) (lends_of p) ≡ start_bytes (sequence_in p) (lends_of p)
start_bytes_lem {p} t = rw (own t) (sym (start_is (sequence_in p) (lends_of p)))

start_size : {p : Shot} {i : YCbCrImage} {s : Session} → Taken p i s
    → length (sets (sequence_of s)) + length (picture_bytes (sequence_of s) (lends_of p)) ≡ length (start_bytes (sequence_in p) (lends_of p))
start_size {p} {s = s} t = sym (length-append (sets (sequence_of s)) (picture_bytes (sequence_of s) (lends_of p))) ∙ ap length (start_bytes_lem t)

pub start_lacking : {p : Shot} {i : YCbCrImage} {s : Session} (r b m : ℕ) (d : List ℕ) → Taken p i s → r ≡ refusal_of i → r ≡ 0 → b ≡ length (sets (sequence_of s))
    → Some m ≡ lack (b + length (picture_bytes (sequence_of s) (lends_of p))) (length d) → (Err (NoRoom m) ≡ start_of p d) × (d ≡ start_out p d)
unfolding start_of start_out
start_lacking {p} {i} {s} r b m d t f z l e =
    let n : b + length (picture_bytes (sequence_of s) (lends_of p)) ≡ length (start_bytes (sequence_in p) (lends_of p)) = rw l (start_size t) in
    let g : r ≡ refusal_of (image_of p) = f ∙ ap refusal_of t.image in
    rw (← g) (lacking_answer r m _ _ d z (e ∙ ap (λ (k : ℕ). lack k (length d)) n))

pub start_written : {p : Shot} {i : YCbCrImage} {s : Session} (r : ℕ) {d d1 : List ℕ} {a1 : ℕ} {d2 : List ℕ} {a2 : ℕ} → Taken p i s → r ≡ refusal_of i → r ≡ 0
    → length (sets (sequence_of s)) + length (picture_bytes (sequence_of s) (lends_of p)) ≤ length d
    → Laid d 0 (sets (sequence_of s)) d1 a1 → Laid d1 a1 (picture_bytes (sequence_of s) (lends_of p)) d2 a2 → (wrote s a2 ≡ start_of p d) × (d2 ≡ start_out p d)
unfolding start_of start_out
start_written {p} {i} {s} r {d} {a2 = a2} t f z h j k =
    let w = laid_more (picture_bytes (sequence_of s) (lends_of p)) (omega arith) j k in
    let g : r ≡ refusal_of (image_of p) = f ∙ ap refusal_of t.image in
    let a = written-answer r a2 (session_of (image_of p)) (start_bytes (sequence_in p) (lends_of p)) d z (rw (start_size t) at h) (rw (start_bytes_lem t) at w) in
    rw (← g) (ap (λ (x : Session). wrote x a2) (own t) ∙ a.0, a.1)

-- ---- the next call

pub next_refused : (held : Session) (p : Shot) {i : YCbCrImage} (r : ℕ) (d : List ℕ) → i ≡ image_of p → r ≡ refusal_next (sequence_of held) i → (r ≡ 0 → ⊥)
    → (Err (Refused (named r)) ≡ next_of held p d) × (d ≡ next_out held p d)
unfolding next_of next_out
next_refused held p r d e f h =
    let g : r ≡ refusal_next (sequence_of held) (image_of p) = f ∙ ap (λ (j : YCbCrImage). refusal_next (sequence_of held) j) e in
    rw (← g) (refused-answer r _ _ d h)

next_bytes_lem : {p : Shot} {i : YCbCrImage} {s : Session} → Taken p i s → picture_bytes (sequence_of s) (lends_of p) ≡ next_bytes (sequence_in p) (lends_of p)
next_bytes_lem {p} t = rw (own t) (sym (next_is (sequence_in p) (lends_of p)))

pub next_lacking : (held : Session) {p : Shot} {i : YCbCrImage} {s : Session} (r m : ℕ) (d : List ℕ) → Taken p i s → r ≡ refusal_next (sequence_of held) i → r ≡ 0
    → Some m ≡ lack (0 + length (picture_bytes (sequence_of s) (lends_of p))) (length d) → (Err (NoRoom m) ≡ next_of held p d) × (d ≡ next_out held p d)
unfolding next_of next_out
next_lacking held {p} {i} {s} r m d t f z e =
    let n : 0 + length (picture_bytes (sequence_of s) (lends_of p)) ≡ length (next_bytes (sequence_in p) (lends_of p)) = zero-add _ ∙ ap length (next_bytes_lem t) in
    let g : r ≡ refusal_next (sequence_of held) (image_of p) = f ∙ ap (λ (j : YCbCrImage). refusal_next (sequence_of held) j) t.image in
    rw (← g) (lacking_answer r m _ _ d z (e ∙ ap (λ (k : ℕ). lack k (length d)) n))

pub next_written : (held : Session) {p : Shot} {i : YCbCrImage} {s : Session} (r : ℕ) {d d1 : List ℕ} {a1 : ℕ} → Taken p i s → r ≡ refusal_next (sequence_of held) i → r ≡ 0
    → 0 + length (picture_bytes (sequence_of s) (lends_of p)) ≤ length d → Laid d 0 (picture_bytes (sequence_of s) (lends_of p)) d1 a1
    → (wrote held a1 ≡ next_of held p d) × (d1 ≡ next_out held p d)
unfolding next_of next_out
next_written held {p} {i} {s} r {d} {a1 = a1} t f z h k =
    let g : r ≡ refusal_next (sequence_of held) (image_of p) = f ∙ ap (λ (j : YCbCrImage). refusal_next (sequence_of held) j) t.image in
    rw (← g) (written-answer r a1 held (next_bytes (sequence_in p) (lends_of p)) d z (omega (arith, ap length (next_bytes_lem t))) (rw (next_bytes_lem t) at k))
