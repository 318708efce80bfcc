-- The promises for the C calls (include/reelpony.h): `reelpony_start`, `reelpony_next` and `reelpony_read`, called by a host that passes on the numbers that
-- each left. Their contracts (reelpony, Numbers: `StartsIn`, `NextsIn`; Reading: `ReadsIn`) are all that is used.
--     c                       `reelpony_read` is a way to call the reader (Host). So every promise about a host's calls holds of it: `host-round_trip c`, `host-cut c`,
--                             `host_damage c`, `host-refused c`, and in Damaged, Ends and Numbers `host_damaged c`, `host-ends c`, `host-numbers c`
--     CallIn, ShootIn         a call of the writer; a start call that was accepted and next calls behind it, accepted or not
--     file_in, shots_in       what the accepted ones wrote, one behind the other; their pictures
--     take_in, file_in_lem    a take of those pictures (take_in_lem), whose bytes the file is
--     whole_way, numbers-way  files written by the C calls, read by the C calls
--     refused_start, refused_next, refused-read     a refusal changes no lent byte and no session; of a reader's numbers only the place may be another
-- Of these proofs/InC.antt has `take_in`, `file_in_lem`, `whole_way` and `numbers-way`, since an edit of must-fail/ changes what they rest on.
-- Assumes nothing.
use Rattle.std.specs.Prelude.{◌≡◌, refl, List, [], ◌∷◌, ◌++◌, Bool, true, false, cond, ℕ, ◌+◌, eqb, length, take, get_or}
use Rattle.std.proofs.Common.{sym, ap, ◌∙◌, arith}
use Rattle.nal_unit.specs.Calls.{Say, ended, astray, said, at}
use Rattle.ycbcr_image.specs.declared.Session.{Session}
use Rattle.ycbcr_image.specs.Refusals.{session_of}
use Rattle.encoder.specs.Shot.{Shot, image_of}
use Rattle.encoder.specs.Answers as A
use Rattle.encoder.specs.Answers.{Encoded, number_of, length_of, answer_of, out_of, Outcome, accepted, lacking, refused, outcome, zero-written, start_of, start_out, next_of, next_out}
use Rattle.reader.specs.Judge as J
use Rattle.reader.specs.Judge.{nothing, Word}
use Rattle.reader.specs.Read.{told, number_told}
use Rattle.reelpony.specs.Numbers.{PictureIn, shot_in, known_in, held_of, words_after, start_number, start_length, start_buffer, start_words, next_number, next_length, next_buffer, StartsIn, NextsIn}
use Rattle.reelpony.specs.Reading.{held_in, turn_in, told8, moved8, after8, ReadsIn}
use Rattle.reelpony.specs.Words.{session-words, after_words}
use Rattle.take.specs.Host.{Host}
use Rattle.take.specs.Written as W
use Rattle.take.specs.Written.{Wrote}

-- ---- the reader

-- what `reelpony_read` answers: its result, and the eight numbers of the answer
pub record AnswerIn : Type 0 where
  pub number : ℕ
  pub words : List ℕ

-- the numbers of a reader that has not begun
abbrev pub zeros : List ℕ
zeros = 0 ∷ 0 ∷ 0 ∷ 0 ∷ 0 ∷ 0 ∷ 0 ∷ 0 ∷ []

pub zeros-hold : held_in zeros ≡ nothing
unfolding held_in
zeros-hold = refl

abbrev pub c : Host
c = record {
  State = List ℕ;
  Answer = AnswerIn;
  fresh = zeros;
  place = λ ws. get_or ws 0 0;
  held = held_in;
  number = λ a. a.number;
  Says = λ a t. (a.number ≡ number_told t) × (a.words ≡ told8 t);
  Reads = λ s ws P a ws' Q. ReadsIn s ws P.y P.cb P.cr a.number ws' a.words Q.y Q.cb Q.cr;
  begins = (refl, zeros-hold);
  numbered = λ a t e. e.0;
  turns = λ s ws P a ws' Q r. record { answer = (r.number, r.answer); moves = (after_words r).0; holds = (after_words r).1; in_y = r.in_y; in_cb = r.in_cb; in_cr = r.in_cr };
}

-- ---- the writer

-- the picture and the output lent; the result, the length, the output and the session's numbers then
pub record CallIn : Type 0 where
  pub picture : PictureIn
  pub out : List ℕ
  pub number : ℕ
  pub len : ℕ
  pub out' : List ℕ
  pub session : List ℕ

-- next calls behind one that left the numbers ws
abbrev pub NextsBehind : List ℕ → List CallIn → Type 0
NextsBehind ws [] = Unit {0}
NextsBehind ws (k ∷ ks) = NextsIn k.picture k.out ws k.number k.len k.out' k.session × NextsBehind k.session ks

-- whatever the session's numbers were before the start call
pub record ShootIn : Type 0 where
  pub before : List ℕ
  pub first : CallIn
  pub others : List CallIn
  pub begun : StartsIn first.picture first.out before first.number first.len first.out' first.session
  pub none : first.number ≡ 0
  pub went : NextsBehind first.session others

-- a refused call adds nothing
unfoldable pub nexts_in : List CallIn → List ℕ
nexts_in [] = []
nexts_in (k ∷ ks) = cond (eqb k.number 0) (take k.len k.out' ++ nexts_in ks) (nexts_in ks)

unfoldable pub file_in : ShootIn → List ℕ
file_in S = take S.first.len S.first.out' ++ nexts_in S.others

unfoldable pub next_shots : List CallIn → List Shot
next_shots [] = []
next_shots (k ∷ ks) = cond (eqb k.number 0) (shot_in k.picture ∷ next_shots ks) (next_shots ks)

abbrev pub shots_in : ShootIn → List Shot
shots_in S = shot_in S.first.picture ∷ next_shots S.others

-- a call of C as the writer's own, in the session s
abbrev pub wrote : Session → CallIn → Wrote
wrote s k = record { shot = shot_in k.picture; out = k.out; session = s; len = k.len }

unfoldable pub wrotes : Session → List CallIn → List Wrote
wrotes s [] = []
wrotes s (k ∷ ks) = cond (eqb k.number 0) (wrote s k ∷ wrotes s ks) (wrotes s ks)

-- a call that is answered with 0 is accepted: l is then its length
zero_is : (r : ℕ) (s : Session) (w d : List ℕ) {l : ℕ} → number_of (answer_of r s w (length d)) ≡ 0 → l ≡ length_of (answer_of r s w (length d)) → answer_of r s w (length d) ≡ A.wrote s l
zero_is r s w d e f = let a = zero-written r s w d e in a ∙ ap (λ (k : ℕ). A.wrote s k) (sym (f ∙ ap length_of a))

-- the numbers of a call that is answered with 0 are known
known-zero : (b : Bool) (n : ℕ) → 0 ≡ cond b n 99 → b ≡ true
known-zero true n e = refl
known-zero false n e = absurd (omega arith)

-- what an accepted start call of C is: the writer's own, whose session it leaves in the numbers
pub record Begun (p : PictureIn) (d : List ℕ) (l : ℕ) (d' ws' : List ℕ) : Type 0 where
  pub writes : start_of (shot_in p) d ≡ A.wrote (session_of (image_of (shot_in p))) l
  pub bytes : d' ≡ start_out (shot_in p) d
  pub holds : held_of ws' ≡ session_of (image_of (shot_in p))

begun_in : (p : PictureIn) (d ws : List ℕ) {l : ℕ} {d' ws' : List ℕ} → StartsIn p d ws 0 l d' ws' → Begun p d l d' ws'
unfolding start_number start_length start_buffer start_words start_of
begun_in p d ws r =
    let k = known-zero (known_in p) _ r.number in
    let a = zero_is _ _ _ d (sym (rw k at r.number)) (rw k at r.len) in
    record { writes = a; bytes = rw k at r.bytes; holds = ap held_of ((rw k at r.session) ∙ ap (λ (x : Encoded). words_after x ws) a) ∙ session-words (session_of (image_of (shot_in p))) }

-- an accepted next call, where the numbers say the session s
pub record Went (s : Session) (p : PictureIn) (d : List ℕ) (l : ℕ) (d' : List ℕ) : Type 0 where
  pub writes : next_of s (shot_in p) d ≡ A.wrote s l
  pub bytes : d' ≡ next_out s (shot_in p) d

pub went_in : (s : Session) (p : PictureIn) (d ws : List ℕ) {l : ℕ} {d' ws' : List ℕ} → held_of ws ≡ s → NextsIn p d ws 0 l d' ws' → Went s p d l d'
unfolding next_number next_length next_buffer next_of
went_in s p d ws e r =
    let k = known-zero (known_in p) _ r.number in
    record { writes = zero_is _ _ _ d (sym (rw (k, e) at r.number)) (rw (k, e) at r.len); bytes = rw (k, e) at r.bytes }

pub began : (S : ShootIn) → Begun S.first.picture S.first.out S.first.len S.first.out' S.first.session
began S = begun_in S.first.picture S.first.out S.before (rw S.none at S.begun)

pub nexts_shots : (s : Session) (ks : List CallIn) → W.shots_in (wrotes s ks) ≡ next_shots ks
unfolding wrotes next_shots
nexts_shots s [] = refl
nexts_shots s (k ∷ ks) = go (eqb k.number 0) refl (nexts_shots s ks)
  where
    go : (b : Bool) → eqb k.number 0 ≡ b → W.shots_in (wrotes s ks) ≡ next_shots ks → W.shots_in (wrotes s (k ∷ ks)) ≡ next_shots (k ∷ ks)
    go true i e = rw (i, e) refl
    go false i e = rw (i, e) refl

-- ---- refusals

-- of the writer's calls: the output and the session as they were, and only 9 has a length
pub record AsBefore (d ws : List ℕ) (n l : ℕ) (d' ws' : List ℕ) : Type 0 where
  pub bytes : d' ≡ d
  pub session : ws' ≡ ws
  pub length : (n ≡ 9 → ⊥) → l ≡ 0

refused-answer : (r : ℕ) (s : Session) (w d ws : List ℕ) → (number_of (answer_of r s w (length d)) ≡ 0 → ⊥)
    → AsBefore d ws (number_of (answer_of r s w (length d))) (length_of (answer_of r s w (length d))) (out_of r w d) (words_after (answer_of r s w (length d)) ws)
refused-answer r s w d ws z = go (outcome r s w d)
  where
    go : Outcome r s w d → AsBefore d ws (number_of (answer_of r s w (length d))) (length_of (answer_of r s w (length d))) (out_of r w d) (words_after (answer_of r s w (length d)) ws)
    go (accepted e m a o) = absurd (z (ap number_of a))
    go (lacking e m a o) = record { bytes = o; session = rw a refl; length = λ i. absurd (i (ap number_of a)) }
    go (refused e a o) = record { bytes = o; session = rw a refl; length = λ i. rw a refl }

pub refused_start : (p : PictureIn) (d ws : List ℕ) (n l : ℕ) (d' ws' : List ℕ) → StartsIn p d ws n l d' ws' → (n ≡ 0 → ⊥) → AsBefore d ws n l d' ws'
unfolding start_number start_length start_buffer start_words start_of start_out
refused_start p d ws n l d' ws' r z = rw (r.number, r.len, r.bytes, r.session) (go (known_in p) (λ e. z (r.number ∙ e)))
  where
    go : (b : Bool) → (start_number b (shot_in p) d ≡ 0 → ⊥) → AsBefore d ws (start_number b (shot_in p) d) (start_length b (shot_in p) d) (start_buffer b (shot_in p) d) (start_words b (shot_in p) d ws)
    go true y = refused-answer _ _ _ d ws y
    go false y = record { bytes = refl; session = refl; length = λ i. refl }

pub refused_next : (p : PictureIn) (d ws : List ℕ) (n l : ℕ) (d' ws' : List ℕ) → NextsIn p d ws n l d' ws' → (n ≡ 0 → ⊥) → AsBefore d ws n l d' ws'
unfolding next_number next_length next_buffer next_of next_out
refused_next p d ws n l d' ws' r z = rw (r.number, r.len, r.bytes, r.session) (go (known_in p) (λ e. z (r.number ∙ e)))
  where
    go : (b : Bool) → (next_number b ws (shot_in p) d ≡ 0 → ⊥) → AsBefore d ws (next_number b ws (shot_in p) d) (next_length b ws (shot_in p) d) (next_buffer b ws (shot_in p) d) ws
    go true y = let s = refused-answer _ (held_of ws) _ d ws y in record { bytes = s.bytes; session = refl; length = s.length }
    go false y = record { bytes = refl; session = refl; length = λ i. refl }

-- of the reader's (beside `host-refused c`): its numbers, all but the place
refused-words : (ws : List ℕ) (p m : ℕ) (h : J.Held) (a : Say Word) → (number_told (told (at p a)) ≡ 0 → ⊥) → after8 ws (told (at p a)) m h ≡ moved8 m ws
unfolding at
refused-words ws p m h ended z = refl
refused-words ws p m h (astray o n) z = refl
refused-words ws p m h (said o (J.sps q)) z = absurd (z refl)
refused-words ws p m h (said o J.pps) z = absurd (z refl)
refused-words ws p m h (said o (J.picture X)) z = refl
refused-words ws p m h (said o (J.refused n)) z = refl

pub refused-read : (s ws y cb cr : List ℕ) (n : ℕ) (ws' a y' cb' cr' : List ℕ) → ReadsIn s ws y cb cr n ws' a y' cb' cr' → (n ≡ 0 → ⊥) → ws' ≡ moved8 (get_or ws' 0 0) ws
refused-read s ws y cb cr n ws' a y' cb' cr' r z =
    let t = turn_in s ws y cb cr in
    let p = get_or ws 0 0 in
    let e : ws' ≡ moved8 (p + t.moved) ws = r.reader ∙ refused-words ws p (p + t.moved) t.held t.say (λ i. z (r.number ∙ i)) in
    rw e refl
