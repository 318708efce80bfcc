-- What a call of the writer answers, and what it leaves (paper 01, "Writer's refusals").
--     Encoded                 what a call answers: what it wrote, or why it wrote nothing. `wrote s n` is the answer of an accepted call
--     number_of, length_of    the paper's number of an answer, 0 where the call is accepted, and its length
--     session_after           the session that it leaves, where s was held: only an accepted call changes it
--     case_of, encoded_one    an answer is known by its case, its number, its length and its session
--     answer_of, out_of       of a call that 1 to 8 refuse with r, 0 for none, and that would write w: the answer, and the output, which held d
--     Outcome, outcome        that answer and output by cases: accepted, no room, refused. An answer of 0 is the first (zero-written)
--     start_of, start_out     the start call: SPS, PPS and the first picture
--     next_of, next_out       the next call in a session: one picture
-- Assumes nothing.
use Rattle.std.specs.Prelude.{◌≡◌, refl, List, ◌++◌, Bool, true, false, cond, ℕ, ◌≤◌, ◌<◌, Result, Ok, Err, eqb, leb, length, drop}
use Rattle.std.proofs.Common.{sym, ap, ◌∙◌, arith, eqb-true, leb-true, leb-false}
use Rattle.std.proofs.lemmas.Bool.{eqb-false}
use Rattle.ycbcr_image.specs.declared.Session.{Session}
use Rattle.ycbcr_image.specs.Sizes.{sequence_of}
use Rattle.ycbcr_image.specs.Refusals.{session_of, refusal_of, refusal_next}
use Rattle.ycbcr_image.specs.Numbers.{number, number_low, named, named-number}
use Rattle.encoder.specs.declared.EncodeError.{EncodeError}
use Rattle.encoder.specs.declared.EncodeError.TheVariants.{NoRoom, Refused}
use Rattle.encoder.specs.declared.Written.{Written}
use Rattle.encoder.specs.Shot.{Shot, image_of, lends_of, sequence_in}
use Rattle.encoder.specs.Units.{start_bytes, next_bytes}

abbrev pub Encoded : Type 0
Encoded = Result Written EncodeError

abbrev pub wrote : Session → ℕ → Encoded
wrote s n = Ok (record { session = s; length = n })

abbrev pub number_of : Encoded → ℕ
number_of (Ok w) = 0
number_of (Err (NoRoom n)) = 9
number_of (Err (Refused r)) = number r

-- only 9 answers a length among the refusals
abbrev pub length_of : Encoded → ℕ
length_of (Ok w) = w.length
length_of (Err (NoRoom n)) = n
length_of (Err (Refused r)) = 0

abbrev pub session_after : Encoded → Session → Session
session_after (Ok w) s = w.session
session_after (Err (NoRoom n)) s = s
session_after (Err (Refused r)) s = s

-- which of the three cases an answer is
abbrev pub case_of : Encoded → ℕ
case_of (Ok w) = 0
case_of (Err (NoRoom n)) = 1
case_of (Err (Refused r)) = 2

pub encoded_one : (a b : Encoded) (s : Session) → case_of a ≡ case_of b → number_of a ≡ number_of b → length_of a ≡ length_of b → session_after a s ≡ session_after b s → a ≡ b
encoded_one (Ok w) (Ok v) s c r l h = of h l
  where
    of : {s t : Session} {n m : ℕ} → s ≡ t → n ≡ m → wrote s n ≡ wrote t m
    of a b = rw (a, b) refl
encoded_one (Err (NoRoom n)) (Err (NoRoom m)) s c r l h = ap (λ (k : ℕ). Err (NoRoom k)) l
encoded_one (Err (Refused n)) (Err (Refused m)) s c r l h =
    let e : n ≡ m = sym (named-number n) ∙ (ap named r ∙ named-number m) in
    rw e refl
encoded_one (Ok w) (Err (NoRoom m)) s c r l h = absurd (omega arith)
encoded_one (Ok w) (Err (Refused m)) s c r l h = absurd (omega arith)
encoded_one (Err (NoRoom n)) (Ok v) s c r l h = absurd (omega arith)
encoded_one (Err (NoRoom n)) (Err (Refused m)) s c r l h = absurd (omega arith)
encoded_one (Err (Refused n)) (Ok v) s c r l h = absurd (omega arith)
encoded_one (Err (Refused n)) (Err (NoRoom m)) s c r l h = absurd (omega arith)

unfoldable pub answer_of : ℕ → Session → List ℕ → ℕ → Encoded
answer_of r s w room = cond (eqb r 0) (cond (leb (length w) room) (wrote s (length w)) (Err (NoRoom (length w)))) (Err (Refused (named r)))

unfoldable pub out_of : ℕ → List ℕ → List ℕ → List ℕ
out_of r w d = cond (eqb r 0) (cond (leb (length w) (length d)) (w ++ drop (length w) d) d) d

pub data Outcome (r : ℕ) (s : Session) (w d : List ℕ) : Type 0 where
  accepted : r ≡ 0 → length w ≤ length d → answer_of r s w (length d) ≡ wrote s (length w) → out_of r w d ≡ w ++ drop (length w) d → Outcome r s w d
  lacking : r ≡ 0 → length d < length w → answer_of r s w (length d) ≡ Err (NoRoom (length w)) → out_of r w d ≡ d → Outcome r s w d
  refused : (r ≡ 0 → ⊥) → answer_of r s w (length d) ≡ Err (Refused (named r)) → out_of r w d ≡ d → Outcome r s w d

pub outcome : (r : ℕ) (s : Session) (w d : List ℕ) → Outcome r s w d
unfolding answer_of out_of
outcome r s w d = go (eqb r 0) (leb (length w) (length d)) refl refl
  where
    go : (b c : Bool) → eqb r 0 ≡ b → leb (length w) (length d) ≡ c → Outcome r s w d
    go true true i j = accepted (eqb-true r 0 i) (leb-true _ _ j) (rw (i, j) refl) (rw (i, j) refl)
    go true false i j = lacking (eqb-true r 0 i) (leb-false _ _ j) (rw (i, j) refl) (rw (i, j) refl)
    go false c i j = refused (eqb-false r 0 i) (rw i refl) (rw i refl)

pub zero-written : (r : ℕ) (s : Session) (w d : List ℕ) → number_of (answer_of r s w (length d)) ≡ 0 → answer_of r s w (length d) ≡ wrote s (length w)
zero-written r s w d e = go (outcome r s w d)
  where
    go : Outcome r s w d → answer_of r s w (length d) ≡ wrote s (length w)
    go (accepted z m a o) = a
    go (lacking z m a o) = let k : ◌≡◌ {A = ℕ} 9 0 = sym (ap number_of a) ∙ e in absurd (omega arith)
    go (refused z a o) = let k : number (named r) ≡ 0 = sym (ap number_of a) ∙ e in absurd (omega (arith, number_low (named r)))

unfoldable pub start_of : Shot → List ℕ → Encoded
start_of p d = answer_of (refusal_of (image_of p)) (session_of (image_of p)) (start_bytes (sequence_in p) (lends_of p)) (length d)

unfoldable pub start_out : Shot → List ℕ → List ℕ
start_out p d = out_of (refusal_of (image_of p)) (start_bytes (sequence_in p) (lends_of p)) d

unfoldable pub next_of : Session → Shot → List ℕ → Encoded
next_of s p d = answer_of (refusal_next (sequence_of s) (image_of p)) s (next_bytes (sequence_in p) (lends_of p)) (length d)

unfoldable pub next_out : Session → Shot → List ℕ → List ℕ
next_out s p d = out_of (refusal_next (sequence_of s) (image_of p)) (next_bytes (sequence_in p) (lends_of p)) d
