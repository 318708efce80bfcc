-- The answers of escaping and unescaping, with their numbers and values.
--     number_of, length_of      an answer's number (0 where it is accepted, 21 no room) and its length (0 where it is refused)
--     escaped_of, escaped_out   the answer to a payload and an output, and what the output then holds
--     same_answer               answers of equal numbers and lengths are equal
--     unescaped_number, unescaped_length, unescape_of, unescaped_out, unescaped_same     the same of unescaping (12 a fault)
--     unescape-esc              what was escaped comes back
-- Of these proofs/Answers.antt has `unescape-esc`, since an edit of must-fail/ changes what it rests on.
-- Assumes nothing.
use Rattle.std.specs.Prelude.{◌≡◌, refl, List, ◌++◌, true, false, cond, ℕ, ◌≤◌, ◌<◌, leb, length, drop, Option, Some, None, Result, Ok, Err}
use Rattle.std.proofs.Common.{ap, arith, le-leb}
use Rattle.std.proofs.lemmas.Bool.{lt-leb}
use Rattle.nal_unit.specs.Escape.{esc}
use Rattle.nal_unit.specs.Unescape.{un, fault}
use Rattle.nal_unit.specs.declared.unescape.UnescapeError.{UnescapeError}
use Rattle.nal_unit.specs.declared.unescape.UnescapeError.TheVariants.{Fault, NoRoom}

-- Escaping

abbrev pub number_of : Option ℕ → ℕ
number_of (Some n) = 0
number_of None = 21

abbrev pub length_of : Option ℕ → ℕ
length_of (Some n) = n
length_of None = 0

pub same_answer : (a b : Option ℕ) → number_of a ≡ number_of b → length_of a ≡ length_of b → a ≡ b
same_answer (Some n) (Some m) e f = ap Some f
same_answer (Some n) None e f = absurd (omega arith)
same_answer None (Some m) e f = absurd (omega arith)
same_answer None None e f = refl

-- refused exactly where the escape is longer than the output
unfoldable pub escaped_of : List ℕ → List ℕ → Option ℕ
escaped_of p d = cond (leb (length (esc p)) (length d)) (Some (length (esc p))) None

-- the escape, then what stood behind it; where it is refused, what stood there
unfoldable pub escaped_out : List ℕ → List ℕ → List ℕ
escaped_out p d = cond (leb (length (esc p)) (length d)) (esc p ++ drop (length (esc p)) d) d

pub escaped_room : (p d : List ℕ) → length (esc p) ≤ length d → (escaped_of p d ≡ Some (length (esc p))) × (escaped_out p d ≡ esc p ++ drop (length (esc p)) d)
unfolding escaped_of escaped_out
escaped_room p d h = let e = le-leb (length (esc p)) (length d) h in (rw e refl, rw e refl)

pub escaped_none : (p d : List ℕ) → length d < length (esc p) → (escaped_of p d ≡ None) × (escaped_out p d ≡ d)
unfolding escaped_of escaped_out
escaped_none p d h = let e = lt-leb (length (esc p)) (length d) h in (rw e refl, rw e refl)

-- Unescaping

-- 12: the bytes have a fault, tested first; 21: no room
abbrev pub unescaped_number : Result ℕ UnescapeError → ℕ
unescaped_number (Ok n) = 0
unescaped_number (Err Fault) = 12
unescaped_number (Err NoRoom) = 21

-- the length written; on refusal none
abbrev pub unescaped_length : Result ℕ UnescapeError → ℕ
unescaped_length (Ok n) = n
unescaped_length (Err e) = 0

-- the answer to the bytes s, with the buffer d lent
unfoldable pub unescape_of : List ℕ → List ℕ → Result ℕ UnescapeError
unescape_of s d = cond (fault s) (Err Fault) (cond (leb (length (un s)) (length d)) (Ok (length (un s))) (Err NoRoom))

-- the buffer behind the call: the payload, then what stood behind it; on refusal as it was
abbrev pub unescaped_out : Result ℕ UnescapeError → List ℕ → List ℕ → List ℕ
unescaped_out (Ok n) s d = un s ++ drop n d
unescaped_out (Err e) s d = d

-- the answer in each of its three cases: a fault, no room, room
pub unescape-fault : (s d : List ℕ) → fault s ≡ true → unescape_of s d ≡ Err Fault
unfolding unescape_of
unescape-fault s d e = rw e refl

pub unescape_short : (s d : List ℕ) → fault s ≡ false → length d < length (un s) → unescape_of s d ≡ Err NoRoom
unfolding unescape_of
unescape_short s d e h = rw (e, lt-leb (length (un s)) (length d) h) refl

pub unescape_fits : (s d : List ℕ) → fault s ≡ false → length (un s) ≤ length d → unescape_of s d ≡ Ok (length (un s))
unfolding unescape_of
unescape_fits s d e h = rw (e, le-leb (length (un s)) (length d) h) refl

-- an answer is known by its number and length
pub unescaped_same : (a b : Result ℕ UnescapeError) → unescaped_number a ≡ unescaped_number b → unescaped_length a ≡ unescaped_length b → a ≡ b
unescaped_same (Ok m) (Ok n) e f = ap Ok f
unescaped_same (Ok m) (Err Fault) e f = absurd (omega arith)
unescaped_same (Ok m) (Err NoRoom) e f = absurd (omega arith)
unescaped_same (Err Fault) (Ok n) e f = absurd (omega arith)
unescaped_same (Err Fault) (Err Fault) e f = refl
unescaped_same (Err Fault) (Err NoRoom) e f = absurd (omega arith)
unescaped_same (Err NoRoom) (Ok n) e f = absurd (omega arith)
unescaped_same (Err NoRoom) (Err Fault) e f = absurd (omega arith)
unescaped_same (Err NoRoom) (Err NoRoom) e f = refl
