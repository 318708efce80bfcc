-- Escaping, unescaping and the codes as C sees them: numbers, lengths and places of the answers that nal_unit and golomb define.
--     escape_number, escape_length                       what escaping the payload s into the output d answers; what it leaves is nal_unit's escaped_out
--     unescape_number, unescape_length, unescape_buffer  what unescaping the bytes s into the output d answers and leaves
--     write_number, write_behind, write_buffer           what writing a code at a place of the buffer d answers and leaves, where b says whether the number has one
--     read_ue_number, read_ue_x, read_ue_behind          what reading an unsigned code at a place of the payload s answers; x is what the host held
--     read_se_number, read_se_x, read_se_behind          the same of a signed code
-- Then the law of each call. Assumes nothing.
use Rattle.std.specs.Prelude.{◌≡◌, refl, Option, Result, List, Bool, ℕ, ℤ}
use Rattle.std.proofs.Common.{ap, ◌∙◌}
use Rattle.nal_unit.specs.declared.unescape.UnescapeError.{UnescapeError}
use Rattle.nal_unit.specs.Answers.{number_of, length_of, escaped_of, escaped_out, unescaped_number, unescaped_length, unescape_of, unescaped_out}
use Rattle.golomb.specs.declared.WriteError.{WriteError}
use Rattle.golomb.specs.Answers.{written, written_place, write_of, buffer_of, read_answer, read_number, read_place, read_ue, read_se}

abbrev pub escape_number : List ℕ → List ℕ → ℕ
escape_number s d = number_of (escaped_of s d)

abbrev pub escape_length : List ℕ → List ℕ → ℕ
escape_length s d = length_of (escaped_of s d)

abbrev pub unescape_number : List ℕ → List ℕ → ℕ
unescape_number s d = unescaped_number (unescape_of s d)

abbrev pub unescape_length : List ℕ → List ℕ → ℕ
unescape_length s d = unescaped_length (unescape_of s d)

abbrev pub unescape_buffer : List ℕ → List ℕ → List ℕ
unescape_buffer s d = unescaped_out (unescape_of s d) s d

abbrev pub write_number : Bool → List ℕ → List ℕ → ℕ → ℕ
write_number b code d place = written (write_of b code d place)

abbrev pub write_behind : Bool → List ℕ → List ℕ → ℕ → ℕ
write_behind b code d place = written_place (write_of b code d place) place

abbrev pub write_buffer : Bool → List ℕ → List ℕ → ℕ → List ℕ
write_buffer b code d place = buffer_of (write_of b code d place) code d place

abbrev pub read_ue_number : List ℕ → ℕ → ℕ
read_ue_number s place = read_answer (read_ue s place)

abbrev pub read_ue_x : List ℕ → ℕ → ℕ → ℕ
read_ue_x s place x = read_number (read_ue s place) x

abbrev pub read_ue_behind : List ℕ → ℕ → ℕ
read_ue_behind s place = read_place (read_ue s place) place

abbrev pub read_se_number : List ℕ → ℕ → ℕ
read_se_number s place = read_answer (read_se s place)

abbrev pub read_se_x : List ℕ → ℕ → ℤ → ℤ
read_se_x s place x = read_number (read_se s place) x

abbrev pub read_se_behind : List ℕ → ℕ → ℕ
read_se_behind s place = read_place (read_se s place) place

-- what a call answers and leaves, in the order of its contract, where the callee's answer is a
pub escape_as : (s d : List ℕ) {a : Option ℕ} {d' : List ℕ} → a ≡ escaped_of s d → d' ≡ escaped_out s d
    → (number_of a ≡ escape_number s d) × ((length_of a ≡ escape_length s d) × (d' ≡ escaped_out s d))
escape_as s d r o = (ap number_of r, (ap length_of r, o))

pub unescape_as : (s d : List ℕ) {a : Result ℕ UnescapeError} {d' : List ℕ} → a ≡ unescape_of s d → d' ≡ unescaped_out (unescape_of s d) s d
    → (unescaped_number a ≡ unescape_number s d) × ((unescaped_length a ≡ unescape_length s d) × (d' ≡ unescape_buffer s d))
unescape_as s d r o = (ap unescaped_number r, (ap unescaped_length r, o))

pub read-ue_as : (s : List ℕ) (place x : ℕ) {a : Option (ℕ × ℕ)} → a ≡ read_ue s place
    → (read_answer a ≡ read_ue_number s place) × ((read_number a x ≡ read_ue_x s place x) × (read_place a place ≡ read_ue_behind s place))
read-ue_as s place x f = rw f (refl, (refl, refl))

pub read-se_as : (s : List ℕ) (place : ℕ) (x : ℤ) {a : Option (ℤ × ℕ)} → a ≡ read_se s place
    → (read_answer a ≡ read_se_number s place) × ((read_number a x ≡ read_se_x s place x) × (read_place a place ≡ read_se_behind s place))
read-se_as s place x f = rw f (refl, (refl, refl))

-- of both calls that write a code, where n and q are what is told of the answer r
pub write_as : (b : Bool) (code d : List ℕ) (place : ℕ) {r : Result ℕ WriteError} {d' : List ℕ} {n q : ℕ} → r ≡ write_of b code d place → d' ≡ buffer_of (write_of b code d place) code d place
    → (n ≡ written r) × (q ≡ written_place r place)
    → (n ≡ write_number b code d place) × ((q ≡ write_behind b code d place) × (d' ≡ write_buffer b code d place))
write_as b code d place r o t = (t.0 ∙ ap written r, (t.1 ∙ ap (λ (a : Result ℕ WriteError). written_place a place) r, o))
