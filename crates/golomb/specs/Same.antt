-- An answer is known by its number and its values, and a refusal changes nothing. Assumes nothing.
use Rattle.std.specs.Prelude.{◌≡◌, refl, Option, Some, None, Result, Ok, Err, List, ℕ}
use Rattle.std.proofs.Common.{ap, ap₂, arith}
use Rattle.golomb.specs.Answers.{written, written_place, buffer_of, read_answer, read_number, read_place}
use Rattle.golomb.specs.declared.WriteError.{WriteError}
use Rattle.golomb.specs.declared.WriteError.TheVariants.{NoCode, NoRoom}

-- ---- one number and one place, one answer

pub written_same : (a b : Result ℕ WriteError) (place : ℕ) → written a ≡ written b → written_place a place ≡ written_place b place → a ≡ b
written_same (Ok p) (Ok q) place n e = ap Ok e
written_same (Ok p) (Err NoCode) place n e = absurd (omega arith)
written_same (Ok p) (Err NoRoom) place n e = absurd (omega arith)
written_same (Err NoCode) (Ok q) place n e = absurd (omega arith)
written_same (Err NoCode) (Err NoCode) place n e = refl
written_same (Err NoCode) (Err NoRoom) place n e = absurd (omega arith)
written_same (Err NoRoom) (Ok q) place n e = absurd (omega arith)
written_same (Err NoRoom) (Err NoCode) place n e = absurd (omega arith)
written_same (Err NoRoom) (Err NoRoom) place n e = refl

pub read_same : {A : Type 0} (a b : Option (A × ℕ)) (old : A) (place : ℕ) → read_answer a ≡ read_answer b → read_number a old ≡ read_number b old → read_place a place ≡ read_place b place → a ≡ b
read_same (Some r) (Some t) old place n e f = ap₂ (λ x p. Some (x, p)) e f
read_same (Some r) None old place n e f = absurd (omega arith)
read_same None (Some t) old place n e f = absurd (omega arith)
read_same None None old place n e f = refl

-- ---- a refusal keeps the buffer, the number and the place

pub refused-write : (a : Result ℕ WriteError) (code s : List ℕ) (place : ℕ) → (written a ≡ 0 → ⊥) → (buffer_of a code s place ≡ s) × (written_place a place ≡ place)
refused-write (Ok p) code s place n = absurd (n refl)
refused-write (Err NoCode) code s place n = (refl, refl)
refused-write (Err NoRoom) code s place n = (refl, refl)

pub refused-read : {A : Type 0} (a : Option (A × ℕ)) (old : A) (place : ℕ) → (read_answer a ≡ 0 → ⊥) → (read_number a old ≡ old) × (read_place a place ≡ place)
refused-read (Some r) old place n = absurd (n refl)
refused-read None old place n = (refl, refl)
