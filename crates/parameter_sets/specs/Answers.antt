-- What the public calls answer.
--     Holds r p       the answer r of a call that writes a payload holds the bytes p and nothing else (holds_same: so it is known)
--     sps_read        what the answer of a call that reads a sequence parameter set says (sps-read_same: so it is known)
--     sps_number      its number: 0, or refusal 14 of paper 01, which is given exactly where none is read (sps-refused)
-- Assumes nothing.
use Rattle.std.specs.Prelude.{◌≡◌, refl, List, ◌++◌, ℕ, ◌-◌, ◌≤◌, length, take, drop, replicate}
use Rattle.std.proofs.Common.{sym, ap, ◌∙◌, arith, length-append, take-append-drop}
use Rattle.std.specs.Prelude as Prelude
use Rattle.std.specs.Prelude.{Some, None}
use Rattle.std.proofs.Math.Option.{Option, none, some}
use Rattle.ycbcr_image.specs.declared.Session.{Session}
use Rattle.ycbcr_image.specs.Sizes.{Sequence, sequence_of, session_one}
use Rattle.parameter_sets.specs.declared.Payload.{Payload}

-- the first bytes are p, and those behind them zeros
pub record Holds (r : Payload) (p : List ℕ) : Type 0 where
  pub len : r.len ≡ length p
  pub bytes : take r.len r.bytes ≡ p
  pub zeros : drop r.len r.bytes ≡ replicate (32 - r.len) 0

-- all its bytes
pub holds_all : (r : Payload) (p : List ℕ) → Holds r p → r.bytes ≡ p ++ replicate (32 - length p) 0
holds_all r p a = sym (take-append-drop r.len r.bytes) ∙ rw (a.bytes, a.zeros, a.len) refl

-- it has room for them
pub holds_room : (r : Payload) (p : List ℕ) → Holds r p → r.len ≤ length r.bytes
holds_room r p a = omega (arith, ap length (holds_all r p a), length-append p (replicate (32 - length p) 0), a.len)

-- one payload, one answer
pub holds_same : (r s : Payload) (p : List ℕ) → Holds r p → Holds s p → r ≡ s
holds_same r s p a b =
    let l : r.len ≡ s.len = a.len ∙ sym b.len in
    let w : r.bytes ≡ s.bytes = holds_all r p a ∙ sym (holds_all s p b) in
    let e : ◌≡◌ {A = Payload} (record { bytes = r.bytes; len = r.len }) (record { bytes = s.bytes; len = s.len }) = rw (w, l) refl in
    e

-- what a sequence parameter set that was read says
abbrev pub sps_read : Prelude.Option Session → Option Sequence
sps_read (Some s) = some (sequence_of s)
sps_read None = none

-- its number
abbrev pub sps_number : Prelude.Option Session → ℕ
sps_number (Some s) = 0
sps_number None = 14

-- 14 is given exactly where none was read
pub sps-refused : (a : Prelude.Option Session) (o : Option Sequence) → sps_read a ≡ o → (sps_number a ≡ 14 → o ≡ none) × (o ≡ none → sps_number a ≡ 14)
sps-refused (Some s) o e = (λ z. absurd (omega arith), λ n. let w : some (sequence_of s) ≡ none = e ∙ n in let z : ◌≡◌ {A = ℕ} 0 1 = cc in absurd (omega arith))
sps-refused None o e = (λ z. sym e, λ n. refl)

-- one answer says one thing
pub sps-read_same : (a b : Prelude.Option Session) → sps_read a ≡ sps_read b → a ≡ b
sps-read_same (Some s) (Some t) e = let z : sequence_of s ≡ sequence_of t = cc in ap Some (session_one s t z)
sps-read_same (Some s) None e = cc
sps-read_same None (Some t) e = cc
sps-read_same None None e = refl
