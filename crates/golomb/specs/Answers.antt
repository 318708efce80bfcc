-- What the public calls answer, in the numbers and values of paper 01, and what they leave in the buffer.
-- Assumes nothing.
use Rattle.std.specs.Prelude.{◌≡◌, refl, Option, Some, None, Result, Ok, Err, List, Bool, true, false, cond, ◌&&◌, ℕ, ◌+◌, ◌-◌, ◌^◌, ◌≤◌, ◌<◌, leb, ℤ, nat_abs, length}
use Rattle.std.proofs.Common.{sym, ap, ◌∙◌, arith, le-leb}
use Rattle.std.proofs.lemmas.Bool.{lt-leb}
use Rattle.lists.specs.Fill.{splice}
use Rattle.lists.specs.Part.{part}
use Rattle.bits.specs.Bits.{bits_of, bits_from, bit_count, value, from_below}
use Rattle.bits.specs.Pack.{packed}
use Rattle.golomb.specs.Read.{whole, code_num, code_bits, ue-read}
use Rattle.golomb.specs.Signed.{unmapped}
use Rattle.golomb.specs.declared.WriteError.{WriteError}
use Rattle.golomb.specs.declared.WriteError.TheVariants.{NoCode, NoRoom}

-- ---- writing

-- 20: no code exists for the number, tested first; 21: no room
abbrev pub written : Result ℕ WriteError → ℕ
written (Ok p) = 0
written (Err NoCode) = 20
written (Err NoRoom) = 21

-- the place behind the code; on refusal the place of the call
abbrev pub written_place : Result ℕ WriteError → ℕ → ℕ
written_place (Ok p) place = p
written_place (Err NoCode) place = place
written_place (Err NoRoom) place = place

-- the answer to a code's being written at a place of the buffer s, where the number has one
unfoldable pub write_of : Bool → List ℕ → List ℕ → ℕ → Result ℕ WriteError
write_of has code s place = cond has (cond (leb (place + length code) (bit_count s)) (Ok (place + length code)) (Err NoRoom)) (Err NoCode)

-- the buffer behind the call: the code's own bits are written and no other, and on refusal none
abbrev pub buffer_of : Result ℕ WriteError → List ℕ → List ℕ → ℕ → List ℕ
buffer_of (Ok p) code s place = packed (splice (bits_of s) place code)
buffer_of (Err NoCode) code s place = s
buffer_of (Err NoRoom) code s place = s

pub write_short : (code s : List ℕ) (place : ℕ) → bit_count s < place + length code → write_of true code s place ≡ Err NoRoom
unfolding write_of
write_short code s place h = rw (lt-leb (place + length code) (bit_count s) h) refl

pub write_fits : (code s : List ℕ) (place : ℕ) → place + length code ≤ bit_count s → write_of true code s place ≡ Ok (place + length code)
unfolding write_of
write_fits code s place h = rw (le-leb (place + length code) (bit_count s) h) refl

-- the domain of the unsigned code is 0 to 2 ^ 32 - 2, that of the signed one -(2 ^ 31 - 1) to 2 ^ 31 - 1
unfoldable pub has_ue : ℕ → Bool
has_ue x = leb x (2 ^ 32 - 2)

unfoldable pub has_se : ℤ → Bool
has_se x = leb (nat_abs x) (2 ^ 31 - 1)

-- ---- reading: the number and the place behind it, a natural number or a signed one

-- 22: no whole code stands at the place read
abbrev pub read_answer : {A : Type 0} → Option (A × ℕ) → ℕ
read_answer (Some r) = 0
read_answer None = 22

-- the number; on refusal one that the host holds, as it was
abbrev pub read_number : {A : Type 0} → Option (A × ℕ) → A → A
read_number (Some r) old = r.0
read_number None old = old

-- the place behind the code; on refusal the place of the call
abbrev pub read_place : {A : Type 0} → Option (A × ℕ) → ℕ → ℕ
read_place (Some r) place = r.1
read_place None place = place

-- one answer, one number and one place
pub same_number : {A : Type 0} {x y : A} {p q : ℕ} → ◌≡◌ {A = Option (A × ℕ)} (Some (x, p)) (Some (y, q)) → x ≡ y
same_number {A} {x} e = ap (λ (r : Option (A × ℕ)). read_number r x) e

pub same_place : {A : Type 0} {x y : A} {p q : ℕ} → ◌≡◌ {A = Option (A × ℕ)} (Some (x, p)) (Some (y, q)) → p ≡ q
same_place {A} e = ap (λ (r : Option (A × ℕ)). read_place r 0) e

unfoldable pub read_ue : List ℕ → ℕ → Option (ℕ × ℕ)
read_ue s place = cond (whole (bits_from s place)) (Some (code_num (bits_from s place), place + code_bits (bits_from s place))) None

unfoldable pub read_se : List ℕ → ℕ → Option (ℤ × ℕ)
read_se s place = cond (whole (bits_from s place)) (Some (unmapped (code_num (bits_from s place)), place + code_bits (bits_from s place))) None

-- u(n), 7.2: n bits as a number, n at most 64
unfoldable pub read_u : List ℕ → ℕ → ℕ → Option (ℕ × ℕ)
read_u s place n = cond (leb n 64 && leb (place + n) (bit_count s)) (Some (value (part (bits_of s) place n), place + n)) None

pub u-long : (s : List ℕ) (place n : ℕ) → 64 < n → read_u s place n ≡ None
unfolding read_u
u-long s place n h = rw (lt-leb n 64 h) refl

pub u_short : (s : List ℕ) (place n : ℕ) → n ≤ 64 → bit_count s < place + n → read_u s place n ≡ None
unfolding read_u
u_short s place n h k = rw (le-leb n 64 h, lt-leb (place + n) (bit_count s) k) refl

pub u_fits : (s : List ℕ) (place n : ℕ) → n ≤ 64 → place + n ≤ bit_count s → read_u s place n ≡ Some (value (part (bits_of s) place n), place + n)
unfolding read_u
u_fits s place n h k = rw (le-leb n 64 h, le-leb (place + n) (bit_count s) k) refl

pub ue_none : (s : List ℕ) (place : ℕ) → whole (bits_from s place) ≡ false → read_ue s place ≡ None
unfolding read_ue
ue_none s place h = rw h refl

pub ue_some : (s : List ℕ) (place : ℕ) → whole (bits_from s place) ≡ true → read_ue s place ≡ Some (code_num (bits_from s place), place + code_bits (bits_from s place))
unfolding read_ue
ue_some s place h = rw h refl

-- a signed code is read as the unsigned one that it is
abbrev pub signed : Option (ℕ × ℕ) → Option (ℤ × ℕ)
signed (Some r) = Some (unmapped r.0, r.1)
signed None = None

pub se_is : (s : List ℕ) (place : ℕ) → read_se s place ≡ signed (read_ue s place)
unfolding read_se read_ue
se_is s place = go (whole (bits_from s place)) refl
  where
    go : (b : Bool) → whole (bits_from s place) ≡ b → read_se s place ≡ signed (read_ue s place)
    go true e = rw e refl
    go false e = rw e refl

-- a number that is read has a code
pub ue-domain : (s : List ℕ) (place k p : ℕ) → read_ue s place ≡ Some (k, p) → k ≤ 2 ^ 32 - 2
ue-domain s place k p e = go (whole (bits_from s place)) refl
  where
    go : (b : Bool) → whole (bits_from s place) ≡ b → k ≤ 2 ^ 32 - 2
    go true w = let n : code_num (bits_from s place) ≡ k = same_number (sym (ue_some s place w) ∙ e) in rw (← n) (ue-read (bits_from s place) (from_below s place) w).small
    go false w = let z : ◌≡◌ {A = ℕ} 0 1 = cc (ue_none s place w) in absurd (omega arith)
