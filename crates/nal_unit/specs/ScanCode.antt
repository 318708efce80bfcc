-- What the scans of the code (scan.rt) rest on: how tests by `|`, `^` and `&` say what the definitions do, and how the first fault, the next start code
-- and trailing zeros go together.
--     first_fault s        how far it is to the first fault, or to the end where there is none
--     next_first           the next start code is not before the first fault
--     unit_of s            the unit whose bytes begin at the front of s, less its trailing zeros
--     unit_bad             that unit has a fault exactly where the first fault of s and two bytes more are in it
--     next_over, first_over    the next start code and the first fault from a place on, where none stands at the places before another
--     trim_over, trim_by, blank_by    trailing zeros by the last byte that is not zero; zero bytes by a test of each
--     Seeking, Sought      the search for the first fault at a place that it has reached, and what it finds; the inserted bytes on its way are seen too
--     Scanned s from r     the unit at a place of a slice: where the next start code or the end is, where the unit stops, whether it has a fault (no calm place), from where on it is calm
-- Assumes nothing.
use Rattle.std.specs.Prelude.{◌≡◌, refl, List, [], ◌∷◌, ◌++◌, Bool, true, false, not, cond, ◌&&◌, ◌||◌, ℕ, zero, suc, ◌+◌, ◌-◌, ◌*◌, ◌/◌, ◌≤◌, ◌<◌, leb, ltb, eqb, length, take, drop, get_or, Option, Some, None, is_none, IfSome}
use Rattle.std.specs.Option.{unwrap_or}
use Rattle.std.proofs.Common.{sym, ap, ◌∙◌, true≢false, add-zero, add_assoc, mod-eq_of_lt, arith, length-take, length-drop, drop_of_length-le, take-append-drop, length-take-le, take-take, take-add, drop-drop, get_or-take, get_or-drop, lt-ltb, eqb-true, eq-eqb, ne_eqb, le-leb, leb-true, leb-false}
use Rattle.std.proofs.Math.Bool.{and_assoc, or-true, and-eq-true_iff}
use Rattle.std.proofs.Math.Dec.{leb-suc-suc}
use Rattle.std.specs.Int.Bits.{bit_or, bit_xor, bit_and}
use Rattle.std.proofs.lemmas.Nat.Bits.{and_high}
use Rattle.std.proofs.lemmas.Bool.{not-true, lt-leb}
use Rattle.lists.specs.Part.{part, drop_step}
use Rattle.lists.specs.Test.{either}
use Rattle.lists.specs.Flag.{or-zero, xor-zero, every}
use Rattle.nal_unit.specs.Units.{code-fault}
use Rattle.nal_unit.specs.EscapeCode.{inserts_at}
use Rattle.nal_unit.specs.CalmCode.{plain_at}
use Rattle.nal_unit.specs.StartCode.{code, next, code_first, next_le, next_past, next_there}
use Rattle.nal_unit.specs.Scan.{code_at, next_step, trim_none, trim-zero, trim_last, fault_at}
use Rattle.nal_unit.specs.Unescape.{over3, fault_here, fault, fault-nil, fault_past}
use Rattle.nal_unit.specs.Walk.{blank, trim, trimmed}
use Rattle.nal_unit.specs.Kept.{ins, ins_at, ins_at_lem, ins_count, count_end, Flat, flat_none, flat_more, flat-join, flat-count}
use Rattle.nal_unit.specs.declared.scan.Found.{Found}
use Rattle.nal_unit.specs.declared.scan.UnitScan.{UnitScan}

-- Tests on bytes

-- three bytes that begin with two zeros
or-three : (a b c : ℕ) → eqb (bit_or (bit_or a b) c) 0 ≡ eqb a 0 && (eqb b 0 && eqb c 0)
or-three a b c = or-zero (bit_or a b) c ∙ ap (λ (p : Bool). p && eqb c 0) (or-zero a b) ∙ and_assoc (eqb a 0) (eqb b 0) (eqb c 0)

-- a byte is 03 or less where its six high bits are zero
pub high_zero : (c : ℕ) → c < 256 → eqb (bit_and c 252) 0 ≡ leb c 3
high_zero c h =
    let q : bit_and c 252 ≡ c / 4 * 4 = and_high c 6 2 ∙ ap (λ (n : ℕ). n * 4) (mod-eq_of_lt {n = c / 4} {m = 64} (omega arith)) in
    either c 3 (λ l. eq-eqb (bit_and c 252) 0 (omega arith) ∙ sym (le-leb c 3 l)) (λ l. ne_eqb (bit_and c 252) 0 (λ e. omega arith) ∙ sym (lt-leb c 3 l))

-- a start code, as the code tests for one
pub code-test : (s : List ℕ) (i : ℕ) → i + 3 ≤ length s
    → eqb (bit_or (bit_or (get_or s i 0) (get_or s (i + 1) 0)) (bit_xor (get_or s (i + 2) 0) 1)) 0 ≡ code (drop i s)
code-test s i h =
    or-three (get_or s i 0) (get_or s (i + 1) 0) (bit_xor (get_or s (i + 2) 0) 1)
    ∙ ap (λ (p : Bool). eqb (get_or s i 0) 0 && (eqb (get_or s (i + 1) 0) 0 && p)) (xor-zero (get_or s (i + 2) 0) 1)
    ∙ sym (code_at s i h)

-- an inserted byte and the byte behind it, as the code tests for them
pub inserted-test : (c d : ℕ) → d < 256 → eqb (bit_or (bit_xor c 3) (bit_and d 252)) 0 ≡ eqb c 3 && leb d 3
inserted-test c d h = or-zero (bit_xor c 3) (bit_and d 252) ∙ ap (λ (p : Bool). p && eqb (bit_and d 252) 0) (xor-zero c 3) ∙ ap (λ (p : Bool). eqb c 3 && p) (high_zero d h)

-- a fault at the front, by the first four bytes (past the end `get_or` reads 0, which is not over 03)
pub fault-four : (s : List ℕ) (i : ℕ) → i + 3 ≤ length s → fault_here (drop i s) ≡ fault_here (get_or s i 0 ∷ get_or s (i + 1) 0 ∷ get_or s (i + 2) 0 ∷ get_or s (i + 3) 0 ∷ [])
unfolding fault_here over3
fault-four s i h = fault_at s i h

-- the third byte of a fault: 02 or less, or 03 before a byte over 03
third : (c d : ℕ) → (leb c 3 && eqb (cond (eqb c 3 && leb d 3) 1 0) 0) ≡ (leb c 2 || (eqb c 3 && leb 4 d))
third c d =
    either c 2 (λ l. rw (le-leb c 2 l, le-leb c 3 (omega arith), ne_eqb c 3 (λ e. omega arith)) refl)
    (λ l. either c 3 (λ k. rw (lt-leb c 2 l, le-leb c 3 k, eq-eqb c 3 (omega arith)) (behind d)) (λ k. rw (lt-leb c 2 l, lt-leb c 3 k, ne_eqb c 3 (λ e. omega arith)) refl))
  where
    behind : (d : ℕ) → eqb (cond (leb d 3) 1 0) 0 ≡ leb 4 d
    behind d = either d 3 (λ l. rw (le-leb d 3 l, lt-leb 4 d (omega arith)) refl) (λ l. rw (lt-leb d 3 l, le-leb 4 d l) refl)

-- a fault, as the code tests for one: m is 1 where c is 03 and d, the byte behind, is 03 or less
pub fault-test : (a b c d m : ℕ) → c < 256 → m ≡ cond (eqb c 3 && leb d 3) 1 0
    → eqb (bit_or (bit_or (bit_or a b) (bit_and c 252)) m) 0 ≡ fault_here (a ∷ b ∷ c ∷ d ∷ [])
unfolding fault_here over3
fault-test a b c d m h e =
    or-zero (bit_or (bit_or a b) (bit_and c 252)) m
    ∙ ap (λ (p : Bool). p && eqb m 0) (or-three a b (bit_and c 252))
    ∙ and_assoc (eqb a 0) (eqb b 0 && eqb (bit_and c 252) 0) (eqb m 0)
    ∙ ap (λ (p : Bool). eqb a 0 && p) (and_assoc (eqb b 0) (eqb (bit_and c 252) 0) (eqb m 0))
    ∙ ap (λ (p : Bool). eqb a 0 && (eqb b 0 && (p && eqb m 0))) (high_zero c h)
    ∙ ap (λ (p : Bool). eqb a 0 && (eqb b 0 && p)) (rw e (third c d))

-- the same, where a Bool says that c is 03 and d 03 or less
pub fault-bits : (a b c d : ℕ) (m : Bool) → c < 256 → m ≡ eqb c 3 && leb d 3 → (eqb (bit_or (bit_or a b) (bit_and c 252)) 0 && not m) ≡ fault_here (a ∷ b ∷ c ∷ d ∷ [])
fault-bits a b c d m h e =
    let x = bit_or (bit_or a b) (bit_and c 252) in
    let p = eqb c 3 && leb d 3 in
    rw e (ap (λ (q : Bool). eqb x 0 && q) (turned p) ∙ sym (or-zero x (cond p 1 0)) ∙ fault-test a b c d (cond p 1 0) h refl)
  where
    turned : (p : Bool) → not p ≡ eqb (cond p 1 0) 0
    turned true = refl
    turned false = refl

-- where two bytes are zero and the third is 03 or less, a fault or an inserted byte may stand; elsewhere none does
low-three : (s : List ℕ) (i : ℕ) → i + 3 ≤ length s → (eqb (get_or s i 0) 0 && (eqb (get_or s (i + 1) 0) 0 && leb (get_or s (i + 2) 0) 3)) ≡ false
    → (fault_here (drop i s) ≡ false) × (ins_at s (i + 2) ≡ false)
unfolding ins
low-three s i h l =
    let x = get_or s i 0 in
    let y = get_or s (i + 1) 0 in
    let z = get_or s (i + 2) 0 in
    let w = get_or s (i + 3) 0 in
    let two : i + 2 - 2 ≡ i = omega arith in
    let one : i + 2 - 1 ≡ i + 1 = omega arith in
    (fault_at s i h ∙ by (eqb x 0) (eqb y 0) (leb z 3) (leb z 2 || (eqb z 3 && leb 4 w)) (none z w) l, rw (ins_at_lem s (i + 2) (omega arith), two, one) (by (eqb x 0) (eqb y 0) (leb z 3) (eqb z 3) (other z) l))
  where
    none : (c d : ℕ) → leb c 3 ≡ false → (leb c 2 || (eqb c 3 && leb 4 d)) ≡ false
    none c d f = let l = leb-false c 3 f in rw (lt-leb c 2 (omega arith), ne_eqb c 3 (λ e. omega arith)) refl

    other : (c : ℕ) → leb c 3 ≡ false → eqb c 3 ≡ false
    other c f = let l = leb-false c 3 f in ne_eqb c 3 (λ e. omega arith)

    by : (p q r k : Bool) → (r ≡ false → k ≡ false) → (p && (q && r)) ≡ false → (p && (q && k)) ≡ false
    by false q r k f e = refl
    by true false r k f e = refl
    by true true r k f e = f e

-- the same by the bits of the bytes
pub low_none : (s : List ℕ) (i : ℕ) → i + 3 ≤ length s → get_or s (i + 2) 0 < 256
    → eqb (bit_or (bit_or (get_or s i 0) (get_or s (i + 1) 0)) (bit_and (get_or s (i + 2) 0) 252)) 0 ≡ false → (fault_here (drop i s) ≡ false) × (ins_at s (i + 2) ≡ false)
low_none s i h b e =
    let x = get_or s i 0 in
    let y = get_or s (i + 1) 0 in
    let z = get_or s (i + 2) 0 in
    low-three s i h (sym (or-three x y (bit_and z 252) ∙ ap (λ (p : Bool). eqb x 0 && (eqb y 0 && p)) (high_zero z b)) ∙ e)

-- The first fault

-- how far it is to the first fault, or to the end where there is none
unfoldable pub first_fault : List ℕ → ℕ
first_fault [] = 0
first_fault (x ∷ t) = cond (fault_here (x ∷ t)) 0 (suc (first_fault t))

-- at a fault
pub first_here : (s : List ℕ) → fault_here s ≡ true → first_fault s ≡ 0
unfolding first_fault
first_here [] e = refl
first_here (x ∷ t) e = rw e refl

-- one byte on where none stands
pub first_past : (x : ℕ) (t : List ℕ) → fault_here (x ∷ t) ≡ false → first_fault (x ∷ t) ≡ suc (first_fault t)
unfolding first_fault
first_past x t e = rw e refl

-- at most one byte on
first_more : (x : ℕ) (t : List ℕ) → first_fault (x ∷ t) ≤ suc (first_fault t)
unfolding first_fault
first_more x t = by (fault_here (x ∷ t))
  where
    by : (b : Bool) → cond b 0 (suc (first_fault t)) ≤ suc (first_fault t)
    by true = omega arith
    by false = omega arith

-- it is not beyond the end
pub first_le : (s : List ℕ) → first_fault s ≤ length s
unfolding first_fault
first_le [] = omega arith
first_le (x ∷ t) = by (fault_here (x ∷ t)) (first_le t)
  where
    by : (b : Bool) → first_fault t ≤ length t → cond b 0 (suc (first_fault t)) ≤ suc (length t)
    by true h = omega arith
    by false h = omega arith

-- there the list ends, or a fault stands
pub first_there : (s : List ℕ) → first_fault s < length s → fault_here (drop (first_fault s) s) ≡ true
unfolding first_fault
first_there [] h = absurd (omega arith)
first_there (x ∷ t) h = by (fault_here (x ∷ t)) refl (first_there t)
  where
    by : (b : Bool) → fault_here (x ∷ t) ≡ b → (first_fault t < length t → fault_here (drop (first_fault t) t) ≡ true) → fault_here (drop (first_fault (x ∷ t)) (x ∷ t)) ≡ true
    by true e ih = rw (first_here (x ∷ t) e) e
    by false e ih = rw (first_past x t e) (ih (omega (arith, first_past x t e)))

-- there is a fault where the first is before the end
pub fault-place : (s : List ℕ) → fault s ≡ ltb (first_fault s) (length s)
unfolding first_fault fault
fault-place [] = refl
fault-place (x ∷ t) = by (fault_here (x ∷ t)) refl (fault-place t)
  where
    by : (b : Bool) → fault_here (x ∷ t) ≡ b → fault t ≡ ltb (first_fault t) (length t) → (b || fault t) ≡ ltb (cond b 0 (suc (first_fault t))) (suc (length t))
    by true e ih = sym (lt-ltb 0 (suc (length t)) (omega arith))
    by false e ih = ih ∙ sym (leb-suc-suc (suc (first_fault t)) (length t))

-- By the places of a slice, as a loop moves

-- the first fault: one byte on; the end, where fewer than three bytes are left
pub first_step : (s : List ℕ) (i : ℕ) → i < length s → fault_here (drop i s) ≡ false → i + first_fault (drop i s) ≡ i + 1 + first_fault (drop (i + 1) s)
first_step s i h e =
    let d = drop_step s i h in
    omega (arith, ap first_fault d, first_past (get_or s i 0) (drop (i + 1) s) (rw d at e))

pub first_short : (s : List ℕ) (i : ℕ) → i ≤ length s → length s < i + 3 → i + first_fault (drop i s) ≡ length s
unfolding first_fault fault_here
first_short s i l h = omega (arith, length-drop i s, few (drop i s) (omega (arith, length-drop i s)))
  where
    few : (l : List ℕ) → length l < 3 → first_fault l ≡ length l
    few [] h = refl
    few (a ∷ []) h = refl
    few (a ∷ b ∷ []) h = refl
    few (a ∷ b ∷ c ∷ t) h = absurd (omega arith)

-- the next start code and the first fault some places on, at none of which one stands
pub next_over : (s : List ℕ) (i j : ℕ) → i ≤ j → j ≤ length s → ((k : ℕ) → i ≤ k → k < j → code (drop k s) ≡ false) → i + next (drop i s) ≡ j + next (drop j s)
next_over s i j h l f = go (j - i) i (omega arith) f
  where
    go : (n i : ℕ) → i + n ≡ j → ((k : ℕ) → i ≤ k → k < j → code (drop k s) ≡ false) → i + next (drop i s) ≡ j + next (drop j s)
    go zero i e f = let q : i ≡ j = omega arith in rw q refl
    go (suc n) i e f = next_step s i (omega arith) (f i (omega arith) (omega arith)) ∙ go n (i + 1) (omega arith) (λ k a b. f k (omega arith) b)

pub first_over : (s : List ℕ) (i j : ℕ) → i ≤ j → j ≤ length s → ((k : ℕ) → i ≤ k → k < j → fault_here (drop k s) ≡ false)
    → i + first_fault (drop i s) ≡ j + first_fault (drop j s)
first_over s i j h l f = go (j - i) i (omega arith) f
  where
    go : (n i : ℕ) → i + n ≡ j → ((k : ℕ) → i ≤ k → k < j → fault_here (drop k s) ≡ false) → i + first_fault (drop i s) ≡ j + first_fault (drop j s)
    go zero i e f = let q : i ≡ j = omega arith in rw q refl
    go (suc n) i e f = first_step s i (omega arith) (f i (omega arith) (omega arith)) ∙ go n (i + 1) (omega arith) (λ k a b. f k (omega arith) b)

-- the next start code, k places on, and one more where none stands
pub next_on : (s : List ℕ) (i k : ℕ) → i + k < length s → code (drop (i + k) s) ≡ false → i + next (drop i s) ≡ i + k + next (drop (i + k) s)
    → i + next (drop i s) ≡ i + (k + 1) + next (drop (i + (k + 1)) s)
next_on s i k h f e = e ∙ rw (add_assoc i k 1) at (next_step s (i + k) h f)

-- the first fault, k places on, and one more where none stands
pub first_on : (s : List ℕ) (i k : ℕ) → i + k < length s → fault_here (drop (i + k) s) ≡ false → i + first_fault (drop i s) ≡ i + k + first_fault (drop (i + k) s)
    → i + first_fault (drop i s) ≡ i + (k + 1) + first_fault (drop (i + (k + 1)) s)
first_on s i k h f e = e ∙ rw (add_assoc i k 1) at (first_step s (i + k) h f)

-- what the search finds from the place `from` on: the first fault, and a place from which on no inserted byte stands up to the fault's third byte
pub record Sought (s : List ℕ) (from : ℕ) (r : Found) : Type 0 where
  pub fault : r.fault ≡ from + first_fault (drop from s)
  pub calm : (e : ℕ) → e ≤ r.fault + 2 → e ≤ length s → ins_count s r.calm e ≡ 0

-- the search has reached the place i, and no inserted byte stands from c up to i + 2
pub record Seeking (s : List ℕ) (from i c : ℕ) : Type 0 where
  pub within : i ≤ length s
  pub first : from + first_fault (drop from s) ≡ i + first_fault (drop i s)
  pub low : 1 ≤ c
  pub flat : Flat s c (i + 2)

pub seek_start : (s : List ℕ) (from c : ℕ) → from ≤ length s → 1 ≤ c → Flat s c (from + 2) → Seeking s from from c
seek_start s from c h l g = record { within = h; first = refl; low = l; flat = g }

-- one place on, where nothing stands
pub seek-keep : {s : List ℕ} {from i c : ℕ} → Seeking s from i c → i + 3 ≤ length s → (fault_here (drop i s) ≡ false) × (ins_at s (i + 2) ≡ false) → Seeking s from (i + 1) c
seek-keep {s} {from} {i} {c} g h f =
    record { within = omega arith; first = g.first ∙ first_step s i (omega arith) f.0; low = g.low; flat = flat_more (i + 1 + 2) g.flat f.1 (omega arith) }

-- and where an inserted byte may stand: it is calm from behind it on
pub seek-raise : {s : List ℕ} {from i c : ℕ} → Seeking s from i c → i + 3 ≤ length s → fault_here (drop i s) ≡ false → Seeking s from (i + 1) (i + 3)
seek-raise {s} {from} {i} {c} g h f =
    record { within = omega arith; first = g.first ∙ first_step s i (omega arith) f; low = omega arith; flat = flat_none s (i + 3) (i + 1 + 2) (omega arith) }

-- a byte that stands as it is in an escape is behind no fault's two zeros, and no inserted one
pub plain_none : (s : List ℕ) (i : ℕ) → i + 3 ≤ length s → plain_at s (i + 2) ≡ true → (fault_here (drop i s) ≡ false) × (ins_at s (i + 2) ≡ false)
unfolding plain_at
plain_none s i h e =
    low-three s i h (not-true (eqb (get_or s i 0) 0 && (eqb (get_or s (i + 1) 0) 0 && leb (get_or s (i + 2) 0) 3))
    (rw (inserts_at s (i + 2) (i + 1) i (get_or s (i + 2) 0) refl refl (omega arith)) at e))

-- some places on, where nothing stands
pub seek-calm : {s : List ℕ} {from c : ℕ} (i n : ℕ) → Seeking s from i c → i + n + 2 ≤ length s → every (plain_at s) (i + 2) n ≡ true → Seeking s from (i + n) c
unfolding every
seek-calm i zero g h e = rw (add-zero i) g
seek-calm {s} {from} {c} i (suc n) g h e =
    let a = (and-eq-true_iff (plain_at s (i + 2)) (every (plain_at s) (i + 2 + 1) n)).0 e in
    let p : i + 2 + 1 ≡ i + 1 + 2 = omega arith in
    let q : i + 1 + n ≡ i + suc n = omega arith in
    rw q at (seek-calm (i + 1) n (seek-keep g (omega arith) (plain_none s i (omega arith) a.0)) (omega arith) (rw p at a.1))

-- the same by a count of places
pub seek_next : {s : List ℕ} {from c : ℕ} (k : ℕ) → Seeking s from (from + k) c → from + k + 3 ≤ length s → (fault_here (drop (from + k) s) ≡ false) × (ins_at s (from + k + 2) ≡ false)
    → Seeking s from (from + (k + 1)) c
seek_next {from = from} k g h f = rw (add_assoc from k 1) at (seek-keep g h f)

-- places at which no fault begins, and behind which no inserted byte stands, are passed
pub seek-low : {s : List ℕ} (i n : ℕ) → i + n + 2 ≤ length s → ((k : ℕ) → i ≤ k → k < i + n → (fault_here (drop k s) ≡ false) × (ins_at s (k + 2) ≡ false)) → Seeking s i (i + n) (i + 2)
seek-low {s} i zero h f = rw (add-zero i) (seek_start s i (i + 2) (omega arith) (omega arith) (flat_none s (i + 2) (i + 2) (omega arith)))
seek-low {s} i (suc n) h f =
    let q : i + suc n ≡ i + (n + 1) = omega arith in
    rw q (seek_next n (seek-low i n (omega arith) (λ k a l. f k a (omega arith))) (omega arith) (f (i + n) (omega arith) (omega arith)))

-- some places on, which were looked at by themselves
pub seek_more : {s : List ℕ} {from i c j : ℕ} → Seeking s from i c → Seeking s i j (i + 2) → Seeking s from j c
seek_more g h = record { within = h.within; first = g.first ∙ h.first; low = g.low; flat = flat-join g.flat h.flat }

pub seek_past : {s : List ℕ} {from i c : ℕ} → Seeking s from i c → i + 67 ≤ length s → i + first_fault (drop i s) ≡ i + 64 + first_fault (drop (i + 64) s) → Seeking s from (i + 64) (i + 66)
seek_past {s} {from} {i} {c} g h f =
    record { within = omega arith; first = g.first ∙ f; low = omega arith; flat = flat_none s (i + 66) (i + 64 + 2) (omega arith) }

-- at a fault, and at the end
pub seek_found : {s : List ℕ} {from i c : ℕ} → Seeking s from i c → fault_here (drop i s) ≡ true → Sought s from (record { fault = i; calm = c })
seek_found {s} {from} {i} {c} g f =
    record { fault = omega (arith, g.first, first_here (drop i s) f); calm = λ e h l. flat-count g.flat e h l }

pub seek_end : {s : List ℕ} {from i c : ℕ} → Seeking s from i c → length s < i + 3 → Sought s from (record { fault = length s; calm = c })
seek_end {s} {from} {i} {c} g h =
    record { fault = omega (arith, g.first, first_short s i g.within h); calm = λ e k l. flat-count g.flat e (omega arith) l }

-- what a search from a place that was reached finds
pub seek_on : {s : List ℕ} {from i c : ℕ} {r : Found} → Seeking s from i c → Sought s i r → Sought s from r
seek_on g h = record { fault = h.fault ∙ sym g.first; calm = h.calm }

-- of the bytes from a place to another the last is zero: it goes
pub trim_back : (s : List ℕ) (from n : ℕ) → from < n → n ≤ length s → get_or s (n - 1) 0 ≡ 0
    → trim (take (n - from) (drop from s)) ≡ trim (take (n - 1 - from) (drop from s))
trim_back s from n h l e =
    let k = n - 1 - from in
    let q : n - from ≡ k + 1 = omega arith in
    let p : from + k ≡ n - 1 = omega arith in
    rw q (trim-zero (drop from s) k (omega (arith, length-drop from s)) (get_or-drop from s k 0 ∙ rw p e))

-- it is not: all stay
pub trim-stay : (s : List ℕ) (from n : ℕ) → from < n → n ≤ length s → 0 < get_or s (n - 1) 0 → from + length (trim (take (n - from) (drop from s))) ≡ n
trim-stay s from n h l e =
    let k = n - 1 - from in
    let q : n - from ≡ k + 1 = omega arith in
    let p : from + k ≡ n - 1 = omega arith in
    let t : trim (take (k + 1) (drop from s)) ≡ take (k + 1) (drop from s) = trim_last (drop from s) k (omega (arith, length-drop from s)) (rw (get_or-drop from s k 0, p) e) in
    rw (q, t, length-take-le (k + 1) (drop from s) (omega (arith, length-drop from s))) (omega arith)

-- the last that is not zero stays, and all behind it go
pub trim_over : (s : List ℕ) (k n : ℕ) → k ≤ n → n ≤ length s → ((j : ℕ) → k ≤ j → j < n → get_or s j 0 ≡ 0) → trim (take n s) ≡ trim (take k s)
trim_over s k n h l f = go (n - k) n (omega arith) l f
  where
    go : (m n : ℕ) → k + m ≡ n → n ≤ length s → ((j : ℕ) → k ≤ j → j < n → get_or s j 0 ≡ 0) → trim (take n s) ≡ trim (take k s)
    go zero n e l f = let q : n ≡ k = omega arith in rw q refl
    go (suc m) n e l f =
        let q : n ≡ k + m + 1 = omega arith in
        rw q (trim-zero s (k + m) (omega arith) (f (k + m) (omega arith) (omega arith)) ∙ go m (k + m) refl (omega arith) (λ j a b. f j a (omega arith)))

pub trim_by : (s : List ℕ) (from end t : ℕ) (r : Option ℕ) → from ≤ end → end ≤ length s
    → (r ≡ None → (k : ℕ) → k < length (take (end - from) (drop from s)) → get_or (take (end - from) (drop from s)) k 0 ≡ 0)
    → IfSome r (λ k. (k < length (take (end - from) (drop from s))) × (0 < get_or (take (end - from) (drop from s)) k 0)
    × ((j : ℕ) → k < j → j < length (take (end - from) (drop from s)) → get_or (take (end - from) (drop from s)) j 0 ≡ 0))
    → (r ≡ None → t ≡ from) → ((k : ℕ) → r ≡ Some k → t ≡ from + k + 1) → t ≡ from + length (trim (take (end - from) (drop from s)))
trim_by s from end t r h l none some at_none at_some = by r refl some
  where
    n : ℕ
    n = end - from

    u : List ℕ
    u = drop from s

    most : n ≤ length u
    most = omega (arith, length-drop from s)

    size : length (take n u) ≡ n
    size = length-take-le n u most

    same : (k : ℕ) → k < n → get_or u k 0 ≡ get_or (take n u) k 0
    same k m = sym (get_or-take n u k 0 m)

    by : (q : Option ℕ) → r ≡ q → IfSome q (λ k. (k < length (take n u)) × (0 < get_or (take n u) k 0) × ((j : ℕ) → k < j → j < length (take n u) → get_or (take n u) j 0 ≡ 0))
        → t ≡ from + length (trim (take n u))
    by None e f = omega (arith, at_none e, ap length (trim_over u 0 n (omega arith) most (λ k a b. same k b ∙ none e k (omega (arith, size))) ∙ trim_none u))
    by (Some k) e f =
        let i : k < n = omega (arith, size, f.0) in
        omega (
          arith,
          at_some k e,
          ap length (trim_over u (k + 1) n (omega arith) most (λ j a b. same j b ∙ f.2 j (omega arith) (omega (arith, size)))
              ∙ trim_last u k (omega (arith, most)) (omega (arith, f.1, same k i))),
          length-take-le (k + 1) u (omega (arith, most)),
        )

-- the first of them, and the others
pub blank_front : (s : List ℕ) (i n : ℕ) → i < n → n ≤ length s → blank (take (n - i) (drop i s)) ≡ eqb (get_or s i 0) 0 && blank (take (n - (i + 1)) (drop (i + 1) s))
unfolding blank
blank_front s i n h l = let q : n - i ≡ suc (n - (i + 1)) = omega arith in rw (q, drop_step s i (omega arith)) refl

-- Faults, start codes and trailing zeros

-- the bytes that a fault at the front begins with
data Fault : List ℕ → Type 0 where
  low : {c : ℕ} {t : List ℕ} → c ≤ 2 → Fault (0 ∷ 0 ∷ c ∷ t)
  high : {d : ℕ} {t : List ℕ} → 4 ≤ d → Fault (0 ∷ 0 ∷ 3 ∷ d ∷ t)

-- such bytes, where one stands
fault_is : (s : List ℕ) → fault_here s ≡ true → Fault s
unfolding fault_here over3
fault_is [] e = absurd (true≢false (sym e))
fault_is (a ∷ []) e = absurd (true≢false (sym e))
fault_is (a ∷ b ∷ []) e = absurd (true≢false (sym e))
fault_is (a ∷ b ∷ c ∷ t) e = by t ((and-eq-true_iff (eqb a 0) (eqb b 0 && (leb c 2 || (eqb c 3 && over3 t)))).0 e)
  where
    third : (t : List ℕ) (p : Bool) → leb c 2 ≡ p → (p || (eqb c 3 && over3 t)) ≡ true → Fault (0 ∷ 0 ∷ c ∷ t)
    third t true l e = low (leb-true c 2 l)
    third [] false l e = absurd (true≢false (sym ((and-eq-true_iff (eqb c 3) false).0 e).1))
    third (d ∷ t) false l e = let q = (and-eq-true_iff (eqb c 3) (leb 4 d)).0 e in rw (eqb-true c 3 q.0) (high (leb-true 4 d q.1))

    by : (t : List ℕ) → (eqb a 0 ≡ true) × ((eqb b 0 && (leb c 2 || (eqb c 3 && over3 t))) ≡ true) → Fault (a ∷ b ∷ c ∷ t)
    by t p =
        let q = (and-eq-true_iff (eqb b 0) (leb c 2 || (eqb c 3 && over3 t))).0 p.1 in
        rw (eqb-true a 0 p.0, eqb-true b 0 q.0) (third t (leb c 2) refl q.1)

-- and the other way round
is_fault : {s : List ℕ} → Fault s → fault_here s ≡ true
unfolding fault_here over3
is_fault (low {c} h) = rw (le-leb c 2 h) refl
is_fault (high {d} h) = rw (le-leb 4 d h) refl

-- it stands whatever follows
fault_before : {s : List ℕ} (t : List ℕ) → Fault s → Fault (s ++ t)
fault_before t (low h) = low h
fault_before t (high h) = high h

-- it is three bytes or more
fault-long : {s : List ℕ} → Fault s → 3 ≤ length s
fault-long (low h) = omega arith
fault-long (high h) = omega arith

-- so that the next start code is not before the first fault
pub next_first : (s : List ℕ) → next s ≡ first_fault s + next (drop (first_fault s) s)
unfolding first_fault
next_first [] = omega arith
next_first (x ∷ t) = by (fault_here (x ∷ t)) refl (next_first t)
  where
    by : (b : Bool) → fault_here (x ∷ t) ≡ b → next t ≡ first_fault t + next (drop (first_fault t) t) → next (x ∷ t) ≡ first_fault (x ∷ t) + next (drop (first_fault (x ∷ t)) (x ∷ t))
    by true e ih = rw (first_here (x ∷ t) e) (omega arith)
    by false e ih = rw (first_past x t e, next_past x t (code-fault (x ∷ t) e)) (omega (arith, ih))

-- a fault among the first c bytes begins at the first fault or behind it
fault-reach : (s : List ℕ) (c : ℕ) → fault (take c s) ≡ true → first_fault s + 3 ≤ c
fault-reach s zero e = absurd (true≢false (sym e ∙ fault-nil))
fault-reach [] (suc c) e = absurd (true≢false (sym e ∙ fault-nil))
fault-reach (x ∷ t) (suc c) e = by (fault_here (x ∷ take c t)) refl (λ f. fault-reach t c f)
  where
    by : (b : Bool) → fault_here (x ∷ take c t) ≡ b → (fault (take c t) ≡ true → first_fault t + 3 ≤ c) → first_fault (x ∷ t) + 3 ≤ suc c
    by true h ih =
        let f = fault_is (x ∷ take c t) h in
        let w : fault_here (x ∷ t) ≡ true = ap (λ (l : List ℕ). fault_here (x ∷ l)) (sym (take-append-drop c t)) ∙ is_fault (fault_before (drop c t) f) in
        omega (arith, fault-long f, first_here (x ∷ t) w, length-take c t)
    by false h ih = omega (arith, ih (sym (fault_past x (take c t) h) ∙ e), first_more x t)

-- a fault that stands behind some bytes
fault_behind : (s t : List ℕ) → fault_here t ≡ true → fault (s ++ t) ≡ true
unfolding fault fault_here
fault_behind [] [] e = absurd (true≢false (sym e))
fault_behind [] (x ∷ t) e = rw e refl
fault_behind (x ∷ s) t e = rw (fault_behind s t e) (or-true (fault_here (x ∷ (s ++ t))))

-- each byte of zeros is zero
blank_at : (l : List ℕ) (i : ℕ) → blank l ≡ true → get_or l i 0 ≡ 0
unfolding blank
blank_at [] i e = refl
blank_at (x ∷ l) zero e = eqb-true x 0 ((and-eq-true_iff (eqb x 0) (blank l)).0 e).0
blank_at (x ∷ l) (suc i) e = blank_at l i ((and-eq-true_iff (eqb x 0) (blank l)).0 e).1

-- and so is the list where each is
blank_each : (l : List ℕ) → ((k : ℕ) → k < length l → get_or l k 0 ≡ 0) → blank l ≡ true
unfolding blank
blank_each [] f = refl
blank_each (x ∷ l) f = rw (eq-eqb x 0 (f 0 (omega arith))) (blank_each l (λ k m. f (suc k) (omega arith)))

-- so that a Bool which says whether each is says what `blank` does
pub blank_by : (b : Bool) (s : List ℕ) (from to : ℕ) → to ≤ length s → (b ≡ true → (k : ℕ) → from ≤ k → k < to → get_or s k 0 ≡ 0)
    → (b ≡ false → (k : ℕ) × (from ≤ k) × (k < to) × (0 < get_or s k 0)) → b ≡ blank (take (to - from) (drop from s))
blank_by b s from to h f g = by b f g
  where
    l : List ℕ
    l = take (to - from) (drop from s)

    at : (k : ℕ) → k < to - from → get_or l k 0 ≡ get_or s (from + k) 0
    at k m = get_or-take (to - from) (drop from s) k 0 m ∙ get_or-drop from s k 0

    size : length l ≡ to - from
    size = length-take-le (to - from) (drop from s) (omega (arith, length-drop from s))

    not-blank : (c : Bool) → blank l ≡ c → (k : ℕ) → 0 < get_or l k 0 → false ≡ c
    not-blank true e k m = absurd (omega (arith, blank_at l k e))
    not-blank false e k m = refl

    by : (b : Bool) → (b ≡ true → (k : ℕ) → from ≤ k → k < to → get_or s k 0 ≡ 0)
        → (b ≡ false → (k : ℕ) × (from ≤ k) × (k < to) × (0 < get_or s k 0)) → b ≡ blank l
    by true f g = sym (blank_each l (λ k m. let i : k < to - from = omega (arith, size) in at k i ∙ f refl (from + k) (omega arith) (omega arith)))
    by false f g =
        let w = g refl in
        let p : from + (w.0 - from) ≡ w.0 = omega (arith, w.1) in
        not-blank (blank l) refl (w.0 - from) (rw (at (w.0 - from) (omega (arith, w.1, w.2)), p) w.3)

-- a byte above 0 among the first n is not taken off
trim-keeps : (s : List ℕ) (n j : ℕ) → j < n → n ≤ length s → 0 < get_or s j 0 → j < length (trim (take n s))
trim-keeps s n j h l p = either (length (trim (take n s))) j gone (λ k. k)
  where
    gone : length (trim (take n s)) ≤ j → j < length (trim (take n s))
    gone k =
        let r = trimmed (take n s) in
        let c : length (trim (take n s)) ≡ r.count = ap length r.left ∙ length-take-le r.count (take n s) r.most in
        let q : r.count + (j - r.count) ≡ j = omega arith in
        let z : get_or s j 0 ≡ 0 = sym (rw (get_or-drop r.count (take n s) (j - r.count) 0, q) (get_or-take n s j 0 h)) ∙ blank_at (drop r.count (take n s)) (j - r.count) r.gone in
        absurd (omega arith)

-- The unit at the front of a list

-- the unit whose bytes begin at the front of s: it runs to the next start code or the end, less its trailing zeros
unfoldable pub unit_of : List ℕ → List ℕ
unit_of s = trim (take (next s) s)

-- the definition, as a law
pub unit_is : (s : List ℕ) → unit_of s ≡ trim (take (next s) s)
unfolding unit_of
unit_is s = refl

-- it ends at the next start code or before
pub unit-le : (s : List ℕ) → length (unit_of s) ≤ next s
unfolding unit_of
unit-le s =
    let r = trimmed (take (next s) s) in
    omega (arith, ap length r.left ∙ length-take-le r.count (take (next s) s) r.most, length-take-le (next s) s (next_le s), r.most)

-- it is the first bytes of s
pub unit-take : (s : List ℕ) → unit_of s ≡ take (length (unit_of s)) s
unfolding unit_of
unit-take s =
    let r = trimmed (take (next s) s) in
    let c : length (trim (take (next s) s)) ≡ r.count = ap length r.left ∙ length-take-le r.count (take (next s) s) r.most in
    rw c (r.left ∙ take-take r.count (next s) s (omega (arith, length-take-le (next s) s (next_le s), r.most)))

-- a byte above 0 before the next start code is not taken off
pub unit-keeps : (s : List ℕ) (j : ℕ) → j < next s → 0 < get_or s j 0 → j < length (unit_of s)
unfolding unit_of
unit-keeps s j h p = trim-keeps s (next s) j h (next_le s) p

-- where the first fault stands in the unit, it is the unit's
module _ (s : List ℕ) (h : first_fault s + 3 ≤ length (unit_of s)) where
  fault_inside : (m : ℕ) → length (unit_of s) ≡ first_fault s + m → fault_here (take m (drop (first_fault s) s)) ≡ true → fault (unit_of s) ≡ true
  fault_inside m k e =
      ap fault (unit-take s ∙ ap (λ (n : ℕ). take n s) k ∙ take-add (first_fault s) m s) ∙ fault_behind (take (first_fault s) s) (take m (drop (first_fault s) s)) e

  -- the byte over 03 behind a 00 00 03 begins no start code, and is the unit's too
  fault-over : (d : ℕ) (t : List ℕ) → 4 ≤ d → drop (first_fault s) s ≡ 0 ∷ 0 ∷ 3 ∷ d ∷ t → first_fault s + 4 ≤ length (unit_of s)
  fault-over d t l e =
      let f = first_fault s in
      let r : drop (f + 3) s ≡ d ∷ t = sym (drop-drop 3 f s) ∙ ap (λ (u : List ℕ). drop 3 u) e in
      let v : get_or s (f + 3) 0 ≡ d = sym (get_or-drop f s 3 0) ∙ ap (λ (u : List ℕ). get_or u 3 0) e in
      let none : next s ≡ f + 3 → ⊥ = λ n. true≢false (sym (next_there s (omega (arith, ap length r, length-drop (f + 3) s))) ∙ ap (λ (i : ℕ). code (drop i s)) n ∙ ap code r ∙ code_first d t (omega arith)) in
      either (next s) (f + 3) (λ k. absurd (none (omega (arith, unit-le s)))) (λ k. omega (arith, unit-keeps s (f + 3) k (omega arith)))

  unit-fault : fault (unit_of s) ≡ true
  unit-fault = by (drop (first_fault s) s) refl (fault_is (drop (first_fault s) s) (first_there s (omega (arith, unit-le s, next_le s))))
    where
      by : (r : List ℕ) → drop (first_fault s) s ≡ r → Fault r → fault (unit_of s) ≡ true
      by r e (low {c} {t} l) = fault_inside (suc (suc (suc (length (unit_of s) - (first_fault s + 3))))) (omega arith) (rw e (is_fault (low l)))
      by r e (high {d} {t} l) =
          fault_inside (suc (suc (suc (suc (length (unit_of s) - (first_fault s + 4)))))) (omega (arith, fault-over d t l e)) (rw e (is_fault (high l)))

-- refusal 12 of the unit at the front of s, by the first fault
pub unit_bad : (s : List ℕ) → fault (unit_of s) ≡ leb (first_fault s + 3) (length (unit_of s))
unit_bad s = by (fault (unit_of s)) refl
  where
    by : (b : Bool) → fault (unit_of s) ≡ b → b ≡ leb (first_fault s + 3) (length (unit_of s))
    by true e = sym (le-leb (first_fault s + 3) (length (unit_of s)) (fault-reach s (length (unit_of s)) (sym (ap fault (unit-take s)) ∙ e)))
    by false e = either (first_fault s + 3) (length (unit_of s)) (λ h. absurd (true≢false (sym (unit-fault s h) ∙ e))) (λ h. sym (lt-leb (first_fault s + 3) (length (unit_of s)) h))

-- The unit at a place of a slice

-- what a caller learns of the scan's answer: its values, that the unit is the bytes from `from` to `stop`, that there is no calm place exactly where it has a fault,
-- and that no inserted byte stands in it from the calm place on, which is its stop where it has a fault
pub record Scanned (s : List ℕ) (from : ℕ) (r : UnitScan) : Type 0 where
  pub end : r.end ≡ from + next (drop from s)
  pub stop : r.stop ≡ from + length (unit_of (drop from s))
  pub bad : is_none r.calm ≡ fault (unit_of (drop from s))
  pub unit : unit_of (drop from s) ≡ part s from (r.stop - from)
  pub most : r.stop ≤ r.end
  pub inside : from ≤ length s → r.end ≤ length s
  pub calm : ins_count s (unwrap_or r.calm r.stop) r.stop ≡ 0

-- the unit by its bounds
scanned : (s : List ℕ) (from e t : ℕ) (m : Option ℕ) → e ≡ from + next (drop from s) → t ≡ from + length (unit_of (drop from s)) → is_none m ≡ fault (unit_of (drop from s))
    → ins_count s (unwrap_or m t) t ≡ 0 → Scanned s from (record { end = e; stop = t; calm = m })
unfolding part
scanned s from e t m p q f z =
    let u = drop from s in
    let k : t - from ≡ length (unit_of u) = omega arith in
    record {
      end = p;
      stop = q;
      bad = f;
      unit = rw k (unit-take u);
      most = omega (arith, unit-le u);
      inside = λ h. omega (arith, next_le u, length-drop from s);
      calm = z;
    }

-- behind the end there is none
pub unit-beyond : (s : List ℕ) (from : ℕ) → length s ≤ from → Scanned s from (record { end = from; stop = from; calm = Some from })
unfolding unit_of next trim fault
unit-beyond s from h =
    let d : drop from s ≡ [] = drop_of_length-le s h in
    scanned s from from from (Some from) (rw (d, add-zero from) refl) (rw (d, add-zero from) refl) (rw d refl) (count_end s from from (omega arith))

-- the unit as the code finds it: the first fault, the next start code from there on, the trailing zeros before that
module _ (s : List ℕ) (from e t : ℕ) (r : Found) (g : Sought s from r) (ee : e ≡ r.fault + next (drop r.fault s)) (l : from ≤ length s)
    (et : t ≡ from + length (trim (take (e - from) (drop from s)))) where
  unit_end : e ≡ from + next (drop from s)
  unit_end = omega (arith, g.fault, next_first (drop from s), ap next (drop-drop (first_fault (drop from s)) from s ∙ ap (λ (i : ℕ). drop i s) (sym g.fault)))

  unit-stop : t ≡ from + length (unit_of (drop from s))
  unfolding unit_of
  unit-stop = let q : e - from ≡ next (drop from s) = omega (arith, unit_end) in rw q at et

  fault_by : fault (unit_of (drop from s)) ≡ leb (first_fault (drop from s) + 3) (length (unit_of (drop from s)))
  fault_by = unit_bad (drop from s)

  pub unit-faulty : r.fault + 3 ≤ t → Scanned s from (record { end = e; stop = t; calm = None })
  unit-faulty h =
      let f : fault (unit_of (drop from s)) ≡ true = fault_by ∙ le-leb (first_fault (drop from s) + 3) (length (unit_of (drop from s))) (omega (arith, g.fault, unit-stop)) in
      scanned s from e t None unit_end unit-stop (sym f) (count_end s t t (omega arith))

  pub unit_whole : t < r.fault + 3 → Scanned s from (record { end = e; stop = t; calm = Some r.calm })
  unit_whole h =
      let f : fault (unit_of (drop from s)) ≡ false = fault_by ∙ lt-leb (first_fault (drop from s) + 3) (length (unit_of (drop from s))) (omega (arith, g.fault, unit-stop)) in
      let z = g.calm t (omega arith) (omega (arith, unit-stop, unit-le (drop from s), next_le (drop from s), length-drop from s)) in
      scanned s from e t (Some r.calm) unit_end unit-stop (sym f) z
