-- Start codes, zeros and faults by the places of a slice, as a loop moves: one byte on, or one byte back. Places are counted as code counts, i + 1.
--     code_at                            a start code at the place i, by three bytes
--     next_at, next_step, next_short     the next start code from the place i on: here; one byte on; the end, where fewer than three bytes are left
--     trim_none, trim-zero, trim_last    trailing zeros, taken off one by one from the end
--     fault_at                           a fault at the place i, by four bytes
--     meet_at                            the unit that is met from the place p on, by the place o where it begins
-- Assumes nothing.
use Rattle.std.specs.Prelude.{◌≡◌, refl, List, [], ◌∷◌, ◌++◌, true, false, ◌&&◌, ◌||◌, ℕ, ◌+◌, ◌≤◌, ◌<◌, leb, eqb, length, take, drop, get_or}
use Rattle.std.proofs.Common.{ap, ◌∙◌, append-nil, add-one, arith, length-drop, drop_of_length-le, take-suc, drop-drop}
use Rattle.std.proofs.Math.ListN.{get_or-eq_default}
use Rattle.lists.specs.Part.{drop_step}
use Rattle.lists.specs.Test.{either}
use Rattle.nal_unit.specs.Bytes.{last_of, last_append, drop-three}
use Rattle.nal_unit.specs.Unescape.{over3, fault_here}
use Rattle.nal_unit.specs.StartCode.{start_code, code, next, code_is, next_code, next_past, next_there}
use Rattle.nal_unit.specs.Walk.{blank, lay, trim, unit, meet, trim-join, Calm, meet-unit}

pub code_at : (s : List ℕ) (i : ℕ) → i + 3 ≤ length s → code (drop i s) ≡ eqb (get_or s i 0) 0 && (eqb (get_or s (i + 1) 0) 0 && eqb (get_or s (i + 2) 0) 1)
unfolding code
code_at s i h = rw (drop-three s i h) refl

few : (l : List ℕ) → length l < 3 → (code l ≡ false) × (next l ≡ length l)
unfolding code next
few [] h = (refl, refl)
few (a ∷ []) h = (refl, refl)
few (a ∷ b ∷ []) h = (refl, refl)
few (a ∷ b ∷ c ∷ t) h = absurd (omega arith)

pub next_at : (s : List ℕ) (i : ℕ) → code (drop i s) ≡ true → i + next (drop i s) ≡ i
next_at s i e = omega (arith, next_code (drop i s) e)

pub next_step : (s : List ℕ) (i : ℕ) → i < length s → code (drop i s) ≡ false → i + next (drop i s) ≡ i + 1 + next (drop (i + 1) s)
next_step s i h e =
    let d = drop_step s i h in
    omega (arith, ap next d, next_past (get_or s i 0) (drop (i + 1) s) (rw d at e))

pub next_short : (s : List ℕ) (i : ℕ) → i ≤ length s → length s < i + 3 → i + next (drop i s) ≡ length s
next_short s i l h = omega (arith, length-drop i s, (few (drop i s) (omega (arith, length-drop i s))).1)

pub trim_none : (s : List ℕ) → trim (take 0 s) ≡ []
unfolding trim
trim_none s = refl

-- a zero at the end goes
pub trim-zero : (s : List ℕ) (n : ℕ) → n < length s → get_or s n 0 ≡ 0 → trim (take (n + 1) s) ≡ trim (take n s)
unfolding trim lay
trim-zero s n h e = rw (add-one n, take-suc s n 0 h, e) (last (take n s))
  where
    last : (l : List ℕ) → trim (l ++ (0 ∷ [])) ≡ trim l
    last [] = refl
    last (y ∷ l) = rw (last l) refl

-- another byte at the end stays, and all before it
pub trim_last : (s : List ℕ) (n : ℕ) → n < length s → 0 < get_or s n 0 → trim (take (n + 1) s) ≡ take (n + 1) s
unfolding last_of blank
trim_last s n h e =
    let l : 0 < last_of 0 (take n s ++ (get_or s n 0 ∷ [])) = rw (last_append 0 (take n s) (get_or s n 0 ∷ [])) e in
    rw (add-one n, take-suc s n 0 h) (rw append-nil at (trim-join (take n s ++ (get_or s n 0 ∷ [])) [] l refl))

over3_at : (s : List ℕ) (i : ℕ) → over3 (drop i s) ≡ leb 4 (get_or s i 0)
unfolding over3
over3_at s i = either (length s) i (λ h. rw (drop_of_length-le s h, get_or-eq_default s 0 h) refl) (λ h. rw (drop_step s i h) refl)

-- (past the end `get_or` reads 0, which is not over 03)
pub fault_at : (s : List ℕ) (i : ℕ) → i + 3 ≤ length s
    → fault_here (drop i s) ≡ eqb (get_or s i 0) 0 && (eqb (get_or s (i + 1) 0) 0 && (leb (get_or s (i + 2) 0) 2 || (eqb (get_or s (i + 2) 0) 3 && leb 4 (get_or s (i + 3) 0))))
unfolding fault_here
fault_at s i h = rw (drop-three s i h, over3_at s (i + 3)) refl

pub meet_at : (s : List ℕ) (p o : ℕ) → Calm (drop p s) → p + next (drop p s) < length s → p + next (drop p s) + 3 ≡ o
    → meet (drop p s) ≡ unit (next (drop p s) + 3) (trim (take (next (drop o s)) (drop o s))) (next (drop p s) + 3 + next (drop o s))
meet_at s p o c h e =
    let n = next (drop p s) in
    let d : drop n (drop p s) ≡ start_code (drop o s) =
    code_is (drop n (drop p s)) (next_there (drop p s) (omega (arith, length-drop p s))) ∙ ap (λ (l : List ℕ). start_code l) (rw (drop-drop n p s, drop-drop 3 (p + n) s, e) refl) in
    meet-unit (drop p s) (drop o s) c d ∙ ap (λ (k : ℕ). unit (n + 3) (trim (take (next (drop o s)) (drop o s))) k) (omega arith)
