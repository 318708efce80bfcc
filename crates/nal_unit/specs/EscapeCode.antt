-- Laws of escaping that its code cites. The count of zero bytes is read off the output: those that stand right before a place, two at most.
--     esc_least             an escape is no shorter than its payload
--     run, run_end          the zero bytes in a row behind a byte, behind a list
--     counted d at          those before the place `at` of the output d
-- Assumes nothing.
use Rattle.std.specs.Prelude.{◌≡◌, refl, List, [], ◌∷◌, ◌++◌, Bool, true, false, cond, ◌&&◌, ℕ, zero, suc, ◌+◌, ◌≤◌, ◌<◌, leb, eqb, length, take, drop, get_or}
use Rattle.std.proofs.Common.{sym, ap, ◌∙◌, append_assoc, true≢false, add-one, arith, length-append, length-take, take-suc, take_at, take-add, length-take-le, le-leb, ne_eqb}
use Rattle.std.proofs.Math.Bool.{and-false}
use Rattle.std.proofs.Math.Dec.{eqb-suc-zero}
use Rattle.std.proofs.lemmas.Bool.{lt-leb}
use Rattle.lists.specs.Fill.{splice}
use Rattle.lists.specs.Part.{part, part-cons}
use Rattle.lists.specs.Test.{either}
use Rattle.nal_unit.specs.Escape.{inserts, emit, zeros, esc_from, zeros_end, esc-nil}

-- whether 03 goes before a byte
pub inserts_few : (z x : ℕ) → z < 2 → inserts z x ≡ false
unfolding inserts
inserts_few z x h = simp (lt-leb 2 z h)

pub inserts-high : (z x : ℕ) → 3 < x → inserts z x ≡ false
unfolding inserts
inserts-high z x h = rw (lt-leb x 3 h) (and-false (leb 2 z))

pub inserts_here : (z x : ℕ) → 2 ≤ z → x ≤ 3 → inserts z x ≡ true
unfolding inserts
inserts_here z x h l = simp (le-leb 2 z h, le-leb x 3 l)

-- the three cases of a byte: 03 goes before it; the count is full and the byte is high; the count is not full
data Case (z x : ℕ) : Type 0 where
  hit : inserts z x ≡ true → z ≡ 2 → x ≤ 3 → Case z x
  high : inserts z x ≡ false → z ≡ 2 → 3 < x → Case z x
  few : inserts z x ≡ false → z < 2 → Case z x

case : (z x : ℕ) → z ≤ 2 → Case z x
case z x h =
    either 2 z
    (λ f. either x 3 (λ l. hit (inserts_here z x f l) (omega arith) l) (λ g. high (inserts-high z x g) (omega arith) g))
    (λ l. few (inserts_few z x l) l)

-- the count stays two at most
pub zeros_most : (z x : ℕ) → z ≤ 2 → zeros z x ≤ 2
unfolding zeros
zeros_most z zero h = elim (case z 0 h) [ hit e f l ↦ rw e (omega arith) | high e f l ↦ absurd (omega arith) | few e f ↦ rw e (omega arith) ]
zeros_most z (suc x) h = rw (eqb-suc-zero x) (omega arith)

pub end_most : (z : ℕ) (xs : List ℕ) → z ≤ 2 → zeros_end z xs ≤ 2
unfolding zeros_end
end_most z [] h = h
end_most z (x ∷ xs) h = end_most (zeros z x) xs (zeros_most z x h)

-- an escape is no shorter than its payload
pub emit_least : (z x : ℕ) → 1 ≤ length (emit z x)
unfolding emit
emit_least z x = by (inserts z x)
  where
    by : (b : Bool) → 1 ≤ length (cond b (3 ∷ x ∷ []) (x ∷ []))
    by true = omega arith
    by false = omega arith

pub esc_least : (z : ℕ) (xs : List ℕ) → length xs ≤ length (esc_from z xs)
unfolding esc_from
esc_least z [] = omega arith
esc_least z (x ∷ xs) = omega (arith, length-append (emit z x) (esc_from (zeros z x) xs), emit_least z x, esc_least (zeros z x) xs)

-- the zero bytes that stand in a row behind the byte x, two at most, where z stand before it
unfoldable pub run : ℕ → ℕ → ℕ
run z x = cond (eqb x 0) (cond (leb 2 z) 2 (z + 1)) 0

-- behind a list
unfoldable pub run_end : ℕ → List ℕ → ℕ
run_end z [] = z
run_end z (x ∷ xs) = run_end (run z x) xs

-- before the place `at` of the output d
unfoldable pub counted : List ℕ → ℕ → ℕ
counted d at = run_end 0 (take at d)

-- the cases of `run`
pub run-zero : (z : ℕ) → z < 2 → run z 0 ≡ z + 1
unfolding run
run-zero z h = simp (lt-leb 2 z h)

pub run-full : (z : ℕ) → 2 ≤ z → run z 0 ≡ 2
unfolding run
run-full z h = simp (le-leb 2 z h)

pub run-other : (z x : ℕ) → 0 < x → run z x ≡ 0
unfolding run
run-other z zero h = absurd (omega arith)
run-other z (suc x) h = rw (eqb-suc-zero x) refl

pub run_most : (z x : ℕ) → run z x ≤ 2
run_most z zero = either 2 z (λ h. rw (run-full z h) (omega arith)) (λ h. rw (run-zero z h) (omega arith))
run_most z (suc x) = rw (run-other z (suc x) (omega arith)) (omega arith)

run_end_most : (z : ℕ) (xs : List ℕ) → z ≤ 2 → run_end z xs ≤ 2
unfolding run_end
run_end_most z [] h = h
run_end_most z (x ∷ xs) h = run_end_most (run z x) xs (run_most z x)

pub counted_most : (d : List ℕ) (at : ℕ) → counted d at ≤ 2
unfolding counted
counted_most d at = run_end_most 0 (take at d) (omega arith)

pub run-append : (z : ℕ) (xs ys : List ℕ) → run_end z (xs ++ ys) ≡ run_end (run_end z xs) ys
unfolding run_end
run-append z [] ys = refl
run-append z (x ∷ xs) ys = run-append (run z x) xs ys

pub counted_none : (d : List ℕ) → counted d 0 ≡ 0
unfolding counted run_end
counted_none d = refl

pub counted_step : (d : List ℕ) (at : ℕ) → at < length d → counted d (at + 1) ≡ run (counted d at) (get_or d at 0)
unfolding counted run_end
counted_step d at h = rw (add-one at, take-suc d at 0 h, run-append 0 (take at d) (get_or d at 0 ∷ [])) refl

run_end_few : (z : ℕ) (xs : List ℕ) → run_end z xs ≤ z + length xs
unfolding run_end
run_end_few z [] = omega arith
run_end_few z (x ∷ xs) = omega (arith, run_end_few (run z x) xs, run_few z x)
  where
    run_few : (z x : ℕ) → run z x ≤ z + 1
    run_few z zero = either 2 z (λ h. rw (run-full z h) (omega arith)) (λ h. rw (run-zero z h) (omega arith))
    run_few z (suc x) = rw (run-other z (suc x) (omega arith)) (omega arith)

-- fewer than two bytes hold fewer than two zeros
pub counted_few : (d : List ℕ) (at : ℕ) → counted d at ≤ at
unfolding counted
counted_few d at = omega (arith, run_end_few 0 (take at d), length-take at d)

-- the count behind two bytes is theirs alone
unfoldable pub last_two : ℕ → ℕ → ℕ
last_two a b = cond (eqb b 0) (cond (eqb a 0) 2 1) 0

pub run_two : (z a b : ℕ) → run (run z a) b ≡ last_two a b
unfolding last_two
run_two z a (suc b) = rw (run-other (run z a) (suc b) (omega arith), eqb-suc-zero b) refl
run_two z (suc a) zero = rw (run-other z (suc a) (omega arith), eqb-suc-zero a) (run-zero 0 (omega arith))
run_two z zero zero =
    either 2 z
    (λ f. rw (run-full z f) (run-full 2 (omega arith)))
    (λ l. rw (run-zero z l) (either 2 (z + 1) (λ f. run-full (z + 1) f) (λ g. rw (run-zero (z + 1) g) (omega arith))))

pub counted_two : (d : List ℕ) (q : ℕ) → q + 2 ≤ length d → counted d (q + 2) ≡ last_two (get_or d q 0) (get_or d (q + 1) 0)
counted_two d q h =
    let e : q + 2 ≡ q + 1 + 1 = omega arith in
    rw (e, counted_step d (q + 1) (omega arith), counted_step d q (omega arith)) (run_two (counted d q) (get_or d q 0) (get_or d (q + 1) 0))

pub inserts_two : (a b x : ℕ) → inserts (last_two a b) x ≡ eqb a 0 && (eqb b 0 && leb x 3)
unfolding inserts last_two
inserts_two a b x = by (eqb a 0) (eqb b 0)
  where
    by : (t u : Bool) → leb 2 (cond u (cond t 2 1) 0) && leb x 3 ≡ t && (u && leb x 3)
    by true true = refl
    by true false = refl
    by false true = refl
    by false false = refl

-- the same at a place whose two bytes before it stand at q and p
pub counted_at : (d : List ℕ) (at p q : ℕ) → at ≡ q + 2 → p ≡ q + 1 → at ≤ length d → counted d at ≡ last_two (get_or d q 0) (get_or d p 0)
counted_at d at p q e f h = rw (e, f) (counted_two d q (omega arith))

pub inserts_at : (d : List ℕ) (at p q b : ℕ) → at ≡ q + 2 → p ≡ q + 1 → at ≤ length d → inserts (counted d at) b ≡ eqb (get_or d q 0) 0 && (eqb (get_or d p 0) 0 && leb b 3)
inserts_at d at p q b e f h = rw (counted_at d at p q e f h) (inserts_two (get_or d q 0) (get_or d p 0) b)

-- what is written for a byte, for a payload, leaves behind it the count that the definition keeps
run-emit : (z x : ℕ) → z ≤ 2 → run_end z (emit z x) ≡ zeros z x
unfolding emit zeros run_end run
run-emit z zero h = elim (case z 0 h) [ hit e f l ↦ rw e refl | high e f l ↦ absurd (omega arith) | few e f ↦ rw (e, lt-leb 2 z f) refl ]
run-emit z (suc x) h =
    elim (case z (suc x) h) [ hit e f l ↦ rw (e, eqb-suc-zero x) refl | high e f l ↦ rw (e, eqb-suc-zero x) refl | few e f ↦ rw (e, eqb-suc-zero x) refl ]

pub run-esc : (z : ℕ) (xs : List ℕ) → z ≤ 2 → run_end z (esc_from z xs) ≡ zeros_end z xs
unfolding esc_from zeros_end run_end
run-esc z [] h = refl
run-esc z (x ∷ xs) h =
    rw (run-append z (emit z x) (esc_from (zeros z x) xs), run-emit z x h) (run-esc (zeros z x) xs (zeros_most z x h))

-- the count before a place at which something is written, and behind it
pub counted_before : (d : List ℕ) (at : ℕ) (v : List ℕ) → at ≤ length d → counted (splice d at v) at ≡ counted d at
unfolding counted splice
counted_before d at v h = rw (take_at (take at d) (v ++ drop (at + length v) d) at (length-take-le at d h)) refl

pub counted_behind : (d : List ℕ) (at : ℕ) (v : List ℕ) → at ≤ length d → counted (splice d at v) (at + length v) ≡ run_end (counted d at) v
unfolding counted splice
counted_behind d at v h =
    let f : length (take at d ++ v) ≡ at + length v = rw (length-append (take at d) v, length-take-le at d h) refl in
    rw (← append_assoc (take at d) v (drop (at + length v) d), take_at (take at d ++ v) (drop (at + length v) d) (at + length v) f) (run-append 0 (take at d) v)

-- one byte, with 03 before it and without
pub esc-hit : (z b : ℕ) → inserts z b ≡ true → esc_from z (b ∷ []) ≡ 3 ∷ b ∷ []
unfolding esc_from emit
esc-hit z b e = rw e refl

pub esc-plain : (z b : ℕ) → inserts z b ≡ false → esc_from z (b ∷ []) ≡ b ∷ []
unfolding esc_from emit
esc-plain z b e = rw e refl

-- where 03 is not put in, the count is that of the zeros in a row; it is never above it
pub zeros-plain : (z x : ℕ) → z ≤ 2 → inserts z x ≡ false → zeros z x ≡ run z x
unfolding zeros
zeros-plain z zero h e = elim (case z 0 h) [ hit f l m ↦ let t : ◌≡◌ {A = Bool} true false = cc in absurd (true≢false t) | high f l m ↦ absurd (omega arith) | few f l ↦ rw (e, run-zero z l) refl ]
zeros-plain z (suc x) h e = rw (eqb-suc-zero x, run-other z (suc x) (omega arith)) refl

pub zeros-run : (z y x : ℕ) → z ≤ 2 → z ≤ y → zeros z x ≤ run y x
unfolding zeros
zeros-run z y zero h l =
    elim (case z 0 h) [ hit e f m ↦ rw (e, run-full y (omega arith)) (omega arith) | high e f m ↦ absurd (omega arith) | few e f ↦ rw e (either 2 y (λ g. rw (run-full y g) (omega arith)) (λ g. rw (run-zero y g) (omega arith))) ]
zeros-run z y (suc x) h l = rw (eqb-suc-zero x) (omega arith)

pub end_run : (z y : ℕ) (xs : List ℕ) → z ≤ 2 → z ≤ y → zeros_end z xs ≤ run_end y xs
unfolding zeros_end run_end
end_run z y [] h l = l
end_run z y (x ∷ xs) h l = end_run (zeros z x) (run y x) xs (zeros_most z x h) (zeros-run z y x h l)

-- the count before a place of s, and behind a part of it
pub counted-part : (s : List ℕ) (p n : ℕ) → counted s (p + n) ≡ run_end (counted s p) (part s p n)
unfolding counted part
counted-part s p n = rw (take-add p n s) (run-append 0 (take p s) (take n (drop p s)))

-- behind a part of two bytes or more the count is the part's alone
run_long : (z a b : ℕ) (xs : List ℕ) → run_end z (a ∷ b ∷ xs) ≡ run_end (last_two a b) xs
unfolding run_end
run_long z a b xs = ap (λ (u : ℕ). run_end u xs) (run_two z a b)

pub run-part : (s : List ℕ) (p n z : ℕ) → p + (n + 2) ≤ length s → run_end z (part s p (n + 2)) ≡ counted s (p + (n + 2))
run-part s p n z h =
    let e : n + 2 ≡ n + 1 + 1 = omega arith in
    let x : part s p (n + 2) ≡ get_or s p 0 ∷ get_or s (p + 1) 0 ∷ part s (p + 1 + 1) n =
    rw (e, part-cons s p (n + 1) (omega arith), part-cons s (p + 1) n (omega arith)) refl in
    let g : (u : ℕ) → run_end u (part s p (n + 2)) ≡ run_end (last_two (get_or s p 0) (get_or s (p + 1) 0)) (part s (p + 1 + 1) n) =
    λ u. rw x (run_long u (get_or s p 0) (get_or s (p + 1) 0) (part s (p + 1 + 1) n)) in
    g z ∙ sym (counted-part s p (n + 2) ∙ g (counted s p))

-- a byte over 03 ends the count and is written as it is; so a macroblock's head, 0D 00, begins the count at one, and the last byte, 80, ends a payload
pub esc-other : (z x : ℕ) (xs : List ℕ) → 3 < x → esc_from z (x ∷ xs) ≡ x ∷ esc_from 0 xs
unfolding esc_from emit zeros
esc-other z x xs h = rw (inserts-high z x h, ne_eqb x 0 (λ e. omega arith)) refl

pub esc-stop : (z : ℕ) → esc_from z (128 ∷ []) ≡ 128 ∷ []
esc-stop z = esc-other z 128 [] (omega arith) ∙ ap (λ (l : List ℕ). 128 ∷ l) (esc-nil 0)
