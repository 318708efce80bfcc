-- Stretches that escaping passes at once (calm.rt).
--     Quiet z xs            no byte of xs gets 03, after z counted zeros: xs is its own escape (quiet-esc)
--     plain_at, quiet-part  whether a byte of a slice goes without 03, by the bytes before it there; a part of it whose bytes all do
--     every_true, every_false, every_by    what a look at each place says of `every`
--     blanks, zero_at       zero bytes; whether a byte of a slice is zero
--     triples               what 64 zeros are escaped to, behind one counted zero and behind two
-- Assumes nothing.
use Rattle.std.specs.Prelude.{◌≡◌, refl, List, [], ◌∷◌, Bool, true, false, not, ◌&&◌, ℕ, zero, suc, ◌+◌, ◌*◌, ◌/◌, ◌%◌, ◌≤◌, ◌<◌, leb, eqb, length, get_or, replicate}
use Rattle.std.proofs.Common.{sym, ◌∙◌, mod-eq_of_lt, add-one, arith, eqb-true, le-leb, eq-eqb, ne_eqb}
use Rattle.std.proofs.Math.Bool.{and_assoc, and-false, and-eq-true_iff}
use Rattle.std.specs.Int.Bits.{bit_and, bit_or}
use Rattle.std.proofs.lemmas.Nat.Bits.{and_high}
use Rattle.std.proofs.lemmas.Bool.{not-true, lt-leb}
use Rattle.lists.specs.Part.{part, part_none, part-cons}
use Rattle.lists.specs.Test.{either}
use Rattle.lists.specs.Flag.{or-zero, every}
use Rattle.nal_unit.specs.Escape.{inserts, emit, zeros, esc_from, zeros_end}
use Rattle.nal_unit.specs.EscapeCode.{zeros_most, run_end, counted, counted_step, inserts_at, zeros-plain, zeros-run, end_run, run-part}

-- No byte of xs gets 03, after z counted zeros.
pub data Quiet : ℕ → List ℕ → Type 0 where
  none : {z : ℕ} → Quiet z []
  more : {z x : ℕ} {xs : List ℕ} → inserts z x ≡ false → Quiet (zeros z x) xs → Quiet z (x ∷ xs)

-- such a stretch is its own escape
pub quiet-esc : {z : ℕ} {xs : List ℕ} → Quiet z xs → esc_from z xs ≡ xs
unfolding esc_from emit
quiet-esc none = refl
quiet-esc (more e q) = rw (e, quiet-esc q) refl

pub quiet-run : {z : ℕ} {xs : List ℕ} → z ≤ 2 → Quiet z xs → zeros_end z xs ≡ run_end z xs
unfolding zeros_end run_end
quiet-run h none = refl
quiet-run {z} h (more {x = x} e q) = rw (← zeros-plain z x h e) (quiet-run (zeros_most z x h) q)

-- whether the byte at the place i of s goes without 03, by the bytes that stand before it in s
unfoldable pub plain_at : List ℕ → ℕ → Bool
plain_at s i = not (inserts (counted s i) (get_or s i 0))

less_plain : (z y x : ℕ) → z ≤ y → inserts y x ≡ false → inserts z x ≡ false
unfolding inserts
less_plain z y x l e = either 2 z (λ f. rw (le-leb 2 z f) (rw (le-leb 2 y (omega arith)) at e)) (λ f. rw (lt-leb 2 z f) refl)

-- a part of s whose bytes all do, written where fewer zeros are counted or as many
pub quiet-part : (s : List ℕ) (p n z : ℕ) → p + n ≤ length s → z ≤ 2 → z ≤ counted s p → every (plain_at s) p n ≡ true → Quiet z (part s p n)
unfolding every plain_at
quiet-part s p zero z h l m q = rw (part_none s p) none
quiet-part s p (suc n) z h l m q =
    let x = get_or s p 0 in
    let a = (and-eq-true_iff (not (inserts (counted s p) x)) (every (plain_at s) (p + 1) n)).0 q in
    let m' : zeros z x ≤ counted s (p + 1) = rw (counted_step s p (omega arith)) (zeros-run z (counted s p) x l m) in
    rw (← add-one n, part-cons s p n (omega arith))
    (more (less_plain z (counted s p) x m (not-true (inserts (counted s p) x) a.0)) (quiet-part s (p + 1) n (zeros z x) (omega arith) (zeros_most z x l) m' a.1))

-- a test that holds at each place of a stretch, and one that fails at one
pub every_true : (f : ℕ → Bool) (p n : ℕ) → ((k : ℕ) → p ≤ k → k < p + n → f k ≡ true) → every f p n ≡ true
unfolding every
every_true f p zero h = refl
every_true f p (suc n) h = rw (h p (omega arith) (omega arith)) (every_true f (p + 1) n (λ k a b. h k (omega arith) (omega arith)))

pub every_false : (f : ℕ → Bool) (p n k : ℕ) → p ≤ k → k < p + n → f k ≡ false → every f p n ≡ false
unfolding every
every_false f p zero k a b e = absurd (omega arith)
every_false f p (suc n) k a b e =
    either k p
    (λ l. let q : k ≡ p = omega arith in rw (rw q at e) refl)
    (λ l. rw (every_false f (p + 1) n k (omega arith) (omega arith) e) (and-false (f p)))

-- so that a Bool which says both is that test
pub every_by : (b : Bool) (f : ℕ → Bool) (p n : ℕ) → (b ≡ true → (k : ℕ) → p ≤ k → k < p + n → f k ≡ true)
    → (b ≡ false → (k : ℕ) × (p ≤ k) × (k < p + n) × (f k ≡ false)) → b ≡ every f p n
every_by true f p n h g = sym (every_true f p n (h refl))
every_by false f p n h g = let w = g refl in sym (every_false f p n w.0 w.1 w.2 w.3)

-- n zero bytes
unfoldable pub blanks : ℕ → List ℕ
blanks n = replicate n 0

-- whether the byte at the place i of s is zero
unfoldable pub zero_at : List ℕ → ℕ → Bool
zero_at s i = eqb (get_or s i 0) 0

pub zero-part : (s : List ℕ) (p n : ℕ) → p + n ≤ length s → every (zero_at s) p n ≡ true → part s p n ≡ blanks n
unfolding every zero_at blanks
zero-part s p zero h q = part_none s p
zero-part s p (suc n) h q =
    let a = (and-eq-true_iff (eqb (get_or s p 0) 0) (every (zero_at s) (p + 1) n)).0 q in
    rw (← add-one n, part-cons s p n (omega arith), eqb-true (get_or s p 0) 0 a.0, zero-part s (p + 1) n (omega arith) a.1) refl

-- the test of three bytes as the code makes it: the first two are zero, and the third is 03 or less
pub three-bits : (a b x : ℕ) → x < 256 → eqb (bit_or (bit_or a b) (bit_and x 252)) 0 ≡ eqb a 0 && (eqb b 0 && leb x 3)
three-bits a b x h = rw (or-zero (bit_or a b) (bit_and x 252), or-zero a b, low) (and_assoc (eqb a 0) (eqb b 0) (leb x 3))
  where
    low : eqb (bit_and x 252) 0 ≡ leb x 3
    low =
        either x 3
        (λ l. let e : x / 4 % 64 * 4 ≡ 0 = omega arith in eq-eqb (bit_and x 252) 0 (and_high x 6 2 ∙ e) ∙ sym (le-leb x 3 l))
        (λ g. ne_eqb (bit_and x 252) 0 (λ e. let f : x / 4 % 64 * 4 ≡ 0 = sym (and_high x 6 2) ∙ e in let m : x / 4 < 64 = omega arith in omega (arith, mod-eq_of_lt m)) ∙ sym (lt-leb x 3 g))

pub plain-bits : (s : List ℕ) (i q : ℕ) → i ≡ q + 2 → i < length s → get_or s (q + 2) 0 < 256
    → plain_at s i ≡ not (eqb (bit_or (bit_or (get_or s q 0) (get_or s (q + 1) 0)) (bit_and (get_or s (q + 2) 0) 252)) 0)
unfolding plain_at
plain-bits s i q e h b =
    rw (e, inserts_at s (q + 2) (q + 1) q (get_or s (q + 2) 0) refl refl (omega arith), three-bits (get_or s q 0) (get_or s (q + 1) 0) (get_or s (q + 2) 0) b) refl

-- pairs of zeros with 03 in each, as they are escaped behind one counted zero, 00 03 00, and behind two, 03 00 00
unfoldable pub triples : ℕ → ℕ → ℕ → ℕ → List ℕ
triples a b c zero = []
triples a b c (suc n) = a ∷ b ∷ c ∷ triples a b c n

pub blanks_one : esc_from 1 (blanks 64) ≡ triples 0 3 0 32
unfolding esc_from emit zeros inserts blanks triples
blanks_one = refl

pub blanks_two : esc_from 2 (blanks 64) ≡ triples 3 0 0 32
unfolding esc_from emit zeros inserts blanks triples
blanks_two = refl

pub triples-length : (a b c : ℕ) → length (triples a b c 32) ≡ 96
unfolding triples
triples-length a b c = refl

pub blanks-size : (z : ℕ) → 0 < z → z ≤ 2 → length (esc_from z (blanks 64)) ≡ 96
blanks-size z h l =
    either z 1
    (λ a. let e : z ≡ 1 = omega arith in rw (e, blanks_one) (triples-length 0 3 0))
    (λ b. let e : z ≡ 2 = omega arith in rw (e, blanks_two) (triples-length 3 0 0))

end_one : zeros_end 1 (blanks 64) ≡ 1
unfolding zeros_end zeros inserts blanks
end_one = refl

end_two : zeros_end 2 (blanks 64) ≡ 2
unfolding zeros_end zeros inserts blanks
end_two = refl

pub blanks_end : (z : ℕ) → 0 < z → z ≤ 2 → zeros_end z (blanks 64) ≡ z
blanks_end z h l = either z 1 (λ a. let e : z ≡ 1 = omega arith in rw e end_one) (λ b. let e : z ≡ 2 = omega arith in rw e end_two)

-- behind the first two bytes of a part as many zeros stand in s as are counted, or more
pub first_two : (s : List ℕ) (p z : ℕ) → z ≤ 2 → p + 2 ≤ length s → zeros_end z (part s p 2) ≤ counted s (p + 2)
first_two s p z h l = rw (← run-part s p 0 2 l) (end_run z 2 (part s p 2) h h)
