-- Start codes (B.1.1, B.2): where they stand in a list of bytes.
--     code s        whether a start code, 00 00 01, stands at the front of s
--     next s        how far it is to the next start code, or to the end where there is none
--     next_join     behind bytes that hold no start code and do not end in zero, the next start code is that of what follows: none is made at the seam
--     next_most     it is not beyond any that stands
--     apart         two start codes never overlap
-- Assumes nothing.
use Rattle.std.specs.Prelude.{◌≡◌, refl, List, [], ◌∷◌, ◌++◌, Bool, true, false, cond, ◌&&◌, ◌⊎◌, ℕ, zero, suc, ◌+◌, ◌≤◌, ◌<◌, eqb, length, take, drop}
use Rattle.std.proofs.Common.{sym, ap, ◌∙◌, true≢false, inl, inr, zero-add, arith, length-drop, eqb-true, ne_eqb}
use Rattle.std.proofs.Math.Bool.{and-eq-true_iff, and-false}
use Rattle.nal_unit.specs.Bytes.{last_of}

-- the bytes t behind a start code
abbrev pub start_code : List ℕ → List ℕ
start_code t = 0 ∷ 0 ∷ 1 ∷ t

unfoldable pub code : List ℕ → Bool
code [] = false
code (a ∷ []) = false
code (a ∷ b ∷ []) = false
code (a ∷ b ∷ c ∷ t) = eqb a 0 && (eqb b 0 && eqb c 1)

unfoldable pub next : List ℕ → ℕ
next [] = 0
next (x ∷ t) = cond (code (x ∷ t)) 0 (suc (next t))

-- one stands where one was put
pub code_start : (t : List ℕ) → code (start_code t) ≡ true
unfolding code
code_start t = refl

-- where one stands, the first three bytes are 00 00 01
pub code_is : (s : List ℕ) → code s ≡ true → s ≡ start_code (drop 3 s)
unfolding code
code_is [] e = absurd (true≢false (sym e))
code_is (a ∷ []) e = absurd (true≢false (sym e))
code_is (a ∷ b ∷ []) e = absurd (true≢false (sym e))
code_is (a ∷ b ∷ c ∷ t) e =
    let p = (and-eq-true_iff (eqb a 0) (eqb b 0 && eqb c 1)).0 e in
    let q = (and-eq-true_iff (eqb b 0) (eqb c 1)).0 p.1 in
    rw (eqb-true a 0 p.0, eqb-true b 0 q.0, eqb-true c 1 q.1) refl

-- it stands wholly in s
pub code_fits : (s : List ℕ) (i : ℕ) → code (drop i s) ≡ true → i + 3 ≤ length s
code_fits s i e = omega (arith, ap length (code_is (drop i s) e), length-drop i s)

-- at the end
pub next_nil : next [] ≡ 0
unfolding next
next_nil = refl

-- at a start code
pub next_code : (s : List ℕ) → code s ≡ true → next s ≡ 0
unfolding next
next_code [] e = refl
next_code (x ∷ t) e = rw e refl

pub next_start : (t : List ℕ) → next (start_code t) ≡ 0
next_start t = next_code (start_code t) (code_start t)

-- one byte on where none stands
pub next_past : (x : ℕ) (t : List ℕ) → code (x ∷ t) ≡ false → next (x ∷ t) ≡ suc (next t)
unfolding next
next_past x t e = rw e refl

-- it is not beyond the end
pub next_le : (s : List ℕ) → next s ≤ length s
unfolding next
next_le [] = omega arith
next_le (x ∷ t) = by (code (x ∷ t)) (next_le t)
  where
    by : (b : Bool) → next t ≤ length t → cond b 0 (suc (next t)) ≤ suc (length t)
    by true h = omega arith
    by false h = omega arith

-- there the list ends, or a start code stands
pub next_there : (s : List ℕ) → next s < length s → code (drop (next s) s) ≡ true
unfolding next
next_there [] h = absurd (omega arith)
next_there (x ∷ t) h = by (code (x ∷ t)) refl (next_there t)
  where
    by : (b : Bool) → code (x ∷ t) ≡ b → (next t < length t → code (drop (next t) t) ≡ true) → code (drop (next (x ∷ t)) (x ∷ t)) ≡ true
    by true e ih = rw (next_code (x ∷ t) e) e
    by false e ih = rw (next_past x t e) (ih (omega (arith, next_past x t e)))

-- and none before
pub next_before : (s : List ℕ) (i : ℕ) → i < next s → code (drop i s) ≡ false
unfolding next
next_before [] i h = absurd (omega arith)
next_before (x ∷ t) i h = by (code (x ∷ t)) refl i h (next_before t)
  where
    by : (b : Bool) → code (x ∷ t) ≡ b → (i : ℕ) → i < next (x ∷ t) → ((i : ℕ) → i < next t → code (drop i t) ≡ false) → code (drop i (x ∷ t)) ≡ false
    by true e i h ih = absurd (omega (arith, next_code (x ∷ t) e))
    by false e zero h ih = e
    by false e (suc i) h ih = ih i (omega (arith, next_past x t e))

-- bytes that hold no start code: neither does what is behind the first
pub clear-tail : (x : ℕ) (t : List ℕ) → next (x ∷ t) ≡ length (x ∷ t) → (code (x ∷ t) ≡ false) × (next t ≡ length t)
clear-tail x t h = by (code (x ∷ t)) refl
  where
    by : (b : Bool) → code (x ∷ t) ≡ b → (code (x ∷ t) ≡ false) × (next t ≡ length t)
    by true e = absurd (omega (arith, next_code (x ∷ t) e))
    by false e = (e, omega (arith, next_past x t e))

-- and the other way round
pub clear-cons : (x : ℕ) (t : List ℕ) → code (x ∷ t) ≡ false → next t ≡ length t → next (x ∷ t) ≡ length (x ∷ t)
clear-cons x t e h = next_past x t e ∙ ap suc h

-- no start code begins or goes on with a byte above 0
pub code_first : (x : ℕ) (t : List ℕ) → 0 < x → code (x ∷ t) ≡ false
unfolding code
code_first x [] h = refl
code_first x (b ∷ []) h = refl
code_first x (b ∷ c ∷ t) h = rw (ne_eqb x 0 (λ e. omega arith)) refl

pub code-second : (a x : ℕ) (t : List ℕ) → 0 < x → code (a ∷ x ∷ t) ≡ false
unfolding code
code-second a x [] h = refl
code-second a x (c ∷ t) h = rw (ne_eqb x 0 (λ e. omega arith), and-false) refl

-- no start code is made at a seam behind a byte above 0
pub next_join : (c t : List ℕ) → 0 < last_of 1 c → next c ≡ length c → next (c ++ t) ≡ length c + next t
unfolding last_of code
next_join [] t l h = sym (zero-add (next t))
next_join (x ∷ []) t l h = next_past x t (code_first x t l) ∙ omega arith
next_join (x ∷ y ∷ []) t l h = next_past x (y ∷ t) (code-second x y t l) ∙ ap suc (next_past y t (code_first y t l)) ∙ omega arith
next_join (x ∷ y ∷ z ∷ c) t l h =
    let k = clear-tail x (y ∷ z ∷ c) h in
    next_past x (y ∷ z ∷ c ++ t) k.0 ∙ ap suc (next_join (y ∷ z ∷ c) t l k.1) ∙ omega arith

-- a cut makes no start code
code-take : (m x : ℕ) (c : List ℕ) → code (x ∷ c) ≡ false → code (x ∷ take m c) ≡ false
unfolding code
code-take zero x c e = refl
code-take (suc m) x [] e = refl
code-take (suc zero) x (b ∷ c) e = refl
code-take (suc (suc m)) x (b ∷ []) e = refl
code-take (suc (suc m)) x (b ∷ d ∷ c) e = e

pub clear-take : (m : ℕ) (c : List ℕ) → next c ≡ length c → next (take m c) ≡ length (take m c)
clear-take zero c h = next_nil
clear-take (suc m) [] h = next_nil
clear-take (suc m) (x ∷ c) h =
    let k = clear-tail x c h in
    clear-cons x (take m c) (code-take m x c k.0) (clear-take m c k.1)

-- a start code that stands is reached at the latest
pub next_most : (y t : List ℕ) → next (y ++ start_code t) ≤ length y
next_most [] t = omega (arith, next_start t)
next_most (x ∷ y) t = by (code (x ∷ (y ++ start_code t))) refl (next_most y t)
  where
    by : (b : Bool) → code (x ∷ (y ++ start_code t)) ≡ b → next (y ++ start_code t) ≤ length y → next (x ∷ (y ++ start_code t)) ≤ suc (length y)
    by true e ih = omega (arith, next_code (x ∷ (y ++ start_code t)) e)
    by false e ih = omega (arith, next_past x (y ++ start_code t) e)

-- two start codes never overlap: one that stands in front of z and a start code behind it is that one, or stands wholly in z
pub apart : (z t : List ℕ) → code (z ++ start_code t) ≡ true → (z ≡ []) ⊎ (z ≡ start_code (drop 3 z))
unfolding code
apart [] t e = inl refl
apart (a ∷ []) t e = absurd (true≢false (sym ((and-eq-true_iff (eqb a 0) false).0 e).1))
apart (a ∷ b ∷ []) t e = absurd (true≢false (sym ((and-eq-true_iff (eqb b 0) false).0 ((and-eq-true_iff (eqb a 0) (eqb b 0 && false)).0 e).1).1))
apart (a ∷ b ∷ c ∷ z) t e = inr (code_is (a ∷ b ∷ c ∷ z) e)
