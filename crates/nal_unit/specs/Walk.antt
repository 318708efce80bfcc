-- What a walk meets in a list of bytes (paper 01, "Reading a take"). Everything here looks at the bytes from the walk's place on, `s`, and counts from there.
--     blank s       whether s is all zero
--     trim s        s less its trailing zeros
--     meet s        what a walk meets: the end, bytes that belong to no unit, or a unit
--     Calm s        s begins with a start code, with zeros before one, or is zeros only: no stray bytes are met
--     Whole u       u does not end in zero, and no start code stands in it
--     meet_whole    such a unit is met as it is
-- Assumes nothing.
use Rattle.std.specs.Prelude.{◌≡◌, refl, List, [], ◌∷◌, ◌++◌, Bool, true, false, cond, ◌&&◌, ℕ, zero, suc, ◌+◌, ◌≤◌, ◌<◌, eqb, length, take, drop}
use Rattle.std.proofs.Common.{sym, ap, ◌∙◌, true≢false, zero-add, arith, drop_of_length-le, length-take-le, eqb-true, ne_eqb}
use Rattle.std.proofs.Math.Bool.{and-eq-true_iff, and-false}
use Rattle.std.proofs.Math.Seq.{take-append-add}
use Rattle.std.proofs.lemmas.Bool.{eqb-false}
use Rattle.nal_unit.specs.Bytes.{last_of, last_above}
use Rattle.nal_unit.specs.StartCode.{start_code, code, next, code_is, next_nil, next_code, next_there, clear-cons, next_join}
use Rattle.lists.specs.Test.{either}

unfoldable pub blank : List ℕ → Bool
blank [] = true
blank (x ∷ t) = eqb x 0 && blank t

-- the byte x before bytes that do not end in zero: left out where it is zero and none follow
unfoldable pub lay : ℕ → List ℕ → List ℕ
lay x [] = cond (eqb x 0) [] (x ∷ [])
lay x (y ∷ t) = x ∷ y ∷ t

unfoldable pub trim : List ℕ → List ℕ
trim [] = []
trim (x ∷ t) = lay x (trim t)

-- what a walk meets, with offsets and moves counted from its place
--     end             nothing but zeros is left
--     stray n         bytes from the place to the next start code or the end, n of them, not all zero
--     unit o u n      the unit u, which begins at o, behind its start code; the next start code, or the end, is at n
pub data Met : Type 0 where
  end : Met
  stray : ℕ → Met
  unit : ℕ → List ℕ → ℕ → Met

-- behind g zero bytes: the end, or a start code and its unit, which runs to the next one or the end, less its trailing zeros
unfoldable pub behind : ℕ → List ℕ → Met
behind g [] = end
behind g (x ∷ t) = unit (g + 3) (trim (take (next (drop 2 t)) (drop 2 t))) (g + suc (suc (suc (next (drop 2 t)))))

unfoldable pub meet : List ℕ → Met
meet s = cond (blank (take (next s) s)) (behind (next s) (drop (next s) s)) (stray (next s))

-- zeros hold none
code-blank : (s : List ℕ) → blank s ≡ true → code s ≡ false
unfolding blank code
code-blank [] e = refl
code-blank (x ∷ []) e = refl
code-blank (x ∷ y ∷ []) e = refl
code-blank (x ∷ y ∷ z ∷ s) e =
    let p = (and-eq-true_iff (eqb x 0) (eqb y 0 && (eqb z 0 && blank s))).0 e in
    let q = (and-eq-true_iff (eqb y 0) (eqb z 0 && blank s)).0 p.1 in
    let r = (and-eq-true_iff (eqb z 0) (blank s)).0 q.1 in
    rw (eqb-true z 0 r.0) (simp and-false)

-- so that the next one is at their end
pub next_blank : (s : List ℕ) → blank s ≡ true → next s ≡ length s
unfolding blank
next_blank [] e = next_nil
next_blank (x ∷ s) e = clear-cons x s (code-blank (x ∷ s) e) (next_blank s ((and-eq-true_iff (eqb x 0) (blank s)).0 e).1)

-- Trimming

-- zeros leave nothing
pub trim-blank : (z : List ℕ) → blank z ≡ true → trim z ≡ []
unfolding trim lay blank
trim-blank [] e = refl
trim-blank (x ∷ z) e =
    let p = (and-eq-true_iff (eqb x 0) (blank z)).0 e in
    rw (trim-blank z p.1, p.0) refl

-- bytes that do not end in zero, with zeros behind
pub trim-join : (c z : List ℕ) → 0 < last_of 0 c → blank z ≡ true → trim (c ++ z) ≡ c
unfolding trim lay last_of
trim-join [] z l e = absurd (omega arith)
trim-join (x ∷ []) z l e = rw (trim-blank z e, ne_eqb x 0 (λ q. omega arith)) refl
trim-join (x ∷ y ∷ c) z l e = rw (trim-join (y ∷ c) z l e) refl

-- what is left is the first bytes, and behind them stand zeros
pub record Trimmed (s : List ℕ) : Type 0 where
  pub count : ℕ
  pub most : count ≤ length s
  pub left : trim s ≡ take count s
  pub gone : blank (drop count s) ≡ true
  pub ends : 0 < last_of 1 (trim s)

-- so it is of every list
pub trimmed : (s : List ℕ) → Trimmed s
unfolding trim lay last_of blank
trimmed [] = record { count = 0; most = omega arith; left = refl; gone = refl; ends = omega arith }
trimmed (x ∷ s) = by (trim s) refl (trimmed s)
  where
    one : (b : Bool) → eqb x 0 ≡ b → trim s ≡ [] → blank s ≡ true → Trimmed (x ∷ s)
    one true z e g = record { count = 0; most = omega arith; left = rw (e, z) refl; gone = rw (z, g) refl; ends = rw (e, z) (omega arith) }
    one false z e g =
        record { count = 1; most = omega arith; left = rw (e, z) refl; gone = g; ends = rw (e, z) (omega (arith, eqb-false x 0 z)) }

    by : (t : List ℕ) → trim s ≡ t → Trimmed s → Trimmed (x ∷ s)
    by [] e r =
        let z : r.count ≡ 0 = omega (arith, length-take-le r.count s r.most, ap length (sym r.left ∙ e)) in
        one (eqb x 0) refl e (rw z at r.gone)
    by (y ∷ t) e r =
        record {
          count = suc r.count;
          most = omega arith;
          left = rw e (ap (λ (l : List ℕ). x ∷ l) (sym e ∙ r.left));
          gone = r.gone;
          ends = rw e (rw e at r.ends);
        }

-- Meeting

-- bytes in front of which a walk meets no stray bytes: zeros only, up to the next start code or the end
abbrev pub Calm : List ℕ → Type 0
Calm s = blank (take (next s) s) ≡ true

blank-take : (n : ℕ) (s : List ℕ) → blank s ≡ true → blank (take n s) ≡ true
unfolding blank
blank-take zero s e = refl
blank-take (suc n) [] e = refl
blank-take (suc n) (x ∷ s) e =
    let p = (and-eq-true_iff (eqb x 0) (blank s)).0 e in
    rw p.0 (blank-take n s p.1)

-- nothing
pub calm-nil : Calm []
unfolding next blank
calm-nil = refl

-- zeros only
pub calm-blank : (s : List ℕ) → blank s ≡ true → Calm s
calm-blank s e = blank-take (next s) s e

-- a start code
pub calm_code : (s : List ℕ) → code s ≡ true → Calm s
unfolding blank
calm_code s e = rw (next_code s e) refl

-- a start code behind one more zero, as the writer puts it
pub calm_start : (t : List ℕ) → Calm (0 ∷ start_code t)
unfolding next code blank
calm_start t = refl

-- at the end
pub meet-nil : meet [] ≡ end
unfolding meet behind next blank
meet-nil = refl

-- at a start code: its unit
pub meet_start : (t : List ℕ) → meet (start_code t) ≡ unit 3 (trim (take (next t) t)) (suc (suc (suc (next t))))
unfolding meet behind next code blank
meet_start t = ap (λ (k : ℕ). unit 3 (trim (take (next t) t)) k) (zero-add (suc (suc (suc (next t)))))

-- the three cases
pub meet-stray : (s : List ℕ) → blank (take (next s) s) ≡ false → meet s ≡ stray (next s)
unfolding meet
meet-stray s e = rw e refl

-- stray bytes are at least one
pub stray_some : (s : List ℕ) → blank (take (next s) s) ≡ false → 0 < next s
unfolding blank
stray_some s e = by (next s) e
  where
    by : (n : ℕ) → blank (take n s) ≡ false → 0 < n
    by zero e = absurd (true≢false e)
    by (suc n) e = omega arith

pub meet_end : (s : List ℕ) → Calm s → length s ≤ next s → meet s ≡ end
unfolding meet behind
meet_end s c h = rw (c, drop_of_length-le s h) refl

-- zeros only: the end
pub meet-blank : (s : List ℕ) → blank s ≡ true → meet s ≡ end
meet-blank s e = meet_end s (calm-blank s e) (omega (arith, next_blank s e))

pub meet-unit : (s t : List ℕ) → Calm s → drop (next s) s ≡ start_code t → meet s ≡ unit (next s + 3) (trim (take (next t) t)) (next s + suc (suc (suc (next t))))
unfolding meet behind
meet-unit s t c e = rw (c, e) refl

-- what a walk meets in calm bytes is what it meets at their next start code or end
pub data Seen (s : List ℕ) : Type 0 where
  over : meet s ≡ end → meet (drop (next s) s) ≡ end → Seen s
  holds : (u : List ℕ) (m : ℕ) → meet s ≡ unit (next s + 3) u (next s + m) → meet (drop (next s) s) ≡ unit 3 u m → Seen s

-- calm bytes are one or the other
pub seen : (s : List ℕ) → Calm s → Seen s
seen s c = either (length s) (next s) (λ h. over (meet_end s c h) (rw (drop_of_length-le s h) meet-nil)) some
  where
    some : next s < length s → Seen s
    some h =
        let t = drop 3 (drop (next s) s) in
        let e = code_is (drop (next s) s) (next_there s h) in
        holds (trim (take (next t) t)) (suc (suc (suc (next t)))) (meet-unit s t c e) (rw e (meet_start t))

-- a unit that is met whole: it does not end in zero, and no start code stands in it
pub record Whole (u : List ℕ) : Type 0 where
  pub ends : 0 < last_of 0 u
  pub clear : next u ≡ length u

-- before calm bytes, it runs to the next start code or the end, and trimming takes off what is not its own
pub whole_next : (u t : List ℕ) → Whole u → next (u ++ t) ≡ length u + next t
whole_next u t w = next_join u t (last_above 0 1 u (omega arith) w.ends) w.clear

pub whole_unit : (u t : List ℕ) → Whole u → Calm t → trim (take (next (u ++ t)) (u ++ t)) ≡ u
whole_unit u t w c = rw (whole_next u t w, take-append-add u t (next t)) (trim-join u (take (next t) t) w.ends c)

-- so that behind its start code it is what the walk meets, which then moves to the next start code or the end
pub meet_whole : (u t : List ℕ) → Whole u → Calm t → meet (start_code (u ++ t)) ≡ unit 3 u (suc (suc (suc (length u + next t))))
meet_whole u t w c = rw (meet_start (u ++ t), whole_unit u t w c, whole_next u t w) refl
