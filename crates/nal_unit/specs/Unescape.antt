-- Unescaping (7.3.1), and what it refuses (refusal 12 of paper 01).
--     un_from z xs     the payload of the escaped bytes xs where z zero bytes are counted before them; `un` where none is. Total: a 03 behind two
--                      zero bytes counted since the last byte taken out is taken out, whatever follows it, and at the end too
--     fault xs         whether xs holds 00 00 00, 00 00 02, or 00 00 03 with a byte over 03 behind; or 00 00 01, which no unit can hold
--     un-esc           unescaping undoes escaping
--     fault-esc        no escape has a fault
--     fault-take       nor has what is left of faultless bytes after a cut
--     un-take          what is left of an escape after a cut unescapes to the first bytes of the payload, to fewer than all if the cut took any
-- Of these proofs/Faultless.antt has `fault-esc`, since an edit of must-fail/ changes what it rests on.
-- Assumes nothing.
use Rattle.std.specs.Prelude.{◌≡◌, refl, List, [], ◌∷◌, ◌++◌, Bool, true, false, cond, ◌&&◌, ◌||◌, ℕ, zero, suc, ◌+◌, ◌≤◌, ◌<◌, leb, eqb, length, take}
use Rattle.std.proofs.Common.{ap, ◌∙◌, true≢false, arith, leb-true, leb-false, ne_eqb}
use Rattle.std.proofs.Math.Bool.{and-eq-true_iff, and-false}
use Rattle.std.proofs.Math.Seq.{take-nil}
use Rattle.std.proofs.lemmas.Bool.{lt-leb}
use Rattle.nal_unit.specs.Escape.{inserts, emit, zeros, esc_from, emit_more, emit_same, zeros_above}
use Rattle.nal_unit.specs.Bytes.{last_of}

-- whether the byte x, with z zero bytes counted before it, is an inserted one
unfoldable pub inserted : ℕ → ℕ → Bool
inserted z x = leb 2 z && eqb x 3

-- the zero bytes counted behind a byte x of the payload
unfoldable pub counted : ℕ → ℕ → ℕ
counted z x = cond (eqb x 0) (z + 1) 0

-- an inserted byte is left out and begins the count anew
unfoldable pub un_from : ℕ → List ℕ → List ℕ
un_from z [] = []
un_from z (x ∷ xs) = cond (inserted z x) (un_from 0 xs) (x ∷ un_from (counted z x) xs)

abbrev pub un : List ℕ → List ℕ
un xs = un_from 0 xs

-- a 00 00 03 at the end is unescaped to two zeros
pub un_end : un (0 ∷ 0 ∷ 3 ∷ []) ≡ 0 ∷ 0 ∷ []
unfolding un_from inserted counted
un_end = refl

-- what is inserted before a byte x is taken out, and x is not; the count of zero bytes behind x is the writer's
un-emit : (z x : ℕ) (ys : List ℕ) → un_from z (emit z x ++ ys) ≡ x ∷ un_from (zeros z x) ys
unfolding un_from inserted counted emit inserts zeros
un-emit z x ys = by (leb 2 z) (leb x 3) refl refl
  where
    by : (a b : Bool) → leb 2 z ≡ a → leb x 3 ≡ b → un_from z (emit z x ++ ys) ≡ x ∷ un_from (zeros z x) ys
    by true true ha hb = simp (ha, hb)
    by true false ha hb = simp (ha, hb, ne_eqb x 3 (λ e. omega (arith, leb-false x 3 hb)))
    by false b ha hb = simp ha

inserts_two : (z x : ℕ) → inserts z x ≡ true → leb 2 z ≡ true
unfolding inserts
inserts_two z x e = ((and-eq-true_iff (leb 2 z) (leb x 3)).0 e).0

-- unescaping undoes escaping, from any count of zero bytes on
pub un-esc : (z : ℕ) (xs : List ℕ) → un_from z (esc_from z xs) ≡ xs
unfolding un_from esc_from
un-esc z [] = refl
un-esc z (x ∷ xs) = un-emit z x (esc_from (zeros z x) xs) ∙ ap (λ (l : List ℕ). x ∷ l) (un-esc (zeros z x) xs)

-- unescaping never lengthens
pub un-length : (z : ℕ) (xs : List ℕ) → length (un_from z xs) ≤ length xs
unfolding un_from
un-length z [] = omega arith
un-length z (x ∷ xs) = by (inserted z x) (un-length 0 xs) (un-length (counted z x) xs)
  where
    by : (b : Bool) → length (un_from 0 xs) ≤ length xs → length (un_from (counted z x) xs) ≤ length xs
        → length (cond b (un_from 0 xs) (x ∷ un_from (counted z x) xs)) ≤ suc (length xs)
    by true h k = omega arith
    by false h k = omega arith

-- an escape ends as its payload does
pub last_esc : (d z : ℕ) (xs : List ℕ) → last_of d (esc_from z xs) ≡ last_of d xs
unfolding last_of esc_from emit
last_esc d z [] = refl
last_esc d z (x ∷ xs) = by (inserts z x) (last_esc x (zeros z x) xs)
  where
    by : (b : Bool) → last_of x (esc_from (zeros z x) xs) ≡ last_of x xs → last_of d (cond b (3 ∷ x ∷ []) (x ∷ []) ++ esc_from (zeros z x) xs) ≡ last_of x xs
    by true h = h
    by false h = h

-- what the first m bytes of the escape of p unescape to: the first `count` bytes of p
pub record Taken (m z : ℕ) (p : List ℕ) : Type 0 where
  pub count : ℕ
  pub reads : un_from z (take m (esc_from z p)) ≡ take count p
  pub most : count ≤ length p
  pub less : m < length (esc_from z p) → count < length p

-- each start of an escape unescapes to a start of the payload, to less than the payload if it is less than the escape
pub un-take : (m z : ℕ) (p : List ℕ) → Taken m z p
unfolding un_from inserted esc_from
un-take m z [] = record { count = 0; reads = rw (take-nil {A = ℕ} m) refl; most = omega arith; less = λ h. absurd (omega arith) }
un-take m z (x ∷ xs) = by m (inserts z x) refl (λ k. un-take k (zeros z x) xs)
  where
    more : List ℕ
    more = esc_from (zeros z x) xs

    step : (m k : ℕ) → take m (emit z x ++ more) ≡ emit z x ++ take k more → (m < length (emit z x ++ more) → k < length more)
        → Taken k (zeros z x) xs → Taken m z (x ∷ xs)
    step m k e l t =
        record {
          count = suc t.count;
          reads = rw e (un-emit z x (take k more) ∙ ap (λ (l : List ℕ). x ∷ l) t.reads);
          most = omega arith;
          less = λ h. omega (arith, t.less (l h));
        }

    by : (m : ℕ) (b : Bool) → inserts z x ≡ b → ((k : ℕ) → Taken k (zeros z x) xs) → Taken m z (x ∷ xs)
    by zero b e ih = record { count = 0; reads = refl; most = omega arith; less = λ h. omega arith }
    by (suc zero) true e ih =
        record { count = 0; reads = rw (emit_more z x e, inserts_two z x e) refl; most = omega arith; less = λ h. omega arith }
    by (suc (suc m)) true e ih = step (suc (suc m)) m (rw (emit_more z x e) refl) (λ h. omega (arith, rw (emit_more z x e) at h)) (ih m)
    by (suc m) false e ih = step (suc m) m (rw (emit_same z x e) refl) (λ h. omega (arith, rw (emit_same z x e) at h)) (ih m)

-- whether a byte over 03 is the first of xs
unfoldable pub over3 : List ℕ → Bool
over3 [] = false
over3 (x ∷ t) = leb 4 x

-- whether a fault stands at the front of xs: 00 00 00, 00 00 01, 00 00 02, or 00 00 03 with a byte over 03 behind
unfoldable pub fault_here : List ℕ → Bool
fault_here [] = false
fault_here (a ∷ []) = false
fault_here (a ∷ b ∷ []) = false
fault_here (a ∷ b ∷ c ∷ t) = eqb a 0 && (eqb b 0 && (leb c 2 || (eqb c 3 && over3 t)))

-- whether a fault stands anywhere in xs
unfoldable pub fault : List ℕ → Bool
fault [] = false
fault (x ∷ t) = fault_here (x ∷ t) || fault t

-- the definition, as laws
pub fault-nil : fault [] ≡ false
unfolding fault
fault-nil = refl

-- where no fault stands at the front, what is behind the first byte decides
pub fault_past : (x : ℕ) (t : List ℕ) → fault_here (x ∷ t) ≡ false → fault (x ∷ t) ≡ fault t
unfolding fault
fault_past x t e = rw e refl

-- no fault begins with a byte above 0
pub fault_first : (x : ℕ) (t : List ℕ) → 0 < x → fault (x ∷ t) ≡ fault t
unfolding fault_here
fault_first x [] h = fault_past x [] refl
fault_first x (b ∷ []) h = fault_past x (b ∷ []) refl
fault_first x (b ∷ c ∷ t) h = fault_past x (b ∷ c ∷ t) (rw (ne_eqb x 0 (λ e. omega arith)) refl)

-- nor one whose second byte is above 0
fault-second : (a x : ℕ) (t : List ℕ) → 0 < x → fault (a ∷ x ∷ t) ≡ fault t
unfolding fault_here
fault-second a x [] h = fault_past a (x ∷ []) refl ∙ fault_first x [] h
fault-second a x (c ∷ t) h = fault_past a (x ∷ c ∷ t) (simp (ne_eqb x 0 (λ e. omega arith), and-false)) ∙ fault_first x (c ∷ t) h

-- nor one whose third byte is above 3
fault-third : (a b x : ℕ) (t : List ℕ) → 3 < x → fault (a ∷ b ∷ x ∷ t) ≡ fault t
unfolding fault_here
fault-third a b x t h = fault_past a (b ∷ x ∷ t) (simp (lt-leb x 2 (omega arith), ne_eqb x 3 (λ e. omega arith), and-false)) ∙ fault-second b x t (omega arith)

-- nor one that is 00 00 03 with a byte of 03 or less behind
fault-mark : (a b x : ℕ) (t : List ℕ) → x ≤ 3 → fault (a ∷ b ∷ 3 ∷ x ∷ t) ≡ fault (x ∷ t)
unfolding fault_here over3
fault-mark a b x t h = fault_past a (b ∷ 3 ∷ x ∷ t) (simp (lt-leb 4 x (omega arith), and-false)) ∙ fault-second b 3 (x ∷ t) (omega arith)

-- the three states of the writer: behind the zero bytes that it counts, no fault
pub record Clean (xs : List ℕ) : Type 0 where
  pub none : fault (esc_from 0 xs) ≡ false
  pub one : fault (0 ∷ esc_from 1 xs) ≡ false
  pub two : fault (0 ∷ 0 ∷ esc_from 2 xs) ≡ false

pub clean : (xs : List ℕ) → Clean xs
unfolding esc_from emit zeros inserts fault fault_here
clean [] = record { none = refl; one = refl; two = refl }
clean (x ∷ xs) = by x (clean xs)
  where
    by : (x : ℕ) → Clean xs → Clean (x ∷ xs)
    by zero c = record { none = c.one; one = c.two; two = fault-mark 0 0 0 (esc_from 1 xs) (omega arith) ∙ c.one }
    by (suc x) c =
        record {
          none = rw (zeros_above 0 (suc x) (omega arith)) (fault_first (suc x) (esc_from 0 xs) (omega arith) ∙ c.none);
          one = rw (zeros_above 1 (suc x) (omega arith)) (fault-second 0 (suc x) (esc_from 0 xs) (omega arith) ∙ c.none);
          two = rw (zeros_above 2 (suc x) (omega arith)) (most (leb (suc x) 3) refl);
        }
      where
        most : (b : Bool) → leb (suc x) 3 ≡ b → fault (0 ∷ 0 ∷ (emit 2 (suc x) ++ esc_from 0 xs)) ≡ false
        most true e =
            rw (emit_more 2 (suc x) e) (fault-mark 0 0 (suc x) (esc_from 0 xs) (leb-true (suc x) 3 e) ∙ fault_first (suc x) (esc_from 0 xs) (omega arith) ∙ c.none)
        most false e = rw (emit_same 2 (suc x) e) (fault-third 0 0 (suc x) (esc_from 0 xs) (leb-false (suc x) 3 e) ∙ c.none)

over3-take : (m : ℕ) (t : List ℕ) → over3 t ≡ false → over3 (take m t) ≡ false
unfolding over3
over3-take zero t e = refl
over3-take (suc m) [] e = refl
over3-take (suc m) (x ∷ t) e = e

here_take : (m : ℕ) (s : List ℕ) → fault_here s ≡ false → fault_here (take m s) ≡ false
unfolding fault_here
here_take zero s e = refl
here_take (suc m) [] e = refl
here_take (suc zero) (a ∷ t) e = refl
here_take (suc (suc m)) (a ∷ []) e = refl
here_take (suc (suc zero)) (a ∷ b ∷ t) e = refl
here_take (suc (suc (suc m))) (a ∷ b ∷ []) e = refl
here_take (suc (suc (suc m))) (a ∷ b ∷ c ∷ t) e = by (eqb a 0) (eqb b 0) (leb c 2) (eqb c 3) e
  where
    by : (p q r k : Bool) → p && (q && (r || (k && over3 t))) ≡ false → p && (q && (r || (k && over3 (take m t)))) ≡ false
    by false q r k e = refl
    by true false r k e = refl
    by true true true k e = e
    by true true false false e = refl
    by true true false true e = over3-take m t e

-- faultless bytes: there is none at the front, and none behind the first
pub fault_none : (x : ℕ) (t : List ℕ) → fault (x ∷ t) ≡ false → (fault_here (x ∷ t) ≡ false) × (fault t ≡ false)
unfolding fault
fault_none x t e = neither (fault_here (x ∷ t)) e
  where
    neither : (b : Bool) → (b || fault t) ≡ false → (b ≡ false) × (fault t ≡ false)
    neither true e = absurd (true≢false e)
    neither false e = (refl, e)

-- a cut makes no fault
pub fault-take : (m : ℕ) (s : List ℕ) → fault s ≡ false → fault (take m s) ≡ false
fault-take zero s e = fault-nil
fault-take (suc m) [] e = fault-nil
fault-take (suc m) (x ∷ t) e =
    let n = fault_none x t e in
    fault_past x (take m t) (here_take (suc m) (x ∷ t) n.0) ∙ fault-take m t n.1
