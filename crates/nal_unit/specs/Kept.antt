-- A unit's payload by the places of the slice that holds it (7.3.1), with no count carried: a byte is an inserted one exactly if it is 03 and the two
-- bytes before it are 00. The first byte of a unit, its header, is above 0, so that no byte before the unit decides what one of its payload is. No law
-- here asks that the unit be without fault.
--     before s p k      the byte of s that stands k places before p; where s has none there, 1, which is no zero
--     ins a b x         whether the byte x, behind the bytes a and b, is an inserted one
--     ins_at s p        whether the byte of s at the place p is; so none is at the places 0 and 1. ins_at_lem: the bytes at p - 2, p - 1 and p say it, from 2 on
--     kept s p e        the bytes of s from p up to e that are not: what that stretch holds of the payload
--     ins_count s p e   how many are
--     kept_whole        from the place 0 on, before which nothing stands, what is kept is the unescaping of the whole
--     kept-un           from behind a unit's header up to its end, what is kept is its payload
--     un-kept, un_few   bytes with no header before them: the first two are payload whatever they are, and what is kept from the third on is the rest
--     kept_more, kept-plain, kept_end    a stretch by its first byte; count_step, count_end the same of the count
--     kept-length       what is kept and what was inserted are the stretch
--     kept_append       two stretches side by side; count-append the same of the count
--     kept-calm         a stretch without inserted bytes is kept as it stands; calm-part, calm_from, calm-join: inside such a stretch, behind
--                       a place of it, and of two
--     Flat s p e        no place from p up to e has an inserted byte; flat_none, flat_more by the last place, flat-join; flat-count: none is counted
-- Assumes nothing.
use Rattle.std.specs.Prelude.{◌≡◌, refl, List, [], ◌∷◌, ◌++◌, Bool, true, false, cond, ◌&&◌, ℕ, zero, suc, ◌+◌, ◌-◌, ◌≤◌, ◌<◌, leb, eqb, length, drop, get_or}
use Rattle.std.proofs.Common.{sym, ap, ◌∙◌, add-one, zero-add, arith, length-append, le-leb, eqb-true, ne_eqb}
use Rattle.std.proofs.Math.Bool.{and-true, and-false, and_assoc, and-eq-true_iff}
use Rattle.std.proofs.Math.Nat.{sub-zero}
use Rattle.std.proofs.Math.Dec.{leb-suc-suc}
use Rattle.std.proofs.Math.Seq.{take-length}
use Rattle.lists.specs.Part.{part, part-cons, part_none, part_length}
use Rattle.lists.specs.Test.{either}
use Rattle.nal_unit.specs.Unescape.{un_from, un, inserted, counted}

unfoldable pub ins : ℕ → ℕ → ℕ → Bool
ins a b x = eqb a 0 && (eqb b 0 && eqb x 3)

-- the bytes of xs that are not inserted ones, where a and b are the two before them
unfoldable pub keep : ℕ → ℕ → List ℕ → List ℕ
keep a b [] = []
keep a b (x ∷ xs) = cond (ins a b x) (keep b x xs) (x ∷ keep b x xs)

-- how many of them are
unfoldable pub ins_in : ℕ → ℕ → List ℕ → ℕ
ins_in a b [] = 0
ins_in a b (x ∷ xs) = cond (ins a b x) (suc (ins_in b x xs)) (ins_in b x xs)

-- before the first byte there is none: 1 stands for it, since only a zero there would make another byte an inserted one
unfoldable pub before : List ℕ → ℕ → ℕ → ℕ
before s p k = cond (leb k p) (get_or s (p - k) 0) 1

unfoldable pub ins_at : List ℕ → ℕ → Bool
ins_at s p = ins (before s p 2) (before s p 1) (get_or s p 0)

unfoldable pub kept : List ℕ → ℕ → ℕ → List ℕ
kept s p e = keep (before s p 2) (before s p 1) (part s p (e - p))

unfoldable pub ins_count : List ℕ → ℕ → ℕ → ℕ
ins_count s p e = ins_in (before s p 2) (before s p 1) (part s p (e - p))

-- from the place 2 on, the two bytes before are those of the slice
pub ins_at_lem : (s : List ℕ) (p : ℕ) → 2 ≤ p → ins_at s p ≡ ins (get_or s (p - 2) 0) (get_or s (p - 1) 0) (get_or s p 0)
unfolding ins_at before
ins_at_lem s p h = rw (le-leb 2 p h, le-leb 1 p (omega arith)) refl

-- a place further on, the byte two before is the one that was one before, and that one before is the byte at the place
before_two : (s : List ℕ) (p : ℕ) → before s (p + 1) 2 ≡ before s p 1
unfolding before
before_two s p =
    let f : p + 1 - 2 ≡ p - 1 = omega arith in
    rw (add-one p, leb-suc-suc 1 p, ← add-one p, f) refl

before_one : (s : List ℕ) (p : ℕ) → before s (p + 1) 1 ≡ get_or s p 0
unfolding before
before_one s p =
    let f : p + 1 - 1 ≡ p = omega arith in
    rw (le-leb 1 (p + 1) (omega arith), f) refl

-- the two bytes a and b tell what a count of z zero bytes does
record Tells (a b z : ℕ) : Type 0 where
  two : leb 2 z ≡ eqb a 0 && eqb b 0
  one : leb 1 z ≡ eqb b 0

tells-ins : (a b z x : ℕ) → Tells a b z → inserted z x ≡ ins a b x
unfolding inserted ins
tells-ins a b z x g = rw g.two (and_assoc (eqb a 0) (eqb b 0) (eqb x 3))

-- behind an inserted byte, and behind any other
tells_past : (a b z x : ℕ) → ins a b x ≡ true → Tells b x 0
unfolding ins
tells_past a b z x e =
    let f = eqb-true x 3 ((and-eq-true_iff (eqb b 0) (eqb x 3)).0 ((and-eq-true_iff (eqb a 0) (eqb b 0 && eqb x 3)).0 e).1).1 in
    rw f record { two = sym (and-false (eqb b 0)); one = refl }

tells_on : (a b z x : ℕ) → Tells a b z → Tells b x (counted z x)
unfolding counted
tells_on a b z x g = by (eqb x 0) refl
  where
    by : (t : Bool) → eqb x 0 ≡ t → Tells b x (cond (eqb x 0) (z + 1) 0)
    by true e = rw e record { two = rw (add-one z, leb-suc-suc 1 z, e) (g.one ∙ sym (and-true (eqb b 0))); one = rw e (le-leb 1 (z + 1) (omega arith)) }
    by false e = rw e record { two = rw e (sym (and-false (eqb b 0))); one = sym e }

-- so unescaping, which counts, keeps the same bytes
keep-un : (a b z : ℕ) (xs : List ℕ) → Tells a b z → un_from z xs ≡ keep a b xs
unfolding un_from keep
keep-un a b z [] g = refl
keep-un a b z (x ∷ xs) g = rw (tells-ins a b z x g) (by (ins a b x) refl (λ w t. keep-un b x w xs t))
  where
    by : (t : Bool) → ins a b x ≡ t → ((w : ℕ) → Tells b x w → un_from w xs ≡ keep b x xs)
        → cond t (un_from 0 xs) (x ∷ un_from (counted z x) xs) ≡ cond t (keep b x xs) (x ∷ keep b x xs)
    by true e ih = ih 0 (tells_past a b z x e)
    by false e ih = ap (λ (l : List ℕ). x ∷ l) (ih (counted z x) (tells_on a b z x g))

-- Where the byte at the place o is above 0, what is kept from behind it on is the unescaping from there on: of a unit, which begins with its header, the payload.
pub kept-un : (s : List ℕ) (o e : ℕ) → o < e → e ≤ length s → 0 < get_or s o 0 → kept s (o + 1) e ≡ un (drop 1 (part s o (e - o)))
unfolding kept
kept-un s o e h l i =
    let f : e - o ≡ e - (o + 1) + 1 = omega arith in
    let n : eqb (get_or s o 0) 0 ≡ false = ne_eqb (get_or s o 0) 0 (λ z. omega arith) in
    rw (f, part-cons s o (e - (o + 1)) (omega arith), before_one s o)
    (sym (keep-un (before s (o + 1) 2) (get_or s o 0) 0 (part s (o + 1) (e - (o + 1))) record { two = rw n (sym (and-false (eqb (before s (o + 1) 2) 0))); one = sym n }))

-- From the place 0 on all is unescaped, with nothing before it.
pub kept_whole : (s : List ℕ) → kept s 0 (length s) ≡ un s
unfolding kept before part
kept_whole s = rw (sub-zero (length s), take-length s) (sym (keep-un 1 1 0 s record { two = refl; one = refl }))

-- The payload of bytes with no header before them: their first two, and what is kept behind these; fewer than two are all of it.
pub un-kept : (s : List ℕ) → 2 ≤ length s → un s ≡ part s 0 2 ++ kept s 2 (length s)
unfolding kept keep ins part before
un-kept [] h = absurd (omega arith)
un-kept (x ∷ []) h = absurd (omega arith)
un-kept (x ∷ y ∷ t) h =
    let f : suc (suc (length t)) - 2 ≡ length t = omega arith in
    keep-un 1 1 0 (x ∷ y ∷ t) record { two = refl; one = refl } ∙ rw (f, take-length t) refl

pub un_few : (s : List ℕ) → length s < 2 → un s ≡ s
unfolding un_from inserted
un_few [] h = refl
un_few (x ∷ []) h = refl
un_few (x ∷ y ∷ t) h = absurd (omega arith)

-- A stretch by its first byte

kept_step : (s : List ℕ) (p e : ℕ) → p < e → e ≤ length s → kept s p e ≡ cond (ins_at s p) (kept s (p + 1) e) (get_or s p 0 ∷ kept s (p + 1) e)
unfolding kept keep ins_at
kept_step s p e h l =
    let f : e - p ≡ e - (p + 1) + 1 = omega arith in
    rw (f, part-cons s p (e - (p + 1)) (omega arith), before_two s p, before_one s p) refl

-- an inserted byte is passed over
pub kept_more : (s : List ℕ) (p e : ℕ) → p < e → e ≤ length s → ins_at s p ≡ true → kept s p e ≡ kept s (p + 1) e
kept_more s p e h l t = rw (kept_step s p e h l, t) refl

-- another is the first that is kept
pub kept-plain : (s : List ℕ) (p e : ℕ) → p < e → e ≤ length s → ins_at s p ≡ false → kept s p e ≡ get_or s p 0 ∷ kept s (p + 1) e
kept-plain s p e h l t = rw (kept_step s p e h l, t) refl

-- at the end nothing is left
pub kept_end : (s : List ℕ) (p e : ℕ) → e ≤ p → kept s p e ≡ []
unfolding kept keep
kept_end s p e h =
    let f : e - p ≡ 0 = omega arith in
    rw (f, part_none s p) refl

-- the inserted bytes by the first, and at the end
pub count_step : (s : List ℕ) (p e : ℕ) → p < e → e ≤ length s → ins_count s p e ≡ cond (ins_at s p) 1 0 + ins_count s (p + 1) e
unfolding ins_count ins_in ins_at
count_step s p e h l =
    let f : e - p ≡ e - (p + 1) + 1 = omega arith in
    rw (f, part-cons s p (e - (p + 1)) (omega arith), before_two s p, before_one s p) (one (ins (before s p 2) (before s p 1) (get_or s p 0)) (ins_in (before s p 1) (get_or s p 0) (part s (p + 1) (e - (p + 1)))))
  where
    one : (b : Bool) (n : ℕ) → cond b (suc n) n ≡ cond b 1 0 + n
    one true n = omega arith
    one false n = omega arith

pub count_end : (s : List ℕ) (p e : ℕ) → e ≤ p → ins_count s p e ≡ 0
unfolding ins_count ins_in
count_end s p e h =
    let f : e - p ≡ 0 = omega arith in
    rw (f, part_none s p) refl

keep-length : (a b : ℕ) (xs : List ℕ) → length (keep a b xs) + ins_in a b xs ≡ length xs
unfolding keep ins_in
keep-length a b [] = refl
keep-length a b (x ∷ xs) = by (ins a b x) (keep-length b x xs)
  where
    by : (t : Bool) → length (keep b x xs) + ins_in b x xs ≡ length xs
        → length (cond t (keep b x xs) (x ∷ keep b x xs)) + cond t (suc (ins_in b x xs)) (ins_in b x xs) ≡ suc (length xs)
    by true h = omega arith
    by false h = omega arith

-- each byte of a stretch is kept or was inserted
pub kept-length : (s : List ℕ) (p e : ℕ) → p ≤ e → e ≤ length s → length (kept s p e) + ins_count s p e ≡ e - p
unfolding kept ins_count
kept-length s p e h l = keep-length (before s p 2) (before s p 1) (part s p (e - p)) ∙ part_length s p (e - p) (omega arith)

-- where something is kept, the stretch is not at its end
pub kept_some : (s : List ℕ) (p e : ℕ) → 0 < length (kept s p e) → p < e
kept_some s p e h = either e p (λ l. absurd (omega (arith, ap length (kept_end s p e l)))) (λ l. l)

-- n bytes of the payload are n bytes of the stretch or more
pub kept_room : (s : List ℕ) (p e n : ℕ) → p ≤ e → e ≤ length s → n ≤ length (kept s p e) → p + n ≤ e
kept_room s p e n h l k = omega (arith, kept-length s p e h l)

-- two stretches side by side
pub kept_append : (s : List ℕ) (p m e : ℕ) → p ≤ m → m ≤ e → e ≤ length s → kept s p e ≡ kept s p m ++ kept s m e
kept_append s p m e h k l = by (m - p) p (omega arith)
  where
    by : (n p : ℕ) → p + n ≡ m → kept s p e ≡ kept s p m ++ kept s m e
    by zero p q =
        let f : p ≡ m = omega arith in
        rw (f, kept_end s m m (omega arith)) refl
    by (suc n) p q =
        rw (kept_step s p e (omega arith) l, kept_step s p m (omega arith) (omega arith)) (both (ins_at s p) (by n (p + 1) (omega arith)))
      where
        both : (b : Bool) → kept s (p + 1) e ≡ kept s (p + 1) m ++ kept s m e
            → cond b (kept s (p + 1) e) (get_or s p 0 ∷ kept s (p + 1) e) ≡ cond b (kept s (p + 1) m) (get_or s p 0 ∷ kept s (p + 1) m) ++ kept s m e
        both true e = e
        both false e = ap (λ (l : List ℕ). get_or s p 0 ∷ l) e

-- their inserted bytes together
pub count-append : (s : List ℕ) (p m e : ℕ) → p ≤ m → m ≤ e → e ≤ length s → ins_count s p e ≡ ins_count s p m + ins_count s m e
count-append s p m e h k l =
    omega (arith, kept-length s p e (omega arith) l, kept-length s p m h (omega arith), kept-length s m e k l, length-append (kept s p m) (kept s m e), ap length (kept_append s p m e h k l))

-- Calm stretches: those without inserted bytes

-- what is inside one is another
pub calm-part : (s : List ℕ) (p e a b : ℕ) → p ≤ a → a ≤ b → b ≤ e → e ≤ length s → ins_count s p e ≡ 0 → ins_count s a b ≡ 0
calm-part s p e a b h k l m z =
    omega (arith, count-append s p a e h (omega arith) m, count-append s a b e k l m)

-- two of them that meet or overlap are one
pub calm-join : (s : List ℕ) (p e a b : ℕ) → p ≤ a → a ≤ b → b ≤ e → e ≤ length s → ins_count s p b ≡ 0 → ins_count s a e ≡ 0 → ins_count s p e ≡ 0
calm-join s p e a b h k l m y z =
    omega (arith, count-append s p a e h (omega arith) m, count-append s p a b h k (omega arith))

-- what is behind its first byte
calm_on : (s : List ℕ) (p e : ℕ) → p < e → e ≤ length s → ins_count s p e ≡ 0 → ins_count s (p + 1) e ≡ 0
calm_on s p e k l z = omega (arith, count_step s p e k l)

-- what is behind a place of it, wherever it begins
pub calm_from : (s : List ℕ) (c p e : ℕ) → c ≤ p → e ≤ length s → ins_count s c e ≡ 0 → ins_count s p e ≡ 0
calm_from s c p e h l z = by (p - c) c (omega arith) z
  where
    by : (n q : ℕ) → q + n ≡ p → ins_count s q e ≡ 0 → ins_count s p e ≡ 0
    by zero q f z = let g : p ≡ q = omega arith in rw g z
    by (suc n) q f z = either e q (λ k. count_end s p e (omega arith)) (λ k. by n (q + 1) (omega arith) (calm_on s q e k l z))

-- it is kept as it stands
pub kept-calm : (s : List ℕ) (p e : ℕ) → ins_count s p e ≡ 0 → kept s p e ≡ part s p (e - p)
unfolding kept ins_count keep ins_in
kept-calm s p e h = all (before s p 2) (before s p 1) (part s p (e - p)) h
  where
    all : (a b : ℕ) (xs : List ℕ) → ins_in a b xs ≡ 0 → keep a b xs ≡ xs
    all a b [] h = refl
    all a b (x ∷ xs) h = by (ins a b x) h (all b x xs)
      where
        by : (t : Bool) → cond t (suc (ins_in b x xs)) (ins_in b x xs) ≡ 0 → (ins_in b x xs ≡ 0 → keep b x xs ≡ xs)
            → cond t (keep b x xs) (x ∷ keep b x xs) ≡ x ∷ xs
        by true h ih = absurd (omega arith)
        by false h ih = ap (λ (l : List ℕ). x ∷ l) (ih h)

-- a stretch without inserted bytes by its places, as a search that goes on byte by byte finds it
pub record Flat (s : List ℕ) (p e : ℕ) : Type 0 where
  pub none : (q : ℕ) → p ≤ q → q < e → ins_at s q ≡ false

pub flat_none : (s : List ℕ) (p e : ℕ) → e ≤ p → Flat s p e
flat_none s p e h = record { none = λ q k l. absurd (omega arith) }

pub flat_more : {s : List ℕ} {p e : ℕ} (e' : ℕ) → Flat s p e → ins_at s e ≡ false → e' ≡ e + 1 → Flat s p e'
flat_more {s} {p} {e} e' g h i =
    record { none = λ q k l. either e q (λ m. let z : q ≡ e = omega arith in rw z h) (λ m. g.none q k m) }

-- two of them that meet
pub flat-join : {s : List ℕ} {p m e : ℕ} → Flat s p m → Flat s m e → Flat s p e
flat-join {m = m} g h = record { none = λ q k l. either m q (λ i. h.none q i l) (λ i. g.none q k i) }

pub flat-count : {s : List ℕ} {p e : ℕ} → Flat s p e → (m : ℕ) → m ≤ e → m ≤ length s → ins_count s p m ≡ 0
flat-count {s} {p} {e} g m h l = by (m - p) p (omega arith) (omega arith)
  where
    by : (n q : ℕ) → p ≤ q → m ≤ q + n → ins_count s q m ≡ 0
    by zero q k f = count_end s q m (omega arith)
    by (suc n) q k f = either m q (λ j. count_end s q m j) (λ j. rw (count_step s q m j l, g.none q k (omega arith), zero-add (ins_count s (q + 1) m)) (by n (q + 1) (omega arith) (omega arith)))
