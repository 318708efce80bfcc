-- What the loops of the code that reads a unit's payload keep, turn by turn. Only that code's proofs cite these laws.
--     ins-bits                the test of an inserted byte, by bits
--     next_plain, next_more   where the next byte stands
--     Taking                  bytes taken one by one
--     Calming, Counting       a stretch tested for inserted bytes, and their count; calm_by: the test is that of each byte
--     Skipping                bytes passed by counts
--     Pair, Repeats           zeros in pairs, an inserted byte in each: what a black picture's payload is in the unit
--     pair_first ..           the test of three bytes; pairs-are: bytes that are found to be pairs of zeros are kept as zeros; pairs-alike, pairs_by: found by comparing slices, or each byte
--     zeros-found ..          the place behind such zeros; zeros-behind, zeros-are: what is passed stands behind p, and is zeros
-- Assumes nothing.
use lib.Pointwise.{pointwise}
use Rattle.std.specs.Prelude.{◌≡◌, refl, Some, None, List, [], ◌∷◌, ◌++◌, Bool, true, false, cond, ◌&&◌, ℕ, zero, suc, ◌+◌, ◌-◌, ◌*◌, ◌/◌, ◌≤◌, ◌<◌, leb, eqb, length, take, drop, get_or, set, replicate, slice_range}
use Rattle.std.proofs.Common.{sym, ap, ◌∙◌, zero-add, add-zero, add-one, add_assoc, arith, length-append, length-drop, length-set, length-take-le, set-set, leb-true, eqb-true, le-leb, eq-eqb, ne_eqb}
use Rattle.std.proofs.Math.Bool.{and_assoc, and-true, and-false, and-eq-true_iff}
use Rattle.std.specs.Int.Bits.{bit_or, bit_xor}
use Rattle.std.proofs.lemmas.List.{length-replicate, replicate-append-replicate, set-get_or}
use Rattle.std.proofs.Math.Seq.{drop-append-add}
use Rattle.std.proofs.lemmas.Bool.{lt-leb}
use Rattle.lists.specs.Fill.{splice, splice_none, splice-length}
use Rattle.lists.specs.Part.{part, part_none, part-cons}
use Rattle.lists.specs.Flag.{or-zero, xor-zero, every, Flag, flag-keep, flag-raise, flag_end}
use Rattle.nal_unit.specs.Kept.{ins, ins_at, ins_at_lem, kept, ins_count, kept_more, kept-plain, kept_end, kept_append, kept-length, kept_some, count_step, count_end, count-append, Flat, flat-count}
use Rattle.nal_unit.specs.Taking.{Next, Passed, pass_none, Took, took_next, took_more, took_stretch, zero_pair, alike, zero_pairs, zeros_in, behind_zeros}
use Rattle.nal_unit.specs.CalmCode.{every_by}

-- The test of an inserted byte

pub ins-bits : (a b x : ℕ) → eqb (bit_or (bit_or a b) (bit_xor x 3)) 0 ≡ ins a b x
unfolding ins
ins-bits a b x = rw (or-zero (bit_or a b) (bit_xor x 3), or-zero a b, xor-zero x 3) (and_assoc (eqb a 0) (eqb b 0) (eqb x 3))

-- the byte at q is an inserted one: it is 03, and the bytes at a and b, before it, are zeros
ins_is : (s : List ℕ) (a b q : ℕ) → a + 2 ≡ q → b + 1 ≡ q → ins_at s q ≡ true → (get_or s a 0 ≡ 0) × (get_or s b 0 ≡ 0) × (get_or s q 0 ≡ 3)
unfolding ins
ins_is s a b q h k t =
    let f : q - 2 ≡ a = omega arith in
    let g : q - 1 ≡ b = omega arith in
    let u : eqb (get_or s a 0) 0 && (eqb (get_or s b 0) 0 && eqb (get_or s q 0) 3) ≡ true = rw (ins_at_lem s q (omega arith), f, g) at t in
    let v = (and-eq-true_iff (eqb (get_or s a 0) 0) (eqb (get_or s b 0) 0 && eqb (get_or s q 0) 3)).0 u in
    let w = (and-eq-true_iff (eqb (get_or s b 0) 0) (eqb (get_or s q 0) 3)).0 v.1 in
    (eqb-true (get_or s a 0) 0 v.0, eqb-true (get_or s b 0) 0 w.0, eqb-true (get_or s q 0) 3 w.1)

is_ins : (s : List ℕ) (a b q : ℕ) → a + 2 ≡ q → b + 1 ≡ q → get_or s a 0 ≡ 0 → get_or s b 0 ≡ 0 → get_or s q 0 ≡ 3 → ins_at s q ≡ true
unfolding ins
is_ins s a b q h k x y z =
    let f : q - 2 ≡ a = omega arith in
    let g : q - 1 ≡ b = omega arith in
    rw (ins_at_lem s q (omega arith), f, g, x, y, z) refl

zero-plain : (s : List ℕ) (q : ℕ) → get_or s q 0 ≡ 0 → ins_at s q ≡ false
unfolding ins_at ins
zero-plain s q h = rw h (simp and-false)

-- The next byte

pub next_plain : (s : List ℕ) (p e : ℕ) → 2 ≤ p → e ≤ length s → 0 < length (kept s p e) → ins_at s p ≡ false → Next s p e p
next_plain s p e i l h t =
    let k = kept_some s p e h in
    record { first = kept-plain s p e k l t; low = omega arith; high = k }

-- behind an inserted byte, which is not 0, stands none
pub next_more : (s : List ℕ) (p e : ℕ) → 2 ≤ p → e ≤ length s → 0 < length (kept s p e) → ins_at s p ≡ true → Next s p e (p + 1)
unfolding ins
next_more s p e i l h t =
    let k = kept_more s p e (kept_some s p e h) l t in
    let n = kept_some s (p + 1) e (rw k at h) in
    let x = (ins_is s (p - 2) (p - 1) p (omega arith) (omega arith) t).2 in
    let q : p + 1 - 1 ≡ p = omega arith in
    record { first = k ∙ kept-plain s (p + 1) e n l (rw (ins_at_lem s (p + 1) (omega arith), q, x) (and-false (eqb (get_or s (p + 1 - 2) 0) 0))); low = omega arith; high = n }

-- Bytes taken one by one, with an inserted byte written too and then written over: i bytes of n were taken, q is the place behind them, and `over` stands
-- in the buffer behind them, until all are taken.
pub record Taking (s : List ℕ) (p e n : ℕ) (d : List ℕ) (a : ℕ) (out : List ℕ) (q i : ℕ) : Type 0 where
  pub place : Passed s p e i q
  pub most : i ≤ n
  pub enough : n ≤ length (kept s p e)
  pub room : a + n ≤ length d
  pub over : ℕ
  pub holds : out ≡ set (splice d a (take i (kept s p e))) (a + i) over
  pub done : n ≤ i → out ≡ splice d a (take i (kept s p e))

pub taking_start : (s : List ℕ) (p e n : ℕ) (d : List ℕ) (a : ℕ) → p ≤ e → n ≤ length (kept s p e) → a + n ≤ length d → Taking s p e n d a d p 0
taking_start s p e n d a h l k =
    record {
      place = pass_none s p e h;
      most = omega arith;
      enough = l;
      room = k;
      over = get_or d a 0;
      holds = rw (splice_none d a, add-zero a) (sym (set-get_or d a 0));
      done = λ z. sym (splice_none d a);
    }

pub taking-length : {s : List ℕ} {p e n : ℕ} {d : List ℕ} {a : ℕ} {out : List ℕ} {q i : ℕ} → Taking s p e n d a out q i → length out ≡ length d
taking-length {s} {p} {e} {n} {d} {a} {out} {q} {i} g =
    let S = splice d a (take i (kept s p e)) in
    ap length g.holds ∙ length-set S (a + i) g.over ∙ splice-length d a (take i (kept s p e)) (omega (arith, length-take-le i (kept s p e) (omega arith)))

-- what is still to be taken is there
pub taking_some : {s : List ℕ} {p e n : ℕ} {d : List ℕ} {a : ℕ} {out : List ℕ} {q i : ℕ} → Taking s p e n d a out q i → i < n → 0 < length (kept s q e)
taking_some {s} {p} {e} {n} {d} {a} {out} {q} {i} g h = omega (arith, ap length g.place.left, length-drop i (kept s p e))

-- the byte at q
pub taking_turn : {s : List ℕ} {p e n : ℕ} {d : List ℕ} {a : ℕ} {out : List ℕ} {q i k : ℕ} → Taking s p e n d a out q i → i < n → 2 ≤ p → e ≤ length s
    → k ≡ cond (ins_at s q) 0 1 → Taking s p e n d a (set out (a + i) (get_or s q 0)) (q + 1) (i + k)
taking_turn {s} {p} {e} {n} {d} {a} {out} {q} {i} {k} g h j l f = rw f (by (ins_at s q) refl)
  where
    S : List ℕ
    S = splice d a (take i (kept s p e))

    x : ℕ
    x = get_or s q 0

    -- it is written over what stood there
    now : set out (a + i) x ≡ set S (a + i) x
    now = rw g.holds (set-set S (a + i) g.over x)

    by : (b : Bool) → ins_at s q ≡ b → Taking s p e n d a (set out (a + i) x) (q + 1) (i + cond b 0 1)
    by true t =
        let c = kept_some s q e (taking_some g h) in
        rw (add-zero i)
        record {
          place = record { left = sym (kept_more s q e c l t) ∙ g.place.left; low = omega arith; high = omega arith };
          most = g.most;
          enough = g.enough;
          room = g.room;
          over = x;
          holds = now;
          done = λ z. absurd (omega arith);
        }
    by false t =
        let w = next_plain s q e (omega arith) l (taking_some g h) t in
        let m = splice-length d a (take i (kept s p e)) (omega (arith, length-take-le i (kept s p e) (omega arith))) in
        let v = took_more record { bytes = refl; place = g.place } (took_next S (a + i) w (omega arith)) (omega arith) (omega arith) in
        record {
          place = v.place;
          most = omega arith;
          enough = g.enough;
          room = g.room;
          over = get_or (splice d a (take (i + 1) (kept s p e))) (a + (i + 1)) 0;
          holds = now ∙ v.bytes ∙ sym (set-get_or (splice d a (take (i + 1) (kept s p e))) (a + (i + 1)) 0);
          done = λ z. now ∙ v.bytes;
        }

pub taking_end : {s : List ℕ} {p e n : ℕ} {d : List ℕ} {a : ℕ} {out : List ℕ} {q i : ℕ} → Taking s p e n d a out q i → n ≤ i → Took s p e n d a out q
taking_end {s} {p} {e} {n} {d} {a} {out} {q} {i} g h =
    let f : i ≡ n = omega (arith, g.most) in
    let k : Took s p e i d a out q = record { bytes = g.done h; place = g.place } in
    rw f at k

-- Tests and counts

-- The bytes from p up to q were tested, and the flag f is 0 where none of them is an inserted one.
pub record Calming (s : List ℕ) (p e f q : ℕ) : Type 0 where
  pub same : eqb f 0 && eqb (ins_count s q e) 0 ≡ eqb (ins_count s p e) 0

pub calm_start : (s : List ℕ) (p e : ℕ) → Calming s p e 0 p
calm_start s p e = record { same = refl }

pub calm-keep : {s : List ℕ} {p e f q : ℕ} → Calming s p e f q → 1 ≤ q → q < e → e ≤ length s → ins_at s q ≡ false → Calming s p e f (q + 1)
calm-keep {s} {p} {e} {f} {q} g i h l t = record { same = rw (count_step s q e h l, t, zero-add (ins_count s (q + 1) e)) at g.same }

pub calm-raise : {s : List ℕ} {p e f q : ℕ} → Calming s p e f q → 1 ≤ q → q < e → e ≤ length s → ins_at s q ≡ true → Calming s p e 1 (q + 1)
calm-raise {s} {p} {e} {f} {q} g i h l t =
    let z : eqb (ins_count s q e) 0 ≡ false = ne_eqb (ins_count s q e) 0 (λ k. omega (arith, rw t at (count_step s q e h l))) in
    record { same = sym (and-false (eqb f 0)) ∙ rw z at g.same }

pub calm_end : {s : List ℕ} {p e f q : ℕ} → Calming s p e f q → e ≤ q → eqb f 0 ≡ eqb (ins_count s p e) 0
calm_end {s} {p} {e} {f} {q} g h = sym (and-true (eqb f 0)) ∙ rw (count_end s q e h) at g.same

-- the test of n bytes is that of each
pub calm_by : (b : Bool) (s : List ℕ) (p n : ℕ) → 1 ≤ p → p + n ≤ length s → (b ≡ true → (k : ℕ) → p ≤ k → k < p + n → ins_at s k ≡ false)
    → (b ≡ false → (k : ℕ) × (p ≤ k) × (k < p + n) × (ins_at s k ≡ true)) → b ≡ eqb (ins_count s p (p + n)) 0
calm_by true s p n i l h g =
    let f : Flat s p (p + n) = record { none = h refl } in
    sym (eq-eqb (ins_count s p (p + n)) 0 (flat-count f (p + n) (omega arith) l))
calm_by false s p n i l h g = by (g refl)
  where
    by : ((k : ℕ) × (p ≤ k) × (k < p + n) × (ins_at s k ≡ true)) → false ≡ eqb (ins_count s p (p + n)) 0
    by (k, a, b, t) =
        sym (ne_eqb (ins_count s p (p + n)) 0 (λ z. omega (arith, count-append s p k (p + n) a (omega arith) l, rw t at (count_step s k (p + n) b l))))

-- The bytes from p up to q were counted, and c of them are inserted ones.
pub record Counting (s : List ℕ) (p e c q : ℕ) : Type 0 where
  pub sum : c + ins_count s q e ≡ ins_count s p e
  pub low : p + c ≤ q

pub count_start : (s : List ℕ) (p e : ℕ) → Counting s p e 0 p
count_start s p e = record { sum = omega arith; low = omega arith }

pub count_turn : {s : List ℕ} {p e c q c' : ℕ} {t : Bool} → Counting s p e c q → 1 ≤ q → q < e → e ≤ length s → t ≡ ins_at s q → c' ≡ cond t 1 0 + c → Counting s p e c' (q + 1)
count_turn {s} {p} {e} {c} {q} {c'} {t} g i h l f k =
    record { sum = omega (arith, count_step s q e h l, ap {B = ℕ} (λ (b : Bool). cond b 1 0) f); low = omega (arith, by t) }
  where
    by : (b : Bool) → cond b 1 0 ≤ 1
    by true = omega arith
    by false = omega arith

-- a stretch at a time
pub count_more : {s : List ℕ} {p e c q m : ℕ} (r : ℕ) → Counting s p e c q → 1 ≤ q → q ≤ r → r ≤ e → e ≤ length s → m ≡ ins_count s q r → Counting s p e (c + m) r
count_more {s} {p} {e} {c} {q} r g i h k l f =
    record { sum = omega (arith, count-append s q r e h k l); low = omega (arith, kept-length s q r h (omega arith)) }

pub count-done : {s : List ℕ} {p e c q : ℕ} → Counting s p e c q → e ≤ q → c ≡ ins_count s p e
count-done {s} {p} {e} {c} {q} g h = omega (arith, count_end s q e h)

-- Of n bytes to be passed from p on, those before q were, and `left` are still to be passed.
pub record Skipping (s : List ℕ) (p e n q left : ℕ) : Type 0 where
  pub rest : drop left (kept s q e) ≡ drop n (kept s p e)
  pub enough : left ≤ length (kept s q e)
  pub low : p + n ≤ q + left
  pub high : q + left ≤ e

pub skip_start : (s : List ℕ) (p e n : ℕ) → p ≤ e → e ≤ length s → n ≤ length (kept s p e) → Skipping s p e n p n
skip_start s p e n h l k = record { rest = refl; enough = k; low = omega arith; high = omega (arith, kept-length s p e h l) }

-- as many bytes of the stretch as are left: what is left then are as many as were inserted among them
pub skip_turn : {s : List ℕ} {p e n q left : ℕ} → Skipping s p e n q left → 1 ≤ q → e ≤ length s → Skipping s p e n (q + left) (ins_count s q (q + left))
skip_turn {s} {p} {e} {n} {q} {left} g i l =
    let m = ins_count s q (q + left) in
    let A = kept s q (q + left) in
    let B = kept s (q + left) e in
    let w = kept_append s q (q + left) e (omega arith) g.high l in
    let a : length A + m ≡ left = kept-length s q (q + left) (omega arith) (omega arith) ∙ (omega arith) in
    let k : length (kept s q e) ≡ length A + length B = ap length w ∙ length-append A B in
    let z : m ≤ length B = omega (arith, g.enough) in
    record {
      rest = sym (drop-append-add A B m) ∙ ap (λ (j : ℕ). drop j (A ++ B)) a ∙ ap (λ (j : List ℕ). drop left j) (sym w) ∙ g.rest;
      enough = z;
      low = omega arith;
      high = omega (arith, kept-length s (q + left) e g.high l);
    }

pub skip_end : {s : List ℕ} {p e n q : ℕ} → Skipping s p e n q 0 → Passed s p e n q
skip_end g = record { left = g.rest; low = omega arith; high = omega arith }

-- Pairs of zeros

-- the three bytes from p on are two zeros of payload and an inserted byte, which is the first of them, the second or the third
pub data Pair (s : List ℕ) (p : ℕ) : Type 0 where
  first : ins_at s p ≡ true → get_or s (p + 1) 0 ≡ 0 → get_or s (p + 2) 0 ≡ 0 → Pair s p
  second : get_or s p 0 ≡ 0 → ins_at s (p + 1) ≡ true → get_or s (p + 2) 0 ≡ 0 → Pair s p
  third : get_or s p 0 ≡ 0 → get_or s (p + 1) 0 ≡ 0 → ins_at s (p + 2) ≡ true → Pair s p

-- the test of three bytes, by its first, second and third
pub pair_first : (s : List ℕ) (p : ℕ) → ins_at s p ≡ true → eqb (bit_or (get_or s (p + 1) 0) (get_or s (p + 2) 0)) 0 ≡ zero_pair s p
unfolding zero_pair
pair_first s p t = rw t (or-zero (get_or s (p + 1) 0) (get_or s (p + 2) 0))

pub pair-second : (s : List ℕ) (p : ℕ) → ins_at s p ≡ false → ins_at s (p + 1) ≡ true → eqb (get_or s (p + 2) 0) 0 ≡ zero_pair s p
unfolding zero_pair
pair-second s p f t = rw (f, t) refl

pub pair-third : (s : List ℕ) (p : ℕ) → ins_at s p ≡ false → ins_at s (p + 1) ≡ false → ins_at s (p + 2) ≡ zero_pair s p
unfolding zero_pair
pair-third s p f g = rw (f, g) refl

-- what it finds is one: before an inserted byte stand two zeros
pair_is : (s : List ℕ) (p : ℕ) → 1 ≤ p → zero_pair s p ≡ true → Pair s p
pair_is s p i h = by (ins_at s p) (ins_at s (p + 1)) refl refl
  where
    by : (a b : Bool) → ins_at s p ≡ a → ins_at s (p + 1) ≡ b → Pair s p
    by true b t e =
        let y = get_or s (p + 1) 0 in
        let z = get_or s (p + 2) 0 in
        let v = (and-eq-true_iff (eqb y 0) (eqb z 0)).0 (sym (or-zero y z) ∙ pair_first s p t ∙ h) in
        first t (eqb-true y 0 v.0) (eqb-true z 0 v.1)
    by false true f t = second (ins_is s (p - 1) p (p + 1) (omega arith) refl t).1 t (eqb-true (get_or s (p + 2) 0) 0 (pair-second s p f t ∙ h))
    by false false f g =
        let t = pair-third s p f g ∙ h in
        let w = ins_is s p (p + 1) (p + 2) refl (omega arith) t in
        third w.0 w.1 t

-- the zeros are kept
pair-kept : {s : List ℕ} {p : ℕ} → Pair s p → 1 ≤ p → p + 3 ≤ length s → kept s p (p + 3) ≡ 0 ∷ 0 ∷ []
pair-kept {s} {p} g i l = by g
  where
    b : p + 1 + 1 ≡ p + 2
    b = omega arith

    c : p + 2 + 1 ≡ p + 3
    c = omega arith

    zero_at_lem : (q : ℕ) → 1 ≤ q → q < p + 3 → get_or s q 0 ≡ 0 → kept s q (p + 3) ≡ 0 ∷ kept s (q + 1) (p + 3)
    zero_at_lem q j k z = kept-plain s q (p + 3) k l (zero-plain s q z) ∙ ap (λ (x : ℕ). x ∷ kept s (q + 1) (p + 3)) z

    by : Pair s p → kept s p (p + 3) ≡ 0 ∷ 0 ∷ []
    by (first t y z) =
        kept_more s p (p + 3) (omega arith) l t
        ∙ rw (zero_at_lem (p + 1) (omega arith) (omega arith) y, b, zero_at_lem (p + 2) (omega arith) (omega arith) z, c, kept_end s (p + 3) (p + 3) (omega arith)) refl
    by (second x t z) =
        rw (
          zero_at_lem p i (omega arith) x,
          kept_more s (p + 1) (p + 3) (omega arith) l t,
          b,
          zero_at_lem (p + 2) (omega arith) (omega arith) z,
          c,
          kept_end s (p + 3) (p + 3) (omega arith),
        ) refl
    by (third x y t) =
        rw (
          zero_at_lem p i (omega arith) x,
          zero_at_lem (p + 1) (omega arith) (omega arith) y,
          b,
          kept_more s (p + 2) (p + 3) (omega arith) l t,
          c,
          kept_end s (p + 3) (p + 3) (omega arith),
        ) refl

-- m bytes from p on are as those that stand three further on
abbrev pub Repeats : List ℕ → ℕ → ℕ → Type 0
Repeats s p m = (j : ℕ) → j < m → get_or s (p + j) 0 ≡ get_or s (p + j + 3) 0

-- so that there, too, stand two zeros and an inserted byte
pair_on : {s : List ℕ} {p : ℕ} → Pair s p → 2 ≤ p → Repeats s p 3 → Pair s (p + 3)
pair_on {s} {p} g i r = by g
  where
    on : (j v a q : ℕ) → j < 3 → p + j ≡ a → a + 3 ≡ q → get_or s a 0 ≡ v → get_or s q 0 ≡ v
    on j v a q h e f z = sym (rw (e, f) at (r j h)) ∙ z

    by : Pair s p → Pair s (p + 3)
    by (first t y z) =
        let three = (ins_is s (p - 2) (p - 1) p (omega arith) (omega arith) t).2 in
        let w = is_ins s (p + 1) (p + 2) (p + 3) (omega arith) (omega arith) y z (on 0 3 p (p + 3) (omega arith) (omega arith) refl three) in
        first w (on 1 0 (p + 1) (p + 3 + 1) (omega arith) refl (omega arith) y) (on 2 0 (p + 2) (p + 3 + 2) (omega arith) refl (omega arith) z)
    by (second x t z) =
        let three = (ins_is s (p - 1) p (p + 1) (omega arith) refl t).2 in
        let x' = on 0 0 p (p + 3) (omega arith) (omega arith) refl x in
        let w = is_ins s (p + 2) (p + 3) (p + 3 + 1) (omega arith) refl z x' (on 1 3 (p + 1) (p + 3 + 1) (omega arith) refl (omega arith) three) in
        second x' w (on 2 0 (p + 2) (p + 3 + 2) (omega arith) refl (omega arith) z)
    by (third x y t) =
        let three = (ins_is s p (p + 1) (p + 2) refl (omega arith) t).2 in
        let x' = on 0 0 p (p + 3) (omega arith) (omega arith) refl x in
        let y' = on 1 0 (p + 1) (p + 3 + 1) (omega arith) refl (omega arith) y in
        third x' y' (is_ins s (p + 3) (p + 3 + 1) (p + 3 + 2) refl (omega arith) x' y' (on 2 3 (p + 2) (p + 3 + 2) (omega arith) refl (omega arith) three))

-- pairs of zeros are kept as zeros
pub pairs-kept : (s : List ℕ) (p n : ℕ) → Pair s p → 2 ≤ p → 1 ≤ n → p + 3 * n ≤ length s → Repeats s p (3 * (n - 1)) → kept s p (p + 3 * n) ≡ replicate (2 * n) 0
pairs-kept s p zero g i h l r = absurd (omega arith)
pairs-kept s p (suc zero) g i h l r = pair-kept g (omega arith) l
pairs-kept s p (suc (suc n)) g i h l r =
    let e : p + 3 * suc (suc n) ≡ p + 3 + 3 * suc n = omega arith in
    let w : 2 * suc (suc n) ≡ 2 + 2 * suc n = omega arith in
    let k = kept_append s p (p + 3) (p + 3 + 3 * suc n) (omega arith) (omega arith) (omega arith) in
    let q : Repeats s (p + 3) (3 * (suc n - 1)) = λ j b. rw (← add_assoc p 3 j) at (r (3 + j) (omega arith)) in
    rw (e, w, k, pair-kept g (omega arith) (omega arith), pairs-kept s (p + 3) (suc n) (pair_on g i (λ j b. r j (omega arith))) (omega arith) (omega arith) (omega arith) q) (replicate-append-replicate 2 (2 * suc n) 0)

-- a row of any even width where the stretch is pairs of zeros
pub took-pairs : {s : List ℕ} {d : List ℕ} {a : ℕ} {d' : List ℕ} (p e n : ℕ) → 1 ≤ p → p + 3 * n ≤ e → e ≤ length s → kept s p (p + 3 * n) ≡ replicate (2 * n) 0
    → d' ≡ splice d a (replicate (2 * n) 0) → Took s p e (2 * n) d a d' (p + 3 * n)
took-pairs p e n i h l c g = took_stretch p e (p + 3 * n) (2 * n) (replicate (2 * n) 0) i (omega arith) h l c (length-replicate (2 * n) 0) g

-- what is found to be pairs of zeros is kept as zeros
every_at : (f : ℕ → Bool) (p n j : ℕ) → every f p n ≡ true → j < n → f (p + j) ≡ true
unfolding every
every_at f p zero j e h = absurd (omega arith)
every_at f p (suc n) zero e h = rw (add-zero p) ((and-eq-true_iff (f p) (every f (p + 1) n)).0 e).0
every_at f p (suc n) (suc j) e h =
    let z : p + suc j ≡ p + 1 + j = omega arith in
    rw z (every_at f (p + 1) n j ((and-eq-true_iff (f p) (every f (p + 1) n)).0 e).1 (omega arith))

pub pairs-are : (s : List ℕ) (p n : ℕ) → 2 ≤ p → 1 ≤ n → p + 3 * n ≤ length s → zero_pairs s p n ≡ true → kept s p (p + 3 * n) ≡ replicate (2 * n) 0
unfolding zero_pairs alike
pairs-are s p n i h l t =
    let b = (and-eq-true_iff (zero_pair s p) (every (alike s) p (3 * (n - 1)))).0 t in
    pairs-kept s p n (pair_is s p (omega arith) b.0) i h l (λ j m. eqb-true (get_or s (p + j) 0) (get_or s (p + j + 3) 0) (every_at (alike s) p (3 * (n - 1)) j b.1 m))

-- the flag's end: three bytes were a pair, and all others repeat them
pub pairs_end : (s : List ℕ) (p n : ℕ) {f k : ℕ} → zero_pair s p ≡ true → Flag (alike s) p (3 * (n - 1)) f k → 3 * (n - 1) ≤ k → eqb f 0 ≡ zero_pairs s p n
unfolding zero_pairs
pairs_end s p n t g h = rw t (flag_end g h)

-- the same where the others are compared as a slice
alike-part : (s : List ℕ) (p m : ℕ) → p + m + 3 ≤ length s → pointwise eqb (part s p m) (part s (p + 3) m) ≡ every (alike s) p m
unfolding every alike
alike-part s p zero h = rw (part_none s p, part_none s (p + 3)) refl
alike-part s p (suc m) h =
    let e : p + 3 + 1 ≡ p + 1 + 3 = omega arith in
    rw (← add-one m, part-cons s p m (omega arith), part-cons s (p + 3) m (omega arith), e)
    (ap (λ (b : Bool). eqb (get_or s p 0) (get_or s (p + 3) 0) && b) (alike-part s (p + 1) m (omega arith)))

pub pairs-alike : (s : List ℕ) (p n m : ℕ) → m ≡ 3 * (n - 1) → p + m + 3 ≤ length s → zero_pair s p ≡ true
    → pointwise eqb (slice_range s p (p + m)) (slice_range s (p + 3) (p + m + 3)) ≡ zero_pairs s p n
unfolding part zero_pairs
pairs-alike s p n m e h t =
    let a : p + m - p ≡ m = omega arith in
    let b : p + m + 3 - (p + 3) ≡ m = omega arith in
    rw (a, b, t, ← e) (alike-part s p m h)

-- the same where a look at each of the others decides
pub pairs_by : (b : Bool) (s : List ℕ) (p n : ℕ) → zero_pair s p ≡ true → (b ≡ true → (k : ℕ) → p ≤ k → k < p + 3 * (n - 1) → alike s k ≡ true)
    → (b ≡ false → (k : ℕ) × (p ≤ k) × (k < p + 3 * (n - 1)) × (alike s k ≡ false)) → b ≡ zero_pairs s p n
unfolding zero_pairs
pairs_by b s p n t h g = rw t (every_by b (alike s) p (3 * (n - 1)) h g)

pub pairs_not : (s : List ℕ) (p n : ℕ) → zero_pair s p ≡ false → false ≡ zero_pairs s p n
unfolding zero_pairs
pairs_not s p n t = rw t refl

pub alike-keep : (s : List ℕ) {p n f k : ℕ} → Flag (alike s) p n f k → k < n → get_or s (p + k) 0 ≡ get_or s (p + k + 3) 0 → Flag (alike s) p n f (k + 1)
unfolding alike
alike-keep s {p} {n} {f} {k} g h e = flag-keep g h (eq-eqb (get_or s (p + k) 0) (get_or s (p + k + 3) 0) e)

pub alike-raise : (s : List ℕ) {p n f k : ℕ} → Flag (alike s) p n f k → k < n → (get_or s (p + k) 0 ≡ get_or s (p + k + 3) 0 → ⊥) → Flag (alike s) p n 1 (k + 1)
unfolding alike
alike-raise s {p} {n} {f} {k} g h e = flag-raise g h (ne_eqb (get_or s (p + k) 0) (get_or s (p + k + 3) 0) e)

-- The place behind zeros, by the four tests

pub zeros-found : (s : List ℕ) (p e n : ℕ) → 1 ≤ n / 2 → 2 * (n / 2) ≡ n → 3 * (n / 2) ≤ e - p → zero_pairs s p (n / 2) ≡ true → Some (p + 3 * (n / 2)) ≡ behind_zeros s p e n
unfolding behind_zeros zeros_in
zeros-found s p e n a b c d = rw (le-leb 1 (n / 2) a, eq-eqb (2 * (n / 2)) n b, le-leb (3 * (n / 2)) (e - p) c, d) refl

-- one that fails is enough
not_zeros : (s : List ℕ) (p e n : ℕ) → zeros_in s p e n ≡ false → None ≡ behind_zeros s p e n
unfolding behind_zeros
not_zeros s p e n f = rw f refl

pub zeros_few : (s : List ℕ) (p e n : ℕ) → n / 2 < 1 → None ≡ behind_zeros s p e n
unfolding zeros_in
zeros_few s p e n h = not_zeros s p e n (rw (lt-leb 1 (n / 2) h) refl)

pub zeros_odd : (s : List ℕ) (p e n : ℕ) → (2 * (n / 2) ≡ n → ⊥) → None ≡ behind_zeros s p e n
unfolding zeros_in
zeros_odd s p e n h = not_zeros s p e n (rw (ne_eqb (2 * (n / 2)) n h) (and-false (leb 1 (n / 2))))

pub zeros_short : (s : List ℕ) (p e n : ℕ) → e - p < 3 * (n / 2) → None ≡ behind_zeros s p e n
unfolding zeros_in
zeros_short s p e n h =
    not_zeros s p e n (rw (lt-leb (3 * (n / 2)) (e - p) h, and-false (eqb (2 * (n / 2)) n)) (and-false (leb 1 (n / 2))))

pub zeros_not : (s : List ℕ) (p e n : ℕ) → zero_pairs s p (n / 2) ≡ false → None ≡ behind_zeros s p e n
unfolding zeros_in
zeros_not s p e n h =
    not_zeros s p e n (rw (h, and-false (leb (3 * (n / 2)) (e - p)), and-false (eqb (2 * (n / 2)) n)) (and-false (leb 1 (n / 2))))

-- what is passed stands behind p, and is zeros
zeros-in : (s : List ℕ) (p e n r : ℕ) → Some r ≡ behind_zeros s p e n → (zeros_in s p e n ≡ true) × (r ≡ p + 3 * (n / 2))
unfolding behind_zeros
zeros-in s p e n r f = by (zeros_in s p e n) refl
  where
    by : (t : Bool) → zeros_in s p e n ≡ t → (zeros_in s p e n ≡ true) × (r ≡ p + 3 * (n / 2))
    by true t =
        let g : Some r ≡ Some (p + 3 * (n / 2)) = f ∙ rw t refl in
        (t, cc)
    by false t =
        let g : Some r ≡ None = f ∙ rw t refl in
        cc

pub zeros-behind : (s : List ℕ) (p e n r : ℕ) → Some r ≡ behind_zeros s p e n → p < r
unfolding zeros_in
zeros-behind s p e n r f =
    let m : ℕ = n / 2 in
    let g = zeros-in s p e n r f in
    let a = (and-eq-true_iff (leb 1 m) (eqb (2 * m) n && (leb (3 * m) (e - p) && zero_pairs s p m))).0 g.0 in
    omega (arith, leb-true 1 m a.0, g.1)

pub zeros-are : (s : List ℕ) (p e n r : ℕ) → 2 ≤ p → p ≤ e → e ≤ length s → Some r ≡ behind_zeros s p e n → (kept s p r ≡ replicate n 0) × (r ≤ e)
unfolding zeros_in
zeros-are s p e n r i h l f =
    let m : ℕ = n / 2 in
    let g = zeros-in s p e n r f in
    let a = (and-eq-true_iff (leb 1 m) (eqb (2 * m) n && (leb (3 * m) (e - p) && zero_pairs s p m))).0 g.0 in
    let b = (and-eq-true_iff (eqb (2 * m) n) (leb (3 * m) (e - p) && zero_pairs s p m)).0 a.1 in
    let c = (and-eq-true_iff (leb (3 * m) (e - p)) (zero_pairs s p m)).0 b.1 in
    let x : 1 ≤ m = leb-true 1 m a.0 in
    let y : 2 * m ≡ n = eqb-true (2 * m) n b.0 in
    let z : 3 * m ≤ e - p = leb-true (3 * m) (e - p) c.0 in
    let q : r ≡ p + 3 * m = g.1 in
    (rw q (pairs-are s p m i x (omega arith) c.1 ∙ ap (λ (j : ℕ). replicate j 0) y), omega arith)
