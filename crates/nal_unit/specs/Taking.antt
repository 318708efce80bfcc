-- What the calls that read a unit's payload say, of the stretch of the slice s from the place p up to the unit's end e.
--     Next s p e r             r is the place of the payload's next byte
--     Passed s p e n r         r is a place behind the payload's next n bytes
--     Took s p e n d a d' r    those were written at the place a of a buffer that held d and holds d', and r is a place behind them
--     Stands s e X n p         p is the place of the byte n of the payload X: what a reader that knows X keeps of its place
--     pass_stretch             a stretch that keeps v; took_stretch, written as v; pass-calm, took-calm, where no byte of it is inserted; pass-zeros
--     zero_pairs s p n         the 3 * n bytes from p on are n pairs of zeros, an inserted byte in each; behind_zeros: the place behind n bytes that stand so
--     stands_start             the place behind a unit's header; stands-pass, stands-took, stands_stretch, stands-calm from there on
-- Assumes nothing.
use Rattle.std.specs.Prelude.{◌≡◌, refl, Option, Some, None, List, ◌∷◌, ◌++◌, Bool, true, cond, ◌&&◌, ℕ, ◌+◌, ◌-◌, ◌*◌, ◌/◌, ◌≤◌, ◌<◌, leb, eqb, length, take, drop, get_or, set, replicate}
use Rattle.std.proofs.Common.{sym, ap, ◌∙◌, add-zero, arith, length-drop, take-add, take_at, drop_at, drop-drop, length-take-le, get_or-drop, eqb-true, eq-eqb}
use Rattle.std.proofs.lemmas.List.{length-replicate}
use Rattle.lists.specs.Fill.{splice, splice_none, set-splice, splice-splice}
use Rattle.lists.specs.Flag.{every}
use Rattle.lists.specs.Part.{part, part_length}
use Rattle.nal_unit.specs.Kept.{ins_at, kept, ins_count, kept-un, kept_append, kept-length, kept-calm, calm-part, calm_from}
use Rattle.nal_unit.specs.Unescape.{un}

-- The next byte

pub record Next (s : List ℕ) (p e r : ℕ) : Type 0 where
  pub first : kept s p e ≡ get_or s r 0 ∷ kept s (r + 1) e
  pub low : p ≤ r
  pub high : r < e

-- Places

pub record Passed (s : List ℕ) (p e n r : ℕ) : Type 0 where
  pub left : kept s r e ≡ drop n (kept s p e)
  pub low : p + n ≤ r
  pub high : r ≤ e

-- nothing is passed
pub pass_none : (s : List ℕ) (p e : ℕ) → p ≤ e → Passed s p e 0 p
pass_none s p e h = record { left = refl; low = omega arith; high = h }

-- one byte
pub pass_next : {s : List ℕ} {p e r : ℕ} → Next s p e r → Passed s p e 1 (r + 1)
pass_next g = record { left = rw g.first refl; low = omega arith; high = omega arith }

-- n bytes, then m more
pub pass_more : {s : List ℕ} {p e n q m r : ℕ} → Passed s p e n q → Passed s q e m r → Passed s p e (n + m) r
pass_more {s} {p} {e} {n} {q} {m} {r} g h =
    record { left = h.left ∙ rw g.left (drop-drop m n (kept s p e)); low = omega arith; high = h.high }

-- a stretch that keeps v, and what is kept behind it
kept-split : (s : List ℕ) (p e m : ℕ) (v : List ℕ) → 1 ≤ p → p ≤ m → m ≤ e → e ≤ length s → kept s p m ≡ v → kept s p e ≡ v ++ kept s m e
kept-split s p e m v i h k l f = kept_append s p m e h k l ∙ ap (λ (x : List ℕ). x ++ kept s m e) f

pub pass_stretch : {s : List ℕ} (p e m n : ℕ) (v : List ℕ) → 1 ≤ p → p ≤ m → m ≤ e → e ≤ length s → kept s p m ≡ v → length v ≡ n → Passed s p e n m
pass_stretch {s} p e m n v i h k l f w =
    record {
      left = rw (kept-split s p e m v i h k l f, drop_at v (kept s m e) n w) refl;
      low = omega (arith, kept-length s p m h (omega arith), ap length f);
      high = k;
    }

-- zeros
pub pass-zeros : {s : List ℕ} (p e m n : ℕ) → 1 ≤ p → p ≤ m → e ≤ length s → (kept s p m ≡ replicate n 0) × (m ≤ e) → Passed s p e n m
pass-zeros p e m n i h l g = pass_stretch p e m n (replicate n 0) i h g.1 l g.0 (length-replicate n 0)

-- Bytes taken

pub record Took (s : List ℕ) (p e n : ℕ) (d : List ℕ) (a : ℕ) (d' : List ℕ) (r : ℕ) : Type 0 where
  pub bytes : d' ≡ splice d a (take n (kept s p e))
  pub place : Passed s p e n r

-- nothing is taken
pub took_none : (s : List ℕ) (p e : ℕ) (d : List ℕ) (a : ℕ) → p ≤ e → Took s p e 0 d a d p
took_none s p e d a h = record { bytes = sym (splice_none d a); place = pass_none s p e h }

-- one byte
pub took_next : {s : List ℕ} {p e r : ℕ} (d : List ℕ) (a : ℕ) → Next s p e r → a < length d → Took s p e 1 d a (set d a (get_or s r 0)) (r + 1)
took_next {s} {p} {e} {r} d a g h = record { bytes = rw g.first (set-splice d a (get_or s r 0) h); place = pass_next g }

-- n bytes, then m more behind them
pub took_more : {s : List ℕ} {p e n : ℕ} {d : List ℕ} {a : ℕ} {d' : List ℕ} {q m : ℕ} {d'' : List ℕ} {r : ℕ} → Took s p e n d a d' q → Took s q e m d' (a + n) d'' r
    → n + m ≤ length (kept s p e) → a + (n + m) ≤ length d → Took s p e (n + m) d a d'' r
took_more {s} {p} {e} {n} {d} {a} {d'} {q} {m} {d''} {r} g h l k =
    let K = kept s p e in
    let t : length (take n K) ≡ n = length-take-le n K (omega arith) in
    let u : length (take m (drop n K)) ≡ m = length-take-le m (drop n K) (omega (arith, length-drop n K)) in
    let w = splice-splice d a (take n K) (take m (drop n K)) (omega arith) in
    record {
      bytes = h.bytes ∙ rw (g.bytes, g.place.left, take-add n m K) (rw t at w);
      place = pass_more g.place h.place;
    }

-- a stretch that keeps v, written as v: a calm one as it stands in the slice, one of pairs of zeros as zeros
pub took_stretch : {s : List ℕ} {d : List ℕ} {a : ℕ} {d' : List ℕ} (p e m n : ℕ) (v : List ℕ) → 1 ≤ p → p ≤ m → m ≤ e → e ≤ length s → kept s p m ≡ v → length v ≡ n
    → d' ≡ splice d a v → Took s p e n d a d' m
took_stretch {s} p e m n v i h k l f w g =
    record { bytes = rw (kept-split s p e m v i h k l f, take_at v (kept s m e) n w) g; place = pass_stretch p e m n v i h k l f w }

-- the first n of m bytes among which a test finds no inserted one
pub kept-flat : (s : List ℕ) (p m n : ℕ) → 1 ≤ p → n ≤ m → p + m ≤ length s → eqb (ins_count s p (p + m)) 0 ≡ true → kept s p (p + n) ≡ part s p n
kept-flat s p m n i h l t =
    let w : p + n - p ≡ n = omega arith in
    let z = calm-part s p (p + m) p (p + n) (omega arith) (omega arith) (omega arith) l (eqb-true (ins_count s p (p + m)) 0 t) in
    kept-calm s p (p + n) z ∙ ap (λ (k : ℕ). part s p k) w

-- n calm bytes; they are calm where all are from a place c on
pub pass-calm : {s : List ℕ} (p e n : ℕ) → 1 ≤ p → p + n ≤ e → e ≤ length s → eqb (ins_count s p (p + n)) 0 ≡ true → Passed s p e n (p + n)
pass-calm {s} p e n i h l t =
    pass_stretch p e (p + n) n (part s p n) i (omega arith) h l (kept-flat s p n n i (omega arith) (omega arith) t) (part_length s p n (omega arith))

pub calm_behind : (s : List ℕ) (c p e n : ℕ) → 1 ≤ p → c ≤ p → p + n ≤ e → e ≤ length s → ins_count s c e ≡ 0 → eqb (ins_count s p (p + n)) 0 ≡ true
calm_behind s c p e n i h k l z = eq-eqb (ins_count s p (p + n)) 0 (calm-part s p e p (p + n) (omega arith) (omega arith) k l (calm_from s c p e h l z))

-- a row of n bytes, of any width, where m bytes are calm
pub took-calm : {s : List ℕ} {d : List ℕ} {a : ℕ} {d' : List ℕ} (p e m n : ℕ) → 1 ≤ p → n ≤ m → p + m ≤ e → e ≤ length s → eqb (ins_count s p (p + m)) 0 ≡ true
    → d' ≡ splice d a (part s p n) → Took s p e n d a d' (p + n)
took-calm {s} p e m n i w h l t g =
    took_stretch p e (p + n) n (part s p n) i (omega arith) (omega arith) l (kept-flat s p m n i w (omega arith) t) (part_length s p n (omega arith)) g

-- A place in the payload

pub record Stands (s : List ℕ) (e : ℕ) (X : List ℕ) (n p : ℕ) : Type 0 where
  pub left : kept s p e ≡ drop n X
  pub low : 2 ≤ p
  pub high : p ≤ e
  pub inside : e ≤ length s

-- behind the header of the unit from o up to e: the payload's first byte
pub stands_start : (s : List ℕ) (o e : ℕ) → 1 ≤ o → o < e → e ≤ length s → 0 < get_or s o 0 → Stands s e (un (drop 1 (part s o (e - o)))) 0 (o + 1)
stands_start s o e i h l k = record { left = kept-un s o e h l k; low = omega arith; high = omega arith; inside = l }

-- m bytes further on
pub stands-pass : {s : List ℕ} {e : ℕ} {X : List ℕ} {n p m q : ℕ} → Stands s e X n p → Passed s p e m q → Stands s e X (n + m) q
stands-pass {s} {e} {X} {n} {p} {m} {q} g h = record { left = h.left ∙ rw g.left (drop-drop m n X); low = omega arith; high = h.high; inside = g.inside }

-- m bytes are there to be taken or passed, if the payload has them
pub stands_room : {s : List ℕ} {e : ℕ} {X : List ℕ} {n p : ℕ} (m : ℕ) → Stands s e X n p → n + m ≤ length X → m ≤ length (kept s p e)
stands_room {s} {e} {X} {n} {p} m g h = omega (arith, ap length g.left, length-drop n X)

-- the next of them
pub stands-byte : {s : List ℕ} {e : ℕ} {X : List ℕ} {n p : ℕ} → Stands s e X n p → get_or (kept s p e) 0 0 ≡ get_or X n 0
stands-byte {s} {e} {X} {n} {p} g = rw (g.left, get_or-drop n X 0 0, add-zero n) refl

-- what was taken is a part of the payload
pub stands-took : {s : List ℕ} {e : ℕ} {X : List ℕ} {n p m : ℕ} {d : List ℕ} {a : ℕ} {d' : List ℕ} {q : ℕ} → Stands s e X n p → Took s p e m d a d' q → d' ≡ splice d a (part X n m)
unfolding part
stands-took g h = h.bytes ∙ rw g.left refl

-- a stretch that keeps v: there the payload holds v
pub stands_stretch : {s : List ℕ} {e : ℕ} {X : List ℕ} {n p : ℕ} (q m : ℕ) (v : List ℕ) → Stands s e X n p → p ≤ q → q ≤ e → kept s p q ≡ v → length v ≡ m
    → (part X n m ≡ v) × Stands s e X (n + m) q
unfolding part
stands_stretch {s} {e} {X} {n} {p} q m v g h l f w =
    let c : drop n X ≡ v ++ kept s q e = sym g.left ∙ kept-split s p e q v (omega arith) h l g.inside f in
    (rw (c, take_at v (kept s q e) m w) refl, stands-pass g (pass_stretch p e q m v (omega arith) h l g.inside f w))

-- where m bytes are calm, the payload's next n are the slice's
pub stands-calm : {s : List ℕ} {e : ℕ} {X : List ℕ} {k p : ℕ} (m n : ℕ) → Stands s e X k p → n ≤ m → p + m ≤ e → eqb (ins_count s p (p + m)) 0 ≡ true
    → (part X k n ≡ part s p n) × Stands s e X (k + n) (p + n)
stands-calm {s} {e} {X} {k} {p} m n g w h t =
    let l : e ≤ length s = g.inside in
    let c = kept-flat s p m n (omega arith) w (omega arith) t in
    stands_stretch (p + n) n (part s p n) g (omega arith) (omega arith) c (part_length s p n (omega arith))

-- Zeros in pairs

-- the three bytes from p on are two zeros of payload and an inserted byte: this is the first of them, and zeros follow it; or the second, and a zero
-- follows it; or the third. The bytes before an inserted one are zeros.
unfoldable pub zero_pair : List ℕ → ℕ → Bool
zero_pair s p =
    cond (ins_at s p) (eqb (get_or s (p + 1) 0) 0 && eqb (get_or s (p + 2) 0) 0)
    (cond (ins_at s (p + 1)) (eqb (get_or s (p + 2) 0) 0)
    (ins_at s (p + 2)))

-- the byte at q is as the one three further on
unfoldable pub alike : List ℕ → ℕ → Bool
alike s q = eqb (get_or s q 0) (get_or s (q + 3) 0)

-- the 3 * n bytes from p on are n pairs of zeros, an inserted byte in each, in all of them at the same place
unfoldable pub zero_pairs : List ℕ → ℕ → ℕ → Bool
zero_pairs s p n = zero_pair s p && every (alike s) p (3 * (n - 1))

-- the payload's next n bytes stand before e as such pairs
unfoldable pub zeros_in : List ℕ → ℕ → ℕ → ℕ → Bool
zeros_in s p e n = leb 1 (n / 2) && (eqb (2 * (n / 2)) n && (leb (3 * (n / 2)) (e - p) && zero_pairs s p (n / 2)))

-- the place behind them, where they do
unfoldable pub behind_zeros : List ℕ → ℕ → ℕ → ℕ → Option ℕ
behind_zeros s p e n = cond (zeros_in s p e n) (Some (p + 3 * (n / 2))) None
