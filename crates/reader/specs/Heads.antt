-- Laws of looking at a picture's payload by its places, for the code.
--     UnitAt s o e         a unit of s: its header byte stands at o, its end is e
--     payload_at s o e     its payload
-- Assumes nothing.
use Rattle.std.specs.Prelude.{◌≡◌, refl, List, [], ◌∷◌, Bool, true, false, ◌&&◌, ℕ, zero, suc, ◌+◌, ◌-◌, ◌*◌, ◌≤◌, ◌<◌, eqb, length, take, drop, get_or}
use Rattle.std.proofs.Common.{sym, ap, ◌∙◌, append-nil, zero-add, mul-le-mul, mul-le-mul_right, add-one, arith, length-drop, drop_of_length-le, eq-eqb, ne_eqb}
use Rattle.std.proofs.Math.Bool.{and-false}
use Rattle.lists.specs.Part.{part, part_all, splice-part, drop_step}
use Rattle.lists.specs.Stands.{begins, stands}
use Rattle.lists.specs.Test.{all_below, either}
use Rattle.nal_unit.specs.Unescape.{un}
use Rattle.lists.specs.Fill.{splice_front}
use Rattle.nal_unit.specs.Kept.{kept}
use Rattle.nal_unit.specs.Taking.{Passed, Took, Stands, stands-took, pass_none, pass_more, stands-pass, stands_start, stands_room, stands-byte}
use Rattle.slice.specs.Header.{header_of, header_is}
use Rattle.slice.specs.Formed.{head_stands, right}
use Rattle.slice.specs.Picture.{mbs_in, picture_length}
use Rattle.ycbcr_image.specs.Form.{mb_bytes}
use Rattle.ycbcr_image.specs.Sizes.{Sequence, pic_width_in_mbs, frame_height_in_mbs}
use Rattle.ycbcr_image.specs.Accepted.{Fine}

unfoldable pub payload_at : List ℕ → ℕ → ℕ → List ℕ
payload_at s o e = un (drop 1 (part s o (e - o)))

-- a unit of s: its header byte, which is not 0, at o, its end e
pub record UnitAt (s : List ℕ) (o e : ℕ) : Type 0 where
  pub low : 1 ≤ o
  pub some : o < e
  pub inside : e ≤ length s
  pub header : 0 < get_or s o 0

-- its payload begins behind the header byte
pub unit-stands : {s : List ℕ} {o e : ℕ} → UnitAt s o e → Stands s e (payload_at s o e) 0 (o + 1)
unfolding payload_at
unit-stands {s} {o} {e} g = stands_start s o e g.low g.some g.inside g.header

-- Of the bytes v that the payload from p on is to begin with, k are there, up to the place q.
pub record Beginning (s : List ℕ) (p e : ℕ) (v : List ℕ) (q k : ℕ) : Type 0 where
  pub within : k ≤ length v
  pub passed : Passed s p e k q
  pub same : begins (drop k v) (kept s q e) ≡ begins v (kept s p e)

pub beginning_start : (s : List ℕ) (p e : ℕ) (v : List ℕ) → p ≤ e → Beginning s p e v p 0
beginning_start s p e v h = record { within = omega arith; passed = pass_none s p e h; same = refl }

-- something is left to be looked at
pub beginning_some : {s : List ℕ} {p e : ℕ} {v : List ℕ} {q k : ℕ} → Beginning s p e v q k → k < length v → length v ≤ length (kept s p e) → 0 < length (kept s q e)
beginning_some {s} {p} {e} {v} {q} {k} g h l = omega (arith, ap length g.passed.left, length-drop k (kept s p e))

-- the next one
begins_next : (v : ℕ) (vs : List ℕ) (K : List ℕ) → 0 < length K → begins (v ∷ vs) K ≡ eqb (get_or K 0 0) v && begins vs (drop 1 K)
unfolding begins
begins_next v vs [] h = absurd (omega arith)
begins_next v vs (x ∷ t) h = refl

step : {s : List ℕ} {p e : ℕ} {v : List ℕ} {q k : ℕ} → Beginning s p e v q k → k < length v → 0 < length (kept s q e)
    → eqb (get_or (kept s q e) 0 0) (get_or v k 0) && begins (drop (k + 1) v) (drop 1 (kept s q e)) ≡ begins v (kept s p e)
step {s} {p} {e} {v} {q} {k} g h l = sym (begins_next (get_or v k 0) (drop (k + 1) v) (kept s q e) l) ∙ rw (drop_step v k h) at g.same

pub beginning_not : {s : List ℕ} {p e : ℕ} {v : List ℕ} {q k : ℕ} {x : ℕ} → Beginning s p e v q k → k < length v → 0 < length (kept s q e)
    → x ≡ get_or (kept s q e) 0 0 → (x ≡ get_or v k 0 → ⊥) → false ≡ begins v (kept s p e)
beginning_not {s} {p} {e} {v} {q} {k} g h l e' n =
    let f : eqb (get_or (kept s q e) 0 0) (get_or v k 0) ≡ false = ne_eqb _ _ (λ t. n (e' ∙ t)) in
    rw f at (step g h l)

pub beginning_turn : {s : List ℕ} {p e : ℕ} {v : List ℕ} {q k x r : ℕ} → Beginning s p e v q k → k < length v → 0 < length (kept s q e)
    → x ≡ get_or (kept s q e) 0 0 → x ≡ get_or v k 0 → Passed s q e 1 r → Beginning s p e v r (k + 1)
beginning_turn {s} {p} {e} {v} {q} {k} g h l e' n a =
    let f : eqb (get_or (kept s q e) 0 0) (get_or v k 0) ≡ true = eq-eqb _ _ (sym e' ∙ n) in
    record { within = omega arith; passed = pass_more g.passed a; same = rw a.left (rw f at (step g h l)) }

pub beginning_end : {s : List ℕ} {p e : ℕ} {v : List ℕ} {q k : ℕ} → Beginning s p e v q k → length v ≤ k → true ≡ begins v (kept s p e)
unfolding begins
beginning_end {v = v} {k = k} g h = rw (drop_of_length-le v h) at g.same

-- Of the n macroblocks of a payload X, the samples of macroblock i begin at the place q, and the heads before it are right.
pub record Heading (s : List ℕ) (e : ℕ) (X : List ℕ) (size n q i : ℕ) : Type 0 where
  pub at : Stands s e X (4 + i * (2 + size)) q
  pub within : i ≤ n - 1
  pub some : 0 < n
  pub long : length X + 1 ≡ 4 + n * (2 + size)
  pub right : all_below i (head_stands (header_of 0 0) size X) ≡ true

pub heading_start : {s : List ℕ} {e : ℕ} {X : List ℕ} {q : ℕ} (size n : ℕ) → Stands s e X 4 q → 0 < n → length X + 1 ≡ 4 + n * (2 + size) → Heading s e X size n q 0
unfolding all_below
heading_start size n g h l =
    let z : 4 + 0 * (2 + size) ≡ 4 = omega arith in
    record { at = rw z g; within = omega arith; some = h; long = l; right = refl }

-- the samples and what stands behind them are there
heading_room : {s : List ℕ} {e : ℕ} {X : List ℕ} {size n q i : ℕ} → Heading s e X size n q i → 4 + i * (2 + size) + size < length X
heading_room {size = size} {n = n} {i = i} g =
    let m : i + 1 ≤ n = omega (arith, g.within, g.some) in
    omega (arith, g.long, mul-le-mul_right (2 + size) m)

pub heading_samples : {s : List ℕ} {e : ℕ} {X : List ℕ} {size n q i : ℕ} → Heading s e X size n q i → size ≤ length (kept s q e)
heading_samples {size = size} g = stands_room size g.at (omega (arith, heading_room g))

-- behind them
pub heading_behind : {s : List ℕ} {e : ℕ} {X : List ℕ} {size n q i r : ℕ} → Heading s e X size n q i → Passed s q e size r → Stands s e X (4 + i * (2 + size) + size) r
heading_behind g a = stands-pass g.at a

pub heading_two : {s : List ℕ} {e : ℕ} {X : List ℕ} {size n q i r : ℕ} → Heading s e X size n q i → i < n - 1 → Passed s q e size r → 2 ≤ length (kept s r e)
heading_two {size = size} {n = n} {i = i} g h a =
    let m : i + 2 ≤ n = omega arith in
    stands_room 2 (heading_behind g a) (omega (arith, g.long, mul-le-mul_right (2 + size) m))

-- what is read there is the head
heading-head : {s : List ℕ} {e : ℕ} {X : List ℕ} {size n q i r : ℕ} {b : Bool} → Heading s e X size n q i → Passed s q e size r → b ≡ begins (13 ∷ 0 ∷ []) (kept s r e)
    → b ≡ head_stands (header_of 0 0) size X i
unfolding head_stands stands
heading-head {size = size} {i = i} g a f =
    let l : length (header_of 0 0) + (i * (2 + size) + size) ≡ 4 + i * (2 + size) + size = omega (arith, ap length header_is) in
    f ∙ rw ((heading_behind g a).left, l) refl

all_not : (n : ℕ) (f : ℕ → Bool) (k : ℕ) → k < n → f k ≡ false → all_below n f ≡ false
unfolding all_below
all_not zero f k h e = absurd (omega arith)
all_not (suc n) f k h e = either n k (λ l. let z : k ≡ n = omega arith in rw (rw z at e) refl) (λ l. rw (all_not n f k l e) (and-false (f n)))

pub heading_not : {s : List ℕ} {e : ℕ} {X : List ℕ} {size n q i r : ℕ} {b : Bool} (c : Bool) → Heading s e X size n q i → i < n - 1 → Passed s q e size r
    → b ≡ begins (13 ∷ 0 ∷ []) (kept s r e) → b ≡ false → false ≡ all_below (n - 1) (head_stands (header_of 0 0) size X) && c
heading_not {X = X} {size = size} {n = n} {i = i} c g h a f z =
    rw (all_not (n - 1) (head_stands (header_of 0 0) size X) i h (sym (heading-head g a f) ∙ z)) refl

pub heading_turn : {s : List ℕ} {e : ℕ} {X : List ℕ} {size n q i r t : ℕ} {b : Bool} → Heading s e X size n q i → i < n - 1 → Passed s q e size r
    → b ≡ begins (13 ∷ 0 ∷ []) (kept s r e) → b ≡ true → Passed s r e 2 t → Heading s e X size n t (i + 1)
unfolding all_below
heading_turn {X = X} {size = size} {n = n} {i = i} g h a f z c =
    let l : 4 + (i + 1) * (2 + size) ≡ 4 + i * (2 + size) + size + 2 = omega arith in
    let y : head_stands (header_of 0 0) size X i ≡ true = sym (heading-head g a f) ∙ z in
    record {
      at = rw l (stands-pass (heading_behind g a) c);
      within = omega arith;
      some = g.some;
      long = g.long;
      right = rw (add-one i, y) g.right;
    }

-- the last byte
pub heading_last : {s : List ℕ} {e : ℕ} {X : List ℕ} {size n q i r : ℕ} → Heading s e X size n q i → n - 1 ≤ i → Passed s q e size r → 0 < length (kept s r e)
heading_last g h a = stands_room 1 (heading_behind g a) (omega (arith, heading_room g))

pub heading_end : {s : List ℕ} {e : ℕ} {X : List ℕ} {size n q i r x : ℕ} → Heading s e X size n q i → n - 1 ≤ i → Passed s q e size r → x ≡ get_or (kept s r e) 0 0
    → eqb x 128 ≡ all_below (n - 1) (head_stands (header_of 0 0) size X) && eqb (get_or X (length X - 1) 0) 128
heading_end {X = X} {size = size} {n = n} {i = i} g h a f =
    let z : i ≡ n - 1 = omega (arith, g.within) in
    let m : i + 1 ≡ n = omega (arith, g.some) in
    let k : length X - 1 ≡ 4 + i * (2 + size) + size = omega (arith, g.long, ap (λ (j : ℕ). j * (2 + size)) m) in
    rw (← z, g.right, k, f, stands-byte (heading_behind g a)) refl

-- the header, and all of it; h, w and size are the numbers of macroblocks and the bytes of one, as the code has them
pub record Sized (q : Sequence) (h w size : ℕ) : Type 0 where
  pub high : h ≡ frame_height_in_mbs q
  pub wide : w ≡ pic_width_in_mbs q
  pub bytes : size ≡ mb_bytes q.form

pub right_room : {q : Sequence} {s : List ℕ} {o e : ℕ} → Fine q → UnitAt s o e → length (payload_at s o e) ≡ picture_length q → 4 ≤ length (kept s (o + 1) e)
unfolding picture_length
right_room {q} g u l =
    let m : 1 ≤ mbs_in q = mul-le-mul g.down_low g.across-low in
    stands_room 4 (unit-stands u) (omega (arith, l, mul-le-mul_right (2 + mb_bytes q.form) m))

pub right_not : {s : List ℕ} {o e : ℕ} {b : Bool} (size n : ℕ) → UnitAt s o e → b ≡ begins (0x88 ∷ 0x84 ∷ 0x28 ∷ 0x68 ∷ []) (kept s (o + 1) e) → b ≡ false
    → false ≡ right (header_of 0 0) size n (payload_at s o e)
unfolding right stands
right_not size n u f z = rw (header_is, ← (unit-stands u).left) (rw (sym f ∙ z) refl)

pub right_first : {s : List ℕ} {o e p : ℕ} → UnitAt s o e → Passed s (o + 1) e 4 p → Stands s e (payload_at s o e) 4 p
right_first u a = rw (zero-add 4) at (stands-pass (unit-stands u) a)

pub right_long : {q : Sequence} {h w size : ℕ} → Fine q → Sized q h w size → (X : List ℕ) → length X ≡ picture_length q → (0 < h * w) × (length X + 1 ≡ 4 + h * w * (2 + size))
unfolding picture_length
right_long g z X l = rw (z.high, z.wide, z.bytes) (omega (arith, mul-le-mul g.down_low g.across-low), omega (arith, l))

pub right_all : {q : Sequence} {h w size : ℕ} {s : List ℕ} {o e : ℕ} {b c : Bool} → Sized q h w size → UnitAt s o e → b ≡ begins (0x88 ∷ 0x84 ∷ 0x28 ∷ 0x68 ∷ []) (kept s (o + 1) e) → b ≡ true
    → c ≡ all_below (h * w - 1) (head_stands (header_of 0 0) size (payload_at s o e)) && eqb (get_or (payload_at s o e) (length (payload_at s o e) - 1) 0) 128
    → c ≡ right (header_of 0 0) (mb_bytes q.form) (mbs_in q) (payload_at s o e)
unfolding right stands
right_all y u f z g = g ∙ rw (header_is, ← (unit-stands u).left, y.high, y.wide, y.bytes) (rw (sym f ∙ z) refl)

-- ---- a payload of few bytes, taken whole into a buffer

pub small-length : (s : List ℕ) (o e : ℕ) {n : ℕ} → n ≡ length (un (drop 1 (part s o (e - o)))) → n ≡ length (payload_at s o e)
unfolding payload_at
small-length s o e f = f

pub small-kept : {s : List ℕ} {o e n : ℕ} → UnitAt s o e → n ≡ length (payload_at s o e) → n ≤ length (kept s (o + 1) e)
small-kept {n = n} u f = stands_room n (unit-stands u) (omega (arith, f))

pub small-took : {s : List ℕ} {o e n : ℕ} {d d' : List ℕ} {r : ℕ} → UnitAt s o e → n ≡ length (payload_at s o e) → n ≤ length d → Took s (o + 1) e n d 0 d' r → take n d' ≡ payload_at s o e
unfolding part
small-took {s} {o} {e} {n} {d} u f l t =
    let X = payload_at s o e in
    let a = stands-took (unit-stands u) t in
    rw (a, part_all X n (sym f), f) (splice-part d 0 X (omega (arith, f)))

-- the same where the buffer has no byte more
pub small_whole : {s : List ℕ} {o e n : ℕ} {d d' : List ℕ} {r : ℕ} → UnitAt s o e → n ≡ length (payload_at s o e) → length d ≡ n → Took s (o + 1) e n d 0 d' r → d' ≡ payload_at s o e
small_whole {s} {o} {e} {n} {d} u f l t =
    let X = payload_at s o e in
    let k : length d ≤ length X = omega (arith, f) in
    let z : drop (length X) d ≡ [] = drop_of_length-le d k in
    stands-took (unit-stands u) t ∙ rw (part_all X n (sym f), splice_front d X, z) (append-nil X)
