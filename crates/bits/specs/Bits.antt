-- Bits as lists of 0 and 1, the most significant first (the standard's order, 7.2).
--     low_bits n v     the number v in n bits
--     bits_of s        the bits of the bytes s
--     value bs         the number that the bits bs spell
--     bit_count s      how many bits of the buffer s have a place
-- Assumes nothing.
use Rattle.std.specs.Prelude.{◌≡◌, refl, List, [], ◌∷◌, ◌++◌, Bool, true, false, ℕ, zero, suc, ◌+◌, ◌-◌, ◌*◌, ◌/◌, ◌%◌, ◌^◌, ◌≤◌, ◌<◌, min, leb, length, take, drop, get_or, set, replicate}
use Rattle.std.proofs.Common.{sym, ap, ◌∙◌, append_assoc, add-zero, mod-lt, mod-eq_of_lt, pow-suc, mul-le-mul_right, zero-add, suc-add, le_of_suc-le-suc, one-add, arith, le-leb, leb-true, leb-false, length-append, length-take, length-drop, drop_of_length-le, get_or-append-add, get_or-take, take_all, pow_mono}
use Rattle.std.proofs.Math.Nat.{mod-one, div-eq_of_lt}
use Rattle.std.proofs.lemmas.Bool.{lt-leb}
use Rattle.std.proofs.Math.ListN.{get_or-append}
use Rattle.std.proofs.lemmas.List.{set-append_left}
use Rattle.std.proofs.Math.Seq.{take-nil, take-append-add}
use Rattle.std.proofs.lemmas.Nat.{mod-pow-add}
use Rattle.std.proofs.Math.Pow.{mod-mod-pow, field, high, low}
use Rattle.lists.specs.Every.{Below, below_nil, below_cons, below_head, below_tail, below_append, below_take, below_drop}
use Rattle.lists.specs.Fill.{splice, splice_none}
use Rattle.lists.specs.Part.{set-append-add, drop_step, part, part-drop, part-take, part_rest}
use Rattle.lists.specs.Test.{either}

unfoldable pub low_bits : ℕ → ℕ → List ℕ
low_bits zero v = []
low_bits (suc n) v = v / 2 ^ n % 2 ∷ low_bits n v

unfoldable pub bits_of : List ℕ → List ℕ
bits_of [] = []
bits_of (b ∷ s) = low_bits 8 b ++ bits_of s

-- the number spelled by bs behind the digits of a
unfoldable pub value_from : ℕ → List ℕ → ℕ
value_from a [] = a
value_from a (b ∷ bs) = value_from (2 * a + b) bs

abbrev pub value : List ℕ → ℕ
value bs = value_from 0 bs

-- A place is a usize, and so is the place behind the last bit: of a buffer of 2 ^ 61 bytes or more, which no machine has, only the first
-- 2 ^ 64 - 1 bits count.
unfoldable pub bit_count : List ℕ → ℕ
bit_count s = min (8 * length s) (2 ^ 64 - 1)

-- whether n bits have room at a place of a buffer of that many bytes
unfoldable pub room_for : ℕ → ℕ → ℕ → Bool
room_for len place n = leb (place + n) (min (8 * len) (2 ^ 64 - 1))

-- the bits from a place on
unfoldable pub bits_from : List ℕ → ℕ → List ℕ
bits_from s place = drop place (take (bit_count s) (bits_of s))

-- ---- room

pub room_yes : (len place n : ℕ) → place + n ≤ 8 * len → place + n < 2 ^ 64 → room_for len place n ≡ true
unfolding room_for
room_yes len place n h k = le-leb (place + n) (min (8 * len) (2 ^ 64 - 1)) (omega arith)

pub room_short : (len place n : ℕ) → 8 * len < place + n → room_for len place n ≡ false
unfolding room_for
room_short len place n h = lt-leb (place + n) (min (8 * len) (2 ^ 64 - 1)) (omega arith)

pub room_past : (len place n : ℕ) → 2 ^ 64 ≤ place + n → room_for len place n ≡ false
unfolding room_for
room_past len place n h = lt-leb (place + n) (min (8 * len) (2 ^ 64 - 1)) (omega arith)

-- room is room among the bits that count
pub room_count : (s : List ℕ) (place n : ℕ) → room_for (length s) place n ≡ leb (place + n) (bit_count s)
unfolding room_for bit_count
room_count s place n = refl

pub room_true : (s : List ℕ) (place n : ℕ) → room_for (length s) place n ≡ true → place + n ≤ bit_count s
room_true s place n h = leb-true (place + n) (bit_count s) (sym (room_count s place n) ∙ h)

pub room_false : (s : List ℕ) (place n : ℕ) → room_for (length s) place n ≡ false → bit_count s < place + n
room_false s place n h = leb-false (place + n) (bit_count s) (sym (room_count s place n) ∙ h)

pub count-length : (s : List ℕ) → bit_count s ≤ 8 * length s
unfolding bit_count
count-length s = omega arith

pub count-lt : (s : List ℕ) → bit_count s < 2 ^ 64
unfolding bit_count
count-lt s = omega arith

-- ---- a number in n bits

pub low-length : (n v : ℕ) → length (low_bits n v) ≡ n
unfolding low_bits
low-length zero v = refl
low-length (suc n) v = ap suc (low-length n v)

pub low_below : (n v : ℕ) → Below 2 (low_bits n v)
unfolding low_bits
low_below zero v = below_nil (omega arith)
low_below (suc n) v = below_cons (mod-lt (v / 2 ^ n) (omega arith)) (low_below n v)

-- the bit at i, by the code's arithmetic
pub low_at : (n v i : ℕ) → i < n → get_or (low_bits n v) i 0 ≡ v / 2 ^ (n - 1 - i) % 2
unfolding low_bits
low_at zero v i h = absurd (omega arith)
low_at (suc n) v zero h = ap (λ (k : ℕ). v / 2 ^ k % 2) (omega arith)
low_at (suc n) v (suc i) h = low_at n v i (omega arith) ∙ ap (λ (k : ℕ). v / 2 ^ k % 2) (omega arith)

-- what is left of n bits behind i of them: the next bit, then what is left behind it
pub low_step : (n v i : ℕ) → i < n → low_bits (n - i) v ≡ v / 2 ^ (n - 1 - i) % 2 ∷ low_bits (n - (i + 1)) v
unfolding low_bits
low_step n v i h =
    let e : n - i ≡ suc (n - (i + 1)) = omega arith in
    let k : n - (i + 1) ≡ n - 1 - i = omega arith in
    rw (e, ← k) refl

pub low_end : (n v i : ℕ) → n ≤ i → low_bits (n - i) v ≡ []
unfolding low_bits
low_end n v i h = let e : n - i ≡ 0 = omega arith in rw e refl

-- more bits than the number has begin with zeros
pub low_zeros : (k n v : ℕ) → v < 2 ^ n → low_bits (k + n) v ≡ replicate k 0 ++ low_bits n v
unfolding low_bits
low_zeros zero n v h = rw (zero-add n) refl
low_zeros (suc k) n v h =
    let z : v / 2 ^ (k + n) ≡ 0 = div-eq_of_lt (omega (arith, pow_mono {i = n} {j = k + n} (omega arith))) in
    rw (suc-add k n, z, low_zeros k n v h) refl

-- ---- the number that bits spell

pub value-append : (a : ℕ) (xs ys : List ℕ) → value_from a (xs ++ ys) ≡ value_from (value_from a xs) ys
unfolding value_from
value-append a [] ys = refl
value-append a (x ∷ xs) ys = value-append (2 * a + x) xs ys

pub value-cons : (a b : ℕ) (bs : List ℕ) → value_from a (b ∷ bs) ≡ value_from (2 * a + b) bs
unfolding value_from
value-cons a b bs = refl

pub value-nil : (a : ℕ) → value_from a [] ≡ a
unfolding value_from
value-nil a = refl

-- the digits of a stand above those of bs
pub value_from_lem : (a : ℕ) (bs : List ℕ) → value_from a bs ≡ a * 2 ^ length bs + value bs
unfolding value_from
value_from_lem a [] = omega arith
value_from_lem a (b ∷ bs) = rw (value_from_lem (2 * a + b) bs, value_from_lem (2 * 0 + b) bs, pow-suc 2 (length bs)) (omega arith)

pub value-lt : (bs : List ℕ) → Below 2 bs → value bs < 2 ^ length bs
unfolding value_from
value-lt [] h = omega arith
value-lt (b ∷ bs) h =
    let r = value-lt bs (below_tail h) in
    let m = mul-le-mul_right (2 ^ length bs) (le_of_suc-le-suc (below_head h)) in
    rw (value_from_lem (2 * 0 + b) bs, pow-suc 2 (length bs)) (omega arith)

-- n bits of v spell the remainder
pub value_low : (n v : ℕ) → value (low_bits n v) ≡ v % 2 ^ n
unfolding low_bits value_from
value_low zero v = sym (mod-one v)
value_low (suc n) v =
    rw (value_from_lem (2 * 0 + v / 2 ^ n % 2) (low_bits n v), low-length n v, value_low n v)
    (rw (← one-add n, mod-pow-add v 1 n) (omega arith))

-- digits above the lowest n do not count
low-mod : (n k v : ℕ) → low_bits n (v % 2 ^ (k + n)) ≡ low_bits n v
unfolding low_bits
low-mod zero k v = refl
low-mod (suc n) k v =
    let e : k + suc n ≡ (k + 1) + n = omega arith in
    rw (e, low-mod n (k + 1) v) (ap (λ (b : ℕ). b ∷ low_bits n v) (rw (field v (k + 1) n) (mod-mod-pow (v / 2 ^ n) k 1)))

-- n bits of a number do not see what stands above them
pub low-over : (n a v : ℕ) → v < 2 ^ n → low_bits n (a * 2 ^ n + v) ≡ low_bits n v
low-over n a v h = sym (low-mod n 0 (a * 2 ^ n + v)) ∙ rw (zero-add n, low a n h) refl

-- bits are the digits of the number that they spell
pub low_value : (bs : List ℕ) → Below 2 bs → low_bits (length bs) (value bs) ≡ bs
unfolding low_bits value_from
low_value [] h = refl
low_value (b ∷ bs) h =
    let r = value-lt bs (below_tail h) in
    let e : value_from (2 * 0 + b) bs ≡ b * 2 ^ length bs + value bs = rw (value_from_lem (2 * 0 + b) bs) (omega arith) in
    let t : low_bits (length bs) (b * 2 ^ length bs + value bs) ≡ bs =
    sym (low-mod (length bs) 0 (b * 2 ^ length bs + value bs)) ∙ rw (zero-add (length bs), low b (length bs) r) (low_value bs (below_tail h)) in
    rw (e, t, high b (length bs) r, mod-eq_of_lt (below_head h)) refl

-- ---- the bits of bytes

pub bits-length : (s : List ℕ) → length (bits_of s) ≡ 8 * length s
unfolding bits_of
bits-length [] = refl
bits-length (b ∷ s) = rw (length-append (low_bits 8 b) (bits_of s), low-length 8 b, bits-length s) (omega arith)

pub bits_below : (s : List ℕ) → Below 2 (bits_of s)
unfolding bits_of
bits_below [] = below_nil (omega arith)
bits_below (b ∷ s) = below_append (low_bits 8 b) (bits_of s) (low_below 8 b) (bits_below s)

pub bits-append : (s t : List ℕ) → bits_of (s ++ t) ≡ bits_of s ++ bits_of t
unfolding bits_of
bits-append [] t = refl
bits-append (b ∷ s) t = rw (bits-append s t) (sym (append_assoc (low_bits 8 b) (bits_of s) (bits_of t)))

-- the bits of the first bytes are the first bits
pub bits-take : (j : ℕ) (s : List ℕ) → bits_of (take j s) ≡ take (8 * j) (bits_of s)
unfolding bits_of
bits-take zero s = refl
bits-take (suc j) [] = sym (take-nil {A = ℕ} (8 * suc j))
bits-take (suc j) (b ∷ s) =
    let e : 8 * suc j ≡ length (low_bits 8 b) + 8 * j = omega (arith, low-length 8 b) in
    rw (e, take-append-add (low_bits 8 b) (bits_of s) (8 * j), bits-take j s) refl

-- the bit at a place, by the code's arithmetic
pub bit_is : (s : List ℕ) (p : ℕ) → p < 8 * length s → get_or (bits_of s) p 0 ≡ get_or s (p / 8) 0 / 2 ^ (7 - p % 8) % 2
unfolding bits_of
bit_is [] p h = absurd (omega arith)
bit_is (b ∷ s) p h = either (p + 1) 8 first (later (bit_is s (p - 8)))
  where
    first : p + 1 ≤ 8 → get_or (low_bits 8 b ++ bits_of s) p 0 ≡ get_or (b ∷ s) (p / 8) 0 / 2 ^ (7 - p % 8) % 2
    first l =
        let q : p / 8 ≡ 0 = omega arith in
        let m : p % 8 ≡ p = omega arith in
        rw (q, m, get_or-append (low_bits 8 b) (bits_of s) 0 p (omega (arith, low-length 8 b))) (low_at 8 b p (omega arith))

    later : (p - 8 < 8 * length s → get_or (bits_of s) (p - 8) 0 ≡ get_or s ((p - 8) / 8) 0 / 2 ^ (7 - (p - 8) % 8) % 2)
        → 8 < p + 1 → get_or (low_bits 8 b ++ bits_of s) p 0 ≡ get_or (b ∷ s) (p / 8) 0 / 2 ^ (7 - p % 8) % 2
    later rest l =
        let e : p ≡ length (low_bits 8 b) + (p - 8) = omega (arith, low-length 8 b) in
        let q : p / 8 ≡ suc ((p - 8) / 8) = omega arith in
        let m : p % 8 ≡ (p - 8) % 8 = omega arith in
        ap (λ (k : ℕ). get_or (low_bits 8 b ++ bits_of s) k 0) e ∙ get_or-append-add (low_bits 8 b) (bits_of s) (p - 8) 0 ∙ rest (omega arith) ∙ rw (q, m) refl

-- a bit set at a place is set in its byte
pub set-bit : (s : List ℕ) (p v b : ℕ) → p < 8 * length s → low_bits 8 b ≡ set (low_bits 8 (get_or s (p / 8) 0)) (p % 8) v → bits_of (set s (p / 8) b) ≡ set (bits_of s) p v
unfolding bits_of
set-bit [] p v b h e = absurd (omega arith)
set-bit (c ∷ s) p v b h e = either (p + 1) 8 first (later (set-bit s (p - 8) v b))
  where
    first : p + 1 ≤ 8 → bits_of (set (c ∷ s) (p / 8) b) ≡ set (low_bits 8 c ++ bits_of s) p v
    first l =
        let q : p / 8 ≡ 0 = omega arith in
        let m : p % 8 ≡ p = omega arith in
        rw (q, set-append_left (low_bits 8 c) (bits_of s) p v (omega (arith, low-length 8 c))) (ap (λ (l : List ℕ). l ++ bits_of s) (rw (q, m) at e))

    later : (p - 8 < 8 * length s → low_bits 8 b ≡ set (low_bits 8 (get_or s ((p - 8) / 8) 0)) ((p - 8) % 8) v → bits_of (set s ((p - 8) / 8) b) ≡ set (bits_of s) (p - 8) v)
        → 8 < p + 1 → bits_of (set (c ∷ s) (p / 8) b) ≡ set (low_bits 8 c ++ bits_of s) p v
    later rest l =
        let k : p ≡ length (low_bits 8 c) + (p - 8) = omega (arith, low-length 8 c) in
        let q : p / 8 ≡ suc ((p - 8) / 8) = omega arith in
        let m : p % 8 ≡ (p - 8) % 8 = omega arith in
        rw (q) (ap (λ (l : List ℕ). low_bits 8 c ++ l) (rest (omega arith) (rw (q, m) at e)) ∙ sym (ap (λ (i : ℕ). set (low_bits 8 c ++ bits_of s) i v) k ∙ set-append-add (low_bits 8 c) (bits_of s) (p - 8) v))

-- ---- the bits from a place on

pub from_length : (s : List ℕ) (place : ℕ) → length (bits_from s place) ≡ bit_count s - place
unfolding bits_from bit_count
from_length s place = simp (length-drop, length-take) (omega (arith, bits-length s))

pub from_below : (s : List ℕ) (place : ℕ) → Below 2 (bits_from s place)
unfolding bits_from
from_below s place = below_drop place (take (bit_count s) (bits_of s)) (below_take (bit_count s) (bits_of s) (bits_below s))

pub from_part : (s : List ℕ) (place i n : ℕ) → place + i + n ≤ bit_count s → part (bits_from s place) i n ≡ part (bits_of s) (place + i) n
unfolding bits_from
from_part s place i n h = rw (part-drop (take (bit_count s) (bits_of s)) place i n) (part-take (bits_of s) (bit_count s) (place + i) n h)

-- the bit at a place, then those behind it
pub from_step : (s : List ℕ) (place : ℕ) → place < bit_count s → bits_from s place ≡ get_or (bits_of s) place 0 ∷ bits_from s (place + 1)
unfolding bits_from bit_count
from_step s place h =
    rw (drop_step (take (bit_count s) (bits_of s)) place (simp length-take (omega (arith, bits-length s))), get_or-take (bit_count s) (bits_of s) place 0 h) refl

pub from_end : (s : List ℕ) (place : ℕ) → bit_count s ≤ place → bits_from s place ≡ []
unfolding bits_from bit_count
from_end s place h = drop_of_length-le (take (bit_count s) (bits_of s)) {i = place} (simp length-take (omega (arith, bits-length s)))

-- n bits, then those behind them
pub from_split : (s : List ℕ) (place n : ℕ) → place + n ≤ bit_count s → bits_from s place ≡ part (bits_of s) place n ++ bits_from s (place + n)
unfolding bits_from
from_split s place n h = rw (← part-take (bits_of s) (bit_count s) place n h) (part_rest (take (bit_count s) (bits_of s)) place n)

-- in a buffer whose bits all have a place
pub from_small : (s : List ℕ) (place : ℕ) → 8 * length s < 2 ^ 64 → bits_from s place ≡ drop place (bits_of s)
unfolding bits_from bit_count
from_small s place h = ap (λ (l : List ℕ). drop place l) (take_all (min (8 * length s) (2 ^ 64 - 1)) (bits_of s) (omega (arith, bits-length s)))

-- buffers of one length have as many bits
pub count_same : (s t : List ℕ) → length s ≡ length t → bit_count s ≡ bit_count t
unfolding bit_count
count_same s t e = rw e refl

-- ---- bits written from a place on

-- the buffer s became t by `code` being written at the place, and p is the place behind it
pub record BitsPut (s : List ℕ) (place : ℕ) (code t : List ℕ) (p : ℕ) : Type 0 where
  pub behind : p ≡ place + length code
  pub bits : bits_of t ≡ splice (bits_of s) place code

-- nothing written
pub put_none : (s : List ℕ) (place : ℕ) → BitsPut s place [] s place
put_none s place = record { behind = sym (add-zero place); bits = sym (splice_none (bits_of s) place) }
