-- A sample is a number (ITU-T H.264 7.3.5, 7.4.5 and 8.3.5; paper 01, "Pictures accepted": 12-bit rows are packed, two samples in three bytes, most
-- significant bits first).
--     sample_at d row c      the number whose d bits, the most significant first, stand in the bytes of a row from the bit c * d on
--     sample_in d a r c      the sample at row r and column c of the lent plane a; rows stored tight are a plane too, `tight`
--     sample_eight           of 8 bits it is the byte
--     sample_even, sample_odd, packed-case     of 12 bits, two in three bytes
--     pcm_luma, pcm_chroma   pcm_sample_luma and pcm_sample_chroma of a macroblock
--     coded, pcm_bits        a number as u(v) writes it; those of a macroblock in the order of 7.3.5
--     mb-numbers, picture_numbers      they are the bits of the macroblock's samples, and of those in a picture's payload
--     visible-numbers, visible_front, numbers_back    each visible sample is read back, as a number
-- All is said once over plane and depth: a row of a block has a multiple of 8 samples, so it is whole bytes at any depth (block_whole).
-- Assumes nothing.
use Rattle.std.specs.Prelude.{◌≡◌, Bool, true, false, cond, ltb, eqb, take, drop, get_or}
use Rattle.std.proofs.Math.Path.{refl, sym, ap}
use Rattle.std.proofs.Common.{◌∙◌, add-zero, zero-mul, mod-eq_of_lt, mul_comm, suc-add, add-one, arith, lt-ltb, le-ltb, drop_of_length-le, shr-shr}
use mathlib.Core.List.{List, [], ◌∷◌, ◌++◌, append-nil}
use Prim.Native.Nat.{ℕ, zero, suc, ◌+◌, ◌-◌, ◌*◌, ◌/◌, ◌%◌, ◌^◌, ◌≤◌, ◌<◌}
use Rattle.std.proofs.Math.Nat.{zero-add, mul-le-mul_right}
use Rattle.std.proofs.Math.ListN.{length}
use Rattle.std.proofs.Math.Seq.{drop-append-add}
use Rattle.std.proofs.Math.Arith.{digits_div, digits_mod}
use Rattle.lists.specs.Every.{Below, below_part}
use Rattle.lists.specs.Part.{part, part_length, part-take, part-drop, part_left, part_all, drop_step}
use Rattle.bits.specs.Bits.{low_bits, bits_of, value, value_from, low-length, value-append, value_from_lem, value_low, low_value, bits-length, bits_below, bits-append, bits-take}
use Rattle.ycbcr_image.specs.Form.{Form, mono, planes, in_plane, bytes_of, sub_width_c, block_width, block_height, block_row_bytes, mb_bytes, planes_some, planes_few, planes-colour}
use Rattle.ycbcr_image.specs.Sizes.{Sequence, pic_width_in_mbs, frame_height_in_mbs, visible_width, visible_height, visible_row_bytes}
use Rattle.ycbcr_image.specs.Accepted.{Fine}
use Rattle.slice.specs.Digits.{high_below, low_below}
use Rattle.slice.specs.Cat.{cat, cat_none, cat_last, cat-append, cat_same, cat-parts, cat-part, cat-length, Even, rows_of, rows_at, rows_even}
use Rattle.slice.specs.Layout.{block_row, block, mb, mb_at, block_is, mb_one, mb-three, mb-length, mb_size, payload, Rows, mb_even, slice_samples}
use Rattle.slice.specs.Grid.{visible}
use Rattle.slice.specs.Header.{header_of, header_is}
use Rattle.slice.specs.Picture.{Lend, Lends, lend_at, plane_in, planes_in, mbs_in, picture_of, samples_in, visible_in, Whole, rows, good, size, picture_back}

unfoldable pub sample_at : ℕ → List ℕ → ℕ → ℕ
sample_at d row c = value (part (bits_of row) (c * d) d)

-- the bits of what stands from a byte on are the bits from its first bit on
bits-drop : (j : ℕ) (s : List ℕ) → bits_of (drop j s) ≡ drop (8 * j) (bits_of s)
unfolding bits_of
bits-drop zero s = refl
bits-drop (suc j) [] = sym (drop_of_length-le [] {i = 8 * suc j} (omega arith))
bits-drop (suc j) (b ∷ s) =
    let e : 8 * suc j ≡ length (low_bits 8 b) + 8 * j = omega (arith, low-length 8 b) in
    rw (e, drop-append-add (low_bits 8 b) (bits_of s) (8 * j), bits-drop j s) refl

bits_of_part : (s : List ℕ) (k n : ℕ) → bits_of (part s k n) ≡ take (8 * n) (drop (8 * k) (bits_of s))
unfolding part
bits_of_part s k n = rw (bits-take n (drop k s), bits-drop k s) refl

-- a sample of what stands from the byte k on, and of n bytes there
sample_drop : (d : ℕ) (s : List ℕ) (k c : ℕ) → sample_at d (drop k s) c ≡ value (part (bits_of s) (8 * k + c * d) d)
unfolding sample_at
sample_drop d s k c = rw (bits-drop k s, part-drop (bits_of s) (8 * k) (c * d) d) refl

sample_part : (d : ℕ) (s : List ℕ) (k n c : ℕ) → c * d + d ≤ 8 * n → sample_at d (part s k n) c ≡ value (part (bits_of s) (8 * k + c * d) d)
unfolding sample_at
sample_part d s k n c h = rw (bits_of_part s k n, part-take (drop (8 * k) (bits_of s)) (8 * n) (c * d) d h, part-drop (bits_of s) (8 * k) (c * d) d) refl

-- a sample that lies in those n bytes does not see what stands behind them
row_sample : (d : ℕ) (s : List ℕ) (k n c : ℕ) → c * d + d ≤ 8 * n → sample_at d (drop k s) c ≡ sample_at d (part s k n) c
row_sample d s k n c h = sample_drop d s k c ∙ sym (sample_part d s k n c h)

-- ---- the depths of 01

-- the bits of a number above the lowest n, then those
low-split : (m n v : ℕ) → low_bits (m + n) v ≡ low_bits m (v / 2 ^ n) ++ low_bits n v
unfolding low_bits
low-split zero n v = rw (zero-add n) refl
low-split (suc m) n v =
    let e : m + n ≡ n + m = omega arith in
    rw (suc-add m n, low-split m n v) (ap (λ (b : ℕ). b % 2 ∷ (low_bits m (v / 2 ^ n) ++ low_bits n v)) (rw e (sym (shr-shr v n m))))

-- bits from inside the byte j on
from_byte : (s : List ℕ) (j o n : ℕ) → part (bits_of s) (8 * j + o) n ≡ part (bits_of (drop j s)) o n
from_byte s j o n = rw (bits-drop j s) (sym (part-drop (bits_of s) (8 * j) o n))

two_bytes : (s : List ℕ) (j : ℕ) → j + 1 < length s → drop j s ≡ get_or s j 0 ∷ get_or s (j + 1) 0 ∷ drop (j + 1 + 1) s
two_bytes s j h = rw (drop_step s j (omega arith), drop_step s (j + 1) h) refl

-- the bits of two numbers behind each other spell the one above the other
value_two : (m n x y : ℕ) → value (low_bits m x ++ low_bits n y) ≡ x % 2 ^ m * 2 ^ n + y % 2 ^ n
value_two m n x y =
    value-append 0 (low_bits m x) (low_bits n y)
    ∙ (value_from_lem (value (low_bits m x)) (low_bits n y)
    ∙ rw (value_low m x, value_low n y, low-length n y) refl)

first_twelve : (x y : ℕ) (t : List ℕ) → part (bits_of (x ∷ y ∷ t)) 0 12 ≡ low_bits 8 x ++ low_bits 4 (y / 16)
unfolding bits_of part low_bits
first_twelve x y t =
    let u : low_bits 8 y ≡ low_bits 4 (y / 16) ++ low_bits 4 y = low-split 4 4 y in
    ap (λ (l : List ℕ). take 12 (low_bits 8 x ++ (l ++ bits_of t))) u

last_twelve : (x y : ℕ) (t : List ℕ) → part (bits_of (x ∷ y ∷ t)) 4 12 ≡ low_bits 4 x ++ low_bits 8 y
unfolding bits_of part low_bits
last_twelve x y t = refl

one_byte : (x : ℕ) (t : List ℕ) → part (bits_of (x ∷ t)) 0 8 ≡ low_bits 8 x
unfolding bits_of part low_bits
one_byte x t = refl

-- a sample of 8 bits is a byte
pub sample_eight : (row : List ℕ) (c : ℕ) → Below 256 row → c < length row → sample_at 8 row c ≡ get_or row c 0
unfolding sample_at
sample_eight row c b h =
    let e : c * 8 ≡ 8 * c + 0 = omega arith in
    rw (e, from_byte row c 0 8, drop_step row c h, one_byte (get_or row c 0) (drop (c + 1) row)) (value_low 8 (get_or row c 0) ∙ mod-eq_of_lt (b.at c))

-- of two samples of 12 bits, which are three bytes, the first is a byte and the upper half of the next one
pub sample_even : (row : List ℕ) (k : ℕ) → Below 256 row → 3 * k + 1 < length row → sample_at 12 row (2 * k) ≡ get_or row (3 * k) 0 * 16 + get_or row (3 * k + 1) 0 / 16
unfolding sample_at
sample_even row k b h =
    let e : 2 * k * 12 ≡ 8 * (3 * k) + 0 = omega arith in
    let x : ℕ = get_or row (3 * k) 0 in
    let y : ℕ = get_or row (3 * k + 1) 0 in
    let m : y / 16 < 16 = omega (arith, b.at (3 * k + 1)) in
    rw (e, from_byte row (3 * k) 0 12, two_bytes row (3 * k) h, first_twelve x y (drop (3 * k + 1 + 1) row))
    (value_two 8 4 x (y / 16) ∙ rw (mod-eq_of_lt (b.at (3 * k)), mod-eq_of_lt m) refl)

-- and the second is its lower half and the last one
pub sample_odd : (row : List ℕ) (k : ℕ) → Below 256 row → 3 * k + 2 < length row → sample_at 12 row (2 * k + 1) ≡ get_or row (3 * k + 1) 0 % 16 * 256 + get_or row (3 * k + 2) 0
unfolding sample_at
sample_odd row k b h =
    let e : (2 * k + 1) * 12 ≡ 8 * (3 * k + 1) + 4 = omega arith in
    let j : 3 * k + 1 + 1 ≡ 3 * k + 2 = omega arith in
    let y : ℕ = get_or row (3 * k + 1) 0 in
    let z : ℕ = get_or row (3 * k + 2) 0 in
    rw (e, from_byte row (3 * k + 1) 4 12, two_bytes row (3 * k + 1) (omega arith), j, last_twelve y z (drop (3 * k + 2 + 1) row))
    (value_two 4 8 y z ∙ rw (mod-eq_of_lt (b.at (3 * k + 2))) refl)

-- AB CD EF are the samples ABC and DEF
pub packed-case : (sample_at 12 (0xAB ∷ 0xCD ∷ 0xEF ∷ []) 0 ≡ 0xABC) × (sample_at 12 (0xAB ∷ 0xCD ∷ 0xEF ∷ []) 1 ≡ 0xDEF)
unfolding sample_at part bits_of low_bits value_from
packed-case = (refl, refl)

-- ---- the samples of a row, and of a block

-- the number x i in d bits, as u(v) writes it (7.2)
unfoldable pub coded : ℕ → (ℕ → ℕ) → ℕ → List ℕ
coded d x i = low_bits d (x i)

-- the bits of a sample are those that stand at its place
number-bits : (d : ℕ) (row : List ℕ) (c : ℕ) → c * d + d ≤ 8 * length row → low_bits d (sample_at d row c) ≡ part (bits_of row) (c * d) d
unfolding sample_at
number-bits d row c h =
    let l : length (part (bits_of row) (c * d) d) ≡ d = part_length (bits_of row) (c * d) d (omega (arith, bits-length row)) in
    rw l at (low_value (part (bits_of row) (c * d) d) (below_part (bits_of row) (c * d) d (bits_below row)))

-- a row of n samples is their bits
pub row-numbers : (d : ℕ) (row : List ℕ) (n : ℕ) → 8 * length row ≡ n * d → cat (coded d (sample_at d row)) 0 n ≡ bits_of row
unfolding coded
row-numbers d row n e =
    cat_same (coded d (sample_at d row)) (rows_of (bits_of row) d 0 d) 0 0 n (λ c l. same (0 + c) (omega arith))
    ∙ (cat-parts (bits_of row) 0 d n
    ∙ part_all (bits_of row) (n * d) (bits-length row ∙ e))
  where
    same : (c : ℕ) → c < n → low_bits d (sample_at d row c) ≡ rows_of (bits_of row) d 0 d c
    same c l = rw (rows_at (bits_of row) d 0 d c, zero-add (c * d)) (number-bits d row c (omega (arith, mul-le-mul_right d l)))

-- the bits of pieces side by side
bits-cat : (f : ℕ → List ℕ) (i n : ℕ) → bits_of (cat f i n) ≡ cat (λ y. bits_of (f y)) i n
unfolding cat bits_of
bits-cat f i zero = refl
bits-cat f i (suc n) = bits-append (f i) (cat f (i + 1) n) ∙ ap (λ (l : List ℕ). bits_of (f i) ++ l) (bits-cat f (i + 1) n)

-- m rows of n pieces are m * n pieces
cat-cat : (f : ℕ → ℕ → List ℕ) (m n : ℕ) → cat (λ y. cat (f y) 0 n) 0 m ≡ cat (λ i. f (i / n) (i % n)) 0 (m * n)
cat-cat f zero n = cat_none (λ y. cat (f y) 0 n) 0 ∙ sym (rw (zero-mul n) (cat_none (λ i. f (i / n) (i % n)) 0))
cat-cat f (suc m) n =
    let e : suc m * n ≡ m * n + n = omega arith in
    let t : cat (f m) 0 n ≡ cat (λ i. f (i / n) (i % n)) (0 + m * n) n = cat_same (f m) (λ i. f (i / n) (i % n)) 0 (0 + m * n) n same in
    rw (e, ← add-one m)
    (cat_last (λ y. cat (f y) 0 n) 0 m
    ∙ (rw (cat-cat f m n, zero-add m, t) refl
    ∙ sym (cat-append (λ i. f (i / n) (i % n)) 0 (m * n) n)))
  where
    same : (k : ℕ) → k < n → f m (0 + k) ≡ f ((0 + m * n + k) / n) ((0 + m * n + k) % n)
    same k l = rw (zero-add k, zero-add (m * n), digits_div m l, digits_mod m l) refl

unfoldable pub sample_in : ℕ → Lend → ℕ → ℕ → ℕ
sample_in d a r c = sample_at d (drop (r * a.stride) a.bytes) c

-- rows stored tight
abbrev pub tight : Sequence → ℕ → List ℕ → Lend
tight q p x = record { bytes = x; stride = visible_row_bytes q p }

-- what stands behind the rows does not count
sample_front : (d : ℕ) (x t : List ℕ) (stride r c : ℕ) → 8 * (r * stride) + (c * d + d) ≤ 8 * length x
    → sample_in d (record { bytes = x ++ t; stride = stride }) r c ≡ sample_in d (record { bytes = x; stride = stride }) r c
unfolding sample_in
sample_front d x t stride r c h =
    sample_drop d (x ++ t) (r * stride) c
    ∙ (ap value (rw (bits-append x t) (part_left (bits_of x) (bits_of t) (8 * (r * stride) + c * d) d (omega (arith, bits-length x))))
    ∙ sym (sample_drop d x (r * stride) c))

-- the sample i of the block of plane p, row by row, in the macroblock of row my and column mx (8.3.5)
unfoldable pub block_sample : Form → ℕ → Lend → ℕ → ℕ → ℕ → ℕ
block_sample f p a my mx i = sample_in f.depth a (my * block_height f p + i / block_width f p) (mx * block_width f p + i % block_width f p)

-- a side of a block is a multiple of 8, so a row of it is whole bytes, whatever the depth
side_eights : (none half : Bool) → cond none 0 (16 / cond half 2 1) % 8 ≡ 0
side_eights true half = refl
side_eights false true = refl
side_eights false false = refl

wide_eights : (f : Form) (p : ℕ) → block_width f p % 8 ≡ 0
unfolding block_width in_plane sub_width_c
wide_eights f zero = refl
wide_eights f (suc p) = side_eights (mono f) (eqb f.chroma 1)

pub block_whole : (f : Form) (p : ℕ) → 8 * block_row_bytes f p ≡ block_width f p * f.depth
unfolding block_row_bytes bytes_of
block_whole f p = go (block_width f p) f.depth (wide_eights f p)
  where
    go : (w d : ℕ) → w % 8 ≡ 0 → 8 * (w * d / 8) ≡ w * d
    go w d e =
        let k : w ≡ w / 8 * 8 = omega arith in
        let m : w * d ≡ w / 8 * d * 8 = ap (λ (x : ℕ). x * d) k ∙ omega arith in
        omega arith

-- a row of a block of a lent plane, sample by sample
sample_row : (f : Form) (p : ℕ) (a : Lend) (r mx c : ℕ) → c < block_width f p
    → sample_at f.depth (part a.bytes (r * a.stride + mx * block_row_bytes f p) (block_row_bytes f p)) c ≡ sample_in f.depth a r (mx * block_width f p + c)
unfolding sample_in
sample_row f p a r mx c l =
    let w = block_whole f p in
    let m : mx * (8 * block_row_bytes f p) ≡ mx * (block_width f p * f.depth) = ap (λ (x : ℕ). mx * x) w in
    let e : 8 * (r * a.stride + mx * block_row_bytes f p) + c * f.depth ≡ 8 * (r * a.stride) + (mx * block_width f p + c) * f.depth = omega arith in
    sample_part f.depth a.bytes (r * a.stride + mx * block_row_bytes f p) (block_row_bytes f p) c (omega (arith, mul-le-mul_right f.depth l))
    ∙ (ap (λ (x : ℕ). value (part (bits_of a.bytes) x f.depth)) e
    ∙ sym (sample_drop f.depth a.bytes (r * a.stride) (mx * block_width f p + c)))

-- a block is the bits of its samples, row by row
pub block-numbers : {mw mh : ℕ} (f : Form) (p : ℕ) (a : Lend) → Rows mw mh (plane_in f p a) → (my mx : ℕ) → my < mh → mx < mw
    → bits_of (block (plane_in f p a) my mx) ≡ cat (coded f.depth (block_sample f p a my mx)) 0 (block_height f p * block_width f p)
unfolding coded block_sample block_row
block-numbers {mw} {mh} f p a g my mx h l =
    ap bits_of (block_is (plane_in f p a) my mx)
    ∙ (bits-cat (block_row (plane_in f p a) my mx) 0 (block_height f p)
    ∙ (cat_same (λ y. bits_of (block_row (plane_in f p a) my mx y)) (λ y. cat (F y) 0 (block_width f p)) 0 0 (block_height f p) (λ y k. row (0 + y) (omega arith))
    ∙ cat-cat F (block_height f p) (block_width f p)))
  where
    d : ℕ
    d = f.depth

    F : ℕ → ℕ → List ℕ
    F y c = low_bits d (sample_in d a (my * block_height f p + y) (mx * block_width f p + c))

    R : ℕ → List ℕ
    R y = part a.bytes ((my * block_height f p + y) * a.stride + mx * block_row_bytes f p) (block_row_bytes f p)

    row : (y : ℕ) → y < block_height f p → bits_of (R y) ≡ cat (F y) 0 (block_width f p)
    row y k =
        let long : length (R y) ≡ block_row_bytes f p = g.has (my * block_height f p + y) mx (omega (arith, mul-le-mul_right (block_height f p) h)) l in
        sym (row-numbers d (R y) (block_width f p) (rw long (block_whole f p)))
        ∙ cat_same (coded d (sample_at d (R y))) (F y) 0 0 (block_width f p) (λ c b. ap (low_bits d) (sample_row f p a (my * block_height f p + y) mx (0 + c) (omega arith)))

-- ---- the samples of a macroblock (7.3.5)

-- how many samples a block of chroma has: MbWidthC * MbHeightC
abbrev pub chroma_size : Form → ℕ
chroma_size f = block_width f 1 * block_height f 1

-- pcm_sample_luma[ i ] of the macroblock in row my and column mx
unfoldable pub pcm_luma : Form → Lends → ℕ → ℕ → ℕ → ℕ
pcm_luma f L my mx i = block_sample f 0 L.y my mx i

-- pcm_sample_chroma[ i ]: the first MbWidthC * MbHeightC are the samples of Cb, the others those of Cr (7.4.5)
unfoldable pub pcm_chroma : Form → Lends → ℕ → ℕ → ℕ → ℕ
pcm_chroma f L my mx i = cond (ltb i (chroma_size f)) (block_sample f 1 L.cb my mx i) (block_sample f 2 L.cr my mx (i - chroma_size f))

-- for( i = 0; i < 256; i++ ) pcm_sample_luma[ i ], then for( i = 0; i < 2 * MbWidthC * MbHeightC; i++ ) pcm_sample_chroma[ i ], each u(v)
unfoldable pub pcm_bits : Form → Lends → ℕ → ℕ → List ℕ
pcm_bits f L my mx = cat (coded f.depth (pcm_luma f L my mx)) 0 256 ++ cat (coded f.depth (pcm_chroma f L my mx)) 0 (2 * chroma_size f)

-- the chroma samples are those of Cb, then those of Cr
chroma_parts : (f : Form) (L : Lends) (my mx : ℕ)
    → cat (coded f.depth (pcm_chroma f L my mx)) 0 (2 * chroma_size f)
    ≡ cat (coded f.depth (block_sample f 1 L.cb my mx)) 0 (chroma_size f) ++ cat (coded f.depth (block_sample f 2 L.cr my mx)) 0 (chroma_size f)
unfolding coded pcm_chroma
chroma_parts f L my mx =
    let e : 2 * chroma_size f ≡ chroma_size f + chroma_size f = omega arith in
    let a : cat C 0 (chroma_size f) ≡ cat B 0 (chroma_size f) = cat_same C B 0 0 (chroma_size f) (λ i l. first (0 + i) (omega arith)) in
    let b : cat C (0 + chroma_size f) (chroma_size f) ≡ cat R 0 (chroma_size f) = cat_same C R (0 + chroma_size f) 0 (chroma_size f) (λ i l. second i) in
    rw e (cat-append C 0 (chroma_size f) (chroma_size f) ∙ rw (a, b) refl)
  where
    C : ℕ → List ℕ
    C = coded f.depth (pcm_chroma f L my mx)

    B : ℕ → List ℕ
    B = coded f.depth (block_sample f 1 L.cb my mx)

    R : ℕ → List ℕ
    R = coded f.depth (block_sample f 2 L.cr my mx)

    first : (i : ℕ) → i < chroma_size f → C i ≡ B i
    first i l = rw (lt-ltb i (chroma_size f) l) refl

    second : (i : ℕ) → C (0 + chroma_size f + i) ≡ R (0 + i)
    second i =
        let e : 0 + chroma_size f + i - chroma_size f ≡ 0 + i = omega arith in
        rw (le-ltb (0 + chroma_size f + i) (chroma_size f) (omega arith), e) refl

-- 256 samples of luma; MbWidthC * MbHeightC of Cb and of Cr, which in monochrome are none
luma_size : (f : Form) → block_height f 0 * block_width f 0 ≡ 256
unfolding block_height block_width in_plane
luma_size f = refl

chroma_size_lem : (f : Form) (p : ℕ) → block_height f (suc p) * block_width f (suc p) ≡ chroma_size f
unfolding block_height block_width in_plane
chroma_size_lem f p = mul_comm (block_height f (suc p)) (block_width f (suc p))

chroma_none : (f : Form) → mono f ≡ true → 2 * chroma_size f ≡ 0
unfolding block_height block_width in_plane
chroma_none f e = rw e refl

module _ (q : Sequence) (L : Lends) (g : Fine q) (w : Whole q L) where
  abbrev f : Form
  f = q.form

  -- the samples of a macroblock are their bits in the standard's order
  pub mb-numbers : (my mx : ℕ) → my < frame_height_in_mbs q → mx < pic_width_in_mbs q → bits_of (mb (planes_in f L) my mx) ≡ pcm_bits f L my mx
  unfolding pcm_bits planes_in coded pcm_luma
  mb-numbers my mx h l = go (mono f) refl
    where
      one : (p : ℕ) → p < planes f → bits_of (block (plane_in f p (lend_at L p)) my mx) ≡ cat (coded f.depth (block_sample f p (lend_at L p) my mx)) 0 (block_height f p * block_width f p)
      one p k = block-numbers f p (lend_at L p) (rows q L g w p k) my mx h l

      luma : bits_of (block (plane_in f 0 L.y) my mx) ≡ cat (coded f.depth (pcm_luma f L my mx)) 0 256
      luma = rw (luma_size f) at (one 0 (planes_some f))

      go : (b : Bool) → mono f ≡ b → bits_of (mb (cond b (plane_in f 0 L.y ∷ []) (plane_in f 0 L.y ∷ plane_in f 1 L.cb ∷ plane_in f 2 L.cr ∷ [])) my mx)
          ≡ cat (coded f.depth (pcm_luma f L my mx)) 0 256 ++ cat (coded f.depth (pcm_chroma f L my mx)) 0 (2 * chroma_size f)
      go true e =
          ap bits_of (mb_one (plane_in f 0 L.y) my mx)
          ∙ (luma ∙ sym (rw (chroma_none f e, cat_none (coded f.depth (pcm_chroma f L my mx)) 0) (append-nil (cat (coded f.depth (pcm_luma f L my mx)) 0 256))))
      go false e =
          let Y : List ℕ = block (plane_in f 0 L.y) my mx in
          let B : List ℕ = block (plane_in f 1 L.cb) my mx in
          let R : List ℕ = block (plane_in f 2 L.cr) my mx in
          let b : bits_of B ≡ cat (coded f.depth (block_sample f 1 L.cb my mx)) 0 (chroma_size f) = rw (chroma_size_lem f 0) at (one 1 (rw (planes-colour f e) (omega arith))) in
          let r : bits_of R ≡ cat (coded f.depth (block_sample f 2 L.cr my mx)) 0 (chroma_size f) = rw (chroma_size_lem f 1) at (one 2 (rw (planes-colour f e) (omega arith))) in
          ap bits_of (mb-three (plane_in f 0 L.y) (plane_in f 1 L.cb) (plane_in f 2 L.cr) my mx)
          ∙ (bits-append Y (B ++ R) ∙ rw (bits-append B R, luma, b, r, chroma_parts f L my mx) refl)

  -- they stand so in the payload: the macroblock i begins with its first sample behind the four bytes of the header and i times two bytes and the samples
  pub picture_numbers : (i : ℕ) → i < mbs_in q
      → bits_of (part (picture_of q L) (4 + i * (2 + mb_bytes f)) (mb_bytes f)) ≡ pcm_bits f L (i / pic_width_in_mbs q) (i % pic_width_in_mbs q)
  unfolding picture_of mb_at
  picture_numbers i l =
      let n : length (header_of 0 0) ≡ 4 = ap length header_is in
      let s : part (payload (header_of 0 0) (pic_width_in_mbs q) (planes_in f L) (mbs_in q)) (4 + (i * (2 + mb_bytes f) + 0)) (mb_bytes f) ≡ part (mb_at (pic_width_in_mbs q) (planes_in f L) i) 0 (mb_bytes f)
      = rw (n, size q L g w) at (slice_samples (header_of 0 0) (mb_even (good q L g w) (mbs_in q) (omega arith)) i 0 (mb_size (planes_in f L)) l (omega arith)) in
      let t : part (mb_at (pic_width_in_mbs q) (planes_in f L) i) 0 (mb_bytes f) ≡ mb_at (pic_width_in_mbs q) (planes_in f L) i = part_all _ (mb_bytes f) (mb-length (good q L g w) (i / pic_width_in_mbs q) (i % pic_width_in_mbs q) (high_below (frame_height_in_mbs q) (pic_width_in_mbs q) i l) (low_below (frame_height_in_mbs q) (pic_width_in_mbs q) i l) ∙ size q L g w) in
      ap bits_of (rw (add-zero (i * (2 + mb_bytes f))) at s ∙ t)
      ∙ mb-numbers (i / pic_width_in_mbs q) (i % pic_width_in_mbs q) (high_below (frame_height_in_mbs q) (pic_width_in_mbs q) i l) (low_below (frame_height_in_mbs q) (pic_width_in_mbs q) i l)

  -- ---- the samples read back

  -- the visible rows of a lent plane lie in it
  visible_even : (p : ℕ) → p < planes f → Even (rows_of (lend_at L p).bytes (lend_at L p).stride 0 (visible_row_bytes q p)) (visible_row_bytes q p) 0 (visible_height q p)
  visible_even p k =
      let wide : visible_row_bytes q p ≤ (lend_at L p).stride = omega (arith, (g.plane p).row, (g.plane p).visible-row, w.across p k) in
      let high : visible_height q p ≤ frame_height_in_mbs q * block_height f p = omega (arith, (g.plane p).high, (g.plane p).visible-high) in
      rows_even (lend_at L p).bytes (lend_at L p).stride 0 (visible_row_bytes q p) (visible_height q p) (omega (arith, w.down p k, mul-le-mul_right (lend_at L p).stride high))

  sample_fits : (p c : ℕ) → c < visible_width q p → c * f.depth + f.depth ≤ 8 * visible_row_bytes q p
  sample_fits p c l = omega (arith, (g.plane p).whole, mul-le-mul_right f.depth l)

  -- stored tight they have its samples
  pub visible-numbers : (p r c : ℕ) → p < planes f → r < visible_height q p → c < visible_width q p
      → sample_in f.depth (tight q p (visible_in q p (lend_at L p))) r c ≡ sample_in f.depth (lend_at L p) r c
  unfolding sample_in visible_in visible
  visible-numbers p r c k h l =
      let a : Lend = lend_at L p in
      let vb : ℕ = visible_row_bytes q p in
      let row : ℕ → List ℕ = rows_of a.bytes a.stride 0 vb in
      let even = visible_even p k in
      let fits = sample_fits p c l in
      let same : part (cat row 0 (visible_height q p)) (r * vb) vb ≡ part a.bytes (r * a.stride) vb
      = rw (add-zero (r * vb)) at (cat-part even r 0 vb h (omega arith))
      ∙ (part_all (row (0 + r)) vb (even.each r h)
      ∙ rw (rows_at a.bytes a.stride 0 vb (0 + r), zero-add r, zero-add (r * a.stride)) refl) in
      row_sample f.depth (cat row 0 (visible_height q p)) (r * vb) vb c fits
      ∙ (ap (λ (t : List ℕ). sample_at f.depth t c) same
      ∙ sym (row_sample f.depth a.bytes (r * a.stride) vb c fits))

  -- whatever stands behind them
  pub visible_front : (t : List ℕ) (p r c : ℕ) → p < planes f → r < visible_height q p → c < visible_width q p
      → sample_in f.depth (tight q p (visible_in q p (lend_at L p) ++ t)) r c ≡ sample_in f.depth (lend_at L p) r c
  unfolding visible_in visible
  visible_front t p r c k h l =
      let long = cat-length (visible_even p k) in
      sample_front f.depth (visible_in q p (lend_at L p)) t (visible_row_bytes q p) r c (omega (arith, sample_fits p c l, mul-le-mul_right (visible_row_bytes q p) h))
      ∙ visible-numbers p r c k h l

  -- and so has what is read back out of the payload
  pub numbers_back : (p r c : ℕ) → p < planes f → r < visible_height q p → c < visible_width q p
      → sample_in f.depth (tight q p (samples_in q p (picture_of q L))) r c ≡ sample_in f.depth (lend_at L p) r c
  numbers_back p r c k h l = rw (picture_back q L g w p (omega (arith, planes_few f))) (visible-numbers p r c k h l)
