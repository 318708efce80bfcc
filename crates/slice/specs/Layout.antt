-- The payload of a picture that is one slice, in the words of paper 01: the slice header with the first mb_type; macroblocks in row order, each the
-- block of every plane, row by row; every one but the first begins 0D 00; after the last, 80. (ITU-T H.264 7.3.2.8, 7.3.3 to 7.3.5; lib.rs: macroblock.)
--     Plane                 a plane by its blocks: bw, the bytes of a row of a block; bh, the rows of a block; row r x, what stands in the plane's row r
--                           in the block column x
--     lent                  a plane that lies in a lent buffer
--     mb Ps my mx           the samples of the macroblock in row my and column mx: of one plane for mono, of three for colour
--     payload hdr mw Ps n   n macroblocks, mw to a row, behind the header bytes hdr
-- All is said of any widths and heights of blocks, any rows, any number of planes, any header bytes, any samples of a macroblock: packed samples are
-- another bw, another padding is another `row`, a slice that begins elsewhere gives `slice_of` other samples.
-- Assumes nothing.
use Rattle.std.specs.Prelude.{◌≡◌, refl, List, [], ◌∷◌, ◌++◌, cond, ℕ, zero, suc, ◌+◌, ◌-◌, ◌*◌, ◌/◌, ◌%◌, ◌≤◌, ◌<◌, eqb, length, drop, get_or}
use Rattle.std.proofs.Common.{sym, ap, ◌∙◌, append_assoc, append-nil, add-zero, zero-add, mul-le-mul_right, add-one, arith, ne_eqb, length-append, length-drop}
use Rattle.std.proofs.Math.Seq.{get_or-append_seam, take-append_seam}
use Rattle.std.proofs.Math.Arith.{digits_div, digits_mod}
use Rattle.lists.specs.Part.{part, part_length, part_left, part_right, part-drop, part_all}
use Rattle.slice.specs.Digits.{high_below, low_below}
use Rattle.slice.specs.Cat.{cat, cat_more, cat_same, cat-length, cat-part, Even, rows_of}

pub record Plane : Type 0 where
  pub bw : ℕ
  pub bh : ℕ
  pub row : ℕ → ℕ → List ℕ

-- the plane that lies in s with `stride` bytes from row to row: the row r of the block column x stands at r * stride + x * bw
abbrev pub lent : List ℕ → ℕ → ℕ → ℕ → Plane
lent s stride bw bh = record { bw = bw; bh = bh; row = λ r x. part s (r * stride + x * bw) bw }

-- the row y of the block in block row my and column mx
unfoldable pub block_row : Plane → ℕ → ℕ → ℕ → List ℕ
block_row P my mx y = P.row (my * P.bh + y) mx

-- a block: its rows in turn
unfoldable pub block : Plane → ℕ → ℕ → List ℕ
block P my mx = cat (block_row P my mx) 0 P.bh

-- the samples of a macroblock: the block of each plane in turn (7.3.5: pcm_sample_luma, pcm_sample_chroma)
unfoldable pub mb : List Plane → ℕ → ℕ → List ℕ
mb [] my mx = []
mb (P ∷ Ps) my mx = block P my mx ++ mb Ps my mx

-- those of the macroblock i of a picture of mw macroblocks to a row (6.4.1)
unfoldable pub mb_at : ℕ → List Plane → ℕ → List ℕ
mb_at mw Ps i = mb Ps (i / mw) (i % mw)

-- the bytes of a macroblock's samples
unfoldable pub mb_size : List Plane → ℕ
mb_size [] = 0
mb_size (P ∷ Ps) = P.bh * P.bw + mb_size Ps

-- what stands before the samples of the macroblock i of a slice. Before those of macroblock 0 the slice header with the first mb_type and its
-- alignment, hdr; before the others mb_type 25, I_PCM, and its alignment: the code of 25 is 000011010 (9.1), and pcm_alignment_zero_bit fills the
-- second byte (7.3.5).
unfoldable pub head : List ℕ → ℕ → List ℕ
head hdr i = cond (eqb i 0) hdr (13 ∷ 0 ∷ [])

-- the macroblock i of a slice, where f i are its samples
unfoldable pub macroblock : List ℕ → (ℕ → List ℕ) → ℕ → List ℕ
macroblock hdr f i = head hdr i ++ f i

-- a slice of n macroblocks, then the stop bit and its alignment (7.3.2.11)
unfoldable pub slice_of : List ℕ → (ℕ → List ℕ) → ℕ → List ℕ
slice_of hdr f n = cat (macroblock hdr f) 0 n ++ (128 ∷ [])

-- the payload of a picture
abbrev pub payload : List ℕ → ℕ → List Plane → ℕ → List ℕ
payload hdr mw Ps n = slice_of hdr (mb_at mw Ps) n

-- the definitions as equations

-- a block is its rows
pub block_is : (P : Plane) (my mx : ℕ) → block P my mx ≡ cat (block_row P my mx) 0 P.bh
unfolding block
block_is P my mx = refl

-- a block of a lent plane: bh rows of bw bytes, stride apart
pub block-lent : (s : List ℕ) (stride bw bh my mx : ℕ)
    → block (lent s stride bw bh) my mx ≡ cat (rows_of s stride (my * (bh * stride) + mx * bw) bw) 0 bh
unfolding block block_row rows_of
block-lent s stride bw bh my mx =
    cat_same (block_row (lent s stride bw bh) my mx) (rows_of s stride (my * (bh * stride) + mx * bw) bw) 0 0 bh (λ y l. ap (λ (p : ℕ). part s p bw) (omega arith))

-- the block of the first plane, then those of the others
pub mb_more : (P : Plane) (Ps : List Plane) (my mx : ℕ) → mb (P ∷ Ps) my mx ≡ block P my mx ++ mb Ps my mx
unfolding mb
mb_more P Ps my mx = refl

-- mono: one block
pub mb_one : (P : Plane) (my mx : ℕ) → mb (P ∷ []) my mx ≡ block P my mx
unfolding mb
mb_one P my mx = append-nil (block P my mx)

-- colour: three blocks
pub mb-three : (P Q R : Plane) (my mx : ℕ) → mb (P ∷ Q ∷ R ∷ []) my mx ≡ block P my mx ++ (block Q my mx ++ block R my mx)
unfolding mb
mb-three P Q R my mx = ap (λ (t : List ℕ). block P my mx ++ (block Q my mx ++ t)) (append-nil (block R my mx))

-- the blocks of some planes, then those of others
pub mb-append : (As Bs : List Plane) (my mx : ℕ) → mb (As ++ Bs) my mx ≡ mb As my mx ++ mb Bs my mx
unfolding mb
mb-append [] Bs my mx = refl
mb-append (A ∷ As) Bs my mx = rw (mb-append As Bs my mx) (sym (append_assoc (block A my mx) (mb As my mx) (mb Bs my mx)))

-- the macroblock in row my and column mx is that of the number my * mw + mx
pub mb_at_lem : (mw : ℕ) (Ps : List Plane) (my mx : ℕ) → mx < mw → mb_at mw Ps (my * mw + mx) ≡ mb Ps my mx
unfolding mb_at
mb_at_lem mw Ps my mx h = rw (digits_div my h, digits_mod my h) refl

-- the bytes of the first block, then those of the others
pub size_more : (P : Plane) (Ps : List Plane) → mb_size (P ∷ Ps) ≡ P.bh * P.bw + mb_size Ps
unfolding mb_size
size_more P Ps = refl

-- the bytes of some blocks and of others
pub size-append : (As Bs : List Plane) → mb_size (As ++ Bs) ≡ mb_size As + mb_size Bs
unfolding mb_size
size-append [] Bs = sym (zero-add (mb_size Bs))
size-append (A ∷ As) Bs = rw (size-append As Bs) (omega arith)

-- macroblock 0 begins with the header
pub head_first : (hdr : List ℕ) → head hdr 0 ≡ hdr
unfolding head
head_first hdr = refl

-- every other one begins 0D 00
pub head_next : (hdr : List ℕ) (i : ℕ) → 0 < i → head hdr i ≡ 13 ∷ 0 ∷ []
unfolding head
head_next hdr i h = rw (ne_eqb i 0 (λ e. omega arith)) refl

-- macroblock 0
pub macroblock_first : (hdr : List ℕ) (f : ℕ → List ℕ) → macroblock hdr f 0 ≡ hdr ++ f 0
unfolding macroblock
macroblock_first hdr f = rw (head_first hdr) refl

-- every other one
pub macroblock_next : (hdr : List ℕ) (f : ℕ → List ℕ) (i : ℕ) → 0 < i → macroblock hdr f i ≡ 13 ∷ 0 ∷ f i
unfolding macroblock
macroblock_next hdr f i h = rw (head_next hdr i h) refl

-- the macroblocks, then 80
pub slice_is : (hdr : List ℕ) (f : ℕ → List ℕ) (n : ℕ) → slice_of hdr f n ≡ cat (macroblock hdr f) 0 n ++ (128 ∷ [])
unfolding slice_of
slice_is hdr f n = refl

-- the same samples make the same slice
pub slice_same : (hdr : List ℕ) (f g : ℕ → List ℕ) (n : ℕ) → ((i : ℕ) → i < n → f i ≡ g i) → slice_of hdr f n ≡ slice_of hdr g n
unfolding slice_of macroblock
slice_same hdr f g n h =
    rw (cat_same (macroblock hdr f) (macroblock hdr g) 0 0 n (λ i l. ap (λ (t : List ℕ). head hdr (0 + i) ++ t) (h (0 + i) (omega arith)))) refl

-- lengths

-- the plane has all its rows: in mh block rows and mw block columns, each row of each block has bw bytes
pub record Rows (mw mh : ℕ) (P : Plane) : Type 0 where
  pub has : (r x : ℕ) → r < mh * P.bh → x < mw → length (P.row r x) ≡ P.bw

-- each plane of a list has its rows
pub data Good (mw mh : ℕ) : List Plane → Type 0 where
  none : Good mw mh []
  more : {P : Plane} {Ps : List Plane} → Rows mw mh P → Good mw mh Ps → Good mw mh (P ∷ Ps)

-- a lent plane has them where the padded row lies in the stride and the padded height in the buffer
pub lent_rows : (s : List ℕ) (stride bw bh mw mh : ℕ) → mw * bw ≤ stride → mh * bh * stride ≤ length s → Rows mw mh (lent s stride bw bh)
lent_rows s stride bw bh mw mh w h = record { has = go }
  where
    go : (r x : ℕ) → r < mh * bh → x < mw → length (part s (r * stride + x * bw) bw) ≡ bw
    go r x a b = part_length s (r * stride + x * bw) bw (omega (arith, mul-le-mul_right stride a, mul-le-mul_right bw b))

-- the rows of a block have bw bytes each
pub block_even : {mw mh : ℕ} {P : Plane} → Rows mw mh P → (my mx : ℕ) → my < mh → mx < mw → Even (block_row P my mx) P.bw 0 P.bh
unfolding block_row
block_even {mw} {mh} {P} g my mx h l = record { each = λ y k. g.has (my * P.bh + (0 + y)) mx (omega (arith, mul-le-mul_right P.bh h)) l }

-- the bytes of a block
pub block-length : {mw mh : ℕ} {P : Plane} → Rows mw mh P → (my mx : ℕ) → my < mh → mx < mw → length (block P my mx) ≡ P.bh * P.bw
unfolding block
block-length g my mx h l = cat-length (block_even g my mx h l)

-- the row y of a block
pub block-row : {mw mh : ℕ} {P : Plane} → Rows mw mh P → (my mx y : ℕ) → my < mh → mx < mw → y < P.bh
    → part (block P my mx) (y * P.bw) P.bw ≡ P.row (my * P.bh + y) mx
unfolding block block_row
block-row {mw} {mh} {P} g my mx y h l k =
    let e = block_even g my mx h l in
    rw (add-zero (y * P.bw), zero-add y) at (cat-part e y 0 P.bw k (omega arith))
    ∙ part_all (P.row (my * P.bh + y) mx) P.bw (g.has (my * P.bh + y) mx (omega (arith, mul-le-mul_right P.bh h)) l)

-- the bytes of a macroblock's samples
pub mb-length : {mw mh : ℕ} {Ps : List Plane} → Good mw mh Ps → (my mx : ℕ) → my < mh → mx < mw → length (mb Ps my mx) ≡ mb_size Ps
unfolding mb mb_size
mb-length none my mx h l = refl
mb-length (more {P} {Ps} r g) my mx h l = rw (length-append (block P my mx) (mb Ps my mx), block-length r my mx h l, mb-length g my mx h l) refl

-- each macroblock of a picture has as many bytes of samples
pub mb_even : {mw mh : ℕ} {Ps : List Plane} → Good mw mh Ps → (n : ℕ) → n ≤ mh * mw → Even (mb_at mw Ps) (mb_size Ps) 0 n
unfolding mb_at
mb_even {mw} {mh} {Ps} g n h = record { each = go }
  where
    go : (i : ℕ) → i < n → length (mb Ps ((0 + i) / mw) ((0 + i) % mw)) ≡ mb_size Ps
    go i l =
        let k : 0 + i < mh * mw = omega arith in
        mb-length g ((0 + i) / mw) ((0 + i) % mw) (high_below mh mw (0 + i) k) (low_below mh mw (0 + i) k)

-- where things stand in a slice whose macroblocks have `size` bytes of samples each: those of macroblock i from length hdr + i * (2 + size) on

-- a slice whose macroblock 0 begins 0D 00 like the others: what stands behind the first two bytes of it stands behind the header of every slice
alike : (f : ℕ → List ℕ) (n : ℕ) → List ℕ
alike f n = cat (macroblock (13 ∷ 0 ∷ []) f) 0 n ++ (128 ∷ [])

macroblock-alike : (f : ℕ → List ℕ) (i : ℕ) → macroblock (13 ∷ 0 ∷ []) f i ≡ 13 ∷ 0 ∷ f i
macroblock-alike f zero = macroblock_first (13 ∷ 0 ∷ []) f
macroblock-alike f (suc i) = macroblock_next (13 ∷ 0 ∷ []) f (suc i) (omega arith)

slice-alike : (hdr : List ℕ) (f : ℕ → List ℕ) (n : ℕ) → 0 < n → slice_of hdr f n ≡ hdr ++ drop 2 (alike f n)
unfolding slice_of alike
slice-alike hdr f zero h = absurd (omega arith)
slice-alike hdr f (suc m) h = rw (add-one m) at go
  where
    same : cat (macroblock hdr f) 1 m ≡ cat (macroblock (13 ∷ 0 ∷ []) f) 1 m
    same = cat_same (macroblock hdr f) (macroblock (13 ∷ 0 ∷ []) f) 1 1 m (λ i l. macroblock_next hdr f (1 + i) (omega arith) ∙ sym (macroblock-alike f (1 + i)))

    go : cat (macroblock hdr f) 0 (m + 1) ++ (128 ∷ []) ≡ hdr ++ drop 2 (cat (macroblock (13 ∷ 0 ∷ []) f) 0 (m + 1) ++ (128 ∷ []))
    go =
        rw (cat_more (macroblock hdr f) 0 m, cat_more (macroblock (13 ∷ 0 ∷ []) f) 0 m, macroblock_first hdr f, macroblock-alike f 0, same)
        (rw (append_assoc hdr (f 0) (cat (macroblock (13 ∷ 0 ∷ []) f) 1 m)) (append_assoc hdr (f 0 ++ cat (macroblock (13 ∷ 0 ∷ []) f) 1 m) (128 ∷ [])))

alike_even : {f : ℕ → List ℕ} {size n : ℕ} → Even f size 0 n → Even (macroblock (13 ∷ 0 ∷ []) f) (2 + size) 0 n
alike_even {f} {size} {n} e = record { each = λ k l. rw (macroblock-alike f (0 + k)) (omega (arith, e.each k l)) }

alike-length : {f : ℕ → List ℕ} {size n : ℕ} → Even f size 0 n → length (alike f n) ≡ n * (2 + size) + 1
unfolding alike
alike-length {f} {size} {n} e = rw (length-append (cat (macroblock (13 ∷ 0 ∷ []) f) 0 n) (128 ∷ []), cat-length (alike_even e)) refl

alike-part : {f : ℕ → List ℕ} {size n : ℕ} → Even f size 0 n → (i a l : ℕ) → i < n → a + l ≤ 2 + size
    → part (alike f n) (i * (2 + size) + a) l ≡ part (13 ∷ 0 ∷ f i) a l
unfolding alike
alike-part {f} {size} {n} e i a l h r =
    let g : length (cat (macroblock (13 ∷ 0 ∷ []) f) 0 n) ≡ n * (2 + size) = cat-length (alike_even e) in
    part_left (cat (macroblock (13 ∷ 0 ∷ []) f) 0 n) (128 ∷ []) (i * (2 + size) + a) l (omega (arith, mul-le-mul_right (2 + size) h))
    ∙ (cat-part (alike_even e) i a l h r ∙ ap (λ (t : List ℕ). part t a l) (macroblock-alike f (0 + i) ∙ ap (λ (k : ℕ). 13 ∷ 0 ∷ f k) (zero-add i)))

-- the length: less by one than the header and n times two bytes and the samples
pub slice-length : {f : ℕ → List ℕ} {size n : ℕ} (hdr : List ℕ) → Even f size 0 n → 0 < n → length (slice_of hdr f n) + 1 ≡ length hdr + n * (2 + size)
slice-length {f} {size} {n} hdr e h =
    rw (slice-alike hdr f n h, length-append hdr (drop 2 (alike f n)), length-drop 2 (alike f n), alike-length e) (omega (arith, mul-le-mul_right (2 + size) h))

-- the header stands first
pub slice-header : (hdr : List ℕ) (f : ℕ → List ℕ) (n : ℕ) → 0 < n → part (slice_of hdr f n) 0 (length hdr) ≡ hdr
unfolding part
slice-header hdr f n h = rw (slice-alike hdr f n h) (take-append_seam hdr (drop 2 (alike f n)))

-- what stands behind it
behind_header : (hdr : List ℕ) (f : ℕ → List ℕ) (n : ℕ) → 0 < n → (a l : ℕ) → part (slice_of hdr f n) (length hdr + a) l ≡ part (alike f n) (2 + a) l
behind_header hdr f n h a l = rw (slice-alike hdr f n h, part_right hdr (drop 2 (alike f n)) a l) (part-drop (alike f n) 2 a l)

-- l bytes from a on of the samples of macroblock i
pub slice_samples : {f : ℕ → List ℕ} {size n : ℕ} (hdr : List ℕ) → Even f size 0 n → (i a l : ℕ) → i < n → a + l ≤ size
    → part (slice_of hdr f n) (length hdr + (i * (2 + size) + a)) l ≡ part (f i) a l
slice_samples {f} {size} {n} hdr e i a l h r =
    let p : 2 + (i * (2 + size) + a) ≡ i * (2 + size) + (2 + a) = omega arith in
    rw (behind_header hdr f n (omega arith) (i * (2 + size) + a) l, p, alike-part e i (2 + a) l h (omega arith)) (part_right (13 ∷ 0 ∷ []) (f i) a l)

-- behind the samples of macroblock i stands the head of the next one
pub slice-head : {f : ℕ → List ℕ} {size n : ℕ} (hdr : List ℕ) → Even f size 0 n → (i : ℕ) → i + 1 < n
    → part (slice_of hdr f n) (length hdr + (i * (2 + size) + size)) 2 ≡ 13 ∷ 0 ∷ []
unfolding part
slice-head {f} {size} {n} hdr e i h =
    let p : 2 + (i * (2 + size) + size) ≡ (i + 1) * (2 + size) + 0 = omega arith in
    rw (behind_header hdr f n (omega arith) (i * (2 + size) + size) 2, p) (alike-part e (i + 1) 0 2 h (omega arith))

-- the last byte, which is not 0
pub slice_last : (hdr : List ℕ) (f : ℕ → List ℕ) (n : ℕ) → get_or (slice_of hdr f n) (length (slice_of hdr f n) - 1) 0 ≡ 128
unfolding slice_of
slice_last hdr f n =
    let e : length (cat (macroblock hdr f) 0 n ++ (128 ∷ [])) - 1 ≡ length (cat (macroblock hdr f) 0 n) = omega (arith, length-append (cat (macroblock hdr f) 0 n) (128 ∷ [])) in
    rw e (get_or-append_seam (cat (macroblock hdr f) 0 n) 128 [] 0)

-- the length of a picture's payload
pub payload-length : {mw mh : ℕ} {Ps : List Plane} (hdr : List ℕ) → Good mw mh Ps → (n : ℕ) → 0 < n → n ≤ mh * mw
    → length (payload hdr mw Ps n) + 1 ≡ length hdr + n * (2 + mb_size Ps)
payload-length hdr g n h l = slice-length hdr (mb_even g n l) h
