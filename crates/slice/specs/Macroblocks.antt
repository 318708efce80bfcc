-- The macroblocks of a picture as its writer goes over them: laws that the code cites.
--     lend, lends, lends_in  a lent plane; the three of a call; those of a value of Planes
--     Ready q L              an accepted size, and planes that are lent whole; Ready-prop: it has one proof at most
--     macroblock_in q L i    macroblock i with what stands before its samples
--     picture_is             a picture's payload is its macroblocks, and 80
--     samples_are            a macroblock's samples are a block of each plane, in every kind: a plane that monochrome has not is empty
--     Inside, inside         a block lies inside its plane
-- Assumes nothing.
use Rattle.std.specs.Prelude.{◌≡◌, refl, List, [], ◌∷◌, ◌++◌, Bool, true, false, cond, ℕ, zero, suc, ◌+◌, ◌*◌, ◌/◌, ◌≤◌, ◌<◌, length}
use Rattle.std.proofs.Common.{sym, ap, ◌∙◌, append-nil, zero-add, add_assoc, mul_assoc, div-mul-le_self, mul-le-mul_right, suc-mul, zero-mul, arith, length-append}
use Rattle.std.proofs.Math.Arith.{digits_lt}
use Rattle.nal_unit.specs.Escape.{esc, esc_from, zeros_end, esc-append}
use Rattle.nal_unit.specs.EscapeCode.{counted, esc-stop}
use Rattle.nal_unit.specs.PutCode.{Put, pieces_first, pieces_room, pieces}
use Rattle.nal_unit.specs.CountCode.{Counts}
use Rattle.ycbcr_image.specs.declared.BitDepth.{BitDepth}
use Rattle.ycbcr_image.specs.declared.BitDepth.TheVariants.{Depth8, Depth12}
use Rattle.ycbcr_image.specs.declared.Kind.{Kind}
use Rattle.ycbcr_image.specs.declared.Kind.TheVariants.{Mono, Colour}
use Rattle.ycbcr_image.specs.declared.Session.{Session}
use Rattle.ycbcr_image.specs.Form.{form_of, sub_width_c, sub_height_c, Form, mono, planes, in_plane, block_width, block_height, block_row_bytes, block_bytes, bytes_of, mb_bytes, planes_some, planes-colour}
use Rattle.ycbcr_image.specs.Sizes.{Sequence, sequence_of, pic_width_in_mbs, frame_height_in_mbs}
use Rattle.ycbcr_image.specs.Accepted.{Fine, fine_props, mbs_most}
use Rattle.slice.specs.declared.Planes.{Planes}
use Rattle.slice.specs.declared.Strides.{Strides}
use Rattle.slice.specs.Cat.{cat, cat_none, cat-length, rows_of, rows_even, Even}
use Rattle.slice.specs.Layout.{block, block_is, block-lent, mb, mb_one, mb-three, mb_at, mb_at_lem, head, head_first, head_next, macroblock, slice_is}
use Rattle.slice.specs.Header.{header_of, header_is}
use Rattle.slice.specs.Picture.{Lend, Lends, lend_at, plane_in, planes_in, mbs_in, picture_of, Whole}
use Rattle.slice.specs.Laid.{Laid, laid_more, laid-length}
use Rattle.slice.specs.Pieces.{row_of, row_is, cat-rows, cat_most}

abbrev pub lend : List ℕ → ℕ → Lend
lend s stride = record { bytes = s; stride = stride }

abbrev pub lends : List ℕ → List ℕ → List ℕ → Strides → Lends
lends y cb cr t = record { y = lend y t.y; cb = lend cb t.cb; cr = lend cr t.cr }

-- those of a call in one value
abbrev pub lends_in : Planes → Lends
lends_in p = lends p.y.now p.cb.now p.cr.now p.strides

pub record Ready (q : Sequence) (L : Lends) : Type 0 where
  pub fine : Fine q
  pub whole : Whole q L

-- which has one proof at most, so that a struct may hold it
pub Ready-prop : (q : Sequence) (L : Lends) → IsProp (Ready q L)
Ready-prop q L = hlevel fine_props

unfoldable pub macroblock_in : Sequence → Lends → ℕ → List ℕ
macroblock_in q L i = macroblock (header_of 0 0) (mb_at (pic_width_in_mbs q) (planes_in q.form L)) i

-- a row of macroblocks
abbrev pub row_in : Sequence → Lends → ℕ → List ℕ
row_in q L my = row_of (macroblock_in q L) (pic_width_in_mbs q) my

pub picture_is : (q : Sequence) (L : Lends) → picture_of q L ≡ cat (row_in q L) 0 (frame_height_in_mbs q) ++ (128 ∷ [])
unfolding picture_of macroblock_in
picture_is q L =
    slice_is (header_of 0 0) (mb_at (pic_width_in_mbs q) (planes_in q.form L)) (mbs_in q)
    ∙ ap (λ (l : List ℕ). l ++ (128 ∷ [])) (sym (cat-rows (macroblock_in q L) (pic_width_in_mbs q) (frame_height_in_mbs q)))

-- the samples of the macroblock in row my and column mx
unfoldable pub samples_at : Sequence → Lends → ℕ → ℕ → List ℕ
samples_at q L my mx = mb (planes_in q.form L) my mx

-- the macroblock in row my and column mx: its head, then its samples
pub macroblock_is : (q : Sequence) (L : Lends) (my mx : ℕ) → mx < pic_width_in_mbs q
    → macroblock_in q L (my * pic_width_in_mbs q + mx) ≡ head (header_of 0 0) (my * pic_width_in_mbs q + mx) ++ samples_at q L my mx
unfolding macroblock_in macroblock samples_at
macroblock_is q L my mx h = rw (mb_at_lem (pic_width_in_mbs q) (planes_in q.form L) my mx h) refl

-- the block of plane p
unfoldable pub block_in : Form → ℕ → Lend → ℕ → ℕ → List ℕ
block_in f p a my mx = block (plane_in f p a) my mx

-- of a plane that lies in s: rows of `w` bytes
pub block-rows : (f : Form) (p : ℕ) (a : Lend) (my mx w h : ℕ) → w ≡ block_row_bytes f p → h ≡ block_height f p
    → block_in f p a my mx ≡ cat (rows_of a.bytes a.stride (my * (h * a.stride) + mx * w) w) 0 h
unfolding block_in
block-rows f p a my mx w h e d = rw (e, d) (block-lent a.bytes a.stride (block_row_bytes f p) (block_height f p) my mx)

pub laid-block : (f : Form) (p : ℕ) (a : Lend) (my mx w h : ℕ) {d : List ℕ} {at : ℕ} {d' : List ℕ} {at' : ℕ} → w ≡ block_row_bytes f p → h ≡ block_height f p
    → Laid d at (cat (rows_of a.bytes a.stride (my * (h * a.stride) + mx * w) w) 0 h) d' at' → Laid d at (block_in f p a my mx) d' at'
laid-block f p a my mx w h e d g = rw (block-rows f p a my mx w h e d) g

pub block_room : (f : Form) (p w h at n : ℕ) → w ≡ block_row_bytes f p → h ≡ block_height f p → at + block_bytes f p ≤ n → at + h * w ≤ n
unfolding block_bytes
block_room f p w h at n e d g = rw (e, d) g

-- monochrome has no chroma block
no_high : (f : Form) (p : ℕ) → mono f ≡ true → block_height f (suc p) ≡ 0
unfolding block_height in_plane
no_high f p e = rw e refl

no_wide : (f : Form) (p : ℕ) → mono f ≡ true → block_row_bytes f (suc p) ≡ 0
unfolding block_row_bytes block_width in_plane bytes_of
no_wide f p e = rw e (omega arith)

no_block : (f : Form) (p : ℕ) (a : Lend) (my mx : ℕ) → mono f ≡ true → block_in f (suc p) a my mx ≡ []
unfolding block_in
no_block f p a my mx e = rw (block_is (plane_in f (suc p) a) my mx, no_high f p e) (cat_none _ 0)

pub samples_are : (q : Sequence) (L : Lends) (my mx : ℕ)
    → samples_at q L my mx ≡ block_in q.form 0 L.y my mx ++ (block_in q.form 1 L.cb my mx ++ block_in q.form 2 L.cr my mx)
unfolding samples_at planes_in block_in
samples_are q L my mx = go (mono q.form) refl
  where
    f : Form
    f = q.form

    go : (b : Bool) → mono f ≡ b
        → mb (cond b (plane_in f 0 L.y ∷ []) (plane_in f 0 L.y ∷ plane_in f 1 L.cb ∷ plane_in f 2 L.cr ∷ [])) my mx
        ≡ block (plane_in f 0 L.y) my mx ++ (block (plane_in f 1 L.cb) my mx ++ block (plane_in f 2 L.cr) my mx)
    go true e = rw (no_block f 0 L.cb my mx e, no_block f 1 L.cr my mx e, append-nil) (mb_one (plane_in f 0 L.y) my mx)
    go false e = mb-three (plane_in f 0 L.y) (plane_in f 1 L.cb) (plane_in f 2 L.cr) my mx

-- the block in row my and column mx lies inside the plane a: w bytes across, h rows down
pub record Inside (a : Lend) (w h my mx : ℕ) : Type 0 where
  pub across : mx * w + w ≤ a.stride
  pub down : (my + 1) * (h * a.stride) ≤ length a.bytes

pub inside : {q : Sequence} {L : Lends} → Ready q L → (p my mx : ℕ) → p < 3 → my < frame_height_in_mbs q → mx < pic_width_in_mbs q
    → Inside (lend_at L p) (block_row_bytes q.form p) (block_height q.form p) my mx
inside {q} {L} r p my mx l h k = go p l (mono f) refl
  where
    f : Form
    f = q.form

    there : (p : ℕ) → p < planes f → Inside (lend_at L p) (block_row_bytes f p) (block_height f p) my mx
    there p l =
        let s = (lend_at L p).stride in
        record {
          across = omega (arith, r.whole.across p l, mul-le-mul_right (block_row_bytes f p) k);
          down = omega (arith, r.whole.down p l, mul_assoc (frame_height_in_mbs q) (block_height f p) s, mul-le-mul_right (block_height f p * s) h);
        }

    absent : (p : ℕ) → mono f ≡ true → Inside (lend_at L (suc p)) (block_row_bytes f (suc p)) (block_height f (suc p)) my mx
    absent p e =
        rw (no_wide f p e, no_high f p e)
        (record { across = omega arith; down = let z : (my + 1) * (0 * (lend_at L (suc p)).stride) ≡ 0 = rw (zero-mul (lend_at L (suc p)).stride) (omega arith) in omega arith })

    go : (p : ℕ) → p < 3 → (b : Bool) → mono f ≡ b → Inside (lend_at L p) (block_row_bytes f p) (block_height f p) my mx
    go zero l b e = there 0 (planes_some f)
    go (suc p) l true e = absent p e
    go (suc p) l false e = there (suc p) (rw (planes-colour f e) l)

-- the same by the numbers that the code has
pub inside_as : {a : Lend} {w h w' h' my mx : ℕ} → w ≡ w' → h ≡ h' → Inside a w' h' my mx → Inside a w h my mx
inside_as e d g = rw (e, d) g

-- where it begins
pub inside_place : {a : Lend} {w h my mx : ℕ} → Inside a w h my mx → (n : ℕ) → a.stride ≤ n → length a.bytes ≤ n → my * (h * a.stride) + mx * w ≤ n
inside_place {a} {w} {h = zero} {my} {mx} g n s l = let z : my * (0 * a.stride) ≡ 0 = rw (zero-mul a.stride) (omega arith) in omega (arith, g.across)
inside_place {a} {w} {h = suc h} {my} {mx} g n s l = omega (arith, g.across, g.down, suc-mul h a.stride)

-- its rows have w bytes each
pub inside_even : {a : Lend} {w h my mx : ℕ} → Inside a w h my mx → Even (rows_of a.bytes a.stride (my * (h * a.stride) + mx * w) w) w 0 h
inside_even {a} {w} {h} {my} {mx} g = rows_even a.bytes a.stride (my * (h * a.stride) + mx * w) w h (omega (arith, g.across, g.down))

-- the bytes of a block, and those of a macroblock's samples
pub block-bytes : {q : Sequence} {L : Lends} → Ready q L → (p my mx : ℕ) → p < 3 → my < frame_height_in_mbs q → mx < pic_width_in_mbs q
    → length (block_in q.form p (lend_at L p) my mx) ≡ block_height q.form p * block_row_bytes q.form p
block-bytes {q} {L} r p my mx l h k =
    rw (block-rows q.form p (lend_at L p) my mx (block_row_bytes q.form p) (block_height q.form p) refl refl) (cat-length (inside_even (inside r p my mx l h k)))

pub samples_bytes : {q : Sequence} {L : Lends} → Ready q L → (my mx : ℕ) → my < frame_height_in_mbs q → mx < pic_width_in_mbs q → length (samples_at q L my mx) ≡ mb_bytes q.form
unfolding block_bytes
samples_bytes {q} {L} r my mx h k =
    let a = block_in q.form 0 L.y my mx in
    let b = block_in q.form 1 L.cb my mx in
    let c = block_in q.form 2 L.cr my mx in
    rw (samples_are q L my mx, length-append a (b ++ c), length-append b c)
    (omega (arith, r.fine.known.mb-blocks, block-bytes r 0 my mx (omega arith) h k, block-bytes r 1 my mx (omega arith) h k, block-bytes r 2 my mx (omega arith) h k))

-- what stands before the samples of the first macroblock, and of the others
pub first_head : (i : ℕ) → i ≡ 0 → head (header_of 0 0) i ≡ 0x88 ∷ 0x84 ∷ 0x28 ∷ 0x68 ∷ []
first_head i e = rw (e, head_first (header_of 0 0)) header_is

pub next_head : (i : ℕ) → (i ≡ 0 → ⊥) → head (header_of 0 0) i ≡ 13 ∷ 0 ∷ []
next_head zero h = absurd (h refl)
next_head (suc i) h = head_next (header_of 0 0) (suc i) (omega arith)

pub head_bytes : (i : ℕ) → length (head (header_of 0 0) i) ≤ 4
head_bytes zero = rw (first_head 0 refl) (omega arith)
head_bytes (suc i) = rw (next_head (suc i) (λ e. omega arith)) (omega arith)

-- the bytes of a macroblock
pub macroblock-size : {q : Sequence} {L : Lends} → Ready q L → (my mx : ℕ) → my < frame_height_in_mbs q → mx < pic_width_in_mbs q
    → length (macroblock_in q L (my * pic_width_in_mbs q + mx)) ≤ 4 + mb_bytes q.form
macroblock-size {q} {L} r my mx h k =
    let i = my * pic_width_in_mbs q + mx in
    rw (macroblock_is q L my mx k, length-append (head (header_of 0 0) i) (samples_at q L my mx)) (omega (arith, head_bytes i, samples_bytes r my mx h k))

-- it fits into 580
pub macroblock_most : {q : Sequence} {L : Lends} → Ready q L → (my mx : ℕ) → my < frame_height_in_mbs q → mx < pic_width_in_mbs q
    → length (macroblock_in q L (my * pic_width_in_mbs q + mx)) ≤ 580
macroblock_most r my mx h k = omega (arith, macroblock-size r my mx h k, r.fine.known.mb_most)

-- as many macroblocks as a kilobyte of samples holds
unfoldable pub at_once : Form → ℕ
at_once f = 1024 / mb_bytes f

-- it holds one to four of them
pub record Once (f : Form) : Type 0 where
  pub bytes : 0 < mb_bytes f
  pub some : 1 ≤ at_once f
  pub few : at_once f ≤ 4

pub once : (s : Session) → Once (sequence_of s).form
unfolding at_once mb_bytes bytes_of block_width block_height in_plane mono sub_width_c sub_height_c
once s = go s.kind s.depth
  where
    go : (k : Kind) (d : BitDepth) → Once (form_of k d)
    go Mono Depth8 = omega arith
    go Mono Depth12 = omega arith
    go Colour Depth8 = omega arith
    go Colour Depth12 = omega arith

-- so many of them have few bytes
pub some_most : (s : Session) {L : Lends} → Ready (sequence_of s) L → (my mx n : ℕ) → my < frame_height_in_mbs (sequence_of s) → mx + n ≤ pic_width_in_mbs (sequence_of s)
    → n ≤ at_once (sequence_of s).form → length (cat (macroblock_in (sequence_of s) L) (my * pic_width_in_mbs (sequence_of s) + mx) n) ≤ 1040
unfolding at_once
some_most s {L} r my mx n h k o =
    let q : Sequence = sequence_of s in
    let b = mb_bytes q.form in
    let m : n * b ≤ 1024 = omega (arith, mul-le-mul_right b o, div-mul-le_self 1024 b) in
    let a : length (cat (macroblock_in q L) (my * pic_width_in_mbs q + mx) n) ≤ n * (4 + b) = cat_most (macroblock_in q L) (4 + b) (my * pic_width_in_mbs q + mx) n (λ i l. rw (add_assoc (my * pic_width_in_mbs q) mx i) (macroblock-size r my (mx + i) h (omega arith))) in
    omega (arith, (once s).few)

-- a row of macroblocks, and all of them
pub row_few : {q : Sequence} {L : Lends} → Ready q L → (my : ℕ) → my < frame_height_in_mbs q → length (cat (macroblock_in q L) (my * pic_width_in_mbs q) (pic_width_in_mbs q)) ≤ 593920
row_few {q} {L} r my h =
    omega (arith, cat_most (macroblock_in q L) 580 (my * pic_width_in_mbs q) (pic_width_in_mbs q) (λ k l. macroblock_most r my k h l), r.fine.across-high)

pub row_most : {q : Sequence} {L : Lends} → Ready q L → (my : ℕ) → my < frame_height_in_mbs q → length (row_in q L my) ≤ 593920
row_most {q} {L} r my h = rw (row_is (macroblock_in q L) (pic_width_in_mbs q) my) (row_few r my h)

pub rows_most : {q : Sequence} {L : Lends} → Ready q L → length (cat (row_in q L) 0 (frame_height_in_mbs q)) ≤ 1073741824
rows_most {q} {L} r =
    omega (arith, cat_most (row_in q L) 593920 0 (frame_height_in_mbs q) (λ k l. rw (zero-add k) (row_most r k l)), r.fine.down_high)

-- laying the three blocks of a macroblock: each has room, and together they are its samples
module _ {q : Sequence} {L : Lends} (r : Ready q L) (my mx : ℕ) (h : my < frame_height_in_mbs q) (k : mx < pic_width_in_mbs q) where
  size : (p : ℕ) → p < 3 → length (block_in q.form p (lend_at L p) my mx) ≡ block_bytes q.form p
  unfolding block_bytes
  size p l = block-bytes r p my mx l h k

  -- the bytes of the three
  pub three-sizes : mb_bytes q.form ≡ block_bytes q.form 0 + (block_bytes q.form 1 + block_bytes q.form 2)
  three-sizes = r.fine.known.mb-blocks

  pub second_room : {d : List ℕ} {at : ℕ} {d' : List ℕ} {a : ℕ} → at + mb_bytes q.form ≤ length d → Laid d at (block_in q.form 0 L.y my mx) d' a
      → a + (block_bytes q.form 1 + block_bytes q.form 2) ≤ length d'
  second_room g f = let z = size 0 (omega arith) in omega (arith, three-sizes, f.place, laid-length f (omega (arith, three-sizes)))

  pub third_room : {d : List ℕ} {at : ℕ} {d' : List ℕ} {a : ℕ} → at + (block_bytes q.form 1 + block_bytes q.form 2) ≤ length d
      → Laid d at (block_in q.form 1 L.cb my mx) d' a → a + block_bytes q.form 2 ≤ length d'
  third_room g f = let z = size 1 (omega arith) in omega (arith, f.place, laid-length f (omega arith))

  pub samples_laid : {d : List ℕ} {at : ℕ} {d1 : List ℕ} {a1 : ℕ} {d2 : List ℕ} {a2 : ℕ} {d3 : List ℕ} {a3 : ℕ} → at + mb_bytes q.form ≤ length d
      → Laid d at (block_in q.form 0 L.y my mx) d1 a1 → Laid d1 a1 (block_in q.form 1 L.cb my mx) d2 a2 → Laid d2 a2 (block_in q.form 2 L.cr my mx) d3 a3
      → Laid d at (samples_at q L my mx) d3 a3
  samples_laid g f1 f2 f3 =
      let y = block_in q.form 0 L.y my mx in
      let cb = block_in q.form 1 L.cb my mx in
      let cr = block_in q.form 2 L.cr my mx in
      let z0 = size 0 (omega arith) in
      let z1 = size 1 (omega arith) in
      let z2 = size 2 (omega arith) in
      let m = second_room g f1 in
      let c : Laid _ _ (cb ++ cr) _ _ = laid_more cr (omega arith) f2 f3 in
      rw (samples_are q L my mx) (laid_more (cb ++ cr) (omega (arith, three-sizes, length-append cb cr)) f1 c)

  -- the head, then the samples; w is the width in macroblocks, as the code has it
  pub macroblock-laid : (w : ℕ) → w ≡ pic_width_in_mbs q → {d : List ℕ} {at : ℕ} {d1 : List ℕ} {a1 : ℕ} {d2 : List ℕ} {a2 : ℕ}
      → at + length (macroblock_in q L (my * pic_width_in_mbs q + mx)) ≤ length d
      → Laid d at (head (header_of 0 0) (my * w + mx)) d1 a1 → Laid d1 a1 (samples_at q L my mx) d2 a2 → Laid d at (macroblock_in q L (my * pic_width_in_mbs q + mx)) d2 a2
  macroblock-laid w v g f1 f2 =
      let e = macroblock_is q L my mx k in
      rw e (laid_more (samples_at q L my mx) (omega (arith, ap length e, length-append (head (header_of 0 0) (my * pic_width_in_mbs q + mx)) (samples_at q L my mx))) (rw v at f1) f2)

  -- and the room of each
  pub head_room : (w : ℕ) → w ≡ pic_width_in_mbs q → (at n : ℕ) → at + length (macroblock_in q L (my * pic_width_in_mbs q + mx)) ≤ n
      → at + length (head (header_of 0 0) (my * w + mx)) + mb_bytes q.form ≤ n
  head_room w v at n g =
      let e = macroblock_is q L my mx k in
      rw v (omega (arith, ap length e, length-append (head (header_of 0 0) (my * pic_width_in_mbs q + mx)) (samples_at q L my mx), samples_bytes r my mx h k))

  -- the number of a macroblock
  pub number_most : (w : ℕ) → w ≡ pic_width_in_mbs q → my * w + mx < 1048576
  number_most w v = rw v (omega (arith, digits_lt h k, mbs_most r.fine))

-- a picture's payload counted, and written: its macroblocks, then 80
pub picture_counted : (q : Sequence) (L : Lends) {n y : ℕ} → Counts 0 (cat (row_in q L) 0 (frame_height_in_mbs q)) n y → n + 1 ≡ length (esc (picture_of q L))
picture_counted q L c =
    let x = cat (row_in q L) 0 (frame_height_in_mbs q) in
    rw (picture_is q L, esc-append 0 x (128 ∷ []), esc-stop (zeros_end 0 x), length-append (esc_from 0 x) (128 ∷ []), c.size) refl

pub picture_first : (q : Sequence) (L : Lends) (d : List ℕ) (at : ℕ) → at + length (esc_from (counted d at) (picture_of q L)) ≤ length d
    → at + length (esc_from (counted d at) (cat (row_in q L) 0 (frame_height_in_mbs q))) ≤ length d
picture_first q L d at h = pieces_first d at (cat (row_in q L) 0 (frame_height_in_mbs q)) (128 ∷ []) (rw (picture_is q L) at h)

pub picture_last_room : (q : Sequence) (L : Lends) (d : List ℕ) (at : ℕ) {d' : List ℕ} {at' : ℕ} → at + length (esc_from (counted d at) (picture_of q L)) ≤ length d
    → Put d at (cat (row_in q L) 0 (frame_height_in_mbs q)) d' at' → at' + length (esc_from (counted d' at') (128 ∷ [])) ≤ length d'
picture_last_room q L d at h p = pieces_room d at (cat (row_in q L) 0 (frame_height_in_mbs q)) (128 ∷ []) (rw (picture_is q L) at h) p

pub picture_put : (q : Sequence) (L : Lends) (d : List ℕ) (at : ℕ) {d' : List ℕ} {at' : ℕ} {d'' : List ℕ} {at'' : ℕ} → at + length (esc_from (counted d at) (picture_of q L)) ≤ length d
    → Put d at (cat (row_in q L) 0 (frame_height_in_mbs q)) d' at' → Put d' at' (128 ∷ []) d'' at'' → Put d at (picture_of q L) d'' at''
picture_put q L d at h p r = rw (picture_is q L) (pieces d at (cat (row_in q L) 0 (frame_height_in_mbs q)) (128 ∷ []) (rw (picture_is q L) at h) p r)
