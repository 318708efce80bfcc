-- Where the samples of a plane stand in a picture's payload, and that they are the plane's.
--     spot G i p           where the byte p of the samples of macroblock i stands
--     place G r x          where the row r of the plane's block column x begins
--     pos_of G vb j        where the sample byte j stands, of the plane's visible part: rows of vb bytes, stored tight
--     tight_of G X vb vh   the visible part, vh rows of vb bytes, as it is read back out of the payload X
--     visible s stride vb vh   the visible part of a lent plane, row by row
-- Assumes nothing.
use Rattle.std.specs.Prelude.{◌≡◌, refl, List, [], ◌∷◌, ◌++◌, ℕ, ◌+◌, ◌*◌, ◌/◌, ◌%◌, ◌≤◌, ◌<◌, length, get_or}
use Rattle.std.proofs.Common.{sym, ap, ◌∙◌, zero-add, mul-le-mul_right, div-add-mod', arith}
use Rattle.std.proofs.Math.Arith.{digits_lt}
use Rattle.lists.specs.Part.{part, part_at, part_length, part_left, part_right}
use Rattle.slice.specs.Digits.{high_below, low_below}
use Rattle.slice.specs.Cat.{cat, cat-tab, Even, rows_of, rows_at, tab, tab-length, tab_same}
use Rattle.slice.specs.Layout.{Plane, lent, block, mb, mb_size, payload, mb-append, mb_more, mb_at_lem, size-append, size_more, Rows, Good, none, more, lent_rows, block-row, block-length, mb-length, mb_even, slice_samples}

-- lead: bytes before the samples of macroblock 0; mw: macroblocks to a row; size: bytes of a macroblock's samples; off: those of them that stand
-- before the plane's block; bw: bytes of a row of that block; bh: its rows
pub record Grid : Type 0 where
  pub lead : ℕ
  pub mw : ℕ
  pub size : ℕ
  pub off : ℕ
  pub bw : ℕ
  pub bh : ℕ

unfoldable pub spot : Grid → ℕ → ℕ → ℕ
spot G i p = G.lead + (i * (2 + G.size) + p)

unfoldable pub place : Grid → ℕ → ℕ → ℕ
place G r x = spot G (r / G.bh * G.mw + x) (G.off + r % G.bh * G.bw)

unfoldable pub pos_of : Grid → ℕ → ℕ → ℕ
pos_of G vb j = place G (j / vb) (j % vb / G.bw) + j % vb % G.bw

unfoldable pub tight_of : Grid → List ℕ → ℕ → ℕ → List ℕ
tight_of G X vb vh = tab (λ j. get_or X (pos_of G vb j) 0) 0 (vh * vb)

unfoldable pub visible : List ℕ → ℕ → ℕ → ℕ → List ℕ
visible s stride vb vh = cat (rows_of s stride 0 vb) 0 vh

-- the samples stand within a payload of n macroblocks
pub spot_inside : (G : Grid) (X : List ℕ) (n i p : ℕ) → length X + 1 ≡ G.lead + n * (2 + G.size) → i < n → p ≤ G.size → spot G i p < length X
unfolding spot
spot_inside G X n i p e h l = omega (arith, mul-le-mul_right (2 + G.size) h)

-- what is read back has its length
pub tight-length : (G : Grid) (X : List ℕ) (vb vh : ℕ) → length (tight_of G X vb vh) ≡ vh * vb
unfolding tight_of
tight-length G X vb vh = tab-length (λ j. get_or X (pos_of G vb j) 0) 0 (vh * vb)

-- the grid of a plane of P's width and height whose block stands behind off bytes of its macroblock
abbrev pub grid_at : List ℕ → ℕ → ℕ → ℕ → Plane → Grid
grid_at hdr mw size off P = record { lead = length hdr; mw = mw; size = size; off = off; bw = P.bw; bh = P.bh }

-- that of the plane P where the planes As stand before it and Bs behind it
abbrev pub grid_of : List ℕ → ℕ → List Plane → Plane → List Plane → Grid
grid_of hdr mw As P Bs = grid_at hdr mw (mb_size (As ++ (P ∷ Bs))) (mb_size As) P

-- the row y of a block stands in its macroblock behind the planes before it
mb-row : {mw mh : ℕ} (As : List Plane) (P : Plane) (Bs : List Plane) → Good mw mh As → Rows mw mh P → (my mx y : ℕ) → my < mh → mx < mw → y < P.bh
    → part (mb (As ++ (P ∷ Bs)) my mx) (mb_size As + y * P.bw) P.bw ≡ P.row (my * P.bh + y) mx
mb-row As P Bs a p my mx y h k l =
    rw (mb-append As (P ∷ Bs) my mx, mb_more P Bs my mx, ← mb-length a my mx h k)
    (part_right (mb As my mx) (block P my mx ++ mb Bs my mx) (y * P.bw) P.bw
    ∙ (part_left (block P my mx) (mb Bs my mx) (y * P.bw) P.bw (omega (arith, block-length p my mx h k, mul-le-mul_right P.bw l))
    ∙ block-row p my mx y h k l))

-- of planes that have their rows: those before, and the one behind them
good_before : {mw mh : ℕ} (As Bs : List Plane) → Good mw mh (As ++ Bs) → Good mw mh As
good_before [] Bs g = none
good_before (A ∷ As) Bs (more r g) = more r (good_before As Bs g)

good_at : {mw mh : ℕ} (As : List Plane) (P : Plane) (Bs : List Plane) → Good mw mh (As ++ (P ∷ Bs)) → Rows mw mh P
good_at [] P Bs (more r g) = r
good_at (A ∷ As) P Bs (more r g) = good_at As P Bs g

-- planes that have their rows, and others
pub good_join : {mw mh : ℕ} {As Bs : List Plane} → Good mw mh As → Good mw mh Bs → Good mw mh (As ++ Bs)
good_join none b = b
good_join (more r a) b = more r (good_join a b)

-- at its place in the payload stands the row r of the block column x
pub row_back : {mw mh : ℕ} (hdr : List ℕ) (As : List Plane) (P : Plane) (Bs : List Plane) → Good mw mh (As ++ (P ∷ Bs)) → (r x : ℕ) → r < mh * P.bh → x < mw
    → part (payload hdr mw (As ++ (P ∷ Bs)) (mh * mw)) (place (grid_of hdr mw As P Bs) r x) P.bw ≡ P.row r x
unfolding place spot
row_back {mw} {mh} hdr As P Bs g r x h l =
    let m : r / P.bh < mh = high_below mh P.bh r h in
    let y : r % P.bh < P.bh = low_below mh P.bh r h in
    let s : mb_size As + P.bh * P.bw ≤ mb_size (As ++ (P ∷ Bs)) = omega (arith, size-append As (P ∷ Bs), size_more P Bs) in
    slice_samples hdr (mb_even g (mh * mw) (omega arith)) (r / P.bh * mw + x) (mb_size As + r % P.bh * P.bw) P.bw (digits_lt m l) (omega (arith, mul-le-mul_right P.bw y))
    ∙ (ap (λ (t : List ℕ). part t (mb_size As + r % P.bh * P.bw) P.bw) (mb_at_lem mw (As ++ (P ∷ Bs)) (r / P.bh) x l)
    ∙ (mb-row As P Bs (good_before As (P ∷ Bs) g) (good_at As P Bs g) (r / P.bh) x (r % P.bh) m l y
    ∙ ap (λ (q : ℕ). P.row q x) (div-add-mod' r P.bh)))

-- the plane P shows the visible part of the lent plane s, vh rows of vb bytes that lie in s, whatever else it holds
pub record Shows (P : Plane) (s : List ℕ) (stride vb vh : ℕ) : Type 0 where
  pub inside : (r : ℕ) → r < vh → r * stride + vb ≤ length s
  pub at : (r c : ℕ) → r < vh → c < vb → get_or (P.row r (c / P.bw)) (c % P.bw) 0 ≡ get_or s (r * stride + c) 0

-- what is read back of a plane, among any others, is the visible part that it shows
pub tight-shows : {mw mh stride vb vh : ℕ} {s : List ℕ} (hdr : List ℕ) (As : List Plane) (P : Plane) (Bs : List Plane) → Good mw mh (As ++ (P ∷ Bs))
    → Shows P s stride vb vh → vb ≤ mw * P.bw → vh ≤ mh * P.bh
    → tight_of (grid_of hdr mw As P Bs) (payload hdr mw (As ++ (P ∷ Bs)) (mh * mw)) vb vh ≡ visible s stride vb vh
unfolding tight_of pos_of visible
tight-shows {mw} {mh} {stride} {vb} {vh} {s} hdr As P Bs g w b h =
    tab_same (λ j. get_or X (pos_of G vb j) 0) (λ j. get_or (rows_of s stride 0 vb (j / vb)) (j % vb) 0) 0 0 (vh * vb) (λ j l. same (0 + j) (omega arith)) ∙ sym (cat-tab rows)
  where
    X : List ℕ
    X = payload hdr mw (As ++ (P ∷ Bs)) (mh * mw)

    G : Grid
    G = grid_of hdr mw As P Bs

    rows : Even (rows_of s stride 0 vb) vb 0 vh
    rows =
        record {
          each =
              λ r l. rw (rows_at s stride 0 vb (0 + r)) (part_length s (0 + (0 + r) * stride) vb (omega (arith, w.inside (0 + r) (omega arith))));
        }

    same : (j : ℕ) → j < vh * vb → get_or X (pos_of G vb j) 0 ≡ get_or (rows_of s stride 0 vb (j / vb)) (j % vb) 0
    same j l =
        let r : j / vb < vh = high_below vh vb j l in
        let c : j % vb < vb = low_below vh vb j l in
        let d : j % vb < mw * P.bw = omega arith in
        sym (part_at X (place G (j / vb) (j % vb / P.bw)) P.bw (j % vb % P.bw) (low_below mw P.bw (j % vb) d))
        ∙ (ap (λ (t : List ℕ). get_or t (j % vb % P.bw) 0) (row_back hdr As P Bs g (j / vb) (j % vb / P.bw) (omega arith) (high_below mw P.bw (j % vb) d))
        ∙ (w.at (j / vb) (j % vb) r c
        ∙ rw (rows_at s stride 0 vb (j / vb), part_at s (0 + j / vb * stride) vb (j % vb) c, zero-add (j / vb * stride)) refl))

-- a lent plane shows its own visible part
pub lent-shows : (s : List ℕ) (stride bw bh vb vh : ℕ) → ((r : ℕ) → r < vh → r * stride + vb ≤ length s) → (mw : ℕ) → vb ≤ mw * bw
    → Shows (lent s stride bw bh) s stride vb vh
lent-shows s stride bw bh vb vh i mw b = record { inside = i; at = go }
  where
    go : (r c : ℕ) → r < vh → c < vb → get_or (part s (r * stride + c / bw * bw) bw) (c % bw) 0 ≡ get_or s (r * stride + c) 0
    go r c h l =
        let e : r * stride + c / bw * bw + c % bw ≡ r * stride + c = omega (arith, div-add-mod' c bw) in
        part_at s (r * stride + c / bw * bw) bw (c % bw) (low_below mw bw c (omega arith)) ∙ ap (λ (p : ℕ). get_or s p 0) e

-- what is read back of a lent plane, among any others, is its visible part, where the padded row lies in the stride and the padded height in the buffer
pub tight-lent : {mw mh : ℕ} {As Bs : List Plane} (hdr : List ℕ) → Good mw mh As → Good mw mh Bs → (s : List ℕ) (stride bw bh vb vh : ℕ) → mw * bw ≤ stride
    → mh * bh * stride ≤ length s → vb ≤ mw * bw → vh ≤ mh * bh
    → tight_of (grid_of hdr mw As (lent s stride bw bh) Bs) (payload hdr mw (As ++ (lent s stride bw bh ∷ Bs)) (mh * mw)) vb vh ≡ visible s stride vb vh
tight-lent {mw} {mh} {As} {Bs} hdr a b s stride bw bh vb vh w h c d =
    tight-shows hdr As (lent s stride bw bh) Bs (good_join a (more (lent_rows s stride bw bh mw mh w h) b)) (lent-shows s stride bw bh vb vh inside mw c) c d
  where
    inside : (r : ℕ) → r < vh → r * stride + vb ≤ length s
    inside r l = let k : r < mh * bh = omega arith in omega (arith, mul-le-mul_right stride k)
