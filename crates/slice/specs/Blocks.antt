-- Which bytes of a payload are those of a plane's visible part, and how that part is filled macroblock by macroblock.
--     row_in_lem             a row of a block that is visible
--     block_in_lem, rows_out     the rows of a block, visible or not
--     block_out              what is not of the plane's block: other planes, heads
--     fill_first, fill-block, fill_last   a reader's loop over the macroblocks: before it, a turn, behind it
-- Assumes nothing.
use Rattle.std.specs.Prelude.{◌≡◌, refl, List, ◌++◌, ℕ, ◌+◌, ◌-◌, ◌*◌, ◌/◌, ◌%◌, ◌≤◌, ◌<◌, min, length, drop}
use Rattle.std.proofs.Common.{sym, ap, ◌∙◌, mul-le-mul_right, div-add-mod', mod-lt, add_assoc, lt_of_mul-lt-mul_right, arith}
use Rattle.std.proofs.Math.Arith.{digits_lt, digits_div, digits_mod}
use Rattle.lists.specs.Test.{either}
use Rattle.slice.specs.Digits.{high_below, low_below, same_digit}
use Rattle.slice.specs.Grid.{Grid, spot, place, pos_of, tight_of}
use Rattle.slice.specs.Filling.{Filled, Clear, Takes, RowsAt, Fills, fill_start, fill-skip, fill_done}

-- the visible part, vh rows of vb bytes, lies in the mh rows of blocks, and the block in its macroblock
pub record Fit (G : Grid) (mh vb vh : ℕ) : Type 0 where
  pub wide : vb ≤ G.mw * G.bw
  pub high : vh ≤ mh * G.bh
  pub within : G.off + G.bh * G.bw ≤ G.size

-- the byte j of the visible part: its row, its column, and where these are in the blocks
record Seen (G : Grid) (mh vb vh j : ℕ) : Type 0 where
  row : j / vb < vh
  column : j % vb < vb
  band : j / vb / G.bh < mh
  line : j / vb % G.bh < G.bh
  block : j % vb / G.bw < G.mw
  byte : j % vb % G.bw < G.bw
  within : j / vb % G.bh * G.bw + j % vb % G.bw < G.bh * G.bw

seen : {G : Grid} {mh vb vh : ℕ} → Fit G mh vb vh → (j : ℕ) → j < vh * vb → Seen G mh vb vh j
seen {G} {mh} {vb} {vh} f j l =
    let r : j / vb < vh = high_below vh vb j l in
    let c : j % vb < vb = low_below vh vb j l in
    let h : j / vb < mh * G.bh = omega arith in
    let w : j % vb < G.mw * G.bw = omega arith in
    let y = low_below mh G.bh (j / vb) h in
    let e = low_below G.mw G.bw (j % vb) w in
    record {
      row = r;
      column = c;
      band = high_below mh G.bh (j / vb) h;
      line = y;
      block = high_below G.mw G.bw (j % vb) w;
      byte = e;
      within = digits_lt y e;
    }

-- a byte of the visible part that stands among the samples of macroblock i, or in the two bytes behind them, is of that macroblock
in_macroblock : {G : Grid} {mh vb vh : ℕ} → Fit G mh vb vh → (i j : ℕ) → j < vh * vb → spot G i 0 ≤ pos_of G vb j → pos_of G vb j < spot G i (2 + G.size)
    → j / vb / G.bh * G.mw + j % vb / G.bw ≡ i
unfolding spot place pos_of
in_macroblock {G} {mh} {vb} {vh} f i j l a b =
    let d = seen f j l in
    same_digit (2 + G.size) i (j / vb / G.bh * G.mw + j % vb / G.bw) (G.off + j / vb % G.bh * G.bw + j % vb % G.bw) (omega arith) (omega arith) (omega arith)

-- where it stands there
pos_in : (G : Grid) (vb i j : ℕ) → j / vb / G.bh * G.mw + j % vb / G.bw ≡ i → pos_of G vb j ≡ spot G i (G.off + j / vb % G.bh * G.bw) + j % vb % G.bw
unfolding pos_of place
pos_in G vb i j e = rw e refl

-- and in which block
in_block : {G : Grid} {mh vb vh : ℕ} → Fit G mh vb vh → (my mx j : ℕ) → mx < G.mw → j < vh * vb
    → j / vb / G.bh * G.mw + j % vb / G.bw ≡ my * G.mw + mx → (j / vb / G.bh ≡ my) × (j % vb / G.bw ≡ mx)
in_block {G} {mh} {vb} {vh} f my mx j h l e =
    let d = seen f j l in
    let r : j / vb / G.bh ≡ my = same_digit G.mw my (j / vb / G.bh) (j % vb / G.bw) d.block (omega arith) (omega arith) in
    (r, omega (arith, ap (λ (q : ℕ). q * G.mw) r))

-- no byte of the visible part stands in a stretch of macroblock i, or of the two bytes behind it, that has no byte of the plane's block
pub block_out : {G : Grid} {mh vb vh : ℕ} → Fit G mh vb vh → (i p q : ℕ) → p ≤ q → q ≤ 2 + G.size
    → ((t : ℕ) → p ≤ t → t < q → G.off ≤ t → t < G.off + G.bh * G.bw → ⊥) → Clear (pos_of G vb) (vh * vb) (spot G i p) (spot G i q)
unfolding spot
block_out {G} {mh} {vb} {vh} f i p q h k out = record { on = omega arith; none = go }
  where
    go : (j : ℕ) → j < vh * vb → spot G i p ≤ pos_of G vb j → pos_of G vb j < spot G i q → ⊥
    go j l a c =
        let d = seen f j l in
        let e = pos_in G vb i j (in_macroblock f i j l (omega arith) (omega arith)) in
        out (G.off + j / vb % G.bh * G.bw + j % vb % G.bw) (omega arith) (omega arith) (omega arith) (omega arith)

-- the byte e of the row r in the block column x
pub pos-row : (G : Grid) (vb r x e : ℕ) → x * G.bw + e < vb → e < G.bw → pos_of G vb (r * vb + (x * G.bw + e)) ≡ place G r x + e
unfolding pos_of
pos-row G vb r x e h l = rw (digits_div r h, digits_mod r h, digits_div x l, digits_mod x l) refl

-- a byte of the visible part that stands where the row r of the block column x does is of that row and column
row_only : {G : Grid} {mh vb vh : ℕ} → Fit G mh vb vh → (r x j : ℕ) → x < G.mw → j < vh * vb → place G r x ≤ pos_of G vb j → pos_of G vb j < place G r x + G.bw
    → (j / vb ≡ r) × (j % vb / G.bw ≡ x)
unfolding place spot
row_only {G} {mh} {vb} {vh} f r x j h l a b =
    let d = seen f j l in
    let y : r % G.bh < G.bh = mod-lt r (omega (arith, d.line)) in
    let t = mul-le-mul_right G.bw y in
    let m = in_macroblock f (r / G.bh * G.mw + x) j l (omega arith) (omega arith) in
    let e = pos_in G vb (r / G.bh * G.mw + x) j m in
    let i = in_block f (r / G.bh) x j h l m in
    let k : j / vb % G.bh ≡ r % G.bh = same_digit G.bw (r % G.bh) (j / vb % G.bh) (j % vb % G.bw) d.byte (omega arith) (omega arith) in
    (sym (div-add-mod' (j / vb) G.bh) ∙ (rw (i.0, k) (div-add-mod' r G.bh)), i.1)

-- the visible bytes of the row r in the block column x, w of them, and where they are stored
pub row_in_lem : {G : Grid} {mh vb vh : ℕ} → Fit G mh vb vh → (r x w : ℕ) → r < vh → x * G.bw < vb → w ≡ min G.bw (vb - x * G.bw)
    → Takes (pos_of G vb) (vh * vb) (place G r x) (place G r x + G.bw) (r * vb + x * G.bw) w
row_in_lem {G} {mh} {vb} {vh} f r x w h k e =
    record {
      on = omega arith;
      inside = omega (arith, mul-le-mul_right vb h);
      here = here;
      only = only;
    }
  where
    column : x < G.mw
    column = lt_of_mul-lt-mul_right G.bw (omega arith)

    here : (i : ℕ) → i < w → pos_of G vb (r * vb + x * G.bw + i) ≡ place G r x + i
    here i l = rw (add_assoc (r * vb) (x * G.bw) i) (pos-row G vb r x i (omega arith) (omega arith))

    only : (j : ℕ) → j < vh * vb → place G r x ≤ pos_of G vb j → pos_of G vb j < place G r x + G.bw → (r * vb + x * G.bw ≤ j) × (j < r * vb + x * G.bw + w)
    only j l a b =
        let d = seen f j l in
        let o : (j / vb ≡ r) × (j % vb / G.bw ≡ x) = row_only f r x j column l a b in
        let p = div-add-mod' j vb in
        let q = div-add-mod' (j % vb) G.bw in
        let s = ap (λ (i : ℕ). i * vb) o.0 in
        let t = ap (λ (i : ℕ). i * G.bw) o.1 in
        (omega arith, omega arith)

-- the row y of a block
pub place-block : (G : Grid) (my mx y : ℕ) → y < G.bh → place G (my * G.bh + y) mx ≡ spot G (my * G.mw + mx) G.off + y * G.bw
unfolding place spot
place-block G my mx y h = rw (digits_div my h, digits_mod my h) (omega arith)

-- the visible rows of a block, h of them, and where they are stored
pub block_in_lem : {G : Grid} {mh vb vh : ℕ} → Fit G mh vb vh → (my mx w h : ℕ) → my * G.bh + h ≤ vh → h ≤ G.bh → mx * G.bw < vb
    → w ≡ min G.bw (vb - mx * G.bw) → RowsAt (pos_of G vb) (vh * vb) (spot G (my * G.mw + mx) G.off) (my * G.bh * vb + mx * G.bw) w G.bw vb h
block_in_lem {G} {mh} {vb} {vh} f my mx w h k i c e = record { each = go }
  where
    go : (y : ℕ) → y < h
        → Takes (pos_of G vb) (vh * vb) (spot G (my * G.mw + mx) G.off + y * G.bw) (spot G (my * G.mw + mx) G.off + (y + 1) * G.bw) (my * G.bh * vb + mx * G.bw + y * vb) w
    go y l =
        let p = place-block G my mx y (omega arith) in
        let q : spot G (my * G.mw + mx) G.off + (y + 1) * G.bw ≡ place G (my * G.bh + y) mx + G.bw = omega arith in
        let a : my * G.bh * vb + mx * G.bw + y * vb ≡ (my * G.bh + y) * vb + mx * G.bw = omega arith in
        rw (a, q, ← p) (row_in_lem f (my * G.bh + y) mx w (omega arith) c e)

-- the rows of a block below the visible part
pub rows_out : {G : Grid} {mh vb vh : ℕ} → Fit G mh vb vh → (my mx h : ℕ) → mx < G.mw → h ≤ G.bh → vh ≤ my * G.bh + h
    → Clear (pos_of G vb) (vh * vb) (spot G (my * G.mw + mx) (G.off + h * G.bw)) (spot G (my * G.mw + mx) (G.off + G.bh * G.bw))
unfolding spot
rows_out {G} {mh} {vb} {vh} f my mx h k i v = record { on = omega (arith, mul-le-mul_right G.bw i); none = go }
  where
    go : (j : ℕ) → j < vh * vb → spot G (my * G.mw + mx) (G.off + h * G.bw) ≤ pos_of G vb j → pos_of G vb j < spot G (my * G.mw + mx) (G.off + G.bh * G.bw) → ⊥
    go j l a c =
        let d = seen f j l in
        let m = in_macroblock f (my * G.mw + mx) j l (omega arith) (omega arith) in
        let e = pos_in G vb (my * G.mw + mx) j m in
        let b : (j / vb / G.bh ≡ my) × (j % vb / G.bw ≡ mx) = in_block f my mx j k l m in
        let t = ap (λ (q : ℕ). q * G.bh) b.0 in
        let y = div-add-mod' (j / vb) G.bh in
        either h (j / vb % G.bh) (λ g. omega arith) (λ g. omega (arith, mul-le-mul_right G.bw g))

-- a place further on, and the next macroblock
spot-add : (G : Grid) (i p k : ℕ) → spot G i (p + k) ≡ spot G i p + k
unfolding spot
spot-add G i p k = omega arith

spot_next : (G : Grid) (i : ℕ) → spot G (i + 1) 0 ≡ spot G i (2 + G.size)
unfolding spot
spot_next G i = omega arith

-- a plane before its first macroblock: only the header is passed
pub fill_first : (G : Grid) (d X : List ℕ) (vb vh : ℕ) → vh * vb ≤ length d → Filled d X (pos_of G vb) (vh * vb) d (spot G 0 0)
unfolding spot pos_of place
fill_first G d X vb vh h = fill-skip (record { on = omega arith; none = λ j l a c. omega arith }) (fill_start d X (pos_of G vb) (vh * vb) h)

-- a macroblock is passed, of which the visible rows of the plane's block are stored
pub fill-block : {G : Grid} {mh vb vh : ℕ} {d X out out' : List ℕ} → Fit G mh vb vh → (my mx w h : ℕ) → my * G.bh < vh → mx * G.bw < vb
    → w ≡ min G.bw (vb - mx * G.bw) → h ≡ min G.bh (vh - my * G.bh)
    → Fills X out out' (spot G (my * G.mw + mx) G.off) (my * G.bh * vb + mx * G.bw) w G.bw vb h
    → Filled d X (pos_of G vb) (vh * vb) out (spot G (my * G.mw + mx) 0) → Filled d X (pos_of G vb) (vh * vb) out' (spot G (my * G.mw + mx + 1) 0)
fill-block {G} {mh} {vb} {vh} {d} {X} {out} {out'} f my mx w h r c e v g p =
    let i : ℕ = my * G.mw + mx in
    let column : mx < G.mw = lt_of_mul-lt-mul_right G.bw (omega arith) in
    let before : At out (spot G i G.off) = fill-skip (block_out f i 0 G.off (omega arith) (omega arith) (λ t. omega arith)) p in
    let stored : At out' (spot G i (G.off + h * G.bw)) =
    rw (spot-add G i G.off (h * G.bw)) (g.fills (block_in_lem f my mx w h (omega arith) (omega arith) c e) before) in
    let below : At out' (spot G i (G.off + G.bh * G.bw)) =
    either
    vh
    (my * G.bh + h)
    (λ k. fill-skip (rows_out f my mx h column (omega arith) k) stored)
    (λ k. let q : h ≡ G.bh = omega arith in rw q at stored) in
    rw (spot_next G i) (fill-skip (block_out f i (G.off + G.bh * G.bw) (2 + G.size) (omega arith) (omega arith) (λ t. omega arith)) below)
  where
    At : List ℕ → ℕ → Type 0
    At o n = Filled d X (pos_of G vb) (vh * vb) o n

-- all macroblocks are passed
pub fill_last : {G : Grid} {mh vb vh : ℕ} {d X out : List ℕ} → Fit G mh vb vh → Filled d X (pos_of G vb) (vh * vb) out (spot G (mh * G.mw) 0)
    → out ≡ tight_of G X vb vh ++ drop (vh * vb) d
unfolding tight_of spot pos_of place
fill_last {G} {mh} {vb} {vh} f p = fill_done p passed
  where
    passed : (j : ℕ) → j < vh * vb → pos_of G vb j < spot G (mh * G.mw) 0
    passed j l =
        let d = seen f j l in
        omega (arith, mul-le-mul_right (2 + G.size) (digits_lt d.band d.block))
