-- What a reader has to look at to know a payload: a list of the exact length whose header, heads and last byte are right is the payload of the planes
-- that are read from it.
--     Formed hdr size n X    X has the length of n macroblocks of `size` bytes, and header, heads and last byte are right
--     right hdr size n X     the test of the last three
--     planes_of hdr mw Ps X  planes of the widths and heights of Ps, whose rows are the parts of X at their places
-- Assumes nothing.
use Rattle.std.specs.Prelude.{◌≡◌, refl, List, [], ◌∷◌, ◌++◌, Bool, true, ◌&&◌, eqb, ℕ, zero, suc, ◌+◌, ◌-◌, ◌*◌, ◌/◌, ◌%◌, ◌≤◌, ◌<◌, length, get_or}
use Rattle.std.proofs.Common.{sym, ap, ◌∙◌, eqb-true, eq-eqb, add-zero, zero-add, mul-le-mul_right, div-add-mod', add-one, arith}
use Rattle.std.proofs.Math.Bool.{and-eq-true_iff}
use Rattle.lists.specs.Stands.{stands, stands-part, part-stands}
use Rattle.lists.specs.Test.{all_below, all_true, all_at}
use Rattle.std.proofs.Math.Arith.{digits_lt}
use Rattle.lists.specs.Part.{part, part_none, part-append, part-cons, part_length, part_all}
use Rattle.slice.specs.Digits.{high_below, low_below}
use Rattle.slice.specs.Cat.{cat, cat_none, cat_last, cat_same, cat-parts, Even, rows_of, rows_at}
use Rattle.slice.specs.Layout.{Plane, block_row, block, block_is, mb, mb_at, mb_size, macroblock, macroblock_first, macroblock_next, slice_of, slice_is, slice-length, slice-header, slice-head, mb_even, slice_last, slice_same, payload, Good, none, more, Rows}
use Rattle.slice.specs.Grid.{Grid, spot, place, grid_at, spot_inside}
use Rattle.slice.specs.Blocks.{place-block}

pub record Formed (hdr : List ℕ) (size n : ℕ) (X : List ℕ) : Type 0 where
  pub long : length X + 1 ≡ length hdr + n * (2 + size)
  pub begins : part X 0 (length hdr) ≡ hdr
  pub heads : (i : ℕ) → i + 1 < n → part X (length hdr + (i * (2 + size) + size)) 2 ≡ 13 ∷ 0 ∷ []
  pub last : get_or X (length X - 1) 0 ≡ 128

-- whether behind the samples of macroblock i stands the head of the next one
unfoldable pub head_stands : List ℕ → ℕ → List ℕ → ℕ → Bool
head_stands hdr size X i = stands (13 ∷ 0 ∷ []) X (length hdr + (i * (2 + size) + size))

-- the test of header, heads and last byte
unfoldable pub right : List ℕ → ℕ → ℕ → List ℕ → Bool
right hdr size n X = stands hdr X 0 && (all_below (n - 1) (head_stands hdr size X) && eqb (get_or X (length X - 1) 0) 128)

-- what has the length and passes is formed
pub right_formed : (hdr : List ℕ) (size n : ℕ) (X : List ℕ) → length X + 1 ≡ length hdr + n * (2 + size) → right hdr size n X ≡ true → Formed hdr size n X
unfolding right head_stands
right_formed hdr size n X l h =
    let a = (and-eq-true_iff (stands hdr X 0) (all_below (n - 1) (head_stands hdr size X) && eqb (get_or X (length X - 1) 0) 128)).0 h in
    let b = (and-eq-true_iff (all_below (n - 1) (head_stands hdr size X)) (eqb (get_or X (length X - 1) 0) 128)).0 a.1 in
    record {
      long = l;
      begins = stands-part hdr X 0 a.0;
      heads =
          λ i k. stands-part (13 ∷ 0 ∷ []) X (length hdr + (i * (2 + size) + size)) (all_at (n - 1) (head_stands hdr size X) b.0 i (omega arith));
      last = eqb-true (get_or X (length X - 1) 0) 128 b.1;
    }

-- what is formed passes
pub formed_right : {hdr : List ℕ} {size n : ℕ} {X : List ℕ} → Formed hdr size n X → right hdr size n X ≡ true
unfolding right head_stands
formed_right {hdr} {size} {n} {X} f =
    let a = all_true (n - 1) (head_stands hdr size X) (λ i l. part-stands (13 ∷ 0 ∷ []) X (length hdr + (i * (2 + size) + size)) (f.heads i (omega arith))) in
    rw (part-stands hdr X 0 f.begins, a, eq-eqb (get_or X (length X - 1) 0) 128 f.last) refl

-- every slice is so
pub slice-formed : {f : ℕ → List ℕ} {size n : ℕ} (hdr : List ℕ) → Even f size 0 n → 0 < n → Formed hdr size n (slice_of hdr f n)
slice-formed {f} {size} {n} hdr e h =
    record { long = slice-length hdr e h; begins = slice-header hdr f n h; heads = slice-head hdr e; last = slice_last hdr f n }

-- every payload is
pub payload-formed : {mw mh : ℕ} {Ps : List Plane} (hdr : List ℕ) → Good mw mh Ps → (n : ℕ) → 0 < n → n ≤ mh * mw → Formed hdr (mb_size Ps) n (payload hdr mw Ps n)
payload-formed hdr g n h l = slice-formed hdr (mb_even g n l) h

-- the samples of macroblock i as they stand in X
unfoldable pub samples_of : List ℕ → ℕ → List ℕ → ℕ → List ℕ
samples_of hdr size X i = part X (length hdr + i * (2 + size)) size

-- what is so is a slice
pub formed-slice : {hdr : List ℕ} {size n : ℕ} {X : List ℕ} → Formed hdr size n X → 0 < n → X ≡ slice_of hdr (samples_of hdr size X) n
unfolding samples_of
formed-slice {hdr} {size} {n} {X} f h = whole (n - 1) (omega arith)
  where
    S : ℕ → List ℕ
    S = samples_of hdr size X

    M : ℕ → List ℕ
    M = macroblock hdr S

    front : (a l : ℕ) → part X 0 (a + l) ≡ part X 0 a ++ part X a l
    front a l = part-append X 0 a l ∙ ap (λ (p : ℕ). part X 0 a ++ part X p l) (zero-add a)

    go : (k : ℕ) → k < n → cat M 0 (k + 1) ≡ part X 0 (length hdr + (k * (2 + size) + size))
    go zero l =
        let p : length hdr + 0 * (2 + size) ≡ length hdr = omega arith in
        let q : length hdr + (0 * (2 + size) + size) ≡ length hdr + size = omega arith in
        cat_last M 0 0 ∙ rw (cat_none M 0, macroblock_first hdr S, p, q, front (length hdr) size, f.begins) refl
    go (suc k) l =
        let p : length hdr + (k + 1) * (2 + size) ≡ length hdr + (k * (2 + size) + size) + 2 = omega arith in
        let q : length hdr + ((k + 1) * (2 + size) + size) ≡ length hdr + (k * (2 + size) + size) + (2 + size) = omega arith in
        rw (← add-one k, q, front (length hdr + (k * (2 + size) + size)) (2 + size), part-append X (length hdr + (k * (2 + size) + size)) 2 size, f.heads k (omega arith))
        (cat_last M 0 (k + 1) ∙ rw (zero-add (k + 1), go k (omega arith), macroblock_next hdr S (k + 1) (omega arith), p) refl)

    whole : (m : ℕ) → m + 1 ≡ n → X ≡ slice_of hdr S n
    whole m e =
        let l : length X ≡ length hdr + (m * (2 + size) + size) + 1 = omega (arith, ap (λ (k : ℕ). k * (2 + size)) e) in
        let z : length X - 1 ≡ length hdr + (m * (2 + size) + size) = omega arith in
        let c : cat M 0 n ≡ part X 0 (length hdr + (m * (2 + size) + size)) = rw e at (go m (omega arith)) in
        let b : get_or X (length hdr + (m * (2 + size) + size)) 0 ≡ 128 = rw z at f.last in
        let t : part X (length hdr + (m * (2 + size) + size)) 1 ≡ 128 ∷ [] =
        part-cons X (length hdr + (m * (2 + size) + size)) 0 (omega arith) ∙ rw (b, part_none X (length hdr + (m * (2 + size) + size) + 1)) refl in
        sym (part_all X (length hdr + (m * (2 + size) + size) + 1) l) ∙ rw (front (length hdr + (m * (2 + size) + size)) 1, t, slice_is hdr S n, c) refl

-- the plane whose rows are the parts of X at the places of the grid G
abbrev pub plane_at : Grid → List ℕ → Plane
plane_at G X = record { bw = G.bw; bh = G.bh; row = λ r x. part X (place G r x) G.bw }

-- the planes of the widths and heights of Ps, the first block of which stands behind off bytes
unfoldable pub planes_from : List ℕ → ℕ → ℕ → List ℕ → List Plane → ℕ → List Plane
planes_from hdr mw size X [] off = []
planes_from hdr mw size X (P ∷ Ps) off = plane_at (grid_at hdr mw size off P) X ∷ planes_from hdr mw size X Ps (off + P.bh * P.bw)

-- those of a whole picture
abbrev pub planes_of : List ℕ → ℕ → List Plane → List ℕ → List Plane
planes_of hdr mw Ps X = planes_from hdr mw (mb_size Ps) X Ps 0

-- a block of a plane that is read from X is a part of X
block_from : (G : Grid) (X : List ℕ) (i : ℕ) → block (plane_at G X) (i / G.mw) (i % G.mw) ≡ part X (spot G i G.off) (G.bh * G.bw)
unfolding block_row
block_from G X i =
    block_is (plane_at G X) (i / G.mw) (i % G.mw)
    ∙ (cat_same (block_row (plane_at G X) (i / G.mw) (i % G.mw)) (rows_of X G.bw (spot G i G.off) G.bw) 0 0 G.bh (λ y l. same (0 + y) (omega arith))
    ∙ cat-parts X (spot G i G.off) G.bw G.bh)
  where
    same : (y : ℕ) → y < G.bh → part X (place G (i / G.mw * G.bh + y) (i % G.mw)) G.bw ≡ rows_of X G.bw (spot G i G.off) G.bw y
    same y l = rw (rows_at X G.bw (spot G i G.off) G.bw y, place-block G (i / G.mw) (i % G.mw) y l, div-add-mod' i G.mw) refl

-- and so are the samples of a macroblock
mb_from : (hdr : List ℕ) (mw size : ℕ) (X : List ℕ) (Ps : List Plane) (off i : ℕ)
    → mb (planes_from hdr mw size X Ps off) (i / mw) (i % mw) ≡ part X (length hdr + (i * (2 + size) + off)) (mb_size Ps)
unfolding planes_from spot mb_size mb
mb_from hdr mw size X [] off i = sym (part_none X (length hdr + (i * (2 + size) + off)))
mb_from hdr mw size X (P ∷ Ps) off i =
    let e : length hdr + (i * (2 + size) + (off + P.bh * P.bw)) ≡ length hdr + (i * (2 + size) + off) + P.bh * P.bw = omega arith in
    rw (block_from (grid_at hdr mw size off P) X i, mb_from hdr mw size X Ps (off + P.bh * P.bw) i, e) (sym (part-append X (length hdr + (i * (2 + size) + off)) (P.bh * P.bw) (mb_size Ps)))

-- what is formed is the payload of the planes that are read from it
pub formed-payload : {hdr : List ℕ} {n : ℕ} {X : List ℕ} (mw : ℕ) (Ps : List Plane) → Formed hdr (mb_size Ps) n X → 0 < n → X ≡ payload hdr mw (planes_of hdr mw Ps X) n
unfolding samples_of mb_at
formed-payload {hdr} {n} {X} mw Ps f h =
    formed-slice f h ∙ slice_same hdr (samples_of hdr (mb_size Ps) X) (mb_at mw (planes_of hdr mw Ps X)) n same
  where
    same : (i : ℕ) → i < n → part X (length hdr + i * (2 + mb_size Ps)) (mb_size Ps) ≡ mb (planes_of hdr mw Ps X) (i / mw) (i % mw)
    same i l = sym (rw (add-zero (i * (2 + mb_size Ps))) at (mb_from hdr mw (mb_size Ps) X Ps 0 i))

-- a plane that is read from a list of that length has all its rows
rows_from : (G : Grid) (X : List ℕ) (mh : ℕ) → length X + 1 ≡ G.lead + mh * G.mw * (2 + G.size) → G.off + G.bh * G.bw ≤ G.size
    → Rows G.mw mh (plane_at G X)
unfolding place spot
rows_from G X mh e h = record { has = λ r x a b. part_length X (place G r x) G.bw (inside r x a b) }
  where
    inside : (r x : ℕ) → r < mh * G.bh → x < G.mw → place G r x + G.bw ≤ length X
    inside r x a b =
        let y = mul-le-mul_right G.bw (low_below mh G.bh r a) in
        let l = spot_inside G X (mh * G.mw) (r / G.bh * G.mw + x) (G.off + r % G.bh * G.bw + G.bw) e (digits_lt (high_below mh G.bh r a) b) (omega arith) in
        omega arith

-- and so have the planes of a picture
pub planes_good : {hdr : List ℕ} {X : List ℕ} (mw mh : ℕ) (Ps : List Plane) → Formed hdr (mb_size Ps) (mh * mw) X → Good mw mh (planes_of hdr mw Ps X)
unfolding planes_from mb_size
planes_good {hdr} {X} mw mh Ps f = go Ps 0 (omega arith)
  where
    go : (Qs : List Plane) (off : ℕ) → off + mb_size Qs ≤ mb_size Ps → Good mw mh (planes_from hdr mw (mb_size Ps) X Qs off)
    go [] off h = none
    go (Q ∷ Qs) off h = more (rows_from (grid_at hdr mw (mb_size Ps) off Q) X mh f.long (omega arith)) (go Qs (off + Q.bh * Q.bw) (omega arith))

-- their macroblocks have as many bytes as those of Ps
pub planes-size : (hdr : List ℕ) (mw : ℕ) (Ps : List Plane) (X : List ℕ) → mb_size (planes_of hdr mw Ps X) ≡ mb_size Ps
unfolding planes_from mb_size
planes-size hdr mw Ps X = go Ps 0
  where
    go : (Qs : List Plane) (off : ℕ) → mb_size (planes_from hdr mw (mb_size Ps) X Qs off) ≡ mb_size Qs
    go [] off = refl
    go (Q ∷ Qs) off = ap (λ (k : ℕ). Q.bh * Q.bw + k) (go Qs (off + Q.bh * Q.bw))
