-- Refusal 18 is exact (paper 01, "Reading a take"): what has the length of a picture's payload and passes the test of header, heads and last byte is
-- the payload of some planes, lent whole.
--     read_out q X      the planes that stand in the payload X with their padding, stored tight
--     picture_sound     X is the payload of those planes
--     out-bytes         which are bytes where X is
-- Assumes nothing.
use Rattle.std.specs.Prelude.{◌≡◌, List, [], ◌∷◌, Bool, cond, ℕ, zero, suc, ◌+◌, ◌*◌, ◌/◌, ◌%◌, ◌≤◌, ◌<◌, get_or}
use Rattle.std.proofs.Math.Path.{refl, ap}
use Rattle.std.proofs.Common.{sym, ◌∙◌, zero-add, mul-le-mul_right, arith, ext_get_or}
use Rattle.std.proofs.Math.Bool.{true, false}
use Rattle.std.proofs.Math.Nat.{mul-le-mul}
use Rattle.std.proofs.Math.ListN.{length, get_or-eq_default}
use Rattle.std.proofs.Math.Arith.{digits_lt, digits_div, digits_mod}
use Rattle.lists.specs.Every.{Below}
use Rattle.lists.specs.Part.{part, part_at, part_length}
use Rattle.lists.specs.Test.{either}
use Rattle.ycbcr_image.specs.Form.{Form, mono, planes, block_height, block_row_bytes, block_bytes, mb_bytes, planes_few}
use Rattle.ycbcr_image.specs.Sizes.{Sequence, pic_width_in_mbs, frame_height_in_mbs}
use Rattle.ycbcr_image.specs.Accepted.{Fine}
use Rattle.slice.specs.Digits.{high_below, low_below}
use Rattle.slice.specs.Cat.{cat_same, tab, tab_at}
use Rattle.slice.specs.Layout.{Plane, block_row, block, block_is, mb, mb_at, mb_size, payload, slice_same, Good, more}
use Rattle.slice.specs.Grid.{Grid, place, pos_of, tight_of, tight-length, grid_at}
use Rattle.slice.specs.Formed.{Formed, right, right_formed, plane_at, planes_from, planes_of, formed-payload, planes_good}
use Rattle.slice.specs.Header.{header_of, header_is}
use Rattle.slice.specs.Picture.{Lend, Lends, lend_at, plane_in, planes_in, mbs_in, picture_of, picture_length, grid_in, off_in, Whole, size}

-- planes whose rows are those that stand in X at their places, the first block behind off bytes; a row that X does not hold whole may be any
pub data Out (hdr : List ℕ) (mw mh size : ℕ) (X : List ℕ) : ℕ → List Plane → Type 0 where
  nil : {off : ℕ} → Out hdr mw mh size X off []
  cons : {off : ℕ} {P : Plane} {Ps : List Plane}
      → ((r x : ℕ) → r < mh * P.bh → x < mw → length (part X (place (grid_at hdr mw size off P) r x) P.bw) ≡ P.bw → P.row r x ≡ part X (place (grid_at hdr mw size off P) r x) P.bw)
      → Out hdr mw mh size X (off + P.bh * P.bw) Ps → Out hdr mw mh size X off (P ∷ Ps)

-- they have the macroblocks of the planes that are read from X
out-mb : {hdr : List ℕ} {mw mh size : ℕ} {X : List ℕ} {off : ℕ} {Ps : List Plane} → Out hdr mw mh size X off Ps → Good mw mh (planes_from hdr mw size X Ps off)
    → (my mx : ℕ) → my < mh → mx < mw → mb (planes_from hdr mw size X Ps off) my mx ≡ mb Ps my mx
unfolding planes_from mb block_row
out-mb nil g my mx h l = refl
out-mb {hdr} {mw} {mh} {size} {X} {off} (cons {P = P} {Ps = Ps} o os) (more g gs) my mx h l =
    let Q : Plane = plane_at (grid_at hdr mw size off P) X in
    let same : block Q my mx ≡ block P my mx
    = block_is Q my mx
    ∙ (cat_same (block_row Q my mx) (block_row P my mx) 0 0 P.bh
    (λ y k. let b : my * P.bh + (0 + y) < mh * P.bh = omega (arith, mul-le-mul_right P.bh h) in sym (o (my * P.bh + (0 + y)) mx b l (g.has (my * P.bh + (0 + y)) mx b l)))
    ∙ sym (block_is P my mx)) in
    rw (same, out-mb os gs my mx h l) refl

-- so a formed list is their payload
pub out-payload : {hdr : List ℕ} {mw mh : ℕ} {X : List ℕ} {Ps : List Plane} → Formed hdr (mb_size Ps) (mh * mw) X → 0 < mh * mw → Out hdr mw mh (mb_size Ps) X 0 Ps
    → X ≡ payload hdr mw Ps (mh * mw)
unfolding mb_at
out-payload {hdr} {mw} {mh} {X} {Ps} f h o =
    formed-payload mw Ps f h ∙ slice_same hdr (mb_at mw (planes_of hdr mw Ps X)) (mb_at mw Ps) (mh * mw)
    (λ i l. out-mb o (planes_good mw mh Ps f) (i / mw) (i % mw) (high_below mh mw i l) (low_below mh mw i l))

-- the byte at row r and place c of a plane that is read out of X, stored tight
tight_at : (G : Grid) (X : List ℕ) (vb vh r c : ℕ) → r < vh → c < vb → get_or (tight_of G X vb vh) (r * vb + c) 0 ≡ get_or X (place G r (c / G.bw) + c % G.bw) 0
unfolding tight_of pos_of
tight_at G X vb vh r c h l = tab_at (λ j. get_or X (pos_of G vb j) 0) 0 (vh * vb) (r * vb + c) (digits_lt h l) ∙ rw (zero-add (r * vb + c), digits_div r l, digits_mod r l) refl

-- a row of a block in the plane of m block columns that is read out of X, stored tight
tight-row : (G : Grid) (X : List ℕ) (m vh r x : ℕ) → r < vh → x < m → length (part X (place G r x) G.bw) ≡ G.bw
    → part (tight_of G X (m * G.bw) vh) (r * (m * G.bw) + x * G.bw) G.bw ≡ part X (place G r x) G.bw
tight-row G X m vh r x h l e = ext_get_or 0 _ _ (long ∙ sym e) go
  where
    vb : ℕ
    vb = m * G.bw

    T : List ℕ
    T = tight_of G X vb vh

    long : length (part T (r * vb + x * G.bw) G.bw) ≡ G.bw
    long = part_length T (r * vb + x * G.bw) G.bw (omega (arith, tight-length G X vb vh, mul-le-mul_right vb h, mul-le-mul_right G.bw l))

    go : (i : ℕ) → i < length (part T (r * vb + x * G.bw) G.bw) → get_or (part T (r * vb + x * G.bw) G.bw) i 0 ≡ get_or (part X (place G r x) G.bw) i 0
    go i b =
        let k : i < G.bw = rw long at b in
        let c : x * G.bw + i < vb = digits_lt l k in
        let s : r * vb + x * G.bw + i ≡ r * vb + (x * G.bw + i) = omega arith in
        part_at T (r * vb + x * G.bw) G.bw i k
        ∙ (ap (λ (j : ℕ). get_or T j 0) s
        ∙ (tight_at G X vb vh r (x * G.bw + i) h c
        ∙ rw (digits_div x k, digits_mod x k) (sym (part_at X (place G r x) G.bw i k))))

-- plane p in the payload X, with its padding
unfoldable pub plane_out : Sequence → ℕ → List ℕ → Lend
plane_out q p X =
    record {
      bytes = tight_of (grid_in q p) X (pic_width_in_mbs q * block_row_bytes q.form p) (frame_height_in_mbs q * block_height q.form p);
      stride = pic_width_in_mbs q * block_row_bytes q.form p;
    }

abbrev pub read_out : Sequence → List ℕ → Lends
read_out q X = record { y = plane_out q 0 X; cb = plane_out q 1 X; cr = plane_out q 2 X }

out_is : (q : Sequence) (X : List ℕ) (p : ℕ) → p < planes q.form → lend_at (read_out q X) p ≡ plane_out q p X
out_is q X zero l = refl
out_is q X (suc zero) l = refl
out_is q X (suc (suc zero)) l = refl
out_is q X (suc (suc (suc p))) l = absurd (omega (arith, planes_few q.form))

-- each plane is lent whole
pub out_whole : (q : Sequence) (X : List ℕ) → Whole q (read_out q X)
unfolding plane_out
out_whole q X =
    record {
      across = λ p l. rw (out_is q X p l) (omega arith);
      down = λ p l. rw (out_is q X p l) (omega (arith, tight-length (grid_in q p) X (pic_width_in_mbs q * block_row_bytes q.form p) (frame_height_in_mbs q * block_height q.form p)));
    }

-- and of bytes, where X is

-- each plane that the form has holds bytes
pub record Bytes (q : Sequence) (L : Lends) : Type 0 where
  pub each : (p : ℕ) → p < planes q.form → Below 256 (lend_at L p).bytes

tight_below : (G : Grid) (X : List ℕ) (vb vh : ℕ) → Below 256 X → Below 256 (tight_of G X vb vh)
unfolding tight_of
tight_below G X vb vh b = record { at = λ j. either (vh * vb) j (past j) (inside j) }
  where
    T : List ℕ
    T = tab (λ j. get_or X (pos_of G vb j) 0) 0 (vh * vb)

    past : (j : ℕ) → vh * vb ≤ j → get_or T j 0 < 256
    past j h = rw (get_or-eq_default T 0 {n = j} (omega (arith, tight-length G X vb vh))) (omega arith)

    inside : (j : ℕ) → j < vh * vb → get_or T j 0 < 256
    inside j h = rw (tab_at (λ j. get_or X (pos_of G vb j) 0) 0 (vh * vb) j h) (b.at (pos_of G vb (0 + j)))

pub out-bytes : (q : Sequence) (X : List ℕ) → Below 256 X → Bytes q (read_out q X)
unfolding plane_out
out-bytes q X b = record { each = λ p l. rw (out_is q X p l) (tight_below (grid_in q p) X _ _ b) }

module _ (q : Sequence) (X : List ℕ) (g : Fine q) where
  abbrev f : Form
  f = q.form

  abbrev L : Lends
  L = read_out q X

  abbrev mw : ℕ
  mw = pic_width_in_mbs q

  abbrev mh : ℕ
  mh = frame_height_in_mbs q

  -- the rows of plane p stand in X at their places
  rows : (p off : ℕ) → off ≡ off_in f p → (r x : ℕ) → r < mh * block_height f p → x < mw
      → length (part X (place (grid_at (header_of 0 0) mw (mb_bytes f) off (plane_in f p (plane_out q p X))) r x) (block_row_bytes f p)) ≡ block_row_bytes f p
      → (plane_in f p (plane_out q p X)).row r x ≡ part X (place (grid_at (header_of 0 0) mw (mb_bytes f) off (plane_in f p (plane_out q p X))) r x) (block_row_bytes f p)
  unfolding plane_out
  rows p off e r x h l =
      let same : grid_at (header_of 0 0) mw (mb_bytes f) off (plane_in f p (plane_out q p X)) ≡ grid_in q p = rw (e, header_is) refl in
      rw same (tight-row (grid_in q p) X mw (mh * block_height f p) r x h l)

  -- and so the planes that the form has are read out
  outs : Out (header_of 0 0) mw mh (mb_bytes f) X 0 (planes_in f L)
  unfolding planes_in block_bytes
  outs = go (mono f)
    where
      go : (b : Bool) → Out (header_of 0 0) mw mh (mb_bytes f) X 0 (cond b (plane_in f 0 L.y ∷ []) (plane_in f 0 L.y ∷ plane_in f 1 L.cb ∷ plane_in f 2 L.cr ∷ []))
      go true = cons (rows 0 0 refl) nil
      go false = cons (rows 0 0 refl) (cons (rows 1 (0 + block_height f 0 * block_row_bytes f 0) (omega arith)) (cons (rows 2 (0 + block_height f 0 * block_row_bytes f 0 + block_height f 1 * block_row_bytes f 1) (omega arith)) nil))

  -- what has the length and passes the test of 18 is the payload of planes that are lent whole
  pub picture_sound : Below 256 X → length X ≡ picture_length q → right (header_of 0 0) (mb_bytes f) (mbs_in q) X ≡ true
      → (L : Lends) × Whole q L × Bytes q L × (X ≡ picture_of q L)
  unfolding picture_of picture_length
  picture_sound b l t =
      let w : Whole q L = out_whole q X in
      let z = size q L g w in
      let m = mul-le-mul g.down_low g.across-low in
      let n : length (header_of 0 0) ≡ 4 = ap length header_is in
      let d : Formed (header_of 0 0) (mb_bytes f) (mbs_in q) X = right_formed (header_of 0 0) (mb_bytes f) (mbs_in q) X (omega arith) t in
      (L, w, out-bytes q X b, out-payload (rw z d) (omega arith) (rw z outs))
