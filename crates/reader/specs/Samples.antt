-- Laws of taking a picture's visible samples by the places of its unit, for the code.
--     RowsTook, RowsTaking      rows that were taken into a plane, and the place behind them; rows that are being taken
--     shown-high, shown-row     what is visible of a plane reaches into each of its blocks
--     BlockBy, BlockTook        a block by the numbers that the code has; what is visible of it was taken
--     head_place, block_place   where a macroblock's head begins in the payload, and the block of a plane in it
--     Steps, MbsTook            what is visible of some macroblocks was taken into a plane, into the three
--     RowStands, band_steps     a row of macroblocks without inserted bytes, and what is visible of a plane in it
--     IsDark, DarkRow           one all samples of which are zero; that it was found to be one; dark_steps: what is visible of a plane in it
--     MbsTaking                 macroblocks that are being taken
--     PlanesTook                the planes begin with the visible samples, stored tight, and are what they were behind them
-- Assumes nothing.
use Rattle.std.specs.Prelude.{◌≡◌, refl, List, ◌++◌, ℕ, zero, suc, ◌+◌, ◌-◌, ◌*◌, ◌/◌, ◌%◌, ◌≤◌, ◌<◌, min, true, false, eqb, length, drop, get_or, replicate}
use Rattle.std.proofs.Common.{sym, ap, ◌∙◌, length-drop, zero-mul, add-mul, mul-le-mul, mul-le-mul_left, mul-le-mul_right, div-add-mod', arith, inl, inr}
use Rattle.std.proofs.Math.Arith.{digits_lt}
use Rattle.std.proofs.lemmas.List.{length-replicate, get_or-replicate}
use Rattle.lists.specs.Fill.{splice, splice-length}
use Rattle.lists.specs.Part.{part, part_at}
use Rattle.lists.specs.Test.{either}
use Rattle.nal_unit.specs.Kept.{kept, ins_count, kept_room}
use Rattle.nal_unit.specs.Taking.{Passed, Took, Stands, stands-pass, stands_room, stands-took, stands_stretch, stands-calm}
use Rattle.slice.specs.Filling.{Filled, fill-skip, Fills, fills_none, fills_more}
use Rattle.slice.specs.Cat.{cat, cat-length}
use Rattle.slice.specs.Laid.{Laid, laid-length}
use Rattle.slice.specs.Grid.{spot, pos_of, tight_of}
use Rattle.slice.specs.Blocks.{Fit, fill_first, fill-block, fill_last}
use Rattle.slice.specs.Picture.{mbs_in, picture_length, grid_in, off_in, samples_in}
use Rattle.ycbcr_image.specs.Form.{Form, mono, in_plane, planes, planes_some, planes-colour, block_width, block_height, block_row_bytes, block_bytes, mb_bytes, block-high_most, bytes-eight, bytes_twelve}
use Rattle.ycbcr_image.specs.Sizes.{Sequence, next_high, pic_width_in_mbs, frame_height_in_mbs, visible_width, visible_height, visible_row_bytes, padded_width, padded_height, tight_length}
use Rattle.ycbcr_image.specs.Accepted.{Fine, payload_most, tight_most}
use Rattle.reader.specs.Heads.{payload_at}
use Rattle.reader.specs.Bands.{Banded, Shown, Band, lines_of, lines_even, band_in, lines_are, dark_are, band_filled}

-- h rows of bw bytes of the payload from its byte n on were taken, the first w bytes of each, into a plane that held d and holds d'; r is the place behind them
pub record RowsTook (s : List ℕ) (o e n : ℕ) (d : List ℕ) (a w bw step h : ℕ) (d' : List ℕ) (r : ℕ) : Type 0 where
  pub fills : Fills (payload_at s o e) d d' n a w bw step h
  pub at : Stands s e (payload_at s o e) (n + h * bw) r

-- y of the h rows are taken
pub record RowsTaking (s : List ℕ) (o e n : ℕ) (d : List ℕ) (a w bw step h : ℕ) (out : List ℕ) (q at y : ℕ) : Type 0 where
  pub took : RowsTook s o e n d a w bw step y out q
  pub within : y ≤ h
  pub place : at ≡ a + y * step
  pub narrow : w ≤ bw
  pub there : n + h * bw ≤ length (payload_at s o e)
  pub room : a + h * step + w ≤ length d + step

pub rows_start : {s : List ℕ} {o e n p : ℕ} (d : List ℕ) (a w bw step h : ℕ) → Stands s e (payload_at s o e) n p → w ≤ bw → n + h * bw ≤ length (payload_at s o e)
    → a + h * step + w ≤ length d + step → RowsTaking s o e n d a w bw step h d p a 0
rows_start {s} {o} {e} {n} d a w bw step h g i l k =
    let z : n + 0 * bw ≡ n = omega arith in
    record { took = record { fills = fills_none (payload_at s o e) d n a w bw step; at = rw z g }; within = omega arith; place = omega arith; narrow = i; there = l; room = k }

-- the next row is there, and has room
pub rows_there : {s : List ℕ} {o e n : ℕ} {d : List ℕ} {a w bw step h : ℕ} {out : List ℕ} {q at y : ℕ} → RowsTaking s o e n d a w bw step h out q at y → y < h
    → n + y * bw + bw ≤ length (payload_at s o e)
rows_there {bw = bw} {h = h} {y = y} g l = omega (arith, g.there, mul-le-mul_right bw l)

pub rows-kept : {s : List ℕ} {o e n : ℕ} {d : List ℕ} {a w bw step h : ℕ} {out : List ℕ} {q at y : ℕ} → RowsTaking s o e n d a w bw step h out q at y → y < h
    → w ≤ length (kept s q e)
rows-kept {w = w} g l = stands_room w g.took.at (omega (arith, g.narrow, rows_there g l))

pub rows_room : {s : List ℕ} {o e n : ℕ} {d : List ℕ} {a w bw step h : ℕ} {out : List ℕ} {q at y : ℕ} → RowsTaking s o e n d a w bw step h out q at y → y < h
    → at + w ≤ length out
rows_room {step = step} {y = y} g l = omega (arith, g.place, g.room, g.took.fills.long, mul-le-mul_right step l)

-- behind its first w bytes
pub rows_cut : {s : List ℕ} {o e n : ℕ} {d : List ℕ} {a w bw step h : ℕ} {out : List ℕ} {q at y : ℕ} {out' : List ℕ} {r : ℕ} → RowsTaking s o e n d a w bw step h out q at y
    → Took s q e w out at out' r → Stands s e (payload_at s o e) (n + y * bw + w) r
rows_cut g t = stands-pass g.took.at t.place

pub rows_rest : {s : List ℕ} {o e n : ℕ} {d : List ℕ} {a w bw step h : ℕ} {out : List ℕ} {q at y : ℕ} {out' : List ℕ} {r : ℕ} → RowsTaking s o e n d a w bw step h out q at y → y < h
    → Took s q e w out at out' r → bw - w ≤ length (kept s r e)
rows_rest {w = w} {bw = bw} g l t = stands_room (bw - w) (rows_cut g t) (omega (arith, g.narrow, rows_there g l))

pub rows_turn : {s : List ℕ} {o e n : ℕ} {d : List ℕ} {a w bw step h : ℕ} {out : List ℕ} {q at y : ℕ} {out' : List ℕ} {r u : ℕ} → RowsTaking s o e n d a w bw step h out q at y → y < h
    → Took s q e w out at out' r → Passed s r e (bw - w) u → RowsTaking s o e n d a w bw step h out' u (at + step) (y + 1)
rows_turn {s} {o} {e} {n} {d} {a} {w} {bw} {step} {h} {out} {q} {at} {y} {out'} g l t v =
    let X = payload_at s o e in
    let k : n + y * bw + w + (bw - w) ≡ n + (y + 1) * bw = omega (arith, g.narrow) in
    let b : out' ≡ splice out (a + y * step) (part X (n + y * bw) w) = stands-took g.took.at t ∙ rw g.place refl in
    let m = rows_there g l in
    let i = rows_room g l in
    record {
      took = record { fills = rw b (fills_more (omega (arith, g.narrow)) (omega (arith, g.place)) g.took.fills); at = rw k at (stands-pass (rows_cut g t) v) };
      within = omega arith;
      place = omega (arith, g.place);
      narrow = g.narrow;
      there = g.there;
      room = g.room;
    }

pub rows_end : {s : List ℕ} {o e n : ℕ} {d : List ℕ} {a w bw step h : ℕ} {out : List ℕ} {q at y : ℕ} → RowsTaking s o e n d a w bw step h out q at y → h ≤ y
    → RowsTook s o e n d a w bw step h out q
rows_end {h = h} {y = y} g l = let e : h ≡ y = omega (arith, g.within) in rw e g.took

-- what is visible of a plane reaches into each of its blocks
pub shown-high : {q : Sequence} → Fine q → (p my : ℕ) → p < planes q.form → my < frame_height_in_mbs q → my * block_height q.form p < visible_height q p
unfolding padded_height
shown-high {q} g p my l h =
    let b : 0 < block_height q.form p = omega (arith, (g.present p l).block-high) in
    omega (arith, (g.plane p).high, next_high (visible_height q p) (block_height q.form p) b, mul-le-mul_right (block_height q.form p) h)

shown-wide : {q : Sequence} → Fine q → (p mx : ℕ) → p < planes q.form → mx < pic_width_in_mbs q → mx * block_width q.form p < visible_width q p
unfolding padded_width
shown-wide {q} g p mx l h =
    let b : 0 < block_width q.form p = omega (arith, (g.present p l).block-wide) in
    omega (arith, (g.plane p).wide, next_high (visible_width q p) (block_width q.form p) b, mul-le-mul_right (block_width q.form p) h)

pub shown-row : {q : Sequence} → Fine q → (p mx : ℕ) → p < planes q.form → mx < pic_width_in_mbs q → mx * block_row_bytes q.form p < visible_row_bytes q p
unfolding block_row_bytes visible_row_bytes
shown-row {q} g p mx l h =
    let a = shown-wide g p mx l h in
    let b = block_width q.form p in
    elim g.known.depth [
      | inl e ↦ rw (bytes-eight q.form b e, bytes-eight q.form (visible_width q p) e) a
      | inr e ↦ rw (bytes_twelve q.form b e, bytes_twelve q.form (visible_width q p) e) (let c : b * 3 / 2 * 2 ≤ b * 3 = omega arith in let d = mul-le-mul_left mx c in omega arith)
    ]

-- The visible rows of plane p's block in macroblock row my and column mx, which stands in the payload from its byte n on, were taken into a plane that held d
-- and holds d'; r is the place behind the block.
pub record BlockTook (s : List ℕ) (o e n : ℕ) (q : Sequence) (p my mx : ℕ) (d d' : List ℕ) (r : ℕ) : Type 0 where
  pub fills : Fills (payload_at s o e) d d' n (my * block_height q.form p * visible_row_bytes q p + mx * block_row_bytes q.form p)
      (min (block_row_bytes q.form p) (visible_row_bytes q p - mx * block_row_bytes q.form p)) (block_row_bytes q.form p) (visible_row_bytes q p)
      (min (block_height q.form p) (visible_height q p - my * block_height q.form p))
  pub at : Stands s e (payload_at s o e) (n + block_bytes q.form p) r

-- the numbers of such a block, as the code has them: bw bytes by bh rows, of a plane of which vh rows of vb bytes are visible; w and h are what is visible of the block
pub record BlockBy (q : Sequence) (p my mx bw bh vb vh : ℕ) : Type 0 where
  pub row : bw ≡ block_row_bytes q.form p
  pub rows : bh ≡ block_height q.form p
  pub wide : vb ≡ visible_row_bytes q p
  pub high : vh ≡ visible_height q p
  pub across : mx * bw < vb
  pub down : my * bh < vh
  pub wide_most : vb ≤ 24576
  pub high_most : vh ≤ 16384
  pub tight : vh * vb ≡ tight_length q p
  pub tight_few : vh * vb ≤ 402653184
  pub bytes : bh * bw ≡ block_bytes q.form p
  pub row_most : bw ≤ 24
  pub rows_most : bh ≤ 16

pub block_by : {q : Sequence} {bw bh vb vh : ℕ} → Fine q → (p my mx : ℕ) → p < planes q.form → my < frame_height_in_mbs q → mx < pic_width_in_mbs q
    → bw ≡ block_row_bytes q.form p → bh ≡ block_height q.form p → vb ≡ visible_row_bytes q p → vh ≡ visible_height q p → BlockBy q p my mx bw bh vb vh
unfolding tight_length block_bytes
block_by {q} g p my mx l h k a b c d =
    let f = g.plane p in
    record {
      row = a;
      rows = b;
      wide = c;
      high = d;
      across = rw (a, c) (shown-row g p mx l k);
      down = rw (b, d) (shown-high g p my l h);
      wide_most = rw c (omega (arith, f.visible-row, f.row_most));
      high_most = rw d (omega (arith, f.visible-high, f.high_most));
      tight = rw (c, d) refl;
      tight_few = rw (c, d) (tight_most g p);
      bytes = rw (a, b) refl;
      row_most = rw a f.block-row_most;
      rows_most = rw b (block-high_most q.form p);
    }

-- the rows and where they are stored have their place
pub record Taking (bw bh vb vh my mx w h n at len out : ℕ) : Type 0 where
  pub narrow : w ≤ bw
  pub there : n + h * bw ≤ len
  pub room : at + h * vb + w ≤ out + vb
  pub rows : h * vb ≤ out

pub taking : {q : Sequence} {p my mx bw bh vb vh : ℕ} (w h n len out : ℕ) → BlockBy q p my mx bw bh vb vh → w ≡ min bw (vb - mx * bw) → h ≡ min bh (vh - my * bh)
    → n + block_bytes q.form p ≤ len → tight_length q p ≤ out → Taking bw bh vb vh my mx w h n (my * bh * vb + mx * bw) len out
taking {q} {p} {my} {mx} {bw} {bh} {vb} {vh} w h n len out g e f l k =
    let a : h ≤ bh = omega arith in
    let b : my * bh + h ≤ vh = omega (arith, g.down) in
    let c = mul-le-mul_right bw a in
    let d : (my * bh + h) * vb ≤ vh * vb = mul-le-mul_right vb b in
    let x : (my * bh + h) * vb ≡ my * bh * vb + h * vb = omega arith in
    record {
      narrow = omega arith;
      there = omega (arith, g.bytes);
      room = omega (arith, g.tight, g.across);
      rows = omega (arith, g.tight);
    }

-- the rest of the block is passed
rest_bytes : (bh bw h : ℕ) → h ≤ bh → h * bw + (bh - h) * bw ≡ bh * bw
rest_bytes bh bw h l = let e : h + (bh - h) ≡ bh = omega arith in sym (add-mul h (bh - h) bw) ∙ ap (λ (k : ℕ). k * bw) e

pub rest_most : {q : Sequence} {p my mx bw bh vb vh h : ℕ} → BlockBy q p my mx bw bh vb vh → h ≡ min bh (vh - my * bh) → (bh - h) * bw ≤ 384
rest_most {bw = bw} {bh = bh} {h = h} g f = let a : bh - h ≤ 16 = omega (arith, g.rows_most) in mul-le-mul a g.row_most

pub rest_there : {q : Sequence} {p my mx bw bh vb vh h : ℕ} {s : List ℕ} {o e n : ℕ} {d : List ℕ} {a w : ℕ} {d' : List ℕ} {r : ℕ} → BlockBy q p my mx bw bh vb vh → h ≡ min bh (vh - my * bh)
    → n + block_bytes q.form p ≤ length (payload_at s o e) → RowsTook s o e n d a w bw vb h d' r → (bh - h) * bw ≤ length (kept s r e)
rest_there {bw = bw} {bh = bh} {h = h} g f l t =
    let a : h ≤ bh = omega arith in
    stands_room ((bh - h) * bw) t.at (omega (arith, rest_bytes bh bw h a, g.bytes))

pub block-took : {q : Sequence} {p my mx bw bh vb vh w h : ℕ} {s : List ℕ} {o e n : ℕ} {d d' : List ℕ} {r u : ℕ} → BlockBy q p my mx bw bh vb vh → w ≡ min bw (vb - mx * bw) → h ≡ min bh (vh - my * bh)
    → RowsTook s o e n d (my * bh * vb + mx * bw) w bw vb h d' r → Passed s r e ((bh - h) * bw) u → BlockTook s o e n q p my mx d d' u
block-took {q} {p} {my} {mx} {bw} {bh} {vb} {vh} {w} {h} {n = n} g e f t v =
    let a : h ≤ bh = omega arith in
    let x : n + h * bw + (bh - h) * bw ≡ n + block_bytes q.form p = omega (arith, rest_bytes bh bw h a, g.bytes) in
    record {
      fills = rw (e, f, g.row, g.rows, g.wide, g.high) at t.fills;
      at = rw x at (stands-pass t.at v);
    }

-- The plane p of a picture of the size q was d, holds out, and has what is visible of the macroblocks before the macroblock i of the payload X.
abbrev pub FilledTo : Sequence → ℕ → List ℕ → List ℕ → List ℕ → ℕ → Type 0
FilledTo q p X d out i = Filled d X (pos_of (grid_in q p) (visible_row_bytes q p)) (visible_height q p * visible_row_bytes q p) out (spot (grid_in q p) i 0)

-- what is visible of the macroblocks from i to j was taken
pub record Steps (q : Sequence) (p : ℕ) (X : List ℕ) (i j : ℕ) (out out' : List ℕ) : Type 0 where
  pub long : length out' ≡ length out
  pub step : {d : List ℕ} → FilledTo q p X d out i → FilledTo q p X d out' j

pub steps_none : (q : Sequence) (p : ℕ) (X : List ℕ) (i : ℕ) (out : List ℕ) → Steps q p X i i out out
steps_none q p X i out = record { long = refl; step = λ f. f }

pub steps_more : {q : Sequence} {p : ℕ} {X : List ℕ} {i j k : ℕ} {a b c : List ℕ} → Steps q p X i j a b → Steps q p X j k b c → Steps q p X i k a c
steps_more g h = record { long = h.long ∙ g.long; step = λ f. h.step (g.step f) }

-- the planes have room for what is visible
pub record Rooms (q : Sequence) (y cb cr : List ℕ) : Type 0 where
  pub in_y : tight_length q 0 ≤ length y
  pub in_cb : tight_length q 1 ≤ length cb
  pub in_cr : tight_length q 2 ≤ length cr

-- what stands before the samples of macroblock i begins at this byte of the payload: 0D 00, or of the first the last two bytes of the header
unfoldable pub head_place : Sequence → ℕ → ℕ
head_place q i = 2 + i * (2 + mb_bytes q.form)

-- the samples of plane k's block in it begin at this one
abbrev pub block_place : Sequence → ℕ → ℕ → ℕ
block_place q i k = head_place q i + 2 + off_in q.form k

-- What is visible of the macroblocks from i to j was taken into the planes, and r is the place behind them.
pub record MbsTook (s : List ℕ) (o e : ℕ) (q : Sequence) (i j : ℕ) (y y' cb cb' cr cr' : List ℕ) (r : ℕ) : Type 0 where
  pub in_y : Steps q 0 (payload_at s o e) i j y y'
  pub in_cb : Steps q 1 (payload_at s o e) i j cb cb'
  pub in_cr : Steps q 2 (payload_at s o e) i j cr cr'
  pub at : Stands s e (payload_at s o e) (head_place q j) r

-- the bytes before a plane's block and the block lie in the macroblock
fits : {q : Sequence} → Fine q → (p : ℕ) → p < 3 → Fit (grid_in q p) (frame_height_in_mbs q) (visible_row_bytes q p) (visible_height q p)
unfolding block_bytes
fits {q} g zero l = record { wide = omega (arith, (g.plane 0).row, (g.plane 0).visible-row); high = omega (arith, (g.plane 0).high, (g.plane 0).visible-high); within = omega (arith, g.known.mb-blocks) }
fits {q} g (suc zero) l = record { wide = omega (arith, (g.plane 1).row, (g.plane 1).visible-row); high = omega (arith, (g.plane 1).high, (g.plane 1).visible-high); within = omega (arith, g.known.mb-blocks) }
fits {q} g (suc (suc zero)) l = record { wide = omega (arith, (g.plane 2).row, (g.plane 2).visible-row); high = omega (arith, (g.plane 2).high, (g.plane 2).visible-high); within = omega (arith, g.known.mb-blocks) }
fits {q} g (suc (suc (suc p))) l = absurd (omega arith)

-- a block that was taken
pub block-steps : {s : List ℕ} {o e n : ℕ} {q : Sequence} {d d' : List ℕ} {r : ℕ} → Fine q → (p my mx : ℕ) → p < 3 → p < planes q.form → my < frame_height_in_mbs q → mx < pic_width_in_mbs q
    → n ≡ spot (grid_in q p) (my * pic_width_in_mbs q + mx) (off_in q.form p) → BlockTook s o e n q p my mx d d' r
    → Steps q p (payload_at s o e) (my * pic_width_in_mbs q + mx) (my * pic_width_in_mbs q + mx + 1) d d'
block-steps {q = q} g p my mx l m h k e t =
    record { long = t.fills.long; step = λ f. fill-block (fits g p l) my mx _ _ (shown-high g p my m h) (shown-row g p mx m k) refl refl (rw e at t.fills) f }

-- the macroblock is there, with a byte behind it
pub mb_there : {q : Sequence} (X : List ℕ) → Fine q → length X ≡ picture_length q → (my mx : ℕ) → my < frame_height_in_mbs q → mx < pic_width_in_mbs q
    → head_place q (my * pic_width_in_mbs q + mx) + 2 + mb_bytes q.form < length X
unfolding head_place picture_length
mb_there {q} X g l my mx h k =
    let i : my * pic_width_in_mbs q + mx < mbs_in q = digits_lt h k in
    omega (arith, l, mul-le-mul_right (2 + mb_bytes q.form) i)

-- the bytes of its blocks
pub blocks_all : {q : Sequence} → Fine q → block_bytes q.form 0 + (block_bytes q.form 1 + block_bytes q.form 2) ≡ mb_bytes q.form
blocks_all g = sym g.known.mb-blocks

-- so each is there
pub block-there : {q : Sequence} (X : List ℕ) → Fine q → length X ≡ picture_length q → (k my mx : ℕ) → k < 3 → my < frame_height_in_mbs q → mx < pic_width_in_mbs q
    → block_place q (my * pic_width_in_mbs q + mx) k + block_bytes q.form k ≤ length X
block-there X g l zero my mx m h w = omega (arith, mb_there X g l my mx h w, blocks_all g)
block-there X g l (suc zero) my mx m h w = omega (arith, mb_there X g l my mx h w, blocks_all g)
block-there X g l (suc (suc zero)) my mx m h w = omega (arith, mb_there X g l my mx h w, blocks_all g)
block-there X g l (suc (suc (suc k))) my mx m h w = absurd (omega arith)

-- monochrome has no chroma: nothing of it is to be taken
pub nothing-taken : {q : Sequence} {X : List ℕ} (p i m : ℕ) (out : List ℕ) → mono q.form ≡ true → Steps q (suc p) X i (i + m) out out
unfolding visible_height in_plane spot
nothing-taken {q} p i m out e =
    record { long = refl; step = λ f. fill-skip (record { on = omega arith; none = λ j l a b. let z : j < 0 = rw (e, zero-mul (visible_row_bytes q (suc p))) at l in omega arith }) f }

no_bytes : (f : Form) (p : ℕ) → mono f ≡ true → block_bytes f (suc p) ≡ 0
unfolding block_bytes block_height in_plane
no_bytes f p e = rw (e, zero-mul (block_row_bytes f (suc p))) refl

-- a block's bytes by the numbers that the code has
pub bytes_as : (f : Form) (p : ℕ) {h w : ℕ} → h ≡ block_height f p → w ≡ block_row_bytes f p → h * w ≡ block_bytes f p
unfolding block_bytes
bytes_as f p a b = rw (a, b) refl

pub bytes_most : {q : Sequence} → Fine q → (p : ℕ) {h w : ℕ} → h ≡ block_height q.form p → w ≡ block_row_bytes q.form p → h * w ≤ 384
bytes_most {q} g p a b = rw (a, b) (mul-le-mul (block-high_most q.form p) (g.plane p).block-row_most)

-- the byte of the payload that stands at a place
pub place_byte : {s : List ℕ} {e : ℕ} {X : List ℕ} {n p : ℕ} → Stands s e X n p → n ≤ length X → length X - length (kept s p e) ≡ n
place_byte {X = X} {n = n} g l = omega (arith, ap length g.left, length-drop n X)

pub rows-took_as : {s : List ℕ} {o e n m : ℕ} {d : List ℕ} {a w bw step h : ℕ} {d' : List ℕ} {r : ℕ} → n ≡ m → RowsTook s o e n d a w bw step h d' r → RowsTook s o e m d a w bw step h d' r
rows-took_as e t = rw e at t

-- a place by an equal number
pub stands_as : {s : List ℕ} {e : ℕ} {X : List ℕ} {n m p : ℕ} → n ≡ m → Stands s e X n p → Stands s e X m p
stands_as e g = rw e at g

pub stands_at : {s : List ℕ} {e : ℕ} {X : List ℕ} {n p r : ℕ} → p ≡ r → Stands s e X n p → Stands s e X n r
stands_at e g = rw e at g

pub calm_as : (s : List ℕ) (p : ℕ) {m n : ℕ} → m ≡ n → eqb (ins_count s p (p + m)) 0 ≡ true → eqb (ins_count s p (p + n)) 0 ≡ true
calm_as s p e t = rw e at t

-- colour has three planes
pub in_colour : (f : Form) (p : ℕ) → mono f ≡ false → p < 3 → p < planes f
in_colour f p e l = rw (planes-colour f e) l

-- where a block begins, by the grid
block_spot : (q : Sequence) (i k : ℕ) → block_place q i k ≡ spot (grid_in q k) i (off_in q.form k)
unfolding head_place spot
block_spot q i k = omega arith

-- the macroblock was taken: in monochrome its one block, in colour its three
pub mono-took : {s : List ℕ} {o e : ℕ} {q : Sequence} {y y' : List ℕ} {r : ℕ} (cb cr : List ℕ) → Fine q → mono q.form ≡ true → (my mx : ℕ) → my < frame_height_in_mbs q → mx < pic_width_in_mbs q
    → BlockTook s o e (block_place q (my * pic_width_in_mbs q + mx) 0) q 0 my mx y y' r
    → MbsTook s o e q (my * pic_width_in_mbs q + mx) (my * pic_width_in_mbs q + mx + 1) y y' cb cb cr cr r
unfolding head_place
mono-took {q = q} cb cr g m my mx h k t =
    let i : ℕ = my * pic_width_in_mbs q + mx in
    let z : block_place q i 0 + block_bytes q.form 0 ≡ head_place q (i + 1) = omega (arith, blocks_all g, no_bytes q.form 0 m, no_bytes q.form 1 m) in
    record {
      in_y = block-steps g 0 my mx (omega arith) (planes_some q.form) h k (block_spot q i 0) t;
      in_cb = nothing-taken 0 i 1 cb m;
      in_cr = nothing-taken 1 i 1 cr m;
      at = rw z at t.at;
    }

pub colour-took : {s : List ℕ} {o e : ℕ} {q : Sequence} {y y' cb cb' cr cr' : List ℕ} {a b r : ℕ} → Fine q → mono q.form ≡ false → (my mx : ℕ) → my < frame_height_in_mbs q
    → mx < pic_width_in_mbs q → BlockTook s o e (block_place q (my * pic_width_in_mbs q + mx) 0) q 0 my mx y y' a
    → BlockTook s o e (block_place q (my * pic_width_in_mbs q + mx) 1) q 1 my mx cb cb' b → BlockTook s o e (block_place q (my * pic_width_in_mbs q + mx) 2) q 2 my mx cr cr' r
    → MbsTook s o e q (my * pic_width_in_mbs q + mx) (my * pic_width_in_mbs q + mx + 1) y y' cb cb' cr cr' r
unfolding head_place
colour-took {q = q} g m my mx h k ty tb tr =
    let i : ℕ = my * pic_width_in_mbs q + mx in
    let three : planes q.form ≡ 3 = planes-colour q.form m in
    let z : block_place q i 2 + block_bytes q.form 2 ≡ head_place q (i + 1) = omega (arith, blocks_all g) in
    record {
      in_y = block-steps g 0 my mx (omega arith) (planes_some q.form) h k (block_spot q i 0) ty;
      in_cb = block-steps g 1 my mx (omega arith) (rw three (omega arith)) h k (block_spot q i 1) tb;
      in_cr = block-steps g 2 my mx (omega arith) (rw three (omega arith)) h k (block_spot q i 2) tr;
      at = rw z at tr.at;
    }

-- A row of macroblocks, the first of which is i, stands at the place p of s as it does in the payload X.
pub record RowStands (s X : List ℕ) (q : Sequence) (i p : ℕ) : Type 0 where
  pub same : (k : ℕ) → k < pic_width_in_mbs q * (2 + mb_bytes q.form) → get_or X (head_place q i + k) 0 ≡ get_or s (p + k) 0
  pub inside : p + pic_width_in_mbs q * (2 + mb_bytes q.form) ≤ length s

-- it is there
pub row-long : {q : Sequence} {n w size : ℕ} (X : List ℕ) → Fine q → length X ≡ picture_length q → (my : ℕ) → my < frame_height_in_mbs q → n ≡ head_place q (my * pic_width_in_mbs q)
    → w ≡ pic_width_in_mbs q → size ≡ mb_bytes q.form → n + w * (2 + size) ≤ length X
unfolding head_place picture_length
row-long {q} X g l my h f a b =
    let k : my * pic_width_in_mbs q + pic_width_in_mbs q ≤ mbs_in q = omega (arith, mul-le-mul_right (pic_width_in_mbs q) h) in
    rw (a, b) (omega (arith, l, f, mul-le-mul_right (2 + mb_bytes q.form) k))

pub row_there : {q : Sequence} {s X : List ℕ} {e p r : ℕ} → Fine q → length X ≡ picture_length q → (my : ℕ) → my < frame_height_in_mbs q
    → r ≡ pic_width_in_mbs q * (2 + mb_bytes q.form) → Stands s e X (head_place q (my * pic_width_in_mbs q)) p → p + r ≤ e
row_there {q} {s} {X} {e} {p} {r} g l my h w t =
    kept_room s p e r t.high t.inside (stands_room r t (rw w (row-long X g l my h refl refl refl)))

-- and no byte of it is an inserted one
pub row-stands : {q : Sequence} {s X : List ℕ} {e p r : ℕ} (i : ℕ) → Stands s e X (head_place q i) p → r ≡ pic_width_in_mbs q * (2 + mb_bytes q.form) → p + r ≤ e
    → eqb (ins_count s p (p + r)) 0 ≡ true → RowStands s X q i p × Stands s e X (head_place q (i + pic_width_in_mbs q)) (p + r)
unfolding head_place
row-stands {q} {s} {X} {e} {p} {r} i g w l t =
    let c = stands-calm r r g (omega arith) l t in
    let z : head_place q i + r ≡ head_place q (i + pic_width_in_mbs q) = omega (arith, w) in (
      record {
        same = λ k h. sym (part_at X (head_place q i) r k (omega (arith, w))) ∙ (ap (λ (v : List ℕ). get_or v k 0) c.0 ∙ part_at s p r k (omega (arith, w)));
        inside = omega (arith, g.inside, w);
      },
      rw z at c.1,
    )

-- a plane's band in it; the numbers are those that the code has
shown_by : {q : Sequence} {k my bw bh vb vh h : ℕ} → Fine q → k < planes q.form → BlockBy q k my 0 bw bh vb vh → h ≡ min bh (vh - my * bh)
    → Shown (grid_in q k) (visible_row_bytes q k) (visible_height q k) my (head_place q (my * pic_width_in_mbs q)) h
unfolding head_place spot
shown_by {q} {k = k} {my = my} g l b e =
    record { begins = omega arith; down = rw (b.rows, b.high) at b.down; shown = rw (b.rows, b.high) at e; some = omega (arith, (g.present k l).block-row) }

band_by : {q : Sequence} {s X : List ℕ} {i p : ℕ} (k : ℕ) → RowStands s X q i p → Band (grid_in q k) s X p (head_place q i)
band_by k r = record { same = r.same; inside = r.inside }

pub band_room : {q : Sequence} {s X : List ℕ} {k my bw bh vb vh h p size off : ℕ} → Fine q → k < 3 → k < planes q.form → BlockBy q k my 0 bw bh vb vh
    → RowStands s X q (my * pic_width_in_mbs q) p → h ≡ min bh (vh - my * bh) → size ≡ mb_bytes q.form → off ≡ off_in q.form k
    → Banded (length s) (2 + size) (p + 2 + off) bw (vb / bw) (vb % bw) h
band_room {q} {k = k} g m l b r e u v =
    rw (u, v, b.row, b.wide) (band_in (fits g k m) (shown_by g l b e) (band_by k r) (omega (arith, g.known.mb_most)))

pub band_fits : {q : Sequence} {k my bw bh vb vh h len : ℕ} → BlockBy q k my 0 bw bh vb vh → h ≡ min bh (vh - my * bh) → 0 < bw → tight_length q k ≤ len
    → my * bh * vb + h * (vb / bw * bw + vb % bw) ≤ len
band_fits {my = my} {bw = bw} {bh = bh} {vb = vb} {vh = vh} {h = h} b e z l =
    let a : my * bh + h ≤ vh = omega (arith, b.down) in
    rw (div-add-mod' vb bw) (omega (arith, b.tight, mul-le-mul_right vb a))

-- what is visible of plane k in the row my, stored tight
abbrev band_of : Sequence → ℕ → List ℕ → ℕ → ℕ → List ℕ
band_of q k X my h = part (tight_of (grid_in q k) X (visible_row_bytes q k) (visible_height q k)) (my * block_height q.form k * visible_row_bytes q k) (h * visible_row_bytes q k)

band_took : {q : Sequence} {X d d' : List ℕ} {k my bw bh vb vh h : ℕ} → Fine q → k < 3 → k < planes q.form → BlockBy q k my 0 bw bh vb vh → h ≡ min bh (vh - my * bh)
    → length d' ≡ length d → d' ≡ splice d (my * bh * vb) (band_of q k X my h) → Steps q k X (my * pic_width_in_mbs q) (my * pic_width_in_mbs q + pic_width_in_mbs q) d d'
band_took {q} {X} {d} {d'} {k} {my} {h = h} g m l b e w t =
    let z : d' ≡ splice d (my * block_height q.form k * visible_row_bytes q k) (band_of q k X my h) = rw (b.rows, b.wide) at t in
    record { long = w; step = λ i. rw z (band_filled (fits g k m) (shown_by g l b e) i) }

pub band_steps : {q : Sequence} {s X d d' : List ℕ} {k my bw bh vb vh h p size off r : ℕ} → Fine q → k < 3 → k < planes q.form → BlockBy q k my 0 bw bh vb vh
    → RowStands s X q (my * pic_width_in_mbs q) p → h ≡ min bh (vh - my * bh) → size ≡ mb_bytes q.form → off ≡ off_in q.form k → tight_length q k ≤ length d
    → Laid d (my * bh * vb) (cat (lines_of s (2 + size) (p + 2 + off) bw (vb / bw) (vb % bw)) 0 h) d' r
    → Steps q k X (my * pic_width_in_mbs q) (my * pic_width_in_mbs q + pic_width_in_mbs q) d d'
band_steps {q} {s} {X} {d} {d'} {k} {my} {bw} {bh} {vb} {vh} {h} {p} {size} {off} g m l b r e u v w t =
    let o = cat-length (lines_even s (2 + size) (p + 2 + off) bw (vb / bw) (vb % bw) h (band_room g m l b r e u v)) in
    let c : cat (lines_of s (2 + size) (p + 2 + off) bw (vb / bw) (vb % bw)) 0 h ≡ band_of q k X my h =
    rw (u, v, b.row, b.wide) (lines_are (fits g k m) (shown_by g l b e) (band_by k r) (omega (arith, g.known.mb_most))) in
    band_took g m l b e (laid-length t (omega (arith, o, band_fits b e (omega (arith, b.row, (g.present k l).block-row)) w))) (rw c at t.bytes)

-- all samples of a row of macroblocks, the first of which is i, are zero
abbrev pub IsDark : List ℕ → Sequence → ℕ → Type 0
IsDark X q i = (x t : ℕ) → x < pic_width_in_mbs q → t < mb_bytes q.form → get_or X (head_place q i + (x * (2 + mb_bytes q.form) + (2 + t))) 0 ≡ 0

-- the same where all samples of the row are zero
pub dark_fits : {q : Sequence} {k my bw bh vb vh h len : ℕ} → BlockBy q k my 0 bw bh vb vh → h ≡ min bh (vh - my * bh) → tight_length q k ≤ len → my * bh * vb + h * vb ≤ len
dark_fits {my = my} {bh = bh} {vb = vb} {vh = vh} {h = h} b e l =
    let a : my * bh + h ≤ vh = omega (arith, b.down) in
    omega (arith, b.tight, mul-le-mul_right vb a)

pub dark_steps : {q : Sequence} {X d d' : List ℕ} {k my bw bh vb vh h : ℕ} → Fine q → k < 3 → k < planes q.form → BlockBy q k my 0 bw bh vb vh
    → IsDark X q (my * pic_width_in_mbs q) → h ≡ min bh (vh - my * bh) → tight_length q k ≤ length d → d' ≡ splice d (my * bh * vb) (replicate (h * vb) 0)
    → Steps q k X (my * pic_width_in_mbs q) (my * pic_width_in_mbs q + pic_width_in_mbs q) d d'
dark_steps {q} {X} {d} {k = k} {my = my} {bh = bh} {vb = vb} {h = h} g m l b r e w t =
    let o = splice-length d (my * bh * vb) (replicate (h * vb) 0) (omega (arith, length-replicate {A = ℕ} (h * vb) 0, dark_fits b e w)) in
    let c : replicate (h * vb) 0 ≡ band_of q k X my h = rw b.wide (sym (dark_are (fits g k m) (shown_by g l b e) (record { zero = r }))) in
    band_took g m l b e (ap length t ∙ o) (rw c at t)

-- Of a row of macroblocks of `size` bytes of samples, which begins at the byte n of the payload X, m were found whose samples are all zero; r is the place behind them.
pub record DarkRow (s : List ℕ) (e : ℕ) (X : List ℕ) (size n m r : ℕ) : Type 0 where
  pub at : Stands s e X (n + m * (2 + size)) r
  pub zero : (x t : ℕ) → x < m → t < size → get_or X (n + (x * (2 + size) + (2 + t))) 0 ≡ 0

pub dark_start : {s : List ℕ} {e : ℕ} {X : List ℕ} {n p : ℕ} (size : ℕ) → Stands s e X n p → DarkRow s e X size n 0 p
dark_start {n = n} size g = record { at = stands_as (let z : n ≡ n + 0 * (2 + size) = omega arith in z) g; zero = λ x t h. absurd (omega arith) }

-- the head of the next is there, and its samples
pub dark_head : {s : List ℕ} {e : ℕ} {X : List ℕ} {size n m w a : ℕ} → DarkRow s e X size n m a → m < w → n + w * (2 + size) ≤ length X → 2 ≤ length (kept s a e)
dark_head {size = size} d h l = stands_room 2 d.at (omega (arith, mul-le-mul_right (2 + size) h))

pub dark_samples : {s : List ℕ} {e : ℕ} {X : List ℕ} {size n m w a b : ℕ} → DarkRow s e X size n m a → m < w → n + w * (2 + size) ≤ length X → Passed s a e 2 b → size ≤ length (kept s b e)
dark_samples {size = size} d h l w = stands_room size (stands-pass d.at w) (omega (arith, mul-le-mul_right (2 + size) h))

pub dark_turn : {s : List ℕ} {e : ℕ} {X : List ℕ} {size n m a b r : ℕ} → DarkRow s e X size n m a → Passed s a e 2 b → b < r → (kept s b r ≡ replicate size 0) × (r ≤ e)
    → DarkRow s e X size n (m + 1) r
dark_turn {s} {e} {X} {size} {n} {m} {a} {b} {r} d w h z =
    let c = stands_stretch r size (replicate size 0) (stands-pass d.at w) (omega arith) z.1 z.0 (length-replicate size 0) in
    let o : ℕ = n + m * (2 + size) + 2 in
    let k : o + size ≡ n + (m + 1) * (2 + size) = omega arith in
    record { at = stands_as k c.1; zero = λ x t l u. either m x (λ v. here c x t (omega arith) u) (λ v. d.zero x t v u) }
  where
    here : (part X (n + m * (2 + size) + 2) size ≡ replicate size 0) × Stands s e X (n + m * (2 + size) + 2 + size) r → (x t : ℕ) → x ≡ m → t < size
        → get_or X (n + (x * (2 + size) + (2 + t))) 0 ≡ 0
    here c x t f u =
        let o : ℕ = n + m * (2 + size) + 2 in
        let y : n + (x * (2 + size) + (2 + t)) ≡ o + t = rw f (omega arith) in
        ap (λ (j : ℕ). get_or X j 0) y ∙ (sym (part_at X o size t u) ∙ (ap (λ (v : List ℕ). get_or v t 0) c.0 ∙ get_or-replicate size t 0 0 u))

-- the whole row, by the numbers of the picture
pub dark_row : {s : List ℕ} {e : ℕ} {X : List ℕ} {size n m r : ℕ} (q : Sequence) (i : ℕ) → size ≡ mb_bytes q.form → n ≡ head_place q i → m ≡ pic_width_in_mbs q → DarkRow s e X size n m r
    → DarkRow s e X (mb_bytes q.form) (head_place q i) (pic_width_in_mbs q) r
dark_row q i a b c d = rw (a, b, c) at d

pub dark_behind : {s : List ℕ} {e : ℕ} {X : List ℕ} {r : ℕ} (q : Sequence) (i : ℕ) → DarkRow s e X (mb_bytes q.form) (head_place q i) (pic_width_in_mbs q) r
    → Stands s e X (head_place q (i + pic_width_in_mbs q)) r
unfolding head_place
dark_behind q i d = let z : 2 + i * (2 + mb_bytes q.form) + pic_width_in_mbs q * (2 + mb_bytes q.form) ≡ 2 + (i + pic_width_in_mbs q) * (2 + mb_bytes q.form) = omega arith in stands_as z d.at

-- the row was taken: in monochrome the band of one plane, in colour those of three
pub mono-row : {s : List ℕ} {o e : ℕ} {q : Sequence} {y y' : List ℕ} {r : ℕ} (i : ℕ) (cb cr : List ℕ) → mono q.form ≡ true → Steps q 0 (payload_at s o e) i (i + pic_width_in_mbs q) y y'
    → Stands s e (payload_at s o e) (head_place q (i + pic_width_in_mbs q)) r → MbsTook s o e q i (i + pic_width_in_mbs q) y y' cb cb cr cr r
mono-row {q = q} i cb cr m t a = record { in_y = t; in_cb = nothing-taken 0 i (pic_width_in_mbs q) cb m; in_cr = nothing-taken 1 i (pic_width_in_mbs q) cr m; at = a }

pub colour-row : {s : List ℕ} {o e : ℕ} {q : Sequence} {y y' cb cb' cr cr' : List ℕ} {i j r : ℕ} → Steps q 0 (payload_at s o e) i j y y' → Steps q 1 (payload_at s o e) i j cb cb'
    → Steps q 2 (payload_at s o e) i j cr cr' → Stands s e (payload_at s o e) (head_place q j) r → MbsTook s o e q i j y y' cb cb' cr cr' r
colour-row t u v a = record { in_y = t; in_cb = u; in_cr = v; at = a }

-- the planes keep their room
pub rooms-kept : {s : List ℕ} {o e : ℕ} {q : Sequence} {i j : ℕ} {y y' cb cb' cr cr' : List ℕ} {r : ℕ} → Rooms q y cb cr → MbsTook s o e q i j y y' cb cb' cr cr' r → Rooms q y' cb' cr'
rooms-kept g t =
    record { in_y = omega (arith, g.in_y, t.in_y.long); in_cb = omega (arith, g.in_cb, t.in_cb.long); in_cr = omega (arith, g.in_cr, t.in_cr.long) }

-- no macroblock, and more of them
pub took_none : {s : List ℕ} {o e p : ℕ} (q : Sequence) (i : ℕ) (y cb cr : List ℕ) → Stands s e (payload_at s o e) (head_place q i) p → MbsTook s o e q i i y y cb cb cr cr p
took_none {s} {o} {e} q i y cb cr g =
    let X = payload_at s o e in
    record { in_y = steps_none q 0 X i y; in_cb = steps_none q 1 X i cb; in_cr = steps_none q 2 X i cr; at = g }

pub took_more : {s : List ℕ} {o e : ℕ} {q : Sequence} {i j k : ℕ} {y y' y'' cb cb' cb'' cr cr' cr'' : List ℕ} {r u : ℕ} → MbsTook s o e q i j y y' cb cb' cr cr' r
    → MbsTook s o e q j k y' y'' cb' cb'' cr' cr'' u → MbsTook s o e q i k y y'' cb cb'' cr cr'' u
took_more g h =
    record { in_y = steps_more g.in_y h.in_y; in_cb = steps_more g.in_cb h.in_cb; in_cr = steps_more g.in_cr h.in_cr; at = h.at }

-- The macroblocks from i to j are taken, up to the place a.
pub record MbsTaking (s : List ℕ) (o e : ℕ) (q : Sequence) (i j : ℕ) (y y' cb cb' cr cr' : List ℕ) (a : ℕ) : Type 0 where
  pub took : MbsTook s o e q i j y y' cb cb' cr cr' a
  pub rooms : Rooms q y' cb' cr'

pub mbs_start : {s : List ℕ} {o e p : ℕ} (q : Sequence) (i : ℕ) (y cb cr : List ℕ) → Stands s e (payload_at s o e) (head_place q i) p → Rooms q y cb cr
    → MbsTaking s o e q i i y y cb cb cr cr p
mbs_start q i y cb cr g r = record { took = took_none q i y cb cr g; rooms = r }

-- some macroblocks more
pub mbs_turn : {s : List ℕ} {o e : ℕ} {q : Sequence} {i j k : ℕ} {y y' y'' cb cb' cb'' cr cr' cr'' : List ℕ} {a a' : ℕ} → MbsTaking s o e q i j y y' cb cb' cr cr' a
    → MbsTook s o e q j k y' y'' cb' cb'' cr' cr'' a' → MbsTaking s o e q i k y y'' cb cb'' cr cr'' a'
mbs_turn g t = record { took = took_more g.took t; rooms = rooms-kept g.rooms t }

-- the same by equal numbers
pub mbs_as : {s : List ℕ} {o e : ℕ} {q : Sequence} {i j j' : ℕ} {y y' cb cb' cr cr' : List ℕ} {a : ℕ} → j ≡ j' → MbsTaking s o e q i j y y' cb cb' cr cr' a
    → MbsTaking s o e q i j' y y' cb cb' cr cr' a
mbs_as e g = rw e at g

pub mbs_end : {s : List ℕ} {o e : ℕ} {q : Sequence} {i j j' : ℕ} {y y' cb cb' cr cr' : List ℕ} {a : ℕ} → MbsTaking s o e q i j y y' cb cb' cr cr' a → j ≡ j'
    → MbsTook s o e q i j' y y' cb cb' cr cr' a
mbs_end g e = rw e at g.took

-- what stands before the first macroblock
pub first_head : (q : Sequence) → 0 + 2 ≡ head_place q 0
unfolding head_place
first_head q = omega arith

-- the bytes of a row of macroblocks, by the numbers that the code has
pub row_as : (q : Sequence) {w b : ℕ} → w ≡ pic_width_in_mbs q → b ≡ mb_bytes q.form → w * (2 + b) ≡ pic_width_in_mbs q * (2 + mb_bytes q.form)
row_as q a b = rw (a, b) refl

pub row_most : {q : Sequence} {w b : ℕ} → Fine q → w ≡ pic_width_in_mbs q → b ≡ mb_bytes q.form → w * (2 + b) ≤ 591872
row_most {q} g a b = let m : 2 + mb_bytes q.form ≤ 578 = omega (arith, g.known.mb_most) in rw (a, b) (mul-le-mul g.across-high m)

pub row_fits : {q : Sequence} {n r : ℕ} → Fine q → (my : ℕ) → my < frame_height_in_mbs q → n ≡ head_place q (my * pic_width_in_mbs q) → r ≡ pic_width_in_mbs q * (2 + mb_bytes q.form) → n + r ≤ 606076930
unfolding head_place
row_fits {q} g my h e f =
    let a : my * pic_width_in_mbs q + pic_width_in_mbs q ≤ mbs_in q = omega (arith, mul-le-mul_right (pic_width_in_mbs q) h) in
    let b : (my * pic_width_in_mbs q + pic_width_in_mbs q) * (2 + mb_bytes q.form) ≤ mbs_in q * (2 + mb_bytes q.form) = mul-le-mul_right (2 + mb_bytes q.form) a in
    let c : (my * pic_width_in_mbs q + pic_width_in_mbs q) * (2 + mb_bytes q.form) ≡ my * pic_width_in_mbs q * (2 + mb_bytes q.form) + pic_width_in_mbs q * (2 + mb_bytes q.form) = omega arith in
    omega (arith, payload_most g)

-- all rows of macroblocks, and no more
pub rows_all : {q : Sequence} → Fine q → (my : ℕ) → my * pic_width_in_mbs q ≤ mbs_in q → frame_height_in_mbs q ≤ my → my ≡ frame_height_in_mbs q
rows_all {q} g my h l =
    either my (frame_height_in_mbs q) (λ k. omega arith) (λ k. absurd (omega (arith, g.across-low, mul-le-mul_right (pic_width_in_mbs q) k)))

-- the planes begin with the visible samples, stored tight, and are what they were behind them
pub record PlanesTook (q : Sequence) (X y y' cb cb' cr cr' : List ℕ) : Type 0 where
  pub in_y : y' ≡ samples_in q 0 X ++ drop (tight_length q 0) y
  pub in_cb : cb' ≡ samples_in q 1 X ++ drop (tight_length q 1) cb
  pub in_cr : cr' ≡ samples_in q 2 X ++ drop (tight_length q 2) cr

plane-took : {q : Sequence} {X out out' : List ℕ} → Fine q → (p : ℕ) → p < 3 → tight_length q p ≤ length out → Steps q p X 0 (mbs_in q) out out'
    → out' ≡ samples_in q p X ++ drop (tight_length q p) out
unfolding samples_in tight_length
plane-took {q} {X} {out} g p l r t = fill_last (fits g p l) (t.step (fill_first (grid_in q p) out X (visible_row_bytes q p) (visible_height q p) r))

pub planes-took : {s : List ℕ} {o e : ℕ} {q : Sequence} {y y' cb cb' cr cr' : List ℕ} {r : ℕ} → Fine q → Rooms q y cb cr → MbsTook s o e q 0 (mbs_in q) y y' cb cb' cr cr' r
    → PlanesTook q (payload_at s o e) y y' cb cb' cr cr'
planes-took g r t =
    record {
      in_y = plane-took g 0 (omega arith) r.in_y t.in_y;
      in_cb = plane-took g 1 (omega arith) r.in_cb t.in_cb;
      in_cr = plane-took g 2 (omega arith) r.in_cr t.in_cr;
    }
