-- A row of macroblocks taken line by line of a plane: each line is a piece of every macroblock of the row.
--     pieces s unit p bw full rest    `full` pieces of bw bytes that stand in s from p on, `unit` bytes apart, and the first `rest` bytes of one more
--     Pieced, Banded                  the pieces of a line, of h lines, lie in the slice
--     lines_of                        h lines: each begins bw bytes behind the one before it
--     line_whole, line_more, line-laid   a line as it is laid
--     Shown, Band, Dark               a plane in a row of macroblocks; the row stands in s as in the payload; all its samples are zero
--     lines_are, dark_are             the lines, or zeros, are the plane's visible part in that row, stored tight
--     band_filled                     a plane into which that part was written
-- Assumes nothing.
use Rattle.std.specs.Prelude.{◌≡◌, refl, length, get_or, replicate}
use Rattle.std.proofs.Math.Path.{sym}
use Rattle.std.proofs.Common.{ap, ◌∙◌, zero-add, lt_of_mul-lt-mul_right, mod-lt, length-append, get_or-append-add}
use mathlib.Core.List.{List, ◌++◌, append-nil}
use Prim.Native.Nat.{ℕ, ◌+◌, ◌-◌, ◌*◌, ◌/◌, ◌%◌, ◌≤◌, ◌<◌, min}
use Rattle.std.proofs.Math.Nat.{mul-le-mul_right, div-add-mod'}
use native.Mathlib.Omega.{arith}
use Rattle.std.proofs.Math.Arith.{digits_lt, digits_div, digits_mod}
use Rattle.std.proofs.lemmas.List.{length-replicate, get_or-replicate}
use Rattle.std.proofs.Math.ListN.{get_or-append}
use Rattle.std.proofs.Math.Seq.{ext_get_or}
use Rattle.lists.specs.Fill.{splice, splice-length, splice_at, splice_before, splice_behind}
use Rattle.lists.specs.Part.{part, part_at, part_none, part_length}
use Rattle.lists.specs.Test.{either}
use Rattle.slice.specs.Digits.{high_below, low_below}
use Rattle.slice.specs.Cat.{cat, cat-length, cat-tab, Even, rows_of, rows_at, rows_even, tab_at}
use Rattle.slice.specs.Grid.{Grid, spot, place, pos_of, tight_of, tight-length}
use Rattle.slice.specs.Blocks.{Fit, pos-row, place-block}
use Rattle.slice.specs.Filling.{Filled}
use Rattle.slice.specs.Laid.{Laid, laid_one, laid_more}

-- Lines

unfoldable pub pieces : List ℕ → ℕ → ℕ → ℕ → ℕ → ℕ → List ℕ
pieces s unit p bw full rest = cat (rows_of s unit p bw) 0 full ++ part s (p + full * unit) rest

unfoldable pub lines_of : List ℕ → ℕ → ℕ → ℕ → ℕ → ℕ → ℕ → List ℕ
lines_of s unit p bw full rest y = pieces s unit (p + y * bw) bw full rest

-- (a unit is a macroblock's bytes with the two before them, so that no sum here is large)
pub record Pieced (len unit p bw full rest : ℕ) : Type 0 where
  pub within : full * unit ≤ len
  pub last : p + full * unit + bw ≤ len + unit
  pub more : 0 < rest → p + full * unit + rest ≤ len
  pub few : unit ≤ 578

pub record Banded (len unit p bw full rest h : ℕ) : Type 0 where
  pub within : full * unit ≤ len
  pub last : p + h * bw + full * unit ≤ len + unit
  pub more : 0 < rest → p + h * bw + full * unit ≤ len
  pub narrow : rest ≤ bw
  pub few : unit ≤ 578

pub line_in : {len unit p bw full rest h : ℕ} → Banded len unit p bw full rest h → (y : ℕ) → y < h → Pieced len unit (p + y * bw) bw full rest
line_in {bw = bw} g y l =
    let m = mul-le-mul_right bw l in
    record { within = g.within; last = omega (arith, g.last); more = λ z. omega (arith, g.more z, g.narrow); few = g.few }

-- the pieces lie in the slice
pub pieces_even : (s : List ℕ) (unit p bw full rest : ℕ) → Pieced (length s) unit p bw full rest → Even (rows_of s unit p bw) bw 0 full
pieces_even s unit p bw full rest g = rows_even s unit p bw full g.last

pub rest_length : (s : List ℕ) (unit p bw full rest : ℕ) → Pieced (length s) unit p bw full rest → length (part s (p + full * unit) rest) ≡ rest
unfolding part
rest_length s unit p bw full rest g = either 1 rest (λ l. part_length s (p + full * unit) rest (g.more l)) (λ l. let z : rest ≡ 0 = omega arith in rw z refl)

pub pieces-length : (s : List ℕ) (unit p bw full rest : ℕ) → Pieced (length s) unit p bw full rest → length (pieces s unit p bw full rest) ≡ full * bw + rest
unfolding pieces
pieces-length s unit p bw full rest g =
    rw (length-append (cat (rows_of s unit p bw) 0 full) (part s (p + full * unit) rest), cat-length (pieces_even s unit p bw full rest g), rest_length s unit p bw full rest g) refl

pub lines_even : (s : List ℕ) (unit p bw full rest h : ℕ) → Banded (length s) unit p bw full rest h → Even (lines_of s unit p bw full rest) (full * bw + rest) 0 h
unfolding lines_of
lines_even s unit p bw full rest h g =
    record { each = λ k l. let z : 0 + k ≡ k = zero-add k in rw z (pieces-length s unit (p + k * bw) bw full rest (line_in g k l)) }

-- what is laid of a line: the whole pieces, and the bytes of one more
pub line_whole : (s : List ℕ) (unit p bw full : ℕ) {rest : ℕ} {d d' : List ℕ} {at r : ℕ} → rest ≡ 0 → Laid d at (cat (rows_of s unit p bw) 0 full) d' r → Laid d at (pieces s unit p bw full rest) d' r
unfolding pieces
line_whole s unit p bw full e g = rw (e, part_none s (p + full * unit), append-nil (cat (rows_of s unit p bw) 0 full)) g

pub line_more : (s : List ℕ) {d d' d'' : List ℕ} {unit p bw full rest at r : ℕ} → Pieced (length s) unit p bw full rest → at + (full * bw + rest) ≤ length d
    → Laid d at (cat (rows_of s unit p bw) 0 full) d' r → d'' ≡ splice d' r (part s (p + full * unit) rest) → Laid d at (pieces s unit p bw full rest) d'' (r + rest)
unfolding pieces
line_more s {d' = d'} {unit = unit} {p = p} {bw = bw} {full = full} {rest = rest} {r = r} g h l e =
    let v = rest_length s unit p bw full rest g in
    laid_more (part s (p + full * unit) rest) (omega (arith, v, cat-length (pieces_even s unit p bw full rest g))) l (laid_one d' r rest (part s (p + full * unit) rest) v refl e)

-- the line y of a band
pub line-laid : (s : List ℕ) (unit p bw full rest y : ℕ) {q : ℕ} {d d' : List ℕ} {at r : ℕ} → q ≡ p + y * bw → Laid d at (pieces s unit q bw full rest) d' r → Laid d at (lines_of s unit p bw full rest (0 + y)) d' r
unfolding lines_of
line-laid s unit p bw full rest y e g = rw (zero-add y) (rw e at g)

-- byte by byte
pieces_at : (s : List ℕ) (unit p bw full rest : ℕ) → Pieced (length s) unit p bw full rest → rest < bw → (i : ℕ) → i < full * bw + rest
    → get_or (pieces s unit p bw full rest) i 0 ≡ get_or s (p + i / bw * unit + i % bw) 0
unfolding pieces
pieces_at s unit p bw full rest g n i l = either (full * bw) i behind before
  where
    L : List ℕ
    L = cat (rows_of s unit p bw) 0 full

    R : List ℕ
    R = part s (p + full * unit) rest

    long : length L ≡ full * bw
    long = cat-length (pieces_even s unit p bw full rest g)

    behind : full * bw ≤ i → get_or (L ++ R) i 0 ≡ get_or s (p + i / bw * unit + i % bw) 0
    behind k =
        let t : ℕ = i - full * bw in
        let e : i ≡ full * bw + t = omega arith in
        let b : t < bw = omega arith in
        let x : i / bw ≡ full = ap (λ (m : ℕ). m / bw) e ∙ digits_div full b in
        let y : i % bw ≡ t = ap (λ (m : ℕ). m % bw) e ∙ digits_mod full b in
        let j : i ≡ length L + t = omega (arith, long) in
        rw (x, y) (ap (λ (m : ℕ). get_or (L ++ R) m 0) j ∙ (get_or-append-add L R t 0 ∙ part_at s (p + full * unit) rest t (omega arith)))

    before : i < full * bw → get_or (L ++ R) i 0 ≡ get_or s (p + i / bw * unit + i % bw) 0
    before k =
        let f : ℕ → ℕ = λ j. get_or (rows_of s unit p bw (j / bw)) (j % bw) 0 in
        get_or-append L R 0 i (omega (arith, long))
        ∙ (ap (λ (v : List ℕ). get_or v i 0) (cat-tab (pieces_even s unit p bw full rest g))
        ∙ (tab_at f 0 (full * bw) i k
        ∙ rw (zero-add i, rows_at s unit p bw (i / bw)) (part_at s (p + i / bw * unit) bw (i % bw) (low_below full bw i k))))

-- The plane's bytes

-- Row my of macroblocks begins at the byte n of the payload, and h of the lines of the plane's blocks in it are visible.
pub record Shown (G : Grid) (vb vh my n h : ℕ) : Type 0 where
  pub begins : spot G (my * G.mw) 0 ≡ n + 2
  pub down : my * G.bh < vh
  pub shown : h ≡ min G.bh (vh - my * G.bh)
  pub some : 0 < G.bw

-- The row stands at the place p of s as it does in the payload X.
pub record Band (G : Grid) (s X : List ℕ) (p n : ℕ) : Type 0 where
  pub same : (k : ℕ) → k < G.mw * (2 + G.size) → get_or X (n + k) 0 ≡ get_or s (p + k) 0
  pub inside : p + G.mw * (2 + G.size) ≤ length s

-- All its samples are zero.
pub record Dark (G : Grid) (X : List ℕ) (n : ℕ) : Type 0 where
  pub zero : (x t : ℕ) → x < G.mw → t < G.size → get_or X (n + (x * (2 + G.size) + (2 + t))) 0 ≡ 0

spot_on : (G : Grid) (i m : ℕ) → spot G i 0 ≤ spot G (i + m) 0
unfolding spot
spot_on G i m = omega arith

-- a factor
le_of_mul-le : (m a b : ℕ) → 0 < m → a * m ≤ b * m → a ≤ b
le_of_mul-le m a b h l = either a b (λ e. e) (λ e. absurd (omega (arith, mul-le-mul_right m e)))

-- The byte i of a line is in the block column i / bw. It stands among the samples of that macroblock.
record At (G : Grid) (vb my n y i : ℕ) : Type 0 where
  column : i / G.bw < G.mw
  byte : ℕ
  within : byte < G.size
  is : byte ≡ G.off + y * G.bw + i % G.bw
  place : pos_of G vb ((my * G.bh + y) * vb + i) ≡ n + (i / G.bw * (2 + G.size) + (2 + byte))

line_at : {G : Grid} {mh vb vh my n h : ℕ} → Fit G mh vb vh → Shown G vb vh my n h → (y i : ℕ) → y < h → i < vb → At G vb my n y i
unfolding spot
line_at {G} {mh} {vb} {vh} {my} {n} {h} f g y i l k =
    let x = i / G.bw in
    let t = i % G.bw in
    let a : i < G.mw * G.bw = omega (arith, f.wide) in
    let b : x < G.mw = high_below G.mw G.bw i a in
    let c : t < G.bw = low_below G.mw G.bw i a in
    let d : x * G.bw + t ≡ i = div-add-mod' i G.bw in
    let m : y < G.bh = omega (arith, g.shown) in
    let o : pos_of G vb ((my * G.bh + y) * vb + i) ≡ place G (my * G.bh + y) x + t = ap (λ (m : ℕ). pos_of G vb ((my * G.bh + y) * vb + m)) (sym d) ∙ pos-row G vb (my * G.bh + y) x t (omega arith) c in
    let w = place-block G my x y m in
    record {
      column = b;
      byte = G.off + y * G.bw + t;
      within = omega (arith, f.within, mul-le-mul_right G.bw m);
      is = refl;
      place = omega (arith, o, w, g.begins);
    }

module _ {G : Grid} {mh vb vh : ℕ} (f : Fit G mh vb vh) {my n h : ℕ} (g : Shown G vb vh my n h) where
  -- the lines of the plane's blocks lie in the row of macroblocks
  pub band_in : {s X : List ℕ} {p : ℕ} → Band G s X p n → 2 + G.size ≤ 578 → Banded (length s) (2 + G.size) (p + 2 + G.off) G.bw (vb / G.bw) (vb % G.bw) h
  band_in w u =
      let d = div-add-mod' vb G.bw in
      let r : vb % G.bw < G.bw = mod-lt vb g.some in
      let m : h ≤ G.bh = omega (arith, g.shown) in
      let c = mul-le-mul_right G.bw m in
      let full : vb / G.bw ≤ G.mw = le_of_mul-le G.bw (vb / G.bw) G.mw g.some (omega (arith, f.wide)) in
      record {
        within = omega (arith, w.inside, mul-le-mul_right (2 + G.size) full);
        last = omega (arith, w.inside, f.within, mul-le-mul_right (2 + G.size) full);
        more = λ z. let k : vb / G.bw < G.mw = lt_of_mul-lt-mul_right G.bw (omega (arith, f.wide)) in omega (arith, w.inside, f.within, mul-le-mul_right (2 + G.size) k);
        narrow = omega arith;
        few = u;
      }

  -- so they are the plane's visible part there
  pub lines_are : {s X : List ℕ} {p : ℕ} → Band G s X p n → 2 + G.size ≤ 578
      → cat (lines_of s (2 + G.size) (p + 2 + G.off) G.bw (vb / G.bw) (vb % G.bw)) 0 h ≡ part (tight_of G X vb vh) (my * G.bh * vb) (h * vb)
  unfolding lines_of tight_of
  lines_are {s} {X} {p} w u = ext_get_or 0 (cat F 0 h) (part T A (h * vb)) (cat-length even ∙ sym (part_length T A (h * vb) (omega (arith, long, room)))) go
    where
      F : ℕ → List ℕ
      F = lines_of s (2 + G.size) (p + 2 + G.off) G.bw (vb / G.bw) (vb % G.bw)

      T : List ℕ
      T = tight_of G X vb vh

      A : ℕ
      A = my * G.bh * vb

      wide : vb / G.bw * G.bw + vb % G.bw ≡ vb
      wide = div-add-mod' vb G.bw

      pieced : (y : ℕ) → y < h → Pieced (length s) (2 + G.size) (p + 2 + G.off + y * G.bw) G.bw (vb / G.bw) (vb % G.bw)
      pieced y l = line_in (band_in w u) y l

      even : Even F vb 0 h
      even = rw wide at (lines_even s (2 + G.size) (p + 2 + G.off) G.bw (vb / G.bw) (vb % G.bw) h (band_in w u))

      long : length T ≡ vh * vb
      long = tight-length G X vb vh

      room : A + h * vb ≤ vh * vb
      room = let k : my * G.bh + h ≤ vh = omega (arith, g.shown, g.down) in omega (arith, mul-le-mul_right vb k)

      go : (j : ℕ) → j < length (cat F 0 h) → get_or (cat F 0 h) j 0 ≡ get_or (part T A (h * vb)) j 0
      go j l =
          let k : j < h * vb = rw (cat-length even) at l in
          let y = j / vb in
          let i = j % vb in
          let b : y < h = high_below h vb j k in
          let c : i < vb = low_below h vb j k in
          let d : y * vb + i ≡ j = div-add-mod' j vb in
          let q : 0 + (A + j) ≡ (my * G.bh + y) * vb + i = omega arith in
          let left : get_or (cat F 0 h) j 0 ≡ get_or (F (0 + y)) i 0 = ap (λ (v : List ℕ). get_or v j 0) (cat-tab even) ∙ (tab_at (λ j. get_or (F (j / vb)) (j % vb) 0) 0 (h * vb) j k ∙ ap (λ (m : ℕ). get_or (F (m / vb)) (m % vb) 0) (zero-add j) ∙ ap (λ (m : ℕ). get_or (F m) i 0) (sym (zero-add y))) in
          let right : get_or (part T A (h * vb)) j 0 ≡ get_or X (pos_of G vb ((my * G.bh + y) * vb + i)) 0 =
          part_at T A (h * vb) j k ∙ (tab_at (λ j. get_or X (pos_of G vb j) 0) 0 (vh * vb) (A + j) (omega (arith, room)) ∙ ap (λ (m : ℕ). get_or X (pos_of G vb m) 0) q) in
          let mid : get_or (F (0 + y)) i 0 ≡ get_or s (p + 2 + G.off + y * G.bw + i / G.bw * (2 + G.size) + i % G.bw) 0 =
          rw (zero-add y) (pieces_at s (2 + G.size) (p + 2 + G.off + y * G.bw) G.bw (vb / G.bw) (vb % G.bw) (pieced y b) (mod-lt vb g.some) i (omega (arith, wide))) in
          let a = line_at f g y i b c in
          let m : i / G.bw * (2 + G.size) + (2 + a.byte) < G.mw * (2 + G.size) = omega (arith, a.within, mul-le-mul_right (2 + G.size) a.column) in
          let byte : get_or X (pos_of G vb ((my * G.bh + y) * vb + i)) 0 ≡ get_or s (p + 2 + G.off + y * G.bw + i / G.bw * (2 + G.size) + i % G.bw) 0 =
          ap (λ (k : ℕ). get_or X k 0) a.place ∙ (w.same (i / G.bw * (2 + G.size) + (2 + a.byte)) m ∙ ap (λ (k : ℕ). get_or s k 0) (omega (arith, a.is))) in
          left ∙ (mid ∙ (sym byte ∙ sym right))

  -- where all samples are zero, so is that part
  pub dark_are : {X : List ℕ} → Dark G X n → part (tight_of G X vb vh) (my * G.bh * vb) (h * vb) ≡ replicate (h * vb) 0
  unfolding tight_of
  dark_are {X} w = ext_get_or 0 (part T A (h * vb)) (replicate (h * vb) 0) (long ∙ sym (length-replicate (h * vb) 0)) go
    where
      T : List ℕ
      T = tight_of G X vb vh

      A : ℕ
      A = my * G.bh * vb

      room : A + h * vb ≤ vh * vb
      room = let k : my * G.bh + h ≤ vh = omega (arith, g.shown, g.down) in omega (arith, mul-le-mul_right vb k)

      long : length (part T A (h * vb)) ≡ h * vb
      long = part_length T A (h * vb) (omega (arith, tight-length G X vb vh, room))

      go : (j : ℕ) → j < length (part T A (h * vb)) → get_or (part T A (h * vb)) j 0 ≡ get_or (replicate (h * vb) 0) j 0
      go j l =
          let k : j < h * vb = rw long at l in
          let y = j / vb in
          let i = j % vb in
          let d : y * vb + i ≡ j = div-add-mod' j vb in
          let q : 0 + (A + j) ≡ (my * G.bh + y) * vb + i = omega arith in
          let a = line_at f g y i (high_below h vb j k) (low_below h vb j k) in
          part_at T A (h * vb) j k
          ∙ (tab_at (λ j. get_or X (pos_of G vb j) 0) 0 (vh * vb) (A + j) (omega (arith, room))
          ∙ (ap (λ (m : ℕ). get_or X (pos_of G vb m) 0) q
          ∙ (ap (λ (m : ℕ). get_or X m 0) a.place ∙ (w.zero (i / G.bw) a.byte a.column a.within ∙ sym (get_or-replicate (h * vb) j 0 0 k)))))

  -- Where the bytes of the visible part stand: those before the band before the row of macroblocks, those of the band in it, those behind it behind it.
  record Where (j : ℕ) : Type 0 where
    low : j < my * G.bh * vb → pos_of G vb j < spot G (my * G.mw) 0
    high : my * G.bh * vb + h * vb ≤ j → spot G (my * G.mw + G.mw) 0 ≤ pos_of G vb j
    from : my * G.bh * vb ≤ j → spot G (my * G.mw) 0 ≤ pos_of G vb j
    to : j < my * G.bh * vb + h * vb → pos_of G vb j < spot G (my * G.mw + G.mw) 0

  find : (j : ℕ) → j < vh * vb → Where j
  unfolding pos_of place spot
  find j l =
      let r = j / vb in
      let i = j % vb in
      let b = r / G.bh in
      let x = i / G.bw in
      let y = r % G.bh in
      let a : r < vh = high_below vh vb j l in
      let c : i < vb = low_below vh vb j l in
      let k : r < mh * G.bh = omega (arith, f.high) in
      let w : i < G.mw * G.bw = omega (arith, f.wide) in
      let t : y < G.bh = low_below mh G.bh r k in
      let u : x < G.mw = high_below G.mw G.bw i w in
      let v : i % G.bw < G.bw = low_below G.mw G.bw i w in
      let m = digits_lt t v in
      let jr = div-add-mod' j vb in
      let rb = div-add-mod' r G.bh in
      let unit = 2 + G.size in
      let below : (z : ℕ) → b < z → (b * G.mw + x + 1) * unit ≤ z * G.mw * unit = λ z h. let e : b * G.mw + x + 1 ≤ z * G.mw = omega (arith, digits_lt h u) in mul-le-mul_right unit e in
      let above : (z : ℕ) → z ≤ b → z * G.mw * unit ≤ b * G.mw * unit = λ z h. mul-le-mul_right unit (mul-le-mul_right G.mw h) in
      let next : (my + 1) * G.mw ≡ my * G.mw + G.mw = omega arith in
      record {
        low = λ h. omega (arith, f.within, below my (high_below my G.bh r (high_below (my * G.bh) vb j h)));
        high = λ q. omega (arith, above (my + 1) (either (my + 1) b (λ z. z) (λ z. absurd (omega (arith, g.shown, g.down, mul-le-mul_right G.bh z, either (my * G.bh + h) r (λ e. e) (λ e. absurd (omega (arith, mul-le-mul_right vb e))))))));
        from = λ q. omega (arith, above my (either my b (λ z. z) (λ z. absurd (omega (arith, mul-le-mul_right G.bh z, either (my * G.bh) r (λ e. e) (λ e. absurd (omega (arith, mul-le-mul_right vb e))))))));
        to = λ q. let e : r < my * G.bh + h = high_below (my * G.bh + h) vb j (omega arith) in let d : r < (my + 1) * G.bh = omega (arith, g.shown) in omega (arith, f.within, below (my + 1) (high_below (my + 1) G.bh r d));
      }

  -- a plane into which the band was written
  pub band_filled : {d X out : List ℕ} → Filled d X (pos_of G vb) (vh * vb) out (spot G (my * G.mw) 0)
      → Filled d X (pos_of G vb) (vh * vb) (splice out (my * G.bh * vb) (part (tight_of G X vb vh) (my * G.bh * vb) (h * vb))) (spot G (my * G.mw + G.mw) 0)
  unfolding tight_of
  band_filled {d} {X} {out} u =
      record { long = long; room = u.room; new = new; old = old; behind = behind }
    where
      T : List ℕ
      T = tight_of G X vb vh

      A : ℕ
      A = my * G.bh * vb

      B : List ℕ
      B = part T A (h * vb)

      room : A + h * vb ≤ vh * vb
      room = let k : my * G.bh + h ≤ vh = omega (arith, g.shown, g.down) in omega (arith, mul-le-mul_right vb k)

      wide : length B ≡ h * vb
      wide = part_length T A (h * vb) (omega (arith, tight-length G X vb vh, room))

      fits : A ≤ length out
      fits = omega (arith, room, u.long, u.room)

      long : length (splice out A B) ≡ length d
      long = splice-length out A B (omega (arith, wide, room, u.long, u.room)) ∙ u.long

      behind : (j : ℕ) → vh * vb ≤ j → get_or (splice out A B) j 0 ≡ get_or d j 0
      behind j l = splice_behind out A B j fits (omega (arith, wide, room)) ∙ u.behind j l

      stored : (j : ℕ) → A ≤ j → j < A + h * vb → get_or (splice out A B) j 0 ≡ get_or X (pos_of G vb j) 0
      stored j l k =
          let e : j ≡ A + (j - A) = omega arith in
          ap (λ (i : ℕ). get_or (splice out A B) i 0) e
          ∙ (splice_at out A B (j - A) fits (omega (arith, wide))
          ∙ (part_at T A (h * vb) (j - A) (omega arith)
          ∙ (tab_at (λ j. get_or X (pos_of G vb j) 0) 0 (vh * vb) (A + (j - A)) (omega (arith, room)) ∙ ap (λ (i : ℕ). get_or X (pos_of G vb i) 0) (omega arith))))

      step : spot G (my * G.mw) 0 ≤ spot G (my * G.mw + G.mw) 0
      step = spot_on G (my * G.mw) G.mw

      new : (j : ℕ) → j < vh * vb → pos_of G vb j < spot G (my * G.mw + G.mw) 0 → get_or (splice out A B) j 0 ≡ get_or X (pos_of G vb j) 0
      new j l k =
          let w = find j l in
          either
          A
          j
          (λ a. either (A + h * vb) j (λ b. absurd (omega (arith, w.high b))) (λ b. stored j a b))
          (λ a. splice_before out A B j fits a ∙ u.new j l (w.low a))

      old : (j : ℕ) → j < vh * vb → spot G (my * G.mw + G.mw) 0 ≤ pos_of G vb j → get_or (splice out A B) j 0 ≡ get_or d j 0
      old j l k =
          let w = find j l in
          either
          A
          j
          (λ a. either (A + h * vb) j (λ b. splice_behind out A B j fits (omega (arith, wide)) ∙ u.old j l (w.from a)) (λ b. absurd (omega (arith, w.to b))))
          (λ a. absurd (omega (arith, w.low a, step)))
