-- A payload of pieces that is escaped, or counted, piece by piece.
--     Pieces      the pieces f b, f (b + 1), .. are being escaped at a place of the output, k of n so far
--     Tally       they are being counted
--     put-laid    a piece that was laid as it is and then escaped where it stands
-- Assumes nothing.
use Rattle.std.specs.Prelude.{◌≡◌, refl, List, [], ◌++◌, ℕ, zero, suc, ◌+◌, ◌-◌, ◌*◌, ◌≤◌, ◌<◌, length}
use Rattle.std.proofs.Common.{sym, ap, ◌∙◌, append-nil, add-zero, zero-add, add-one, arith, length-append}
use Rattle.std.proofs.Math.Nat.{sub-zero}
use Rattle.lists.specs.Fill.{splice-over, splice-length}
use Rattle.lists.specs.Part.{part, splice-part}
use Rattle.nal_unit.specs.Escape.{esc_from}
use Rattle.nal_unit.specs.EscapeCode.{counted, counted_before, esc_least}
use Rattle.nal_unit.specs.PutCode.{Put, Escaping, begin, turn, turn_room, end}
use Rattle.nal_unit.specs.CountCode.{Counts, Counting, count_begin, count_turn, count_end}
use Rattle.slice.specs.Cat.{cat, cat_more, cat_none, cat-append}
use Rattle.slice.specs.Laid.{Laid}

-- a turn of a loop over the pieces from b on
pub cat_next : (f : ℕ → List ℕ) (b k n : ℕ) → k < n → cat f (b + k) (n - k) ≡ f (b + k) ++ cat f (b + (k + 1)) (n - (k + 1))
cat_next f b k n h =
    let l : n - k ≡ n - (k + 1) + 1 = omega arith in
    let e : b + (k + 1) ≡ b + k + 1 = omega arith in
    rw (l, e) (cat_more f (b + k) (n - (k + 1)))

pub cat-over : (f : ℕ → List ℕ) (b k n : ℕ) → n ≤ k → cat f (b + k) (n - k) ≡ []
cat-over f b k n h = let l : n - k ≡ 0 = omega arith in rw l (cat_none f (b + k))

-- no piece has more than m elements
pub cat_most : (f : ℕ → List ℕ) (m b n : ℕ) → ((k : ℕ) → k < n → length (f (b + k)) ≤ m) → length (cat f b n) ≤ n * m
unfolding cat
cat_most f m b zero h = omega arith
cat_most f m b (suc n) h =
    let first : length (f b) ≤ m = rw (add-zero b) at (h 0 (omega arith)) in
    let later : length (cat f (b + 1) n) ≤ n * m = cat_most f m (b + 1) n (λ k l. let e : b + 1 + k ≡ b + (k + 1) = omega arith in rw e (h (k + 1) (omega arith))) in
    omega (arith, length-append (f b) (cat f (b + 1) n))

-- w pieces as one, from that of y * w on
unfoldable pub row_of : (ℕ → List ℕ) → ℕ → ℕ → List ℕ
row_of f w y = cat f (y * w) w

pub row_is : (f : ℕ → List ℕ) (w y : ℕ) → row_of f w y ≡ cat f (y * w) w
unfolding row_of
row_is f w y = refl

-- rows of pieces are the pieces
pub cat-rows : (f : ℕ → List ℕ) (w h : ℕ) → cat (row_of f w) 0 h ≡ cat f 0 (h * w)
unfolding row_of
cat-rows f w h = go 0 h ∙ ap (λ (b : ℕ). cat f b (h * w)) (omega arith)
  where
    go : (y n : ℕ) → cat (row_of f w) y n ≡ cat f (y * w) (n * w)
    go y zero = rw (cat_none (row_of f w) y) (let e : 0 * w ≡ 0 = omega arith in rw e (sym (cat_none f (y * w))))
    go y (suc n) =
        let e : (n + 1) * w ≡ w + n * w = omega arith in
        let d : (y + 1) * w ≡ y * w + w = omega arith in
        rw (← add-one n, cat_more (row_of f w) y n, go (y + 1) n, e, d) (sym (cat-append f (y * w) w (n * w)))

-- The n pieces from that of b on are being escaped at the place `at` of the output that held d: k are written, up to the place a.
pub record Pieces (d : List ℕ) (at : ℕ) (f : ℕ → List ℕ) (b n : ℕ) (out : List ℕ) (a k : ℕ) : Type 0 where
  pub within : k ≤ n
  pub far : at ≤ a
  pub escaping : Escaping d at (cat f b n) out a (cat f (b + k) (n - k))

pub pieces_start : (d : List ℕ) (at : ℕ) (f : ℕ → List ℕ) (b n : ℕ) → at + length (esc_from (counted d at) (cat f b n)) ≤ length d → Pieces d at f b n d at 0
pieces_start d at f b n h =
    record { within = omega arith; far = omega arith; escaping = rw (add-zero b, sub-zero n) (begin d at (cat f b n) h) }

pub pieces_room : {d : List ℕ} {at : ℕ} {f : ℕ → List ℕ} {b n : ℕ} {out : List ℕ} {a k : ℕ} → Pieces d at f b n out a k → k < n
    → a + length (esc_from (counted out a) (f (b + k))) ≤ length out
pieces_room {f = f} {b = b} {n = n} {k = k} g h =
    turn_room (f (b + k)) (cat f (b + (k + 1)) (n - (k + 1))) (rw (cat_next f b k n h) at g.escaping)

pub pieces_turn : {d : List ℕ} {at : ℕ} {f : ℕ → List ℕ} {b n : ℕ} {out : List ℕ} {a k : ℕ} {out' : List ℕ} {a' : ℕ} → Pieces d at f b n out a k → k < n
    → Put out a (f (b + k)) out' a' → Pieces d at f b n out' a' (k + 1)
pieces_turn {f = f} {b = b} {n = n} {k = k} g h p =
    record {
      within = omega arith;
      far = omega (arith, p.place, g.far);
      escaping = turn (f (b + k)) (cat f (b + (k + 1)) (n - (k + 1))) (rw (cat_next f b k n h) at g.escaping) p;
    }

-- m pieces at once
pieces-split : {d : List ℕ} {at : ℕ} {f : ℕ → List ℕ} {b n : ℕ} {out : List ℕ} {a k : ℕ} (m : ℕ) → Pieces d at f b n out a k → k + m ≤ n
    → Escaping d at (cat f b n) out a (cat f (b + k) m ++ cat f (b + (k + m)) (n - (k + m)))
pieces-split {f = f} {b = b} {n = n} {k = k} m g h =
    let e : n - k ≡ m + (n - (k + m)) = omega arith in
    let i : b + (k + m) ≡ b + k + m = omega arith in
    rw i (rw (e, cat-append f (b + k) m (n - (k + m))) at g.escaping)

pub some_room : {d : List ℕ} {at : ℕ} {f : ℕ → List ℕ} {b n : ℕ} {out : List ℕ} {a k : ℕ} (m : ℕ) → Pieces d at f b n out a k → k + m ≤ n
    → a + length (esc_from (counted out a) (cat f (b + k) m)) ≤ length out
some_room {f = f} {b = b} {n = n} {k = k} m g h = turn_room (cat f (b + k) m) (cat f (b + (k + m)) (n - (k + m))) (pieces-split m g h)

pub some_turn : {d : List ℕ} {at : ℕ} {f : ℕ → List ℕ} {b n : ℕ} {out : List ℕ} {a k : ℕ} (m : ℕ) {out' : List ℕ} {a' : ℕ} → Pieces d at f b n out a k → k + m ≤ n
    → Put out a (cat f (b + k) m) out' a' → Pieces d at f b n out' a' (k + m)
some_turn {f = f} {b = b} {n = n} {k = k} m g h p =
    record {
      within = h;
      far = omega (arith, p.place, g.far);
      escaping = turn (cat f (b + k) m) (cat f (b + (k + m)) (n - (k + m))) (pieces-split m g h) p;
    }

-- the last ones
pub some_end : {d : List ℕ} {at : ℕ} {f : ℕ → List ℕ} {b n : ℕ} {out : List ℕ} {a k : ℕ} (m : ℕ) {out' : List ℕ} {a' : ℕ} → Pieces d at f b n out a k → k + m ≡ n
    → Put out a (cat f (b + k) m) out' a' → Put d at (cat f b n) out' a'
some_end {f = f} {b = b} {n = n} {k = k} m g h p =
    let e : m ≡ n - k = omega arith in
    end (turn (cat f (b + k) (n - k)) [] (rw (append-nil (cat f (b + k) (n - k))) g.escaping) (rw e at p))

-- the same where the pieces begin with that of 0
pub pieces_front : {d : List ℕ} {at : ℕ} {f : ℕ → List ℕ} {n : ℕ} {out : List ℕ} {a k : ℕ} {out' : List ℕ} {a' : ℕ} → Pieces d at f 0 n out a k → k < n
    → Put out a (f k) out' a' → Pieces d at f 0 n out' a' (k + 1)
pieces_front {k = k} g h p = pieces_turn g h (rw (zero-add k) p)

pub pieces_end : {d : List ℕ} {at : ℕ} {f : ℕ → List ℕ} {b n : ℕ} {out : List ℕ} {a k : ℕ} → Pieces d at f b n out a k → n ≤ k → Put d at (cat f b n) out a
pieces_end {f = f} {b = b} {n = n} {k = k} g h = end (rw (cat-over f b k n h) at g.escaping)

-- The n pieces from that of b on, after z counted zeros, are being counted: k are passed, with m bytes and the count y behind them. They are not too many to be
-- counted.
pub record Tally (z : ℕ) (f : ℕ → List ℕ) (b n m y k : ℕ) : Type 0 where
  pub within : k ≤ n
  pub counting : Counting z (cat f b n) m y (cat f (b + k) (n - k))
  pub most : length (cat f b n) ≤ 1073741824

pub tally_start : (z : ℕ) (f : ℕ → List ℕ) (b n : ℕ) → z ≤ 2 → length (cat f b n) ≤ 1073741824 → Tally z f b n 0 z 0
tally_start z f b n h l =
    record { within = omega arith; counting = rw (add-zero b, sub-zero n) (count_begin z (cat f b n) h); most = l }

pub tally_turn : {z : ℕ} {f : ℕ → List ℕ} {b n m y k m' y' : ℕ} → Tally z f b n m y k → k < n → Counts y (f (b + k)) m' y' → Tally z f b n (m + m') y' (k + 1)
tally_turn {f = f} {b = b} {n = n} {k = k} g h c =
    record {
      within = omega arith;
      counting = count_turn (f (b + k)) (cat f (b + (k + 1)) (n - (k + 1))) (rw (cat_next f b k n h) at g.counting) c;
      most = g.most;
    }

-- the same where the pieces begin with that of 0
pub tally_front : {z : ℕ} {f : ℕ → List ℕ} {n m y k m' y' : ℕ} → Tally z f 0 n m y k → k < n → Counts y (f k) m' y' → Tally z f 0 n (m + m') y' (k + 1)
tally_front {k = k} g h c = tally_turn g h (rw (zero-add k) c)

-- what is counted so far is a number that is not too large
pub tally_most : {z : ℕ} {f : ℕ → List ℕ} {b n m y k : ℕ} → Tally z f b n m y k → m ≤ 1610612737
tally_most g = omega (arith, g.counting.sizes, g.counting.fits, g.most)

pub tally_end : {z : ℕ} {f : ℕ → List ℕ} {b n m y k : ℕ} → Tally z f b n m y k → n ≤ k → Counts z (cat f b n) m y
tally_end {f = f} {b = b} {n = n} {k = k} g h = count_end (rw (cat-over f b k n h) at g.counting)

-- a piece laid as it is has room where its escape has
pub laid_room : (d : List ℕ) (at z : ℕ) (xs : List ℕ) → at + length (esc_from z xs) ≤ length d → at + length xs ≤ length d
laid_room d at z xs h = omega (arith, esc_least z xs)

-- and it stands there
pub laid-part : {d : List ℕ} {at : ℕ} {xs d' : List ℕ} {e : ℕ} → Laid d at xs d' e → at + length xs ≤ length d → part d' at (e - at) ≡ xs
laid-part {d} {at} {xs} g h =
    let l : at + length xs - at ≡ length xs = omega arith in
    rw (g.bytes, g.place, l) (splice-part d at xs h)

-- escaped where it stands it has room
pub mend_room : {d : List ℕ} {at : ℕ} {xs d' : List ℕ} {e : ℕ} → Laid d at xs d' e → at + length (esc_from (counted d at) xs) ≤ length d
    → at + length (esc_from (counted d' at) (part d' at (e - at))) ≤ length d'
mend_room {d} {at} {xs} g h =
    let r = laid_room d at (counted d at) xs h in
    rw (laid-part g r, g.bytes, counted_before d at xs (omega arith), splice-length d at xs r) h

pub put-laid : {d : List ℕ} {at : ℕ} {xs d' : List ℕ} {e : ℕ} {d'' : List ℕ} {at'' : ℕ} → Laid d at xs d' e → at + length (esc_from (counted d at) xs) ≤ length d
    → Put d' at (part d' at (e - at)) d'' at'' → Put d at xs d'' at''
put-laid {d} {at} {xs} {d'} g h p =
    let r = laid_room d at (counted d at) xs h in
    let z : counted d' at ≡ counted d at = rw g.bytes (counted_before d at xs (omega arith)) in
    let x = laid-part g r in
    record {
      place = p.place ∙ rw (x, z) refl;
      bytes = p.bytes ∙ rw (x, z, g.bytes) (splice-over d at xs (esc_from (counted d at) xs) (esc_least (counted d at) xs) h);
    }

-- a piece that is counted where it was laid
pub counts-laid : {d xs d' : List ℕ} {n z m y : ℕ} → Laid d 0 xs d' n → length xs ≤ length d → Counts z (part d' 0 n) m y → Counts z xs m y
counts-laid {n = n} g h c = rw (rw (sub-zero n) at (laid-part g (omega arith))) at c
