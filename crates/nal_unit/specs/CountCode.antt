-- Counting an escape (count.rt).
--     Counts                the length of a payload's escape, and the zeros counted behind it
--     Counting              a payload that is being counted; count_begin, count_turn, count_end
--     Passing               the same of a part of a slice
--     counts-pieces         a payload in two pieces
-- Assumes nothing.
use Rattle.std.specs.Prelude.{◌≡◌, refl, List, [], ◌∷◌, ◌++◌, true, false, cond, ℕ, ◌+◌, ◌-◌, ◌*◌, ◌≤◌, ◌<◌, eqb, length}
use Rattle.std.proofs.Common.{sym, ap, ◌∙◌, append-nil, zero-add, add-zero, arith, length-append}
use Rattle.std.proofs.Math.Nat.{sub-zero}
use Rattle.lists.specs.Part.{part, part_length, part-append}
use Rattle.nal_unit.specs.Escape.{inserts, zeros, esc_from, zeros_end, esc-nil, esc-append, end_nil, end_append, esc_most}
use Rattle.nal_unit.specs.EscapeCode.{end_most, counted, esc-hit, esc-plain, end_run, counted-part, run-part}
use Rattle.nal_unit.specs.CalmCode.{Quiet, quiet-esc, quiet-run, blanks, blanks-size, blanks_end}

-- The payload xs after z counted zeros: its escape has n bytes, and y zeros are counted behind it.
pub record Counts (z : ℕ) (xs : List ℕ) (n y : ℕ) : Type 0 where
  pub size : n ≡ length (esc_from z xs)
  pub ends : y ≡ zeros_end z xs

-- The payload `all` after z counted zeros is being counted: m bytes and the count y stand behind what is passed, and `rest` is still to come.
pub record Counting (z : ℕ) (all : List ℕ) (m y : ℕ) (rest : List ℕ) : Type 0 where
  pub sizes : m + length (esc_from y rest) ≡ length (esc_from z all)
  pub ending : zeros_end y rest ≡ zeros_end z all
  pub low : y ≤ 2
  pub fits : 2 * length (esc_from z all) ≤ 3 * length all + 2

pub count_begin : (z : ℕ) (xs : List ℕ) → z ≤ 2 → Counting z xs 0 z xs
count_begin z xs h = record { sizes = omega arith; ending = refl; low = h; fits = omega (arith, esc_most z xs) }

pub count_turn : {z : ℕ} {all : List ℕ} {m y : ℕ} (xs ys : List ℕ) {m' y' : ℕ} → Counting z all m y (xs ++ ys) → Counts y xs m' y' → Counting z all (m + m') y' ys
count_turn {z} {all} {m} {y} xs ys {m'} {y'} g c =
    let e : length (esc_from y (xs ++ ys)) ≡ length (esc_from y xs) + length (esc_from (zeros_end y xs) ys) =
    rw (esc-append y xs ys) (length-append (esc_from y xs) (esc_from (zeros_end y xs) ys)) in
    record {
      sizes = rw (c.size, c.ends) (omega arith);
      ending = rw c.ends (sym (end_append y xs ys) ∙ g.ending);
      low = rw c.ends (end_most y xs g.low);
      fits = g.fits;
    }

pub count_end : {z : ℕ} {all : List ℕ} {m y : ℕ} → Counting z all m y [] → Counts z all m y
count_end {z} {all} {m} {y} g = record { size = omega (arith, ap length (esc-nil y)); ends = sym (end_nil y) ∙ g.ending }

-- what is counted of a part of a slice fits, with room to spare
pub counts-fit : {z : ℕ} {xs : List ℕ} {n y : ℕ} → z ≤ 2 → Counts z xs n y → 2 * n ≤ 3 * length xs + 2
counts-fit {z} {xs} h c = rw c.size (omega (arith, esc_most z xs))

-- one byte: 03 goes before it; or not, and it is zero, or not
pub counts-hit : (z b y : ℕ) → inserts z b ≡ true → y ≡ cond (eqb b 0) 1 0 → Counts z (b ∷ []) 2 y
unfolding zeros_end zeros
counts-hit z b y e f = record { size = rw (esc-hit z b e) refl; ends = rw (e, f) refl }

pub counts-plain : (z b y : ℕ) → inserts z b ≡ false → y ≡ cond (eqb b 0) (z + 1) 0 → Counts z (b ∷ []) 1 y
unfolding zeros_end zeros
counts-plain z b y e f = record { size = rw (esc-plain z b e) refl; ends = rw (e, f) refl }

-- a stretch that is its own escape, counted: two bytes or more, so that the count behind it is read off s
pub counts-quiet : (s : List ℕ) (p n z : ℕ) → z ≤ 2 → p + (n + 2) ≤ length s → Quiet z (part s p (n + 2)) → Counts z (part s p (n + 2)) (n + 2) (counted s (p + (n + 2)))
counts-quiet s p n z l h q =
    record {
      size = rw (quiet-esc q) (sym (part_length s p (n + 2) h));
      ends = sym (quiet-run l q ∙ run-part s p n z h);
    }

-- 64 zeros counted
pub counts-blanks : (z : ℕ) → 0 < z → z ≤ 2 → Counts z (blanks 64) 96 z
counts-blanks z h l = record { size = sym (blanks-size z h l); ends = sym (blanks_end z h l) }

-- The n bytes of s from p on, after z counted zeros, are being counted: k are passed, with m bytes and the count y behind them. As many zeros stand in s before
-- the next byte as are counted, or more.
pub record Passing (s : List ℕ) (p n z m y k : ℕ) : Type 0 where
  pub within : k ≤ n
  pub less : y ≤ counted s (p + k)
  pub counting : Counting z (part s p n) m y (part s (p + k) (n - k))

pub passing_start : (s : List ℕ) (p n z : ℕ) → z ≤ 2 → z ≤ counted s p → Passing s p n z 0 z 0
passing_start s p n z h l =
    record { within = omega arith; less = rw (add-zero p) l; counting = rw (add-zero p, sub-zero n) (count_begin z (part s p n) h) }

pub passing_turn : {s : List ℕ} {p n z m y k : ℕ} (w : ℕ) {m' y' : ℕ} → Passing s p n z m y k → k + w ≤ n → Counts y (part s (p + k) w) m' y' → Passing s p n z (m + m') y' (k + w)
passing_turn {s} {p} {n} {z} {m} {y} {k} w g h c =
    let e : n - k ≡ w + (n - (k + w)) = omega arith in
    let f : p + (k + w) ≡ p + k + w = omega arith in
    record {
      within = h;
      less = rw (c.ends, f, counted-part s (p + k) w) (end_run y (counted s (p + k)) (part s (p + k) w) g.counting.low g.less);
      counting =
          rw f (count_turn (part s (p + k) w) (part s (p + k + w) (n - (k + w))) (rw (e, part-append s (p + k) w (n - (k + w))) at g.counting) c);
    }

pub passing_end : {s : List ℕ} {p n z m y k : ℕ} {m' y' : ℕ} → Passing s p n z m y k → Counts y (part s (p + k) (n - k)) m' y' → Counts z (part s p n) (m + m') y'
passing_end {s} {p} {n} {k = k} g c = count_end (count_turn (part s (p + k) (n - k)) [] (rw (append-nil (part s (p + k) (n - k))) g.counting) c)

-- two payloads counted one behind the other are their concatenation counted
pub counts-pieces : {z : ℕ} (xs ys : List ℕ) {m y m' y' : ℕ} → z ≤ 2 → Counts z xs m y → Counts y ys m' y' → Counts z (xs ++ ys) (m + m') y'
counts-pieces {z} xs ys {m} h c d =
    count_end (count_turn ys [] (rw (append-nil ys) (rw (zero-add m) at (count_turn xs ys (count_begin z (xs ++ ys) h) c))) d)
