-- Writing an escape (put.rt, fast.rt).
--     Put                   a payload escaped at a place of the output, which goes on with the count of the zeros that stand before it
--     Escaping              a payload that is being escaped; begin, turn, end
--     Along                 the same of a part of a slice
--     pieces                a payload in two pieces
-- Assumes nothing.
use Rattle.std.specs.Prelude.{◌≡◌, refl, List, [], ◌∷◌, ◌++◌, true, false, ℕ, ◌+◌, ◌-◌, ◌≤◌, length, take, set}
use Rattle.std.proofs.Common.{append-nil, add-zero, arith}
use Rattle.std.proofs.Math.Nat.{sub-zero}
use Rattle.lists.specs.Fill.{splice, splice-length, set-splice, splice-splice, Writing, start_at, puts, puts_room, done_at}
use Rattle.lists.specs.Part.{part, part-append}
use Rattle.nal_unit.specs.Escape.{inserts, esc_from, zeros_end, esc-nil, esc-append}
use Rattle.nal_unit.specs.EscapeCode.{counted, counted_most, run-esc, counted_behind, esc-hit, esc-plain, end_run, counted-part}
use Rattle.nal_unit.specs.CalmCode.{Quiet, quiet-esc, blanks}

-- The payload xs escaped at the place `at` of the output d, which then holds d', up to the place at'.
pub record Put (d : List ℕ) (at : ℕ) (xs d' : List ℕ) (at' : ℕ) : Type 0 where
  pub place : at' ≡ at + length (esc_from (counted d at) xs)
  pub bytes : d' ≡ splice d at (esc_from (counted d at) xs)

-- the count behind it is the definition's
pub put_count : {d : List ℕ} {at : ℕ} {xs d' : List ℕ} {at' : ℕ} → Put d at xs d' at' → at ≤ length d → counted d' at' ≡ zeros_end (counted d at) xs
put_count {d} {at} {xs} p h =
    rw (p.place, p.bytes, counted_behind d at (esc_from (counted d at) xs) h) (run-esc (counted d at) xs (counted_most d at))

-- The payload `all` is being escaped at the place `at` of the output that held d: it holds `out`, up to the place n, and `rest` is still to come.
pub record Escaping (d : List ℕ) (at : ℕ) (all out : List ℕ) (n : ℕ) (rest : List ℕ) : Type 0 where
  pub writing : Writing d (take at d ++ esc_from (counted d at) all) out n (esc_from (counted out n) rest)
  pub below : at ≤ length d

pub begin : (d : List ℕ) (at : ℕ) (xs : List ℕ) → at + length (esc_from (counted d at) xs) ≤ length d → Escaping d at xs d at xs
begin d at xs h = record { writing = start_at d at (esc_from (counted d at) xs) h; below = omega arith }

pub turn : {d : List ℕ} {at : ℕ} {all out : List ℕ} {n : ℕ} (xs ys : List ℕ) {out' : List ℕ} {n' : ℕ}
    → Escaping d at all out n (xs ++ ys) → Put out n xs out' n' → Escaping d at all out' n' ys
turn {d} {at} {all} {out} {n} xs ys g p =
    let z = counted out n in
    let w = rw (esc-append z xs ys) at g.writing in
    record {
      writing = rw (put_count p (omega arith), p.place, p.bytes) (puts (esc_from z xs) (esc_from (zeros_end z xs) ys) w);
      below = g.below;
    }

pub turn_room : {d : List ℕ} {at : ℕ} {all out : List ℕ} {n : ℕ} (xs ys : List ℕ) → Escaping d at all out n (xs ++ ys)
    → n + length (esc_from (counted out n) xs) ≤ length out
turn_room {d} {at} {all} {out} {n} xs ys g =
    let z = counted out n in
    puts_room (esc_from z xs) (esc_from (zeros_end z xs) ys) (rw (esc-append z xs ys) at g.writing)

pub end : {d : List ℕ} {at : ℕ} {all out : List ℕ} {n : ℕ} → Escaping d at all out n [] → Put d at all out n
end {d} {at} {all} {out} {n} g =
    let e = done_at at (esc_from (counted d at) all) (rw (esc-nil (counted out n)) at g.writing) g.below in
    record { place = e.1; bytes = e.0 }

pub put-hit : (d : List ℕ) (at b : ℕ) → inserts (counted d at) b ≡ true → at + 2 ≤ length d → Put d at (b ∷ []) (set (set d at 3) (at + 1) b) (at + 2)
put-hit d at b e h =
    let f : esc_from (counted d at) (b ∷ []) ≡ 3 ∷ b ∷ [] = esc-hit (counted d at) b e in
    record {
      place = rw f refl;
      bytes =
          rw (f, set-splice d at 3 (omega arith), set-splice (splice d at (3 ∷ [])) (at + 1) b (rw (splice-length d at (3 ∷ []) (omega arith)) (omega arith)))
          (splice-splice d at (3 ∷ []) (b ∷ []) (omega arith));
    }

pub put-plain : (d : List ℕ) (at b : ℕ) → inserts (counted d at) b ≡ false → at + 1 ≤ length d → Put d at (b ∷ []) (set d at b) (at + 1)
put-plain d at b e h =
    let f : esc_from (counted d at) (b ∷ []) ≡ b ∷ [] = esc-plain (counted d at) b e in
    record { place = rw f refl; bytes = rw f (set-splice d at b (omega arith)) }

-- 64 zeros written behind z counted ones
pub put-blanks : (d : List ℕ) (at z : ℕ) {v d' : List ℕ} → counted d at ≡ z → esc_from z (blanks 64) ≡ v → length v ≡ 96 → d' ≡ splice d at v → Put d at (blanks 64) d' (at + 96)
put-blanks d at z e b l f = record { place = rw (e, b, l) refl; bytes = rw (e, b) f }

-- a stretch that is its own escape, written as it is
pub put-quiet : (d : List ℕ) (at : ℕ) {xs d' : List ℕ} {at' : ℕ} → Quiet (counted d at) xs → d' ≡ splice d at xs → at' ≡ at + length xs → Put d at xs d' at'
put-quiet d at q e f = record { place = rw (quiet-esc q) f; bytes = rw (quiet-esc q) e }

-- The n bytes of s from p on are being escaped at the place `at` of the output that held d: k are written, up to the place a. As many zeros stand in s
-- before the next byte as are counted, or more.
pub record Along (s : List ℕ) (p n : ℕ) (d : List ℕ) (at : ℕ) (out : List ℕ) (a k : ℕ) : Type 0 where
  pub within : k ≤ n
  pub far : at ≤ a
  pub less : counted out a ≤ counted s (p + k)
  pub escaping : Escaping d at (part s p n) out a (part s (p + k) (n - k))

pub along_start : (s : List ℕ) (p n : ℕ) (d : List ℕ) (at : ℕ) → at + length (esc_from (counted d at) (part s p n)) ≤ length d → counted d at ≤ counted s p → Along s p n d at d at 0
along_start s p n d at h l =
    record { within = omega arith; far = omega arith; less = rw (add-zero p) l; escaping = rw (add-zero p, sub-zero n) (begin d at (part s p n) h) }

along-split : {s : List ℕ} {p n : ℕ} {d : List ℕ} {at : ℕ} {out : List ℕ} {a k : ℕ} (w : ℕ) → Along s p n d at out a k → k + w ≤ n
    → Escaping d at (part s p n) out a (part s (p + k) w ++ part s (p + (k + w)) (n - (k + w)))
along-split {s} {p} {n} {k = k} w g h =
    let e : n - k ≡ w + (n - (k + w)) = omega arith in
    let f : p + (k + w) ≡ p + k + w = omega arith in
    rw f (rw (e, part-append s (p + k) w (n - (k + w))) at g.escaping)

-- the next w bytes have room, and are written
pub along_room : {s : List ℕ} {p n : ℕ} {d : List ℕ} {at : ℕ} {out : List ℕ} {a k : ℕ} (w : ℕ) → Along s p n d at out a k → k + w ≤ n
    → a + length (esc_from (counted out a) (part s (p + k) w)) ≤ length out
along_room {s} {p} {n} {k = k} w g h = turn_room (part s (p + k) w) (part s (p + (k + w)) (n - (k + w))) (along-split w g h)

pub along_turn : {s : List ℕ} {p n : ℕ} {d : List ℕ} {at : ℕ} {out : List ℕ} {a k : ℕ} (w : ℕ) {out' : List ℕ} {a' : ℕ} → Along s p n d at out a k → k + w ≤ n
    → Put out a (part s (p + k) w) out' a' → Along s p n d at out' a' (k + w)
along_turn {s} {p} {n} {d} {at} {out} {a} {k} w g h q =
    let f : p + (k + w) ≡ p + k + w = omega arith in
    let z = counted out a in
    record {
      within = h;
      far = omega (arith, q.place, g.far);
      less =
          rw (put_count q (omega (arith, along_room w g h)), f, counted-part s (p + k) w)
          (end_run z (counted s (p + k)) (part s (p + k) w) (counted_most out a) g.less);
      escaping = turn (part s (p + k) w) (part s (p + (k + w)) (n - (k + w))) (along-split w g h) q;
    }

-- the last ones are written
pub along_end : {s : List ℕ} {p n : ℕ} {d : List ℕ} {at : ℕ} {out : List ℕ} {a k : ℕ} {out' : List ℕ} {a' : ℕ} → Along s p n d at out a k
    → Put out a (part s (p + k) (n - k)) out' a' → Put d at (part s p n) out' a'
along_end {s} {p} {n} {k = k} g q = end (turn (part s (p + k) (n - k)) [] (rw (append-nil (part s (p + k) (n - k))) g.escaping) q)

-- two payloads escaped one behind the other are their concatenation escaped
second : (d : List ℕ) (at : ℕ) (xs ys : List ℕ) {d' : List ℕ} {at' : ℕ} → at + length (esc_from (counted d at) (xs ++ ys)) ≤ length d → Put d at xs d' at'
    → Escaping d at (xs ++ ys) d' at' (ys ++ [])
second d at xs ys h p = rw (append-nil ys) (turn xs ys (begin d at (xs ++ ys) h) p)

pub pieces_first : (d : List ℕ) (at : ℕ) (xs ys : List ℕ) → at + length (esc_from (counted d at) (xs ++ ys)) ≤ length d → at + length (esc_from (counted d at) xs) ≤ length d
pieces_first d at xs ys h = turn_room xs ys (begin d at (xs ++ ys) h)

pub pieces_room : (d : List ℕ) (at : ℕ) (xs ys : List ℕ) {d' : List ℕ} {at' : ℕ} → at + length (esc_from (counted d at) (xs ++ ys)) ≤ length d → Put d at xs d' at'
    → at' + length (esc_from (counted d' at') ys) ≤ length d'
pieces_room d at xs ys h p = turn_room ys [] (second d at xs ys h p)

pub pieces : (d : List ℕ) (at : ℕ) (xs ys : List ℕ) {d' d'' : List ℕ} {at' at'' : ℕ} → at + length (esc_from (counted d at) (xs ++ ys)) ≤ length d
    → Put d at xs d' at' → Put d' at' ys d'' at'' → Put d at (xs ++ ys) d'' at''
pieces d at xs ys h p q = end (turn ys [] (second d at xs ys h p) q)
