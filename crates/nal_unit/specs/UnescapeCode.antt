-- What unescaping in the code (unescape.rt) rests on: the payload by the places of the bytes (Kept), written into a buffer that is being filled.
--     Unescapes         what a stretch holds of the payload, written at a place; unescapes_as, where it holds v; kept-mark, kept_byte: of one byte
--     Unescaping        a stretch written part by part: the start, the room for a part, a part, the end
--     payload-length, payload-count    the length of the payload of all bytes, by what is kept and by what was inserted
--     payload_few, payload_all         that payload, written from the first place on
-- Assumes nothing.
use Rattle.std.specs.Prelude.{◌≡◌, refl, List, [], ◌∷◌, ◌++◌, true, false, ℕ, ◌+◌, ◌≤◌, ◌<◌, length, take, drop, get_or}
use Rattle.std.proofs.Common.{sym, ap, ◌∙◌, arith, length-append}
use Rattle.lists.specs.Part.{part, part_length, part_all}
use Rattle.lists.specs.Fill.{splice, splice-splice, Writing, start_at, puts, puts_room, done_at, splice_front}
use Rattle.nal_unit.specs.Unescape.{un}
use Rattle.nal_unit.specs.Kept.{ins_at, kept, ins_count, un-kept, un_few, kept_more, kept-plain, kept_end, kept_append, kept-length}

-- what the bytes of s from p up to e hold of the payload, written over d from the place a on; what is then there, and the place behind
pub record Unescapes (s : List ℕ) (p e : ℕ) (d : List ℕ) (a : ℕ) (d' : List ℕ) (a' : ℕ) : Type 0 where
  pub bytes : d' ≡ splice d a (kept s p e)
  pub place : a' ≡ a + length (kept s p e)

-- the stretch holds v
pub unescapes_as : {s : List ℕ} {p e : ℕ} {d : List ℕ} {a : ℕ} {d' : List ℕ} {a' : ℕ} (v : List ℕ) → kept s p e ≡ v → d' ≡ splice d a v → a' ≡ a + length v → Unescapes s p e d a d' a'
unescapes_as v f g h = record { bytes = rw f g; place = rw f h }

-- an inserted byte holds nothing, and another itself
pub kept-mark : (s : List ℕ) (p : ℕ) → 2 ≤ p → p < length s → ins_at s p ≡ true → kept s p (p + 1) ≡ []
kept-mark s p i h t = kept_more s p (p + 1) (omega arith) (omega arith) t ∙ kept_end s (p + 1) (p + 1) (omega arith)

pub kept_byte : (s : List ℕ) (p : ℕ) → 2 ≤ p → p < length s → ins_at s p ≡ false → kept s p (p + 1) ≡ get_or s p 0 ∷ []
kept_byte s p i h t =
    kept-plain s p (p + 1) (omega arith) (omega arith) t ∙ ap (λ (l : List ℕ). get_or s p 0 ∷ l) (kept_end s (p + 1) (p + 1) (omega arith))

-- A stretch written part by part, from the place a on of a buffer that held d: it is written up to the place q, and b is the place behind.
pub record Unescaping (s : List ℕ) (p e : ℕ) (d : List ℕ) (a : ℕ) (out : List ℕ) (b q : ℕ) : Type 0 where
  pub writing : Writing d (take a d ++ kept s p e) out b (kept s q e)
  pub from : a ≤ length d
  pub low : 2 ≤ q
  pub high : q ≤ e
  pub inside : e ≤ length s

pub unescaping_start : (s : List ℕ) (p e : ℕ) (d : List ℕ) (a : ℕ) → 2 ≤ p → p ≤ e → e ≤ length s → a + length (kept s p e) ≤ length d → Unescaping s p e d a d a p
unescaping_start s p e d a i h l r = record { writing = start_at d a (kept s p e) r; from = omega arith; low = i; high = h; inside = l }

-- the part up to m has room
pub unescaping_room : {s : List ℕ} {p e : ℕ} {d : List ℕ} {a : ℕ} {out : List ℕ} {b q : ℕ} (m : ℕ) → Unescaping s p e d a out b q → q ≤ m → m ≤ e → b + length (kept s q m) ≤ length out
unescaping_room {s} {p} {e} {d} {a} {out} {b} {q} m g h k =
    puts_room (kept s q m) (kept s m e) (rw (kept_append s q m e h k g.inside) at g.writing)

-- and is written
pub unescaping_turn : {s : List ℕ} {p e : ℕ} {d : List ℕ} {a : ℕ} {out : List ℕ} {b q m : ℕ} {out' : List ℕ} {b' : ℕ} → Unescaping s p e d a out b q → Unescapes s q m out b out' b'
    → q ≤ m → m ≤ e → Unescaping s p e d a out' b' m
unescaping_turn {s} {p} {e} {d} {a} {out} {b} {q} {m} g t h k =
    record {
      writing = rw (t.bytes, t.place) (puts (kept s q m) (kept s m e) (rw (kept_append s q m e h k g.inside) at g.writing));
      from = g.from;
      low = omega arith;
      high = k;
      inside = g.inside;
    }

pub unescaping_end : {s : List ℕ} {p e : ℕ} {d : List ℕ} {a : ℕ} {out : List ℕ} {b q : ℕ} → Unescaping s p e d a out b q → e ≤ q → Unescapes s p e d a out b
unescaping_end {s} {p} {e} {d} {a} {out} {b} {q} g h =
    let f = done_at a (kept s p e) (rw (kept_end s q e h) at g.writing) g.from in
    record { bytes = f.0; place = f.1 }

-- The payload of all bytes, written from the first place on

-- fewer than two
pub payload_few : (s d : List ℕ) {d' : List ℕ} → length s < 2 → d' ≡ splice d 0 (part s 0 (length s)) → (length s ≡ length (un s)) × (d' ≡ un s ++ drop (length (un s)) d)
payload_few s d h g = rw (un_few s h) (refl, g ∙ rw (part_all s (length s) refl) (splice_front d s))

-- more: the first two, then what is kept behind them
pub payload-length : (s : List ℕ) → 2 ≤ length s → length (un s) ≡ 2 + length (kept s 2 (length s))
payload-length s h = ap length (un-kept s h) ∙ length-append (part s 0 2) (kept s 2 (length s)) ∙ ap (λ (n : ℕ). n + length (kept s 2 (length s))) (part_length s 0 2 h)

pub payload-count : (s : List ℕ) → 2 ≤ length s → length (un s) + ins_count s 2 (length s) ≡ length s
payload-count s h = omega (arith, payload-length s h, kept-length s 2 (length s) h (omega arith))

pub payload_all : (s d : List ℕ) {f d' : List ℕ} {n : ℕ} → 2 ≤ length s → length (un s) ≤ length d → f ≡ splice d 0 (part s 0 2) → Unescapes s 2 (length s) f 2 d' n
    → (n ≡ length (un s)) × (d' ≡ un s ++ drop (length (un s)) d)
payload_all s d h l g t =
    let w : length (part s 0 2) ≡ 2 = part_length s 0 2 h in
    let k = splice-splice d 0 (part s 0 2) (kept s 2 (length s)) (omega (arith, payload-length s h)) in
    (t.place ∙ sym (payload-length s h), t.bytes ∙ rw (g, un-kept s h) (rw w at k ∙ splice_front d (part s 0 2 ++ kept s 2 (length s))))
