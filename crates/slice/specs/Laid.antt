-- Bytes that are laid into a buffer as they are, piece by piece.
--     Laid d at xs d' at'     xs stands at the place `at` of a buffer that held d and holds d', up to the place at'
--     laid_one, laid_more     one piece; a second one behind the first
--     Laying                  pieces of a `cat` that are being laid, k of them so far
-- Assumes nothing.
use Rattle.std.specs.Prelude.{◌≡◌, refl, List, ◌++◌, ℕ, ◌+◌, ◌-◌, ◌≤◌, ◌<◌, length}
use Rattle.std.proofs.Common.{sym, ap, ◌∙◌, add-zero, arith, length-append}
use Rattle.lists.specs.Fill.{splice, splice-length, splice_none, splice-splice}
use Rattle.lists.specs.Part.{part, part_all}
use Rattle.slice.specs.Cat.{cat, cat_none, cat_last, cat-split}

pub record Laid (d : List ℕ) (at : ℕ) (xs d' : List ℕ) (at' : ℕ) : Type 0 where
  pub place : at' ≡ at + length xs
  pub bytes : d' ≡ splice d at xs

pub laid_one : (d : List ℕ) (at n : ℕ) (xs : List ℕ) {d' : List ℕ} {at' : ℕ} → length xs ≡ n → at' ≡ at + n → d' ≡ splice d at xs → Laid d at xs d' at'
laid_one d at n xs l p e = record { place = rw l p; bytes = e }

-- the same of a list that is given by its elements
pub laid_all : (d : List ℕ) (at n : ℕ) {xs : List ℕ} (v : List ℕ) {d' : List ℕ} → xs ≡ v → length v ≡ n → d' ≡ splice d at (part v 0 n) → Laid d at xs d' (at + n)
laid_all d at n v x l e = rw x (laid_one d at n v l refl (rw (part_all v n l) at e))

-- the buffer keeps its length
pub laid-length : {d : List ℕ} {at : ℕ} {xs d' : List ℕ} {at' : ℕ} → Laid d at xs d' at' → at + length xs ≤ length d → length d' ≡ length d
laid-length {d} {at} {xs} g h = ap length g.bytes ∙ splice-length d at xs h

pub laid_more : {d : List ℕ} {at : ℕ} {xs d' : List ℕ} {at' : ℕ} (ys : List ℕ) {d'' : List ℕ} {at'' : ℕ} → at + (length xs + length ys) ≤ length d
    → Laid d at xs d' at' → Laid d' at' ys d'' at'' → Laid d at (xs ++ ys) d'' at''
laid_more {d} {at} {xs} ys h g k =
    record {
      place = rw (k.place, g.place, length-append xs ys) (omega arith);
      bytes = rw (k.bytes, g.place, g.bytes) (splice-splice d at xs ys (omega arith));
    }

-- The n pieces of f from that of b on are being laid at the place `at` of a buffer that held d: k of them stand there, up to the place a.
pub record Laying (d : List ℕ) (at : ℕ) (f : ℕ → List ℕ) (b n : ℕ) (out : List ℕ) (a k : ℕ) : Type 0 where
  pub laid : Laid d at (cat f b k) out a
  pub within : k ≤ n
  pub long : length out ≡ length d
  pub room : at + length (cat f b n) ≤ length d

pub laying_start : (d : List ℕ) (at : ℕ) (f : ℕ → List ℕ) (b n : ℕ) → at + length (cat f b n) ≤ length d → Laying d at f b n d at 0
laying_start d at f b n h =
    record {
      laid = record { place = rw (cat_none f b) (sym (add-zero at)); bytes = rw (cat_none f b) (sym (splice_none d at)) };
      within = omega arith;
      long = refl;
      room = h;
    }

-- the next piece has room
pub laying_room : {d : List ℕ} {at : ℕ} {f : ℕ → List ℕ} {b n : ℕ} {out : List ℕ} {a k : ℕ} → Laying d at f b n out a k → k < n → a + length (f (b + k)) ≤ length out
laying_room {f = f} {b = b} {n = n} {k = k} g h =
    let t = cat f (b + k + 1) (n - (k + 1)) in
    omega (arith, g.laid.place, g.long, g.room, ap length (cat-split f b n k h), length-append (cat f b k) (f (b + k) ++ t), length-append (f (b + k)) t)

pub laying_turn : {d : List ℕ} {at : ℕ} {f : ℕ → List ℕ} {b n : ℕ} {out : List ℕ} {a k : ℕ} {out' : List ℕ} {a' : ℕ} → Laying d at f b n out a k → k < n
    → Laid out a (f (b + k)) out' a' → Laying d at f b n out' a' (k + 1)
laying_turn {d} {at} {f} {b} {n} {out} {a} {k} g h l =
    let r = laying_room g h in
    record {
      laid = rw (cat_last f b k) (laid_more (f (b + k)) (omega (arith, g.laid.place, g.long)) g.laid l);
      within = omega arith;
      long = laid-length l r ∙ g.long;
      room = g.room;
    }

pub laying_end : {d : List ℕ} {at : ℕ} {f : ℕ → List ℕ} {b n : ℕ} {out : List ℕ} {a k : ℕ} → Laying d at f b n out a k → n ≤ k → Laid d at (cat f b n) out a
laying_end {n = n} {k = k} g h = let e : n ≡ k = omega (arith, g.within) in rw e g.laid
