-- A lent buffer that is being filled.
--     splice d at v            the list d with v written over it from the place `at` on
--     Writing d w out n rest   the buffer held d and is to begin with w; it holds `out` now, with n elements of w, and `rest` is still to come
--     start, start_at          nothing is written yet; the second writes from a place on
--     put, puts                one element, or a list, is written at n
--     puts_room                what is still to come has room
--     done, done_at            nothing is left to come: what the buffer holds
--     splice_front, splice_whole     what is written from the first element on, and over all
-- Assumes nothing.
use Rattle.std.specs.Prelude.{◌≡◌, refl, List, [], ◌∷◌, ◌++◌, ℕ, ◌+◌, ◌-◌, ◌≤◌, ◌<◌, length, take, drop, get_or, set}
use Rattle.std.proofs.Common.{sym, ap, ◌∙◌, append_assoc, append-nil, add-one, zero-add, add-zero, add_assoc, arith, length-append, length-take, length-drop, take-append-drop, take_at, drop_at, take-add, drop-drop, length-take-le, get_or-take, get_or-drop, get_or-append-add}
use Rattle.std.proofs.Math.ListN.{get_or-append}
use Rattle.std.proofs.lemmas.List.{set_split}
use Rattle.std.proofs.Math.Seq.{take-append_seam, drop-append_seam, take-length, drop-length, drop-append-add}

unfoldable pub splice : List ℕ → ℕ → List ℕ → List ℕ
splice d at v = take at d ++ (v ++ drop (at + length v) d)

pub splice-length : (d : List ℕ) (at : ℕ) (v : List ℕ) → at + length v ≤ length d → length (splice d at v) ≡ length d
unfolding splice
splice-length d at v h = simp (length-append, length-take, length-drop) (omega arith)

-- nothing written changes nothing
pub splice_none : (d : List ℕ) (at : ℕ) → splice d at [] ≡ d
unfolding splice
splice_none d at = rw (add-zero at) (take-append-drop at d)

-- one element written
pub set-splice : (d : List ℕ) (at v : ℕ) → at < length d → set d at v ≡ splice d at (v ∷ [])
unfolding splice
set-splice d at v h = rw (add-one at) (set_split d at v h)

-- two lists written side by side are their concatenation, written once
pub splice-splice : (d : List ℕ) (at : ℕ) (v w : List ℕ) → at + length v + length w ≤ length d
    → splice (splice d at v) (at + length v) w ≡ splice d at (v ++ w)
unfolding splice
splice-splice d at v w h =
    let t : length (take at d) ≡ at = length-take-le at d (omega arith) in
    let f : length (take at d ++ v) ≡ at + length v = rw (length-append (take at d) v, t) refl in
    rw (← append_assoc (take at d) v (drop (at + length v) d), take_at (take at d ++ v) (drop (at + length v) d) (at + length v) f)
    (rw (← f, drop-append-add (take at d ++ v) (drop (length (take at d ++ v)) d) (length w), f, drop-drop (length w) (at + length v) d, length-append v w)
    (simp (append_assoc, add_assoc)))

-- a list written over one that is no longer, at the same place
pub splice-over : (d : List ℕ) (at : ℕ) (v w : List ℕ) → length v ≤ length w → at + length w ≤ length d → splice (splice d at v) at w ≡ splice d at w
unfolding splice
splice-over d at v w h r =
    let t : length (take at d) ≡ at = length-take-le at d (omega arith) in
    let f : length (take at d ++ v) ≡ at + length v = rw (length-append (take at d) v, t) refl in
    let e : at + length w ≡ (at + length v) + (length w - length v) = omega arith in
    rw (take_at (take at d) (v ++ drop (at + length v) d) at t, ← append_assoc (take at d) v (drop (at + length v) d))
    (ap (λ (l : List ℕ). take at d ++ (w ++ l))
    (rw (e, ← f) (rw (drop-append-add (take at d ++ v) (drop (length (take at d ++ v)) d) (length w - length v), f) (drop-drop (length w - length v) (at + length v) d))))

-- ---- the elements of a list that was written over

-- an element of what was written
pub splice_at : (d : List ℕ) (at : ℕ) (v : List ℕ) (k : ℕ) → at ≤ length d → k < length v → get_or (splice d at v) (at + k) 0 ≡ get_or v k 0
unfolding splice
splice_at d at v k h l =
    let t : length (take at d) ≡ at = length-take-le at d h in
    (rw t at (get_or-append-add (take at d) (v ++ drop (at + length v) d) k 0)) ∙ get_or-append v (drop (at + length v) d) 0 k l

-- an element before it
pub splice_before : (d : List ℕ) (at : ℕ) (v : List ℕ) (j : ℕ) → at ≤ length d → j < at → get_or (splice d at v) j 0 ≡ get_or d j 0
unfolding splice
splice_before d at v j h l =
    get_or-append (take at d) (v ++ drop (at + length v) d) 0 j (omega (arith, length-take-le at d h)) ∙ get_or-take at d j 0 l

-- an element behind what took the place of a list's first n
pub front_behind : (xs d : List ℕ) (n j : ℕ) → length xs ≡ n → n ≤ j → get_or (xs ++ drop n d) j 0 ≡ get_or d j 0
front_behind xs d n j h l =
    let e : j ≡ length xs + (j - n) = omega arith in
    let g : n + (j - n) ≡ j = omega arith in
    ap (λ (i : ℕ). get_or (xs ++ drop n d) i 0) e ∙ (get_or-append-add xs (drop n d) (j - n) 0 ∙ (get_or-drop n d (j - n) 0 ∙ ap (λ (i : ℕ). get_or d i 0) g))

-- an element behind what was written
pub splice_behind : (d : List ℕ) (at : ℕ) (v : List ℕ) (j : ℕ) → at ≤ length d → at + length v ≤ j → get_or (splice d at v) j 0 ≡ get_or d j 0
unfolding splice
splice_behind d at v j h l =
    let e : length (take at d ++ v) ≡ at + length v = rw (length-append (take at d) v, length-take-le at d h) refl in
    rw (← append_assoc (take at d) v (drop (at + length v) d)) (front_behind (take at d ++ v) d (at + length v) j e l)

-- ---- a buffer that is being filled

pub record Writing (d w out : List ℕ) (n : ℕ) (rest : List ℕ) : Type 0 where
  pub holds : out ≡ take n w ++ drop n d
  pub todo : drop n w ≡ rest
  pub count : n + length rest ≡ length w
  pub room : length w ≤ length d
  pub long : length out ≡ length d

pub start : (d w : List ℕ) → length w ≤ length d → Writing d w d 0 w
start d w h = record { holds = refl; todo = refl; count = omega arith; room = h; long = refl }

pub start_at : (d : List ℕ) (at : ℕ) (w : List ℕ) → at + length w ≤ length d → Writing d (take at d ++ w) d at w
start_at d at w h =
    let t : length (take at d) ≡ at = length-take-le at d (omega arith) in
    record {
      holds = rw (take_at (take at d) w at t) (sym (take-append-drop at d));
      todo = drop_at (take at d) w at t;
      count = rw (length-append (take at d) w, t) refl;
      room = rw (length-append (take at d) w, t) h;
      long = refl;
    }

pub puts : {d w out : List ℕ} {n : ℕ} (v rest : List ℕ) → Writing d w out n (v ++ rest) → Writing d w (splice out n v) (n + length v) rest
unfolding splice
puts {d} {w} {out} {n} v rest g =
    let l : length (v ++ rest) ≡ length v + length rest = length-append v rest in
    let t : length (take n w) ≡ n = length-take-le n w (omega arith) in
    let seen : take (n + length v) w ≡ take n w ++ v = rw (take-add n (length v) w, g.todo, take-append_seam v rest) refl in
    let ends : drop (n + length v) out ≡ drop (n + length v) d =
    rw (g.holds, ← drop-drop (length v) n (take n w ++ drop n d), drop_at (take n w) (drop n d) n t) (drop-drop (length v) n d) in
    record {
      holds = rw (ends, seen) (rw (g.holds, take_at (take n w) (drop n d) n t) (sym (append_assoc (take n w) v (drop (n + length v) d))));
      todo = rw (← drop-drop (length v) n w, g.todo) (drop-append_seam v rest);
      count = omega arith;
      room = g.room;
      long = splice-length out n v (omega (arith, g.long)) ∙ g.long;
    }

pub put : {d w out : List ℕ} {n v : ℕ} {rest : List ℕ} → Writing d w out n (v ∷ rest) → Writing d w (set out n v) (n + 1) rest
put {d} {w} {out} {n} {v} {rest} g = rw (set-splice out n v (omega arith)) (puts (v ∷ []) rest g)

pub puts_room : {d w out : List ℕ} {n : ℕ} (v rest : List ℕ) → Writing d w out n (v ++ rest) → n + length v ≤ length out
puts_room v rest g = omega (arith, length-append v rest)

pub done : {d w out : List ℕ} {n : ℕ} → Writing d w out n [] → (out ≡ w ++ drop (length w) d) × (n ≡ length w)
done {d} {w} {out} {n} g =
    let e : n ≡ length w = omega arith in
    (rw (g.holds, e, take-length w) refl, e)

pub done_at : {d out : List ℕ} {n : ℕ} (at : ℕ) (w : List ℕ) → Writing d (take at d ++ w) out n [] → at ≤ length d → (out ≡ splice d at w) × (n ≡ at + length w)
unfolding splice
done_at {d} {out} {n} at w g h =
    let t : length (take at d) ≡ at = length-take-le at d h in
    let f : length (take at d ++ w) ≡ at + length w = rw (length-append (take at d) w, t) refl in
    (rw ((done g).0, f) (append_assoc (take at d) w (drop (at + length w) d)), rw (done g).1 f)

-- what is written from the first element on, and over all
pub splice_front : (d v : List ℕ) → splice d 0 v ≡ v ++ drop (length v) d
unfolding splice
splice_front d v = rw (zero-add (length v)) refl

pub splice_whole : (d v : List ℕ) → length v ≡ length d → splice d 0 v ≡ v
splice_whole d v e = splice_front d v ∙ rw (e, drop-length d) (append-nil v)
