-- The room of a picture's calls as C sees it.
--     room_number w h c d       the room for pictures of this size, colour and depth (crate encoder, Room); 0 where the numbers are not known
--     start_room, next_room     a call whose output is that long is not refused with 9, whatever it is given besides
--     by_shape                  99 and 1 to 5, the numbers of a refusal for what room_number looks at
--     start_none, next_none     where the planes have one depth the room is 0 exactly where the call is refused with one of them
-- Then the laws that the code cites. Assumes nothing.
use Rattle.std.specs.Prelude.{◌≡◌, Some, None, List, Bool, ◌&&◌, ◌||◌, ℕ, ◌≤◌, length}
use Rattle.std.proofs.Math.Path.{refl}
use Rattle.std.proofs.Common.{sym, ap, ◌∙◌, true≢false, ne_eqb}
use Rattle.std.proofs.Math.Bool.{true, false, cond}
use native.Mathlib.Omega.{arith}
use Rattle.std.proofs.Math.Dec.{eqb}
use Rattle.ycbcr_image.specs.declared.BitDepth.{BitDepth}
use Rattle.ycbcr_image.specs.declared.Kind.{Kind}
use Rattle.ycbcr_image.specs.Sizes.{sequence_of}
use Rattle.ycbcr_image.specs.Shape.{of_shape, depths-alike}
use Rattle.encoder.specs.declared.Depths.{Depths}
use Rattle.encoder.specs.Shot.{image_of}
use Rattle.encoder.specs.Room.{room_of, Roomed, room_start, room_next}
use Rattle.reelpony.specs.Numbers.{colour_known, depth_known, known, kind_of, bit_depth_of, depths_of, Plane, shot_of, held_of, start_number, next_number}
use Rattle.reelpony.specs.Code.{session, form_in, is_formed, is_unknown}

unfoldable pub room_number : ℕ → ℕ → ℕ → ℕ → ℕ
room_number w h c d = cond (known c d d d) (room_of (sequence_of (session w h (kind_of c) (bit_depth_of d)))) 0

abbrev pub by_shape : ℕ → Bool
by_shape n = eqb n 99 || of_shape n

-- where the numbers of a call are known, so are they with Y's depth for all three
known_one : (c y cb cr : ℕ) → known c y cb cr ≡ true → known c y y y ≡ true
unfolding known
known_one c y cb cr = go (colour_known c) (depth_known y) (eqb c 0) (depth_known cb && depth_known cr)
  where
    go : (a b z e : Bool) → a && (b && (z || e)) ≡ true → a && (b && (z || (b && b))) ≡ true
    go true true true e t = refl
    go true true false e t = refl
    go true false z e t = absurd (true≢false (sym t))
    go false b z e t = absurd (true≢false (sym t))

-- both calls, where n is what the writer answers
module _ (w h c : ℕ) (y cb cr : Plane) (d : List ℕ) {n : ℕ} (r : Roomed (shot_of w h c y cb cr) d n) where
  not_nine : room_number w h c y.depth ≤ length d → cond (known c y.depth cb.depth cr.depth) n 99 ≡ 9 → ⊥
  unfolding room_number
  not_nine l = go (known c y.depth cb.depth cr.depth) refl
    where
      go : (b : Bool) → known c y.depth cb.depth cr.depth ≡ b → cond b n 99 ≡ 9 → ⊥
      go true k = r.enough (rw (known_one c y.depth cb.depth cr.depth k) at l)
      go false k = λ e. omega arith

  none : cb.depth ≡ y.depth → cr.depth ≡ y.depth → by_shape (cond (known c y.depth cb.depth cr.depth) n 99) ≡ eqb (room_number w h c y.depth) 0
  unfolding room_number
  none e f = rw (e, f) (go (known c y.depth y.depth y.depth))
    where
      go : (b : Bool) → by_shape (cond b n 99) ≡ eqb (cond b (room_of (sequence_of (session w h (kind_of c) (bit_depth_of y.depth)))) 0) 0
      go true = rw (ne_eqb n 99 (λ i. omega (arith, r.most))) (r.none (depths-alike (image_of (shot_of w h c y cb cr)) (ap bit_depth_of (sym e)) (ap bit_depth_of (sym f))))
      go false = refl

pub start_room : (w h c : ℕ) (y cb cr : Plane) (d : List ℕ) → room_number w h c y.depth ≤ length d
    → start_number (known c y.depth cb.depth cr.depth) (shot_of w h c y cb cr) d ≡ 9 → ⊥
unfolding start_number
start_room w h c y cb cr d = not_nine w h c y cb cr d (room_start (shot_of w h c y cb cr) d)

pub next_room : (ws : List ℕ) (w h c : ℕ) (y cb cr : Plane) (d : List ℕ) → room_number w h c y.depth ≤ length d
    → next_number (known c y.depth cb.depth cr.depth) ws (shot_of w h c y cb cr) d ≡ 9 → ⊥
unfolding next_number
next_room ws w h c y cb cr d = not_nine w h c y cb cr d (room_next (held_of ws) (shot_of w h c y cb cr) d)

pub start_none : (w h c : ℕ) (y cb cr : Plane) (d : List ℕ) → cb.depth ≡ y.depth → cr.depth ≡ y.depth
    → by_shape (start_number (known c y.depth cb.depth cr.depth) (shot_of w h c y cb cr) d) ≡ eqb (room_number w h c y.depth) 0
unfolding start_number
start_none w h c y cb cr d = none w h c y cb cr d (room_start (shot_of w h c y cb cr) d)

pub next_none : (ws : List ℕ) (w h c : ℕ) (y cb cr : Plane) (d : List ℕ) → cb.depth ≡ y.depth → cr.depth ≡ y.depth
    → by_shape (next_number (known c y.depth cb.depth cr.depth) ws (shot_of w h c y cb cr) d) ≡ eqb (room_number w h c y.depth) 0
unfolding next_number
next_none ws w h c y cb cr d = none w h c y cb cr d (room_next (held_of ws) (shot_of w h c y cb cr) d)

pub room_unknown : (w h c d : ℕ) {a : Bool} → a ≡ known c d d d → a ≡ false → 0 ≡ room_number w h c d
unfolding room_number
room_unknown w h c d f e = rw (← f, e) refl

pub room_known : (w h c d : ℕ) {a : Bool} {k : Kind} {b : BitDepth} {n : ℕ} → a ≡ known c d d d → a ≡ true → k ≡ kind_of c → b ≡ bit_depth_of d → n ≡ room_of (sequence_of (session w h k b)) → n ≡ room_number w h c d
unfolding room_number
room_known w h c d f e k b n = rw (← f, e) (rw (k, b) at n)

-- the same by what the four numbers say
pub room_unformed : (w h c d : ℕ) → None ≡ form_in c d d d → 0 ≡ room_number w h c d
room_unformed w h c d e = room_unknown w h c d refl (is_unknown c d d d e)

pub room_formed : (w h c d : ℕ) {k : Kind} {ds : Depths} {n : ℕ} → Some (k, ds) ≡ form_in c d d d → n ≡ room_of (sequence_of (session w h k ds.y)) → n ≡ room_number w h c d
room_formed w h c d e n =
    let f = is_formed c d d d e in
    room_known w h c d refl f.is_known f.kind (ap (λ (x : Depths). x.y) f.depths ∙ one (eqb c 0)) n
  where
    one : (b : Bool) → (cond b (depths_of d d d) (depths_of d d d)).y ≡ bit_depth_of d
    one true = refl
    one false = refl
