-- Writing a unit (unit.rt; B.1.1, 7.3.1).
--     opening h             the start code with the zero byte before it, and the header byte h
--     framed h p            the unit with that header and the payload p
--     Framed                such a unit written at a place of the output
-- Assumes nothing.
use Rattle.std.specs.Prelude.{◌≡◌, refl, List, [], ◌∷◌, ◌++◌, ℕ, ◌+◌, ◌≤◌, ◌<◌, length, set}
use Rattle.std.proofs.Common.{◌∙◌, arith, length-append}
use Rattle.lists.specs.Fill.{splice, splice-length, set-splice, splice-splice}
use Rattle.lists.specs.Part.{part}
use Rattle.nal_unit.specs.Escape.{esc}
use Rattle.nal_unit.specs.EscapeCode.{run, run_end, counted, run-other, counted_behind}

-- what opens a unit (B.1.1, 7.3.1): the start code with the zero byte before it, and the header byte
unfoldable pub opening : ℕ → List ℕ
opening h = 0 ∷ 0 ∷ 0 ∷ 1 ∷ h ∷ []

-- a unit of the byte stream
unfoldable pub framed : ℕ → List ℕ → List ℕ
framed h p = opening h ++ esc p

pub opening-length : (h : ℕ) → length (opening h) ≡ 5
unfolding opening
opening-length h = refl

pub framed-length : (h : ℕ) (p : List ℕ) → length (framed h p) ≡ 5 + length (esc p)
unfolding framed
framed-length h p = length-append (opening h) (esc p) ∙ rw (opening-length h) refl

-- behind a header byte that is not zero no zero is counted
pub opening-count : (d : List ℕ) (at h : ℕ) → 0 < h → at ≤ length d → counted (splice d at (opening h)) (at + 5) ≡ 0
unfolding opening run_end
opening-count d at h l r = counted_behind d at (opening h) r ∙ run-other (run (run (run (run (counted d at) 0) 0) 0) 1) h l

-- The unit of the header byte h and the payload p stands at the place `at` of the output that held d.
pub record Framed (d : List ℕ) (at h : ℕ) (p d' : List ℕ) (at' : ℕ) : Type 0 where
  pub place : at' ≡ at + length (framed h p)
  pub bytes : d' ≡ splice d at (framed h p)

pub open_put : (d : List ℕ) (at h : ℕ) {d' : List ℕ} → at + 5 ≤ length d → d' ≡ splice d at (part (0 ∷ 0 ∷ 0 ∷ 1 ∷ []) 0 4) → set d' (at + 4) h ≡ splice d at (opening h)
unfolding opening part
open_put d at h r e =
    let s : List ℕ = 0 ∷ 0 ∷ 0 ∷ 1 ∷ [] in
    rw (e, set-splice (splice d at s) (at + 4) h (rw (splice-length d at s (omega arith)) (omega arith))) (splice-splice d at s (h ∷ []) (omega arith))
