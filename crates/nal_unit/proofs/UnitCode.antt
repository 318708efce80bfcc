-- Theorems over specs/UnitCode.antt that rest on a definition which a must-fail edit of this crate changes. They stand here, so that the edit is read and refused.
use Rattle.std.specs.Prelude.{◌≡◌, List, ℕ, ◌+◌, ◌≤◌, ◌<◌, length}
use Rattle.std.proofs.Common.{◌∙◌, arith}
use Rattle.lists.specs.Fill.{splice, splice-length, splice-splice}
use Rattle.nal_unit.specs.Escape.{esc, esc_from}
use Rattle.nal_unit.specs.EscapeCode.{counted}
use Rattle.nal_unit.specs.PutCode.{Put}
use Rattle.nal_unit.specs.UnitCode.{opening, framed, opening-length, framed-length, opening-count, Framed}

-- opened, then the payload escaped behind, in one piece or in many
pub frame_room : (d : List ℕ) (at h : ℕ) (p : List ℕ) {d' : List ℕ} {at' : ℕ} → 0 < h → at + length (framed h p) ≤ length d → d' ≡ splice d at (opening h) → at' ≡ at + 5
    → at' + length (esc_from (counted d' at') p) ≤ length d'
frame_room d at h p l r e f =
    let n : at + 5 + length (esc p) ≤ length d = omega (arith, framed-length h p) in
    rw (e, f, opening-count d at h l (omega arith), splice-length d at (opening h) (omega (arith, opening-length h))) n

pub frame-put : (d : List ℕ) (at h : ℕ) (p : List ℕ) {d' d'' : List ℕ} {at' at'' : ℕ} → 0 < h → at + length (framed h p) ≤ length d → d' ≡ splice d at (opening h) → at' ≡ at + 5
    → Put d' at' p d'' at'' → Framed d at h p d'' at''
unfolding framed
frame-put d at h p l r e f q =
    let o : length (opening h) ≡ 5 = opening-length h in
    let n : at + 5 + length (esc p) ≤ length d = omega (arith, framed-length h p) in
    let z : counted (splice d at (opening h)) (at + 5) ≡ 0 = opening-count d at h l (omega arith) in
    record {
      place = q.place ∙ rw (e, f, z) (omega (arith, framed-length h p));
      bytes = q.bytes ∙ rw (e, f, z) (rw o at (splice-splice d at (opening h) (esc p) (omega arith)));
    }
