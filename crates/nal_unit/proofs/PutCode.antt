-- Theorems over specs/PutCode.antt that rest on a definition which a must-fail edit of this crate changes. They stand here, so that the edit is read and refused.
use Rattle.std.specs.Prelude.{◌≡◌, refl, List, ◌++◌, ℕ, length, drop}
use Rattle.std.proofs.Common.{◌∙◌, zero-add}
use Rattle.lists.specs.Fill.{splice_front}
use Rattle.lists.specs.Part.{part, part_all}
use Rattle.nal_unit.specs.Escape.{esc, esc_from}
use Rattle.nal_unit.specs.EscapeCode.{counted, counted_none}
use Rattle.nal_unit.specs.PutCode.{Put}

-- a whole list escaped from the first byte of the output on
pub whole : (d p : List ℕ) → esc_from (counted d 0) (part p 0 (length p)) ≡ esc p
whole d p = rw (counted_none d, part_all p (length p) refl) refl

pub put_whole : (d p : List ℕ) {d' : List ℕ} {at : ℕ} → Put d 0 (part p 0 (length p)) d' at → (at ≡ length (esc p)) × (d' ≡ esc p ++ drop (length (esc p)) d)
put_whole d p g =
    (g.place ∙ rw (whole d p) (zero-add (length (esc p))), g.bytes ∙ rw (whole d p) (splice_front d (esc p)))
