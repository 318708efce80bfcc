-- Theorems over specs/Answers.antt that rest on a definition which a must-fail edit of this crate changes. They stand here, so that the edit is read and refused.
use Rattle.std.specs.Prelude.{◌≡◌, refl, List, ◌++◌, ℕ, ◌≤◌, length, drop, Ok}
use Rattle.nal_unit.specs.Escape.{esc}
use Rattle.nal_unit.specs.Unescape.{un-esc}
use Rattle.nal_unit.proofs.Faultless.{fault-esc}
use Rattle.nal_unit.specs.Answers.{unescape_of, unescaped_out, unescape_fits}

-- what was escaped comes back: the payload p, where it has room, and what stood behind it in the buffer
pub unescape-esc : (p d : List ℕ) → length p ≤ length d
    → (unescape_of (esc p) d ≡ Ok (length p)) × (unescaped_out (unescape_of (esc p) d) (esc p) d ≡ p ++ drop (length p) d)
unescape-esc p d h =
    let e : unescape_of (esc p) d ≡ Ok (length p) = rw (un-esc 0 p) at (unescape_fits (esc p) d (fault-esc p) (rw (un-esc 0 p) h)) in
    (e, rw (e, un-esc 0 p) refl)
