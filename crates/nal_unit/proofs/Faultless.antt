-- Theorems over specs/Unescape.antt that rest on a definition which a must-fail edit of this crate changes. They stand here, so that the edit is read and refused.
use Rattle.std.specs.Prelude.{◌≡◌, List, false, ℕ, take}
use Rattle.nal_unit.specs.Escape.{esc}
use Rattle.nal_unit.specs.Unescape.{fault, clean, fault-take}

-- no escape has a fault
pub fault-esc : (xs : List ℕ) → fault (esc xs) ≡ false
fault-esc xs = (clean xs).none

-- so no start of an escape has one
pub fault-esc-take : (m : ℕ) (p : List ℕ) → fault (take m (esc p)) ≡ false
fault-esc-take m p = fault-take m (esc p) (fault-esc p)
