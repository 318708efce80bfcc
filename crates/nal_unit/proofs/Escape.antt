-- Theorems over specs/Escape.antt that rest on a definition which a must-fail edit of this crate changes. They stand here, so that the edit is read and refused.
use Rattle.std.specs.Prelude.{◌≡◌, refl, [], ◌∷◌}
use Rattle.nal_unit.specs.Escape.{inserts, emit, zeros, esc_from, esc}

-- paper 01's worked cases 7, 8 and 9
pub esc-five : esc (0 ∷ 0 ∷ 0 ∷ 0 ∷ 0 ∷ []) ≡ 0 ∷ 0 ∷ 3 ∷ 0 ∷ 0 ∷ 3 ∷ 0 ∷ []
unfolding esc_from emit zeros inserts
esc-five = refl

pub esc_two : esc (0 ∷ 0 ∷ []) ≡ 0 ∷ 0 ∷ []
unfolding esc_from emit zeros inserts
esc_two = refl

pub esc-four : esc (0 ∷ 0 ∷ 4 ∷ []) ≡ 0 ∷ 0 ∷ 4 ∷ []
unfolding esc_from emit zeros inserts
esc-four = refl

pub esc-three : esc (0 ∷ 0 ∷ 3 ∷ []) ≡ 0 ∷ 0 ∷ 3 ∷ 3 ∷ []
unfolding esc_from emit zeros inserts
esc-three = refl
