-- Theorems over specs/Answers.antt that rest on a definition which a must-fail edit of this crate changes. They stand here, so that the edit is read and refused.
use Rattle.std.specs.Prelude.{◌≡◌, refl, Err, List, false, ℕ}
use Rattle.golomb.specs.declared.WriteError.TheVariants.{NoCode}
use Rattle.golomb.specs.Answers.{write_of}

pub write_none : (code s : List ℕ) (place : ℕ) → write_of false code s place ≡ Err NoCode
unfolding write_of
write_none code s place = refl
