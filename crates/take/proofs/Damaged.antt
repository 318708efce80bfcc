-- Theorems over specs/Damaged.antt that rest on a definition which a must-fail edit of this crate changes. They stand here, so that the edit is read and refused.
use Rattle.std.specs.Prelude.{◌≡◌, ℕ, ◌+◌, ◌-◌, replicate}
use mathlib.Core.List.{List, ◌∷◌, ◌++◌, map}
use Rattle.std.proofs.Math.ListN.{length}
use Rattle.nal_unit.specs.Calls.{ended}
use Rattle.nal_unit.specs.Damage.{moved}
use Rattle.encoder.specs.Shot.{Shot}
use Rattle.reader.specs.Judge.{sps, pps}
use Rattle.take.specs.Take.{Take, size_of, sets_and, bytes_of, picture_units, picture_words}
use Rattle.take.specs.Reading.{listed}
use Rattle.take.specs.Promises.{replaced}
use Rattle.take.specs.Host.{Host, Call, Runs, served, Gets}
use Rattle.take.proofs.Host.{fresh-get}
use Rattle.take.specs.Damaged.{behind, Damaged}

-- The same for the code: what any calls over the damaged take answer and leave that were served.
pub host_damaged : (H : Host) (T : Take) (A B : List Shot) (s : Shot) (C : List Shot) (i j : ℕ) (m : List ℕ) (d : Damaged T A B s C i j m) (cs : List (Call H)) (c : ℕ)
    → Runs H (replaced (bytes_of T) i j m) H.fresh cs → length (served H cs) ≡ length (sets_and (size_of T) A) + (d.n + (length (s ∷ C) + c))
    → Gets H (served H cs) (listed 0 (sets_and (size_of T) A) (sps (size_of T) ∷ pps ∷ picture_words A)
    ++ (d.between ++ (map (moved (j - i) (length m)) (listed (behind T (A ++ B)) (picture_units (s ∷ C)) (picture_words (s ∷ C)) ++ replicate c ended))))
host_damaged H T A B s C i j m d cs c g z = rw (z, d.reads c) at (fresh-get H (replaced (bytes_of T) i j m) cs g)
