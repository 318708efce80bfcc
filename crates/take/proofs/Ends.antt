-- Theorems over specs/Ends.antt that rest on a definition which a must-fail edit of this crate changes. They stand here, so that the edit is read and refused.
use Rattle.std.specs.Prelude.{◌≡◌, List, ◌++◌, ℕ, ◌+◌, ◌≤◌, length, replicate}
use Rattle.nal_unit.specs.Calls.{ended, answers}
use Rattle.reader.specs.Enough.{plain}
use Rattle.take.specs.Host.{Host, Call, Runs, served, Gets}
use Rattle.take.proofs.Host.{runs-get}
use Rattle.take.specs.Ends.{ends}

-- Any calls over any bytes, from any state: behind as many that were served as there are bytes, at most, they answer nothing but End.
pub host-ends : (H : Host) (s : List ℕ) (b : H.State)
    → (n : ℕ) × (n ≤ length s) × ((cs : List (Call H)) (k : ℕ) → Runs H s b cs → length (served H cs) ≡ n + k → Gets H (served H cs) (answers plain s n (H.held b) (H.place b) ++ replicate k ended))
host-ends H s b =
    let e = ends s (H.held b) (H.place b) in
    (e.0, e.1, λ cs k g z. rw (z, e.2 k) at (runs-get H s b cs g))
