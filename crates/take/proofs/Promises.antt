-- Theorems over specs/Promises.antt that rest on a definition which a must-fail edit of this crate changes. They stand here, so that the edit is read and refused.
use Rattle.std.specs.Prelude.{◌≡◌, refl, List, [], ◌∷◌, ◌++◌, ℕ, ◌+◌, ◌-◌, ◌<◌, length, take, replicate}
use Rattle.std.proofs.Common.{ap, arith, le-leb}
use Rattle.std.proofs.lemmas.Bool.{lt-leb}
use Rattle.nal_unit.specs.Calls.{ended, answers}
use Rattle.nal_unit.specs.Frame.{joined, place_by, place-joined}
use Rattle.nal_unit.specs.Cut as C
use Rattle.nal_unit.specs.Cut.{kept, broken, cut-exact, all, within}
use Rattle.reader.specs.Judge.{nothing}
use Rattle.reader.specs.Enough.{plain}
use Rattle.take.specs.Take.{Take, bytes_of, units_of, words_of, bytes-units}
use Rattle.take.proofs.Broken.{broken-said}
use Rattle.take.specs.Reading.{listed, take-goes, take-said}
use Rattle.take.specs.Promises.{kept-said, frame_behind, cut_says, Told}

cut-told : (T : Take) (n : ℕ) → C.Cut n (units_of T) (kept n (units_of T)) (broken n (units_of T)) → Told T n
unfolding C.tell
cut-told T n (all a b c) =
    record {
      moves = rw b tt;
      is = rw (b, le-leb (length (bytes_of T)) n (omega (arith, ap length (bytes-units T)))) refl;
      said = rw a (take-said T 0);
    }
cut-told T n (within v ws r a b c d) =
    let K = kept n (units_of T) in
    let p = place-joined 0 K in
    let s = broken-said T K v ws (place_by 0 K) r a c in
    let m : n - place_by 0 K ≡ r = omega arith in
    let l : n < length (bytes_of T) = omega (arith, ap length (bytes-units T), ap (λ (us : List (List ℕ)). length (joined us [])) a, frame_behind K v ws) in
    record {
      moves = rw d s.0;
      is = rw (d, lt-leb (length (bytes_of T)) n l, m) s.1;
      said = kept-said plain nothing 0 K (v ∷ ws) (words_of T) (rw (← a) (take-said T 0));
    }

-- Cut a take after any byte, n of them left: the reader answers exactly the units that are whole within n, in order; then, exactly if the cut leaves a
-- whole start code of the next unit, one refusal (11 for a bare start code, 14 in a parameter set, 17 in a picture); then End, however often it is
-- asked for.
pub cut : (T : Take) (n k : ℕ)
    → answers plain (take n (bytes_of T)) (length (kept n (units_of T)) + (length (cut_says n T) + k)) nothing 0
    ≡ listed 0 (kept n (units_of T)) (words_of T) ++ (cut_says n T ++ replicate k ended)
cut T n k =
    let us = units_of T in
    let c = cut-told T n (cut-exact n us) in
    let r = C.cut plain n k nothing us (take-goes T) c.moves in
    rw (← bytes-units T, c.is, c.said) at r
