-- Theorems over specs/Broken.antt that rest on a definition which a must-fail edit of this crate changes. They stand here, so that the edit is read and refused.
use Rattle.std.specs.Prelude.{◌≡◌, List, [], ◌∷◌, ◌++◌, map, Bool, true, false, cond, ℕ, suc, ◌+◌, ◌-◌, ◌≤◌, ◌<◌, leb, ltb, length, take}
use Rattle.std.proofs.Math.Path.{refl}
use Rattle.std.proofs.Math.Option.{none, some}
use Rattle.std.proofs.Common.{arith, le-leb, ne_eqb}
use Rattle.std.proofs.lemmas.Bool.{lt-leb}
use Rattle.lists.specs.Test.{either}
use Rattle.nal_unit.specs.Calls.{said}
use Rattle.nal_unit.specs.Frame.{held_by}
use Rattle.nal_unit.specs.Cut.{tell, Moves}
use Rattle.reader.specs.Judge.{Held, nothing, refused}
use Rattle.reader.specs.Read.{plane_length}
use Rattle.reader.specs.Enough.{plain}
use Rattle.take.specs.Take.{Take, units_of}
use Rattle.take.specs.Cut.{cut-bare}
use Rattle.take.specs.Broken.{cut_word, behind_header}

module _ (T : Take) where
  -- the cut leaves r bytes of the frame of the unit v behind K
  pub broken-said : (K : List (List ℕ)) (v : List ℕ) (ws : List (List ℕ)) (p r : ℕ) → units_of T ≡ K ++ (v ∷ ws) → r < 4 + length v
      → (Moves plain (held_by plain nothing K) (cond (leb r 3) none (some (take (r - 4) v))))
      × (tell plain (held_by plain nothing K) p (cond (leb r 3) none (some (take (r - 4) v))) ≡ map (said (p + 4)) (cut_word (length K) r))
  unfolding tell cut_word
  broken-said K v ws p r e l = either r 3 few (λ k. either r 4 (bare k) many)
    where
      h : Held
      h = held_by plain nothing K

      one : (b : Bool) → said (p + 4) (refused (cond b 14 17)) ∷ [] ≡ map (said (p + 4)) (cond b (refused 14 ∷ []) (refused 17 ∷ []))
      one true = refl
      one false = refl

      few : r ≤ 3 → (Moves plain h (cond (leb r 3) none (some (take (r - 4) v)))) × (tell plain h p (cond (leb r 3) none (some (take (r - 4) v))) ≡ map (said (p + 4)) (cut_word (length K) r))
      few k = rw (le-leb r 3 k) (tt, refl)

      bare : 3 < r → r ≤ 4 → (Moves plain h (cond (leb r 3) none (some (take (r - 4) v)))) × (tell plain h p (cond (leb r 3) none (some (take (r - 4) v))) ≡ map (said (p + 4)) (cut_word (length K) r))
      bare k m = let i : r ≡ 4 = omega arith in rw i (rw (cut-bare (plane_length h) h) (refl, refl))

      many : 4 < r → (Moves plain h (cond (leb r 3) none (some (take (r - 4) v)))) × (tell plain h p (cond (leb r 3) none (some (take (r - 4) v))) ≡ map (said (p + 4)) (cut_word (length K) r))
      many k =
          let i : r - 4 ≡ suc (r - 5) = omega arith in
          let b = (behind_header T) K v ws (r - 5) e (omega arith) in
          rw (lt-leb r 3 (omega arith), ne_eqb r 4 (λ y. omega arith), i, b) (refl, one (ltb (length K) 2))
