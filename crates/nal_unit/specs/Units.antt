-- Units with their headers: a header byte and an escaped payload (7.3.1), and what is left of one after a cut.
--     fault-clear      faultless bytes hold no start code
--     whole            a header above 0 and the escape of a payload that does not end in zero: a unit that is met whole
--     broken-unit      such a unit, cut behind its header and trimmed: its header and a start of the escape, faultless, which unescapes to less than the payload
-- Of these proofs/Units.antt has `whole` and `broken-unit`, since an edit of must-fail/ changes what they rest on.
-- Assumes nothing.
use Rattle.std.specs.Prelude.{◌≡◌, refl, List, [], ◌∷◌, Bool, true, false, ◌&&◌, ℕ, ◌<◌, eqb, length, take}
use Rattle.std.proofs.Common.{eqb-true}
use Rattle.std.proofs.Math.Bool.{and-false}
use Rattle.nal_unit.specs.Unescape.{un, fault_here, fault, fault_none}
use Rattle.nal_unit.specs.StartCode.{code, next, next_nil, clear-cons}
use Rattle.nal_unit.specs.Walk.{trim}

-- a start code is a fault
pub code-fault : (s : List ℕ) → fault_here s ≡ false → code s ≡ false
unfolding fault_here code
code-fault [] e = refl
code-fault (a ∷ []) e = refl
code-fault (a ∷ b ∷ []) e = refl
code-fault (a ∷ b ∷ c ∷ t) e = by (eqb c 1) refl
  where
    by : (r : Bool) → eqb c 1 ≡ r → eqb a 0 && (eqb b 0 && eqb c 1) ≡ false
    by true q = rw q (rw (eqb-true c 1 q) at e)
    by false q = simp (q, and-false)

pub fault-clear : (s : List ℕ) → fault s ≡ false → next s ≡ length s
fault-clear [] e = next_nil
fault-clear (x ∷ t) e =
    let n = fault_none x t e in
    clear-cons x t (code-fault (x ∷ t) n.0) (fault-clear t n.1)

-- what is left of the unit of h and p where c are its bytes up to a cut: its header and `body`
pub record Broken (h : ℕ) (p c : List ℕ) : Type 0 where
  pub body : List ℕ
  pub left : trim c ≡ h ∷ body
  pub sound : fault (h ∷ body) ≡ false
  pub count : ℕ
  pub reads : un body ≡ take count p
  pub less : count < length p
