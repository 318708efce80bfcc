-- Theorems over specs/Units.antt that rest on a definition which a must-fail edit of this crate changes. They stand here, so that the edit is read and refused.
use Rattle.std.specs.Prelude.{◌≡◌, List, ◌∷◌, true, false, ℕ, zero, suc, ◌≤◌, ◌<◌, eqb, length, take, drop}
use Rattle.std.proofs.Common.{◌∙◌, arith, take-take, length-take-le, eqb-true}
use Rattle.std.proofs.Math.Bool.{and-eq-true_iff}
use Rattle.nal_unit.specs.Bytes.{last_of, last_cons, last_above}
use Rattle.nal_unit.specs.Escape.{esc}
use Rattle.nal_unit.specs.Unescape.{fault, fault_first, last_esc, un-take}
use Rattle.nal_unit.proofs.Faultless.{fault-esc, fault-esc-take}
use Rattle.nal_unit.specs.Walk.{blank, trim, trimmed, Trimmed, Whole}
use Rattle.nal_unit.specs.Units.{fault-clear, Broken}

-- a header above 0 and an escape have no fault
pub fault-unit : (h : ℕ) (p : List ℕ) → 0 < h → fault (h ∷ esc p) ≡ false
fault-unit h p l = fault_first h (esc p) l ∙ fault-esc p

pub whole : (h : ℕ) (p : List ℕ) → 0 < h → 0 < last_of 1 p → Whole (h ∷ esc p)
whole h p l e =
    record {
      ends = rw (last_cons 0 h (esc p), last_esc h 0 p) (last_above 1 h p l e);
      clear = fault-clear (h ∷ esc p) (fault-unit h p l);
    }

-- a unit cut behind its header byte
pub broken-unit : (h m : ℕ) (p : List ℕ) → 0 < h → m < length (esc p) → Broken h p (take (suc m) (h ∷ esc p))
unfolding blank
broken-unit h m p l e = by t.count t.most t.left t.gone
  where
    s : List ℕ
    s = h ∷ take m (esc p)

    t : Trimmed s
    t = trimmed s

    by : (k : ℕ) → k ≤ length s → trim s ≡ take k s → blank (drop k s) ≡ true → Broken h p s
    by zero b f g = absurd (omega (arith, eqb-true h 0 ((and-eq-true_iff (eqb h 0) (blank (take m (esc p)))).0 g).0))
    by (suc k) b f g =
        let n : k ≤ m = omega (arith, length-take-le m (esc p) (omega arith)) in
        record {
          body = take k (esc p);
          left = rw (take-take k m (esc p) n) at f;
          sound = fault_first h (take k (esc p)) l ∙ fault-esc-take k p;
          count = (un-take k 0 p).count;
          reads = (un-take k 0 p).reads;
          less = (un-take k 0 p).less (omega arith);
        }
