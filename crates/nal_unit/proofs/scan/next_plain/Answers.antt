-- `nal_unit::scan::next_plain` meets its contract: the first place with a start code is the next one. Assumes nothing.
use Rattle.std.proofs.Common.{rules, ◌≡◌, sym, ◌∙◌, true, false, ◌+◌, ◌-◌, ◌≤◌, ◌<◌, arith, List, length, drop, ℕ, Option, Some, None}
use Rattle.std.specs.Option.{MatchOption, unwrap_or}
use Rattle.std.proofs.lemmas.Iterator.{first_from_Range}
use Rattle.nal_unit.specs.StartCode.{code, next}
use Rattle.nal_unit.specs.Scan.{next_at, next_short}
use Rattle.nal_unit.specs.ScanCode.{next_over}
use Rattle.lists.specs.Test.{either}
use Rattle.nal_unit.proofs.scan.next_plain.Goals as goal

found : (s : List ℕ) (from e : ℕ) (r : Option ℕ) → from ≤ length s → e ≡ length s - 2
    → MatchOption r ((k : ℕ) → from ≤ k → k < e → code (drop k s) ≡ false) (λ i. (from ≤ i) × (i < e) × (code (drop i s) ≡ true) × ((k : ℕ) → from ≤ k → k < i → code (drop k s) ≡ false))
    → unwrap_or r (length s) ≡ from + next (drop from s)
found s from e None l q f =
    either from e
    (λ h. sym (next_over s from e h (omega arith) f ∙ next_short s e (omega arith) (omega arith)))
    (λ h. sym (next_short s from l (omega arith)))
found s from e (Some i) l q f = sym (next_over s from i f.0 (omega arith) f.3 ∙ next_at s i f.2)

pub returns : goal.returns
returns c =
    let s = c.args.s.now in
    c.unwrap_or.ensures
    ∙ found s c.args.from c.saturating_sub.result c.find.result c.requires c.saturating_sub.ensures
    (first_from_Range _ _ _ _ (λ i. code (drop i s) ≡ true) (λ i. code (drop i s) ≡ false) c.find.ensures.ran (λ x f h. search rules) (λ x f h. search rules))
