-- What a write to a part of a slice leaves (rows.rt, taking.rt). Assumes nothing.
use borrow.Rule.Slice.PartMut.{put_mid}
use Rattle.std.specs.Prelude.{◌≡◌, refl, List, ℕ, ◌+◌, ◌-◌, length, slice_range}
use Rattle.std.proofs.Common.{arith, drop-drop}
use Rattle.lists.specs.Fill.{splice}
use Rattle.lists.specs.Part.{part}

-- the n elements from p on are lent as a slice
pub range-part : (s : List ℕ) (p n : ℕ) → slice_range s p (p + n) ≡ part s p n
unfolding part
range-part s p n = let e : p + n - p ≡ n = omega arith in rw e refl

-- n elements from `at` on are v now
pub mid-splice : (d v : List ℕ) (n at : ℕ) → length v ≡ n → put_mid at (at + n - at) d v ≡ splice d at v
unfolding splice
mid-splice d v n at l = let e : at + n - at ≡ n = omega arith in rw (e, drop-drop n at d, l) refl
