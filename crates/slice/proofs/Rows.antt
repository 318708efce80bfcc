-- Rows that are laid one behind the other: the loop of `copy_rows` and of `copy_any_rows`. Assumes nothing.
use Rattle.std.proofs.Common.{◌≡◌, List, length, ℕ, ◌+◌, ◌*◌, ◌≤◌, ◌<◌, zero-add, zero-mul, add-zero, arith}
use Rattle.lists.specs.Fill.{splice}
use Rattle.lists.specs.Part.{part}
use Rattle.slice.specs.Cat.{cat-length, rows_of, rows_at, rows_even}
use Rattle.slice.specs.Laid.{Laying, laid_one, laying_start, laying_turn}

module _ (s : List ℕ) (p stride w h : ℕ) (within : p + h * stride + w ≤ length s + stride) where
  pub rows_start : (d : List ℕ) (at : ℕ) → at + h * w ≤ length d → Laying d at (rows_of s stride p w) 0 h d (at + 0 * w) 0
  rows_start d at room =
      let l = cat-length (rows_even s stride p w h within) in
      rw (zero-mul w, add-zero at) (laying_start d at (rows_of s stride p w) 0 h (omega arith))

  pub rows_turn : {d out out' : List ℕ} {at k : ℕ} → Laying d at (rows_of s stride p w) 0 h out (at + k * w) k → k < h
      → out' ≡ splice out (at + k * w) (part s (p + k * stride) w) → Laying d at (rows_of s stride p w) 0 h out' (at + (k + 1) * w) (k + 1)
  rows_turn {k = k} g l e =
      let row : rows_of s stride p w (0 + k) ≡ part s (p + k * stride) w = rw (zero-add k) (rows_at s stride p w k) in
      laying_turn g l (laid_one _ _ w _ ((rows_even s stride p w h within).each k l) (omega arith) (rw row e))
