-- A list that is copied element by element into a lent buffer, of any width.
--     Copied               the first k elements stand there
--     copy_start, copy_turn, copy_end     none, one more, all; copy-part: one more where they are a part of another list
-- Assumes nothing.
use Rattle.std.specs.Prelude.{◌≡◌, List, ◌++◌, ℕ, ◌+◌, ◌≤◌, ◌<◌, length, take, drop, get_or, set}
use Rattle.std.proofs.Common.{add-zero, arith, drop_of_length-le}
use Rattle.lists.specs.Fill.{splice, Writing, start_at, put, done_at}
use Rattle.lists.specs.Part.{part, part_length, part_at, drop_step}

-- The first k elements of v stand at the place `at` of a buffer that held d and holds out: a copy that is under way, of any width.
pub record Copied (d : List ℕ) (at : ℕ) (v out : List ℕ) (k : ℕ) : Type 0 where
  pub writing : Writing d (take at d ++ v) out (at + k) (drop k v)
  pub low : at ≤ length d

pub copy_start : (d : List ℕ) (at : ℕ) (v : List ℕ) → at + length v ≤ length d → Copied d at v d 0
copy_start d at v h = record { writing = rw (add-zero at) (start_at d at v h); low = omega arith }

-- one element more
pub copy_turn : {d : List ℕ} {at : ℕ} {v out : List ℕ} {k : ℕ} → Copied d at v out k → k < length v → Copied d at v (set out (at + k) (get_or v k 0)) (k + 1)
copy_turn {d} {at} {v} {out} {k} g h =
    let e : at + (k + 1) ≡ at + k + 1 = omega arith in
    record { writing = rw e (put (rw (drop_step v k h) at g.writing)); low = g.low }

pub copy_end : {d : List ℕ} {at : ℕ} {v out : List ℕ} {k : ℕ} → Copied d at v out k → length v ≤ k → out ≡ splice d at v
copy_end {d} {at} {v} {out} {k} g h = (done_at at v (rw (drop_of_length-le v h) at g.writing) g.low).0

-- the same where v is a part of s
pub copy-part : {d : List ℕ} {at : ℕ} {out : List ℕ} {k : ℕ} (s : List ℕ) (p n : ℕ) → Copied d at (part s p n) out k → p + n ≤ length s → k < n
    → Copied d at (part s p n) (set out (at + k) (get_or s (p + k) 0)) (k + 1)
copy-part {k = k} s p n g h l = rw (part_at s p n k l) at (copy_turn g (rw (part_length s p n h) l))
