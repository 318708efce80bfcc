-- `nal_unit::count::count_bytes` meets its contract. The loop's invariant: what is counted, and what is still to come. Assumes nothing.
use Rattle.std.proofs.Common.{◌≡◌, List, [], ◌∷◌, ℕ, ◌+◌, ◌≤◌, ◌<◌, arith, length, drop, get_or, slice_range, drop_of_length-le}
use Rattle.lists.specs.Part.{part_length, drop_step}
use Rattle.nal_unit.specs.CountCode.{Counts, Counting, count_begin, count_turn, count_end}
use Rattle.nal_unit.proofs.Copying.{range-part}
use Rattle.nal_unit.proofs.count.count_bytes.Goals as goal

wide : (s : List ℕ) (p n : ℕ) → p + n ≤ length s → length (slice_range s p (p + n)) ≡ n
wide s p n h = rw (range-part s p n) (part_length s p n h)

-- one byte more
next : {z m y m' y' : ℕ} (all : List ℕ) (k : ℕ) → Counting z all m y (drop k all) → k < length all → Counts y (get_or all k 0 ∷ []) m' y'
    → Counting z all (m + m') y' (drop (k + 1) all)
next all k g h c = count_turn (get_or all k 0 ∷ []) (drop (k + 1) all) (rw (drop_step all k h) at g) c

pub loop-b-init : goal.loop-b-init
loop-b-init c = let a = c.args in count_begin a.z (slice_range a.s.now a.p (a.p + a.n)) c.requires.z_bound

pub then-all-requires : goal.then-all-requires
then-all-requires c =
    let a = c.args in
    let g = next (slice_range a.s.now a.p (a.p + a.n)) c.loop-b.b-index c.loop-b.invariant (omega arith) c.count_byte.ensures in
    omega (arith, wide a.s.now a.p a.n c.requires.n_in_bounds, c)

pub loop-b-preserved : goal.loop-b-preserved
loop-b-preserved c =
    let a = c.args in
    rw (c.then-all.ensures.0, c.then-all.ensures.1)
    (next (slice_range a.s.now a.p (a.p + a.n)) c.loop-b.b-index c.loop-b.invariant (omega arith) c.count_byte.ensures)

pub returns : goal.returns
returns c =
    let a = c.args in
    let all = slice_range a.s.now a.p (a.p + a.n) in
    let l : length all ≤ c.loop-b.b-index = omega arith in
    rw (range-part a.s.now a.p a.n) at (count_end (rw (drop_of_length-le all l) at c.loop-b.invariant))
