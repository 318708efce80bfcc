-- `nal_unit::put::put_bytes` meets its contract. The loop's invariant: what is written, and what is still to come. Assumes nothing.
use Rattle.std.proofs.Common.{[], ◌∷◌, ◌+◌, ◌≤◌, arith, length, drop, get_or, slice_range, drop_of_length-le}
use Rattle.lists.specs.Part.{drop_step}
use Rattle.nal_unit.specs.PutCode.{begin, turn, turn_room, end}
use Rattle.nal_unit.proofs.Copying.{range-part}
use Rattle.nal_unit.proofs.put.put_bytes.Goals as goal

pub loop-b-init : goal.loop-b-init
loop-b-init c =
    let a = c.args in
    begin a.out.now a.at (slice_range a.s.now a.p (a.p + a.n)) (rw (range-part a.s.now a.p a.n) c.requires.n_in_bounds_2)

pub put-a-requires : goal.put-a-requires
put-a-requires c =
    let a = c.args in
    let all = slice_range a.s.now a.p (a.p + a.n) in
    let k = c.loop-b.b-index in
    turn_room (get_or all k 0 ∷ []) (drop (k + 1) all) (rw (drop_step all k (omega arith)) at c.loop-b.invariant)

pub loop-b-preserved : goal.loop-b-preserved
loop-b-preserved c =
    let a = c.args in
    let all = slice_range a.s.now a.p (a.p + a.n) in
    let k = c.loop-b.b-index in
    turn (get_or all k 0 ∷ []) (drop (k + 1) all) (rw (drop_step all k (omega arith)) at c.loop-b.invariant) c.put-a.ensures

pub returns : goal.returns
returns c =
    let a = c.args in
    let all = slice_range a.s.now a.p (a.p + a.n) in
    let l : length all ≤ c.loop-b.b-index = omega arith in
    rw (range-part a.s.now a.p a.n) at (end (rw (drop_of_length-le all l) at c.loop-b.invariant))
