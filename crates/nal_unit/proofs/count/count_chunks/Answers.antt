-- `nal_unit::count::count_chunks` meets its contract. The loop's invariant: what is counted, what is still to come, and how many zeros stand before it. Assumes nothing.
use Rattle.std.proofs.Common.{◌≡◌, ◌+◌, ◌*◌, ◌/◌, arith}
use Rattle.lists.specs.Part.{part_length}
use Rattle.nal_unit.specs.CountCode.{counts-fit, passing_start, passing_turn, passing_end}
use Rattle.nal_unit.proofs.count.count_chunks.Goals as goal

pub loop-i-init : goal.loop-i-init
loop-i-init c = passing_start c.args.s.now c.args.p c.args.n c.args.z c.requires.z_bound c.requires.z_bound_2

pub then-all-requires : goal.then-all-requires
then-all-requires c =
    let a = c.args in
    let g = passing_turn 64 c.loop-i.invariant (omega arith) c.count64.ensures in
    omega (arith, g.counting, part_length a.s.now a.p a.n c.requires.le_p.1, c)

pub loop-i-preserved : goal.loop-i-preserved
loop-i-preserved c =
    let e : 64 * c.loop-i.i + 64 ≡ 64 * (c.loop-i.i + 1) = omega arith in
    rw (← e, c.then-all.ensures.0, c.then-all.ensures.1) (passing_turn 64 c.loop-i.invariant (omega arith) c.count64.ensures)

pub then-requires : goal.then-requires
then-requires c =
    let a = c.args in
    let e : c.loop-i.i ≡ a.n / 64 = omega arith in
    let g = passing_end (rw e at c.loop-i.invariant) c.count_bytes.ensures in
    omega (arith, counts-fit c.requires.z_bound g, part_length a.s.now a.p a.n c.requires.le_p.1, c)
