-- `nal_unit::count::count_slice` meets its contract: the first two bytes, then the others. Assumes nothing.
use Rattle.std.proofs.Common.{◌≡◌, ◌++◌, ◌+◌, ◌-◌, arith}
use Rattle.lists.specs.Part.{part, part_length, part_cut}
use Rattle.nal_unit.specs.EscapeCode.{end_most}
use Rattle.nal_unit.specs.CalmCode.{first_two}
use Rattle.nal_unit.specs.CountCode.{counts-fit, counts-pieces}
use Rattle.nal_unit.proofs.count.count_slice.Goals as goal

pub count_chunks-requires-clause-z_bound : goal.count_chunks-requires-clause-z_bound
count_chunks-requires-clause-z_bound c = rw c.count_bytes-first.ensures.ends (end_most c.args.z (part c.args.s.now c.args.p 2) c.requires.z_bound)

pub count_chunks-requires-clause-z_bound_2 : goal.count_chunks-requires-clause-z_bound_2
count_chunks-requires-clause-z_bound_2 c =
    rw c.count_bytes-first.ensures.ends (first_two c.args.s.now c.args.p c.args.z c.requires.z_bound (omega (arith, c.requires)))

pub then-requires : goal.then-requires
then-requires c =
    let a = c.args in
    let f = part a.s.now a.p 2 in
    let o = part a.s.now (a.p + 2) (a.n - 2) in
    let e : part a.s.now a.p a.n ≡ f ++ o = part_cut a.s.now a.p a.n 2 (omega arith) in
    let g = rw (← e) at (counts-pieces f o c.requires.z_bound c.count_bytes-first.ensures c.count_chunks.ensures) in
    omega (arith, counts-fit c.requires.z_bound g, part_length a.s.now a.p a.n c.requires.n_in_bounds, c)

pub returns : goal.returns
returns c =
    let a = c.args in
    rw (c.then.ensures.0, c.then.ensures.1, part_cut a.s.now a.p a.n 2 (omega arith))
    (counts-pieces (part a.s.now a.p 2) (part a.s.now (a.p + 2) (a.n - 2)) c.requires.z_bound c.count_bytes-first.ensures c.count_chunks.ensures)
