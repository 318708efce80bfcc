-- `nal_unit::fast::put_slice` meets its contract: the first two bytes, then the others. Assumes nothing.
use Rattle.std.proofs.Common.{List, ◌++◌, ℕ, ◌+◌, ◌-◌, ◌≤◌, arith, length}
use Rattle.lists.specs.Part.{part, part_length, part_cut}
use Rattle.nal_unit.specs.Escape.{esc_from}
use Rattle.nal_unit.specs.EscapeCode.{counted, counted_most, esc_least}
use Rattle.nal_unit.specs.CalmCode.{first_two}
use Rattle.nal_unit.specs.PutCode.{put_count, pieces_first, pieces_room, pieces}
use Rattle.nal_unit.proofs.fast.put_slice.Goals as goal

-- the room is that of both pieces
room : (d s : List ℕ) (at p n : ℕ) → 2 ≤ n → at + length (esc_from (counted d at) (part s p n)) ≤ length d
    → at + length (esc_from (counted d at) (part s p 2 ++ part s (p + 2) (n - 2))) ≤ length d
room d s at p n h l = rw (part_cut s p n 2 h) at l

pub put_bytes-a-requires-clause-n_in_bounds_2 : goal.put_bytes-a-requires-clause-n_in_bounds_2
put_bytes-a-requires-clause-n_in_bounds_2 c =
    let a = c.args in
    pieces_first a.out.now a.at (part a.s.now a.p 2) (part a.s.now (a.p + 2) (a.n - 2)) (room a.out.now a.s.now a.at a.p a.n (omega arith) c.requires.n_in_bounds_2)

pub put_chunks-requires-clause-le_at : goal.put_chunks-requires-clause-le_at
put_chunks-requires-clause-le_at c =
    let a = c.args in
    omega (arith, c.put_bytes-a.ensures.place, esc_least (counted a.out.now a.at) (part a.s.now a.p 2), part_length a.s.now a.p 2 (omega (arith, c.requires)))

pub put_chunks-requires-clause-n_in_bounds : goal.put_chunks-requires-clause-n_in_bounds
put_chunks-requires-clause-n_in_bounds c =
    let a = c.args in
    pieces_room a.out.now a.at (part a.s.now a.p 2) (part a.s.now (a.p + 2) (a.n - 2)) (room a.out.now a.s.now a.at a.p a.n (omega arith) c.requires.n_in_bounds_2) c.put_bytes-a.ensures

pub put_chunks-requires-clause-at_bound : goal.put_chunks-requires-clause-at_bound
put_chunks-requires-clause-at_bound c =
    let a = c.args in
    rw (put_count c.put_bytes-a.ensures (omega (arith, c.requires))) (first_two a.s.now a.p (counted a.out.now a.at) (counted_most a.out.now a.at) (omega (arith, c.requires)))

pub returns : goal.returns
returns c =
    let a = c.args in
    rw (part_cut a.s.now a.p a.n 2 (omega arith))
    (pieces a.out.now a.at (part a.s.now a.p 2) (part a.s.now (a.p + 2) (a.n - 2)) (room a.out.now a.s.now a.at a.p a.n (omega arith) c.requires.n_in_bounds_2) c.put_bytes-a.ensures c.put_chunks.ensures)
