-- `nal_unit::fast::mend` meets its contract: a quiet stretch stays as it is, any other is copied and escaped over itself. Assumes nothing.
use Rattle.std.proofs.Common.{◌≡◌, refl, sym, ◌∙◌, List, ℕ, ◌+◌, ◌≤◌, arith, length, replicate}
use Rattle.std.proofs.lemmas.List.{length-replicate}
use Rattle.lists.specs.Fill.{splice}
use Rattle.lists.specs.Part.{part, part_length, splice-part, splice_own}
use Rattle.nal_unit.specs.EscapeCode.{counted, counted_most}
use Rattle.nal_unit.specs.CalmCode.{quiet-part}
use Rattle.nal_unit.specs.PutCode.{put-quiet}
use Rattle.nal_unit.proofs.fast.mend.Goals as goal

-- the copy holds the stretch
saved : (d v : List ℕ) (at n : ℕ) → at + n ≤ length d → n ≤ 1040 → v ≡ splice (replicate 1040 0) 0 (part d at n) → part v 0 n ≡ part d at n
saved d v at n h l e =
    let w = part_length d at n h in
    rw e (rw w at (splice-part (replicate 1040 0) 0 (part d at n) (omega (arith, length-replicate {A = ℕ} 1040 0))))

pub returns-then-calm : goal.returns-then-calm
returns-then-calm c =
    let d = c.args.out.now in
    put-quiet d c.args.at
    (quiet-part d c.args.at c.args.n (counted d c.args.at) c.requires.n_in_bounds (counted_most d c.args.at) (omega arith) (sym c.calm.ensures ∙ c.if-calm.true))
    (sym (splice_own d c.args.at c.args.n c.requires.n_in_bounds))
    (rw (part_length d c.args.at c.args.n c.requires.n_in_bounds) refl)

pub put_slice-requires-clause-n_in_bounds_2 : goal.put_slice-requires-clause-n_in_bounds_2
put_slice-requires-clause-n_in_bounds_2 c =
    let a = c.args in
    rw (saved a.out.now c.copy.new.out a.at a.n c.requires.n_in_bounds c.requires.n_bound c.copy.ensures) c.requires.n_in_bounds_2

pub returns : goal.returns
returns c =
    let a = c.args in
    rw (saved a.out.now c.copy.new.out a.at a.n c.requires.n_in_bounds c.requires.n_bound c.copy.ensures) at c.put_slice.ensures
