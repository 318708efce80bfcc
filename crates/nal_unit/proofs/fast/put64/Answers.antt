-- `nal_unit::fast::put64` meets its contract: a quiet stretch is its own escape, 64 zeros are written as pairs, and the byte loop writes any other. Assumes nothing.
use Rattle.std.proofs.Common.{◌≡◌, Bor, List, ap, refl, sym, ◌∙◌, ℕ, arith, length}
use Rattle.lists.specs.Part.{part, part_length}
use Rattle.nal_unit.specs.Escape.{esc_from}
use Rattle.nal_unit.specs.EscapeCode.{counted, counted_most, esc_least}
use Rattle.nal_unit.specs.CalmCode.{quiet-part, blanks, blanks-size, blanks_one, blanks_two, zero-part, triples}
use Rattle.nal_unit.specs.PutCode.{put-quiet}
use Rattle.nal_unit.proofs.fast.put64.Goals as goal
use Rattle.nal_unit.proofs.fast.put64.Goals.{then-one, else-one}

pub copy_fixed-requires : goal.copy_fixed-requires
copy_fixed-requires c =
    let z = counted c.args.out.now c.args.at in
    (c.requires.le_p.1, omega (arith, c.requires, esc_least z (part c.args.s.now c.args.p 64), part_length c.args.s.now c.args.p 64 c.requires.le_p.1))

pub returns-then-calm : goal.returns-then-calm
returns-then-calm c =
    put-quiet c.args.out.now c.args.at
    (quiet-part c.args.s.now c.args.p 64 (counted c.args.out.now c.args.at) c.requires.le_p.1 (counted_most c.args.out.now c.args.at) c.requires.at_bound (sym c.calm.ensures ∙ c.if-calm.true))
    c.copy_fixed.ensures
    (rw (part_length c.args.s.now c.args.p 64 c.requires.le_p.1) refl)

pub put_zeros-requires-clause-pairs_value : goal.put_zeros-requires-clause-pairs_value
unfolding triples
put_zeros-requires-clause-pairs_value c =
    let m = counted c.args.out.now c.args.at in
    elim c.if-one.branch [
      | then-one w ↦ let e : m ≡ 1 = omega arith in rw (e, blanks_one) (ap (λ (b : Bor (List ℕ)). b.now) w.pairs-is)
      | else-one w ↦ let e : m ≡ 2 = omega (arith, counted_most c.args.out.now c.args.at) in rw (e, blanks_two) (ap (λ (b : Bor (List ℕ)). b.now) w.pairs-is)
    ]

pub put_zeros-requires-clause-at_in_bounds : goal.put_zeros-requires-clause-at_in_bounds
put_zeros-requires-clause-at_in_bounds c =
    let m = counted c.args.out.now c.args.at in
    let all : part c.args.s.now c.args.p 64 ≡ blanks 64 = zero-part c.args.s.now c.args.p 64 c.requires.le_p.1 (sym c.void.ensures ∙ c.if-void.true) in
    let e : length (esc_from m (part c.args.s.now c.args.p 64)) ≡ 96 =
    rw all (blanks-size m (omega (arith, c.zeros_before-z.ensures)) (counted_most c.args.out.now c.args.at)) in
    omega (arith, c.requires, e)

pub returns-then-void : goal.returns-then-void
returns-then-void c =
    rw (zero-part c.args.s.now c.args.p 64 c.requires.le_p.1 (sym c.void.ensures ∙ c.if-void.true)) c.put_zeros.ensures
