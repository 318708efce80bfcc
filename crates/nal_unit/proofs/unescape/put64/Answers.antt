-- `nal_unit::unescape::put64` meets its contract: a calm stretch is its own payload, pairs of zeros are zeros, and others go byte by byte. Assumes nothing.
use Rattle.std.proofs.Common.{◌≡◌, refl, sym, ap, ◌∙◌, List, ℕ, true, ◌+◌, ◌≤◌, arith, length, replicate}
use lib.ListN.{length-replicate}
use Rattle.lists.specs.Fill.{splice}
use Rattle.lists.specs.Part.{part, part_length}
use Rattle.nal_unit.specs.Kept.{kept}
use Rattle.nal_unit.specs.Taking.{zero_pairs, kept-flat}
use Rattle.nal_unit.specs.TakingCode.{pairs-are}
use Rattle.nal_unit.specs.UnescapeCode.{unescapes_as, Unescaping, unescaping_start, unescaping_room, unescaping_turn, unescaping_end}
use Rattle.nal_unit.proofs.unescape.put64.Goals as goal

-- 63 bytes that are pairs of zeros: the zeros have room, and are written
module _ (s : List ℕ) (p a : ℕ) (d : List ℕ) (i : 2 ≤ p) (h : p + 64 ≤ length s) (r : a + length (kept s p (p + 64)) ≤ length d) (z : zero_pairs s p 21 ≡ true) where
  begun : Unescaping s p (p + 64) d a d a p
  begun = unescaping_start s p (p + 64) d a i (omega arith) h r

  zeros : kept s p (p + 63) ≡ replicate 42 0
  zeros = pairs-are s p 21 i (omega arith) (omega arith) z

  zeros-room : a + 42 ≤ length d
  zeros-room = omega (arith, unescaping_room (p + 63) begun (omega arith) (omega arith), ap length zeros, length-replicate {A = ℕ} 42 0)

  zeros-written : {d' : List ℕ} → d' ≡ splice d a (replicate 42 0) → Unescaping s p (p + 64) d a d' (a + 42) (p + 63)
  zeros-written w = unescaping_turn begun (unescapes_as (replicate 42 0) zeros w refl) (omega arith) (omega arith)

pub copy_fixed-requires : goal.copy_fixed-requires
copy_fixed-requires c =
    let a = c.args in
    let e = kept-flat a.s.now a.p 64 64 (omega arith) (omega arith) (omega arith) (sym c.calm.ensures ∙ c.if-calm.true) in
    (omega arith, omega (arith, c.requires.p_in_bounds, ap length e, part_length a.s.now a.p 64 (omega arith)))

pub returns-then-calm : goal.returns-then-calm
returns-then-calm c =
    let a = c.args in
    let e = kept-flat a.s.now a.p 64 64 (omega arith) (omega arith) (omega arith) (sym c.calm.ensures ∙ c.if-calm.true) in
    unescapes_as (part a.s.now a.p 64) e c.copy_fixed.ensures (omega (arith, part_length a.s.now a.p 64 (omega arith)))

pub write_zeros-requires : goal.write_zeros-requires
write_zeros-requires c =
    let a = c.args in
    zeros-room a.s.now a.p a.a a.out.now (omega arith) (omega arith) c.requires.p_in_bounds (sym c.pairs.ensures ∙ c.if-pairs.true)

pub put_byte-requires-clause-p_in_bounds : goal.put_byte-requires-clause-p_in_bounds
put_byte-requires-clause-p_in_bounds c =
    let a = c.args in
    let w = zeros-written a.s.now a.p a.a a.out.now (omega arith) (omega arith) c.requires.p_in_bounds (sym c.pairs.ensures ∙ c.if-pairs.true) c.write_zeros.ensures in
    unescaping_room (a.p + 63 + 1) w (omega arith) (omega arith)

pub returns-then-pairs : goal.returns-then-pairs
returns-then-pairs c =
    let a = c.args in
    let w = zeros-written a.s.now a.p a.a a.out.now (omega arith) (omega arith) c.requires.p_in_bounds (sym c.pairs.ensures ∙ c.if-pairs.true) c.write_zeros.ensures in
    unescaping_end (unescaping_turn w c.put_byte.ensures (omega arith) (omega arith)) (omega arith)
