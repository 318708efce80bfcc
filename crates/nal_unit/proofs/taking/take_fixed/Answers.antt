-- `nal_unit::taking::take_fixed` meets its contract: a calm row is copied as it stands. Assumes nothing.
use Rattle.std.proofs.Common.{◌≡◌, ℕ, sym, ◌∙◌, ◌+◌, ◌-◌, ◌≤◌, arith, leb-true, eqb-true, eq-eqb}
use Rattle.nal_unit.specs.Kept.{ins_count, kept_room, calm-join}
use Rattle.nal_unit.specs.Taking.{took-calm}
use Rattle.nal_unit.proofs.taking.take_fixed.Goals as goal
use Rattle.nal_unit.proofs.taking.take_fixed.Goals.{then-this-ge16, else-this-ge16, then-this-le16, else-this-le16}

pub returns-then-calm-2 : goal.returns-then-calm-2
returns-then-calm-2 g c =
    let a = c.args in
    let n = g.row.N in
    let f : a.p + n ≤ a.e = kept_room a.s.now a.p a.e n (omega arith) (omega arith) c.requires.in_bounds in
    let first = sym c.calm.ensures ∙ c.if-calm.true in
    let narrow : a.p + 16 ≤ a.e =
    elim c.if-this-ge16.branch [ then-this-ge16 w ↦ omega arith | else-this-ge16 w ↦ omega (arith, leb-true 16 (a.e - a.p) (sym w.value-is ∙ c.if-e-p-ge16.true)) ] in
    elim c.if-this-le16.branch [
      | then-this-le16 w ↦ took-calm a.p a.e 16 n (omega arith) (omega arith) narrow (omega arith) first c.copy_fixed.ensures
      | else-this-le16 w ↦
          let q : ℕ = a.p + (n - 16) in
          let e : q + 16 ≡ a.p + n = omega arith in
          let last : ins_count a.s.now q (a.p + n) ≡ 0 =
          rw e at (eqb-true (ins_count a.s.now q (q + 16)) 0 (sym w.calm-else-this-le16.ensures ∙ sym w.value-is ∙ c.if-calm-2.true)) in
          let whole = calm-join a.s.now a.p (a.p + n) q (a.p + 16) (omega arith) (omega arith) (omega arith) (omega arith) (eqb-true (ins_count a.s.now a.p (a.p + 16)) 0 first) last in
          took-calm a.p a.e n n (omega arith) (omega arith) f (omega arith) (eq-eqb (ins_count a.s.now a.p (a.p + n)) 0 whole) c.copy_fixed.ensures
    ]
