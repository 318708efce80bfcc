-- `slice::macroblock::copy_rows` meets its contract. The loop's invariant: the rows that are laid. Assumes nothing.
use Rattle.std.proofs.Common.{◌≡◌, ◌+◌, ◌*◌, arith, rules}
use Rattle.std.proofs.Math.Nat.{mul-le-mul_right}
use Rattle.lists.specs.Fill.{splice}
use Rattle.lists.specs.Part.{part}
use Rattle.slice.proofs.Rows.{rows_start, rows_turn}
use Rattle.slice.proofs.macroblock.copy_rows.Goals as goal

pub loop-k-init : goal.loop-k-init
loop-k-init g c =
    let a = c.args in
    rows_start a.s.now a.p a.stride g.row.W a.h c.requires.w_in_bounds.0 a.out.now a.at c.requires.w_in_bounds_2

-- the row k ends within h steps of the plane and within h widths of the output
pub copy_fixed-requires : goal.copy_fixed-requires
copy_fixed-requires g c =
    let l = mul-le-mul_right c.args.stride c.loop-k-test.true in
    let m = mul-le-mul_right g.row.W c.loop-k-test.true in
    grind (arith, l, m)

pub loop-k-preserved : goal.loop-k-preserved
loop-k-preserved g c =
    let a = c.args in
    let row : c.copy_fixed.new.out ≡ splice c.loop-k.out (a.at + c.loop-k.k * g.row.W) (part a.s.now (a.p + c.loop-k.k * a.stride) g.row.W) = search rules in
    rows_turn a.s.now a.p a.stride g.row.W a.h c.requires.w_in_bounds.0 c.loop-k.invariant c.loop-k-test.true row
