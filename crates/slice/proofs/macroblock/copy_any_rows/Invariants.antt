use Rattle.std.proofs.Common.{◌+◌, ◌*◌}
use Rattle.slice.specs.Cat.{rows_of}
use Rattle.slice.specs.Laid.{Laying}
use Rattle.slice.proofs.macroblock.copy_any_rows.Given as goal

abbrev pub invariant-loop-k : goal.invariant-loop-k
invariant-loop-k l =
    Laying l.initial.out l.at (rows_of l.s l.stride l.p l.w) 0 l.h l.out (l.at + l.k * l.w) l.k
