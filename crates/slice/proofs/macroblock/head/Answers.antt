-- `slice::macroblock::head` meets its contract: the bytes of paper 01. Assumes nothing.
use Rattle.std.proofs.Common.{refl, ap, arith, length}
use Rattle.slice.specs.Laid.{laid_all}
use Rattle.slice.specs.Macroblocks.{first_head, next_head}
use Rattle.slice.proofs.macroblock.head.Goals as goal

pub copy-requires-clause-n_in_bounds_2 : goal.copy-requires-clause-n_in_bounds_2
copy-requires-clause-n_in_bounds_2 c =
    omega (arith, c.requires, ap length (first_head c.args.i c.if-i-eq0.true))

pub returns-then-i-eq0 : goal.returns-then-i-eq0
returns-then-i-eq0 c =
    laid_all c.args.out.now c.args.at 4 _ (first_head c.args.i c.if-i-eq0.true) refl c.copy.ensures

pub copy-requires-2-clause-n_in_bounds_2 : goal.copy-requires-2-clause-n_in_bounds_2
copy-requires-2-clause-n_in_bounds_2 c =
    omega (arith, c.requires, ap length (next_head c.args.i c.if-i-eq0.false))

pub returns : goal.returns
returns c =
    laid_all c.args.out.now c.args.at 2 _ (next_head c.args.i c.if-i-eq0.false) refl c.copy-2.ensures
