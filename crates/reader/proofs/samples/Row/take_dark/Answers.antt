-- `reader::samples::Row::take_dark` meets its contract: each plane has its band of zeros. Assumes nothing.
use Rattle.std.proofs.Common.{sym, ◌∙◌, arith}
use Rattle.ycbcr_image.specs.Form.{planes_some}
use Rattle.ycbcr_image.specs.Sizes.{sequence_of}
use Rattle.reader.specs.Samples.{in_colour, nothing-taken}
use Rattle.reader.proofs.samples.Row.take_dark.Goals as goal

pub zero_band-requires-clause-k_bound : goal.zero_band-requires-clause-k_bound
zero_band-requires-clause-k_bound c = (omega arith, planes_some (sequence_of c.args.self.coded.q).form)

pub returns-then-is_monochrome-clause-in_cb : goal.returns-then-is_monochrome-clause-in_cb
returns-then-is_monochrome-clause-in_cb c = nothing-taken 0 _ _ c.args.cb.now (sym c.is_monochrome.ensures ∙ c.if-is_monochrome.true)

pub returns-then-is_monochrome-clause-in_cr : goal.returns-then-is_monochrome-clause-in_cr
returns-then-is_monochrome-clause-in_cr c = nothing-taken 1 _ _ c.args.cr.now (sym c.is_monochrome.ensures ∙ c.if-is_monochrome.true)

pub zero_band-requires-2-clause-k_bound : goal.zero_band-requires-2-clause-k_bound
zero_band-requires-2-clause-k_bound c = (omega arith, in_colour (sequence_of c.args.self.coded.q).form 1 (sym c.is_monochrome.ensures ∙ c.if-is_monochrome.false) (omega arith))

pub zero_band-requires-3-clause-k_bound : goal.zero_band-requires-3-clause-k_bound
zero_band-requires-3-clause-k_bound c = (omega arith, in_colour (sequence_of c.args.self.coded.q).form 2 (sym c.is_monochrome.ensures ∙ c.if-is_monochrome.false) (omega arith))
