-- `reelpony::words_of` meets its contract. Assumes nothing.
use Rattle.reelpony.specs.Code.{words_as}
use Rattle.reelpony.proofs.words_of.Goals as goal

pub returns : goal.returns
returns c = words_as c.args.s c.chroma_format_idc-colour.ensures c.num_bits-bits.ensures
