-- `reelpony_read` meets its contract. Assumes nothing.
use Rattle.reelpony.specs.ReadingCode.{reads_in}
use Rattle.reelpony.proofs.read.reelpony_read.Goals as goal

pub returns : goal.returns
returns c =
    let a = c.args in
    reads_in a.take.now a.reader.now a.y.now a.cb.now a.cr.now c.sets_in.ensures c.read-step.ensures c.words_after.ensures c.told_words.ensures c.number_of.ensures
