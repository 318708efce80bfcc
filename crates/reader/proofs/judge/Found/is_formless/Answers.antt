-- `reader::judge::Found::is_formless` meets its contract: a longer payload, or one of the exact length that is not right. Assumes nothing.
use Rattle.std.proofs.Common.{arith, ◌∙◌, lt-ltb}
use Rattle.ycbcr_image.proofs.Accepted.{fine}
use Rattle.ycbcr_image.specs.Sizes.{sequence_of}
use Rattle.reader.specs.Heads.{payload_at}
use Rattle.reader.specs.ReadCode.{formless-long, formless_right}
use Rattle.reader.proofs.judge.Found.is_formless.Goals as goal

pub is_right-requires-clause-fine : goal.is_right-requires-clause-fine
is_right-requires-clause-fine c = (fine c.args.q c.requires.q_value, omega (arith, c.if-m-n.false, c.requires.n_value))

pub returns-then-m-n : goal.returns-then-m-n
returns-then-m-n c =
    lt-ltb _ _ c.if-m-n.true ∙ formless-long (sequence_of c.args.q) (payload_at c.args.self.unit.take.now c.args.self.unit.begin c.args.self.unit.end) (omega (arith, c.if-m-n.true, c.requires.n_value))

pub returns-else-m-n : goal.returns-else-m-n
returns-else-m-n c =
    formless_right (sequence_of c.args.q) (payload_at c.args.self.unit.take.now c.args.self.unit.begin c.args.self.unit.end) (omega (arith, c.if-m-n.false, c.requires.n_value)) c.is_right.ensures
