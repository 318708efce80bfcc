-- `reader::HeldSets::counted` meets its contract. Assumes nothing.
use Rattle.reader.specs.Read.{held_of}
use Rattle.reader.specs.ReadCode.{spared_yes, spared_no, counted_none, counted-size}
use Rattle.reader.proofs.HeldSets.counted.Goals as goal

pub returns-in-Some : goal.returns-in-Some
returns-in-Some c = counted-size c.args.self c.in-Some.is (spared_no (held_of c.args.self) c.in-Some.q c.is_accepted.ensures c.if-not-is_accepted.true)

pub returns-in_default : goal.returns-in_default
returns-in_default c = counted-size c.args.self c.in-Some.is (spared_yes (held_of c.args.self) c.in-Some.q c.is_accepted.ensures c.if-not-is_accepted.false)

pub returns-in_default-2 : goal.returns-in_default-2
returns-in_default-2 c = counted_none c.args.self c.in_default.is
