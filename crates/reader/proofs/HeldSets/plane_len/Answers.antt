-- `reader::HeldSets::plane_len` meets its contract. Assumes nothing.
use Rattle.std.proofs.Common.{◌∙◌}
use Rattle.reader.specs.Read.{held_of}
use Rattle.reader.specs.ReadCode.{counted-fit, plane_none, plane-missing, plane-sized}
use Rattle.reader.proofs.HeldSets.plane_len.Goals as goal

pub tight_len-requires : goal.tight_len-requires
tight_len-requires c = counted-fit (held_of c.args.self) _ c.counted.ensures c.in-Some.is

pub returns-in-Some : goal.returns-in-Some
returns-in-Some c = c.tight_len.ensures ∙ plane-sized (held_of c.args.self) _ c.args.p c.if-p-le2.true c.counted.ensures c.in-Some.is

pub returns-in_default : goal.returns-in_default
returns-in_default c = plane_none (held_of c.args.self) c.args.p c.if-p-le2.false

pub returns-in_default-2 : goal.returns-in_default-2
returns-in_default-2 c = plane-missing (held_of c.args.self) _ c.args.p c.counted.ensures c.in_default.is
