-- `reader::judge::Found::sps` meets its contract: held from now on, or compared with what is held. Assumes nothing.
use Rattle.std.proofs.Common.{refl, ◌∙◌}
use Rattle.reader.specs.Read.{held_of}
use Rattle.reader.specs.ReadCode.{judged_as, sps_not, sps-form, sps-new, sps-held, compare-other, compare_same}
use Rattle.reader.proofs.judge.Found.sps.Goals as goal

pub returns-in_default : goal.returns-in_default
returns-in_default c = judged_as (sps_not _ _ c.read_sps.ensures c.in_default.is) c.refused.ensures

pub returns-in-None : goal.returns-in-None
returns-in-None c =
    judged_as (sps-new (held_of c.args.self.reader.sets) _ _ c.counted-counted.ensures c.in-None.is ∙ sps-form _ _ c.read_sps.ensures c.in-Some.is) record { answer = refl; place = refl; held = refl }

pub returns-then-differs : goal.returns-then-differs
returns-then-differs c =
    judged_as
    (compare-other _ _ _ c.differs.ensures c.if-differs.true ∙ (sps-held (held_of c.args.self.reader.sets) _ _ c.counted-counted.ensures c.in-Some-sps.is ∙ sps-form _ _ c.read_sps.ensures c.in-Some.is))
    c.refused-then-differs.ensures

pub returns-else-differs : goal.returns-else-differs
returns-else-differs c =
    judged_as
    (compare_same _ _ _ c.differs.ensures c.if-differs.false ∙ (sps-held (held_of c.args.self.reader.sets) _ _ c.counted-counted.ensures c.in-Some-sps.is ∙ sps-form _ _ c.read_sps.ensures c.in-Some.is))
    record { answer = refl; place = refl; held = refl }
