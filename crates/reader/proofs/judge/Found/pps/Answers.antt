-- `reader::judge::Found::pps` meets its contract. Assumes nothing.
use Rattle.std.proofs.Common.{refl}
use Rattle.reader.specs.ReadCode.{judged_as, pps_not, pps_form}
use Rattle.reader.proofs.judge.Found.pps.Goals as goal

pub returns-then-not-is_pps : goal.returns-then-not-is_pps
returns-then-not-is_pps c = judged_as (pps_not _ _ _ c.is_pps.ensures c.if-not-is_pps.true) c.refused.ensures

pub returns : goal.returns
returns c = judged_as (pps_form _ _ _ c.is_pps.ensures c.if-not-is_pps.false) record { answer = refl; place = refl; held = rw (← c.counted.ensures) refl }
