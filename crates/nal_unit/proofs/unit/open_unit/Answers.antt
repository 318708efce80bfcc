-- `nal_unit::unit::open_unit` meets its contract: four bytes copied and one store. Assumes nothing.
use Rattle.nal_unit.specs.UnitCode.{open_put}
use Rattle.nal_unit.proofs.unit.open_unit.Goals as goal

pub returns-clause-out_after : goal.returns-clause-out_after
returns-clause-out_after c = open_put c.args.out.now c.args.at c.args.header c.requires c.copy.ensures
