-- `parameter_sets::put_vui` meets its contract: the fields are 16 bits. Assumes nothing.
use Rattle.std.proofs.Common.{sym}
use Rattle.parameter_sets.specs.Code.{tail_is, put_as}
use Rattle.parameter_sets.proofs.put_vui.Goals as goal

pub returns : goal.returns
returns c = record { bits = put_as (sym tail_is) c.put_bits.ensures; bytes = record { at = λ i. (c.type_inv.payload i).fits } }
