-- `nal_unit::escaped_len` meets its contract: the whole payload is counted. Assumes nothing.
use Rattle.std.proofs.Common.{refl, ap, ◌∙◌, List, ℕ, length}
use Rattle.lists.specs.Part.{part_all}
use Rattle.nal_unit.specs.Escape.{esc}
use Rattle.nal_unit.proofs.escaped_len.Goals as goal

pub returns : goal.returns
returns c = c.count_slice.ensures.size ∙ ap (λ (l : List ℕ). length (esc l)) (part_all c.args.payload.now (length c.args.payload.now) refl)
