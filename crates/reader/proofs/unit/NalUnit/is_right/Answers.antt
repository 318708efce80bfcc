-- `reader::unit::NalUnit::is_right` meets its contract: the header, then the heads and the last byte. Assumes nothing.
use Rattle.ycbcr_image.specs.Sizes.{sequence_of}
use Rattle.reader.specs.Heads.{Sized, right_room, right_not, right_first, right_long, right_all}
use Rattle.reader.specs.Units.{payload_of}
use Rattle.reader.proofs.unit.NalUnit.is_right.Goals as goal
use Rattle.reader.proofs.unit.NalUnit.is_right.Goals.{After-mbs_width}

-- the numbers of the picture
sized : (c : After-mbs_width) → Sized (sequence_of c.args.q) c.mbs_height.result c.mbs_width.result c.mb_bytes-size.result
sized c = record { high = c.mbs_height.ensures; wide = c.mbs_width.ensures; bytes = c.mb_bytes-size.ensures }

pub begins-requires-clause-v_in_bounds : goal.begins-requires-clause-v_in_bounds
begins-requires-clause-v_in_bounds c = right_room c.requires.fine.0 c.requires.unit_at c.requires.fine.1

pub returns-then-not-begins : goal.returns-then-not-begins
returns-then-not-begins c = right_not _ _ c.requires.unit_at c.begins.ensures c.if-not-begins.true

pub skip-p-requires-clause-n_in_bounds : goal.skip-p-requires-clause-n_in_bounds
skip-p-requires-clause-n_in_bounds c = right_room c.requires.fine.0 c.requires.unit_at c.requires.fine.1

pub has_heads-requires-clause-stands : goal.has_heads-requires-clause-stands
has_heads-requires-clause-stands c = right_first c.requires.unit_at c.skip-p.ensures

pub has_heads-requires-clause-n_nonzero : goal.has_heads-requires-clause-n_nonzero
has_heads-requires-clause-n_nonzero c =
    right_long c.requires.fine.0 (sized (goal.at.has_heads-requires-clause-n_nonzero c).After-mbs_width) (payload_of c.args.self) c.requires.fine.1

pub returns : goal.returns
returns c = right_all (sized (goal.at.returns c).After-mbs_width) c.requires.unit_at c.begins.ensures c.if-not-begins.false c.has_heads.ensures
