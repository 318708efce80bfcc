-- `reader::judge::read_unit` meets its contract: 11, 12, then what its header says. Assumes nothing.
use Rattle.std.proofs.Common.{◌∙◌, arith, get_or}
use Rattle.parameter_sets.specs.Sps.{base_level}
use Rattle.parameter_sets.specs.Read.{read_sps}
use Rattle.reader.specs.Judge.{counted}
use Rattle.reader.specs.Heads.{payload_at}
use Rattle.reader.specs.Read.{held_of, rooms}
use Rattle.reader.specs.ReadCode.{shown_as, shown-refused, shown-moved, shown-sps, shown_pps, unit-empty, unit_bad, unit_good, header-sps, header_pps, header_picture, header-other}
use Rattle.reader.proofs.judge.read_unit.Goals as goal

pub returns-then-scanned-begin : goal.returns-then-scanned-begin
returns-then-scanned-begin c =
    let a = c.args in
    let g = c.unit_scan-scanned.ensures in
    shown-moved g.end (shown-refused a.y.now a.cb.now a.cr.now (unit-empty (rooms a.y.now a.cb.now a.cr.now) (held_of a.reader.sets) g c.if-scanned-begin.true) c.refused.ensures)

pub returns-in_default : goal.returns-in_default
returns-in_default c =
    let a = c.args in
    let g = c.unit_scan-scanned.ensures in
    shown-moved g.end (shown-refused a.y.now a.cb.now a.cr.now (unit_bad (rooms a.y.now a.cb.now a.cr.now) (held_of a.reader.sets) g c.if-scanned-begin.false c.requires.1 c.in_default.is) c.refused-in_default.ensures)

pub returns-in-103 : goal.returns-in-103
returns-in-103 c =
    let a = c.args in
    let g = c.unit_scan-scanned.ensures in
    let X = payload_at a.take.now a.begin c.unit_scan-scanned.result.stop in
    let room = rooms a.y.now a.cb.now a.cr.now in
    shown-moved g.end
    (shown_as
    (header-sps room (held_of a.reader.sets) X c.in-103.is ∙ unit_good room (held_of a.reader.sets) g c.if-scanned-begin.false c.requires.1 c.in-Some.is)
    (shown-sps a.y.now a.cb.now a.cr.now (held_of a.reader.sets) (counted (held_of a.reader.sets)) (read_sps base_level X) c.sps.ensures))

pub returns-in-104 : goal.returns-in-104
returns-in-104 c =
    let a = c.args in
    let g = c.unit_scan-scanned.ensures in
    let X = payload_at a.take.now a.begin c.unit_scan-scanned.result.stop in
    let room = rooms a.y.now a.cb.now a.cr.now in
    shown-moved g.end
    (shown_as
    (header_pps room (held_of a.reader.sets) X c.in-104.is ∙ unit_good room (held_of a.reader.sets) g c.if-scanned-begin.false c.requires.1 c.in-Some.is)
    (shown_pps a.y.now a.cb.now a.cr.now (held_of a.reader.sets) (counted (held_of a.reader.sets)) X c.pps.ensures))

pub returns-in-37 : goal.returns-in-37
returns-in-37 c =
    let a = c.args in
    let g = c.unit_scan-scanned.ensures in
    let X = payload_at a.take.now a.begin c.unit_scan-scanned.result.stop in
    let room = rooms a.y.now a.cb.now a.cr.now in
    shown-moved g.end
    (shown_as
    (header_picture room (held_of a.reader.sets) X c.in-37.is ∙ unit_good room (held_of a.reader.sets) g c.if-scanned-begin.false c.requires.1 c.in-Some.is)
    c.picture.ensures)

pub returns-in_default-take : goal.returns-in_default-take
returns-in_default-take c =
    let a = c.args in
    let g = c.unit_scan-scanned.ensures in
    let X = payload_at a.take.now a.begin c.unit_scan-scanned.result.stop in
    let room = rooms a.y.now a.cb.now a.cr.now in
    let x = get_or a.take.now a.begin 0 in
    shown-moved g.end
    (shown-refused a.y.now a.cb.now a.cr.now
    (header-other room (held_of a.reader.sets) X (omega arith) (omega arith) (omega arith) ∙ unit_good room (held_of a.reader.sets) g c.if-scanned-begin.false c.requires.1 c.in-Some.is)
    c.refused-in_default-take.ensures)
