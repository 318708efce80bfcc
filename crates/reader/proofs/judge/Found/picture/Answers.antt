-- `reader::judge::Found::picture` meets its contract: 16 where a parameter set is missing, 17, 18 and 19 in turn, then the samples. Assumes nothing.
use Rattle.std.proofs.Common.{◌≡◌, refl, ◌∙◌, true}
use borrow.Author.Tests.{not-true, not-false}
use Rattle.ycbcr_image.proofs.Accepted.{fine}
use Rattle.ycbcr_image.specs.Sizes.{sequence_of}
use Rattle.ycbcr_image.specs.Refusals.{accepted}
use Rattle.reader.specs.Judge.{counted, picture_verdict, held_verdict}
use Rattle.reader.specs.Heads.{payload_at, small-length}
use Rattle.reader.specs.Read.{held_of, rooms}
use Rattle.reader.specs.ReadCode.{Measured, counted-fit, held-missing, held-sized, sized-missing, sized_both, picture_17, picture_18, picture_19, picture_shown, picture_exact, rooms-enough, shown-refused, shown_picture}
use Rattle.reader.proofs.judge.Found.picture.Goals as goal
use Rattle.reader.proofs.judge.Found.picture.Goals.{In-Some, Else-not-held, After-payload_len-m}

-- a size that counts is an accepted one
counts : (c : In-Some) → accepted (sequence_of c.in-Some.q) ≡ true
counts c = counted-fit (held_of c.args.self.reader.sets) _ c.counted-held.ensures c.in-Some.is

-- both parameter sets are held
whole : (c : Else-not-held)
    → picture_verdict (rooms c.args.y.now c.args.cb.now c.args.cr.now) (held_of c.args.self.reader.sets) (sequence_of c.in-Some.q) (payload_at c.args.self.unit.take.now c.args.self.unit.begin c.args.self.unit.end)
    ≡ held_verdict (rooms c.args.y.now c.args.cb.now c.args.cr.now) (held_of c.args.self.reader.sets) (counted (held_of c.args.self.reader.sets)) (payload_at c.args.self.unit.take.now c.args.self.unit.begin c.args.self.unit.end)
whole c =
    let a = c.args in
    let X = payload_at a.self.unit.take.now a.self.unit.begin a.self.unit.end in
    let room = rooms a.y.now a.cb.now a.cr.now in
    sized_both room (held_of a.self.reader.sets) (sequence_of c.in-Some.q) X (not-false _ c.if-not-held.false) ∙ held-sized room (held_of a.self.reader.sets) _ X c.counted-held.ensures c.in-Some.is

-- the two lengths
measured : (c : After-payload_len-m) → Measured (sequence_of c.in-Some.q) (payload_at c.args.self.unit.take.now c.args.self.unit.begin c.args.self.unit.end) c.payload_len_to-n.result c.payload_len-m.result
measured c = record { has = small-length c.args.self.unit.take.now c.args.self.unit.begin c.args.self.unit.end c.payload_len_to-n.ensures; wants = c.payload_len-m.ensures }

pub returns-in_default : goal.returns-in_default
returns-in_default c =
    let a = c.args in
    shown-refused a.y.now a.cb.now a.cr.now (held-missing (rooms a.y.now a.cb.now a.cr.now) (held_of a.self.reader.sets) _ _ c.counted-held.ensures c.in_default.is) c.refused.ensures

pub returns-then-not-held : goal.returns-then-not-held
returns-then-not-held c =
    let a = c.args in
    let room = rooms a.y.now a.cb.now a.cr.now in
    let X = payload_at a.self.unit.take.now a.self.unit.begin a.self.unit.end in
    shown-refused a.y.now a.cb.now a.cr.now
    (sized-missing room (held_of a.self.reader.sets) (sequence_of c.in-Some.q) X (not-true _ c.if-not-held.true) ∙ held-sized room (held_of a.self.reader.sets) _ X c.counted-held.ensures c.in-Some.is)
    c.refused-then-not-held.ensures

pub payload_len-m-requires : goal.payload_len-m-requires
payload_len-m-requires c = fine c.in-Some.q (counts (goal.at.payload_len-m-requires c).In-Some)

pub returns-then-n-m : goal.returns-then-n-m
returns-then-n-m c =
    let a = c.args in
    let p = goal.at.returns-then-n-m c in
    shown-refused a.y.now a.cb.now a.cr.now (picture_17 _ (held_of a.self.reader.sets) _ _ (measured p.After-payload_len-m) c.if-n-m.true ∙ whole p.Else-not-held) c.refused-then-n-m.ensures

pub is_formless-requires-clause-q_value : goal.is_formless-requires-clause-q_value
is_formless-requires-clause-q_value c = counts (goal.at.is_formless-requires-clause-q_value c).In-Some

pub is_formless-requires-clause-n_value : goal.is_formless-requires-clause-n_value
is_formless-requires-clause-n_value c =
    let g = measured (goal.at.is_formless-requires-clause-n_value c).After-payload_len-m in
    (g.has, g.wants, c.if-n-m.false)

pub returns-then-is_formless : goal.returns-then-is_formless
returns-then-is_formless c =
    let a = c.args in
    let p = goal.at.returns-then-is_formless c in
    shown-refused a.y.now a.cb.now a.cr.now
    (picture_18 _ (held_of a.self.reader.sets) _ _ (measured p.After-payload_len-m) c.if-n-m.false c.is_formless.ensures c.if-is_formless.true ∙ whole p.Else-not-held)
    c.refused-then-is_formless.ensures

pub is_short-requires : goal.is_short-requires
is_short-requires c = counts (goal.at.is_short-requires c).In-Some

pub returns-then-is_short : goal.returns-then-is_short
returns-then-is_short c =
    let a = c.args in
    let p = goal.at.returns-then-is_short c in
    shown-refused a.y.now a.cb.now a.cr.now
    (picture_19 _ (held_of a.self.reader.sets) _ _ (measured p.After-payload_len-m) c.if-n-m.false c.is_formless.ensures c.if-is_formless.false c.is_short.ensures c.if-is_short.true ∙ whole p.Else-not-held)
    record { answer = refl; place = refl; held = refl }

pub take_samples-requires-clause-fine : goal.take_samples-requires-clause-fine
take_samples-requires-clause-fine c =
    let a = c.args in
    let p = goal.at.take_samples-requires-clause-fine c in
    (fine c.in-Some.q (counts p.In-Some), picture_exact (rooms a.y.now a.cb.now a.cr.now) (held_of a.self.reader.sets) _ _ (measured p.After-payload_len-m) c.if-n-m.false c.is_formless.ensures c.if-is_formless.false)

pub take_samples-requires-clause-rooms : goal.take_samples-requires-clause-rooms
take_samples-requires-clause-rooms c = rooms-enough _ c.args.y.now c.args.cb.now c.args.cr.now c.is_short.ensures c.if-is_short.false

pub returns : goal.returns
returns c =
    let a = c.args in
    let p = goal.at.returns c in
    let X = payload_at a.self.unit.take.now a.self.unit.begin a.self.unit.end in
    shown_picture (sequence_of c.in-Some.q) X
    (picture_shown _ (held_of a.self.reader.sets) _ _ (measured p.After-payload_len-m) c.if-n-m.false c.is_formless.ensures c.if-is_formless.false c.is_short.ensures c.if-is_short.false ∙ whole p.Else-not-held)
    record { answer = refl; place = refl; held = refl }
    c.take_samples.ensures
