-- Reading a take with planes that are long enough (reader, Enough: `plain`): with both sets held no unit changes them, the units of a take are met whole, and
-- each is answered with its word. Assumes nothing.
use Rattle.std.specs.Prelude.{◌≡◌, false, ℕ, ◌+◌, ltb, eqb}
use Rattle.std.proofs.Math.Path.{refl, ap}
use Rattle.std.proofs.Common.{◌∙◌}
use mathlib.Core.List.{List, [], ◌∷◌}
use Rattle.std.proofs.Math.Bool.{true}
use Rattle.std.proofs.Math.Option.{Option, none, some}
use Rattle.std.proofs.Math.ListN.{length}
use Rattle.lists.specs.Test.{same, by_test}
use Rattle.nal_unit.specs.Unescape.{un, fault}
use Rattle.nal_unit.specs.Walk.{Whole}
use Rattle.nal_unit.specs.Calls.{Verdict, Say, said, Full}
use Rattle.nal_unit.specs.Frame.{Goes, Wholes, says, held_by, goes-full, held-full}
use Rattle.parameter_sets.specs.Sps.{base_level}
use Rattle.parameter_sets.specs.Pps.{pps_payload}
use Rattle.parameter_sets.specs.Read.{read_sps}
use Rattle.slice.specs.Picture as P
use Rattle.ycbcr_image.specs.declared.Session.{Session}
use Rattle.ycbcr_image.specs.Sizes.{Sequence}
use Rattle.ycbcr_image.specs.Refusals.{session_bad, session_of, accepted}
use Rattle.encoder.specs.Units.{sps_unit, pps_unit, picture_unit}
use Rattle.encoder.specs.Shot.{Shot, image_of, lends_of, sequence_in, shot_whole}
use Rattle.reader.specs.Judge as J
use Rattle.reader.specs.Judge.{Held, nothing, Word, sps, picture, refused, possible, session-possible, keep, sps_verdict, pps_verdict, picture_verdict, held_verdict, unit_verdict, judge}
use Rattle.take.specs.Last.{sps-unit, pps_unit_lem, picture_unit_lem}
use Rattle.reader.specs.Read.{plane_length}
use Rattle.reader.specs.Enough.{plain, enough_own, enough-long}
use Rattle.take.specs.Judged.{having, counted_is, held_is, judged_sps, judged_pps, judged_picture}
use Rattle.take.specs.Take.{Take, Frames, frames, size_of, sets_and, units_of, words_of, picture_units, picture_words, samples_of, Framed, first_framed}

-- words in order, each with the offset of its unit, where the first unit's frame begins at p
unfoldable pub listed : ℕ → List (List ℕ) → List Word → List (Say Word)
listed p [] ws = []
listed p (u ∷ us) [] = []
listed p (u ∷ us) (w ∷ ws) = said (p + 4) w ∷ listed (p + 4 + length u) us ws

module _ (q : Sequence) (e : possible q ≡ true) where
  abbrev h : Held
  h = having q true

  abbrev room : ℕ → ℕ
  room = plane_length h

  -- a verdict that keeps what is held and moves on
  record Keeps (v : Verdict Held Word) : Type 0 where
    holds : v.held ≡ h
    moves : v.stay ≡ false

  kept : (w : Word) → Keeps (keep h w)
  kept w = record { holds = refl; moves = refl }

  keeps-sps : (r : Option Sequence) → Keeps (sps_verdict h h r)
  unfolding sps_verdict
  keeps-sps none = kept (refused 14)
  keeps-sps (some i) = by_test Keeps (session_bad q i) (kept (refused 15)) (kept (sps i))

  keeps_pps : (X : List ℕ) → Keeps (pps_verdict h h X)
  unfolding pps_verdict
  keeps_pps X = by_test Keeps (same X pps_payload) (record { holds = refl; moves = refl }) (kept (refused 14))

  keeps_picture : (X : List ℕ) → Keeps (picture_verdict room h q X)
  unfolding picture_verdict
  keeps_picture X =
      rw (enough-long room h q (enough_own h) (held_is q true e))
      (by_test Keeps (ltb (length X) (P.picture_length q)) (kept (refused 17))
      (by_test Keeps (J.formless q X) (kept (refused 18)) (kept (picture (J.samples_of q X)))))

  keeps-unit : (x : ℕ) (X : List ℕ) → Keeps (unit_verdict room h x X)
  unfolding unit_verdict held_verdict
  keeps-unit x X = rw (counted_is q true e) (by_test Keeps (eqb x 0x67) (keeps-sps (read_sps base_level X)) (by_test Keeps (eqb x 0x68) (keeps_pps X) (by_test Keeps (eqb x 0x25) (keeps_picture X) (kept (refused 13)))))

  keeps : (u : List ℕ) → Keeps (judge room h u)
  unfolding judge
  keeps [] = kept (refused 11)
  keeps (x ∷ t) = by_test Keeps (fault (x ∷ t)) (kept (refused 12)) (keeps-unit x (un t))

  -- with both sets held, no unit changes what is held, and no call keeps its place
  pub full : Full plain h
  full = record { keeps = λ u. (keeps u).holds; moves = λ u. (keeps u).moves }

  -- pictures of the take's size

  -- one of them: its unit is whole, and its word is its visible samples
  pub shot-unit : (s : Shot) → Framed q s → Whole (picture_unit (sequence_in s) (lends_of s))
  shot-unit s f = picture_unit_lem (sequence_in s) (lends_of s) f.pass.fine (shot_whole s f.pass)

  shot-word : (s : Shot) → Framed q s → plain h (picture_unit (sequence_in s) (lends_of s)) ≡ keep h (picture (samples_of s))
  shot-word s f =
      let z = f.size in
      rw (← z) (judged_picture (plane_length (having (sequence_in s) true)) (sequence_in s) (lends_of s) (rw z e) f.pass.fine (shot_whole s f.pass) (enough_own (having (sequence_in s) true)))

  pub pictures_whole : (ss : List Shot) → Frames q ss → Wholes (picture_units ss)
  unfolding picture_units
  pictures_whole [] f = tt
  pictures_whole (s ∷ ss) f = (shot-unit s f.0, pictures_whole ss f.1)

  pub pictures_said : (p : ℕ) (ss : List Shot) → Frames q ss → says plain h p (picture_units ss) ≡ listed p (picture_units ss) (picture_words ss)
  unfolding says listed picture_units picture_words
  pictures_said p [] f = refl
  pictures_said p (s ∷ ss) f =
      rw (shot-word s f.0, pictures_said (p + 4 + length (picture_unit (sequence_in s) (lends_of s))) ss f.1) refl

-- the whole take
module _ (T : Take) where
  abbrev q : Sequence
  q = size_of T

  abbrev z : Session
  z = session_of (image_of T.first)

  pub sizes : accepted q ≡ true
  sizes = (first_framed T).pass.sizes

  pub fits : possible q ≡ true
  fits = session-possible z sizes

  -- the parameter sets and any pictures of its size: the units are whole
  pub sets-goes : (ss : List Shot) → Frames q ss → Goes plain nothing (sets_and q ss)
  sets-goes ss f =
      rw (judged_sps (plane_length nothing) z sizes, judged_pps (plane_length (having q false)) q fits)
      (sps-unit q, refl, (pps_unit_lem, refl, goes-full plain (having q true) (picture_units ss) (full q fits) (pictures_whole q fits ss f)))

  -- each is answered with its word, at its offset
  pub sets-said : (p : ℕ) (ss : List Shot) → Frames q ss → says plain nothing p (sets_and q ss) ≡ listed p (sets_and q ss) (sps q ∷ J.pps ∷ picture_words ss)
  unfolding says listed
  sets-said p ss f =
      rw (judged_sps (plane_length nothing) z sizes, judged_pps (plane_length (having q false)) q fits, pictures_said q fits (p + 4 + length (sps_unit q) + 4 + length pps_unit) ss f) refl

  -- and both sets are held behind them, whatever else follows
  pub sets-held : (us : List (List ℕ)) → held_by plain nothing (sps_unit q ∷ pps_unit ∷ us) ≡ having q true
  unfolding held_by
  sets-held us =
      ap (λ (v : Verdict Held Word). held_by plain (plain v.held pps_unit).held us) (judged_sps (plane_length nothing) z sizes)
      ∙ (ap (λ (v : Verdict Held Word). held_by plain v.held us) (judged_pps (plane_length (having q false)) q fits)
      ∙ held-full plain (having q true) us (full q fits))

  -- all of it
  pub take-goes : Goes plain nothing (units_of T)
  take-goes = sets-goes (T.first ∷ T.others) (frames T)

  pub take-said : (p : ℕ) → says plain nothing p (units_of T) ≡ listed p (units_of T) (words_of T)
  take-said p = sets-said p (T.first ∷ T.others) (frames T)
