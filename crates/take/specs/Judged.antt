-- What the reader answers about the units that the writer writes: for one accepted call, exactly what was written. Assumes nothing.
use Rattle.std.specs.Prelude.{◌≡◌, List, ◌∷◌, Bool, ℕ, ◌<◌, length}
use Rattle.std.proofs.Math.Path.{refl}
use Rattle.std.proofs.Common.{ap, ◌∙◌, arith}
use Rattle.std.proofs.Math.Bool.{true, false}
use Rattle.std.proofs.Math.Option.{some}
use borrow.Author.Tests.{le-ltb}
use Rattle.lists.specs.Test.{same_refl}
use Rattle.nal_unit.specs.Escape.{esc}
use Rattle.nal_unit.specs.Unescape.{un-esc}
use Rattle.nal_unit.proofs.Units.{fault-unit}
use Rattle.parameter_sets.specs.Sps.{sps_payload, base_level}
use Rattle.parameter_sets.specs.Pps.{pps_payload}
use Rattle.parameter_sets.specs.Read.{sps_whole}
use Rattle.slice.specs.Picture as P
use Rattle.ycbcr_image.specs.declared.Session.{Session}
use Rattle.ycbcr_image.specs.Accepted.{Fine}
use Rattle.ycbcr_image.specs.Sizes.{Sequence, sequence_of}
use Rattle.ycbcr_image.specs.Refusals.{accepted}
use Rattle.encoder.specs.Units.{sps_unit, pps_unit, picture_unit}
use Rattle.reader.specs.Judge.{Held, nothing, Samples, sps, pps, picture, possible, counted, keep, sps_verdict, pps_verdict, formless, picture_verdict, held_verdict, unit_verdict, judge}
use Rattle.reader.specs.Enough.{Enough, enough-long}

-- what the take's sets leave held
abbrev pub having : Sequence → Bool → Held
having q b = record { sps = some q; pps = b }

-- a possible state counts as it is
pub counted_is : (q : Sequence) (b : Bool) → possible q ≡ true → counted (having q b) ≡ having q b
unfolding counted
counted_is q b e = rw e refl

-- and is the size held
pub held_is : (q : Sequence) (b : Bool) → possible q ≡ true → (counted (having q b)).sps ≡ some q
held_is q b e = ap (λ (h : Held). h.sps) (counted_is q b e)

-- the visible samples of the lent planes
abbrev pub visible_of : Sequence → P.Lends → Samples
visible_of q L = record { y = P.visible_in q 0 L.y; cb = P.visible_in q 1 L.cb; cr = P.visible_in q 2 L.cr }

module _ (room : ℕ → ℕ) where
  -- a unit of a nonzero header and an escape goes to the verdict by its header
  judge-unit : (h : Held) (x : ℕ) (p : List ℕ) → 0 < x → judge room h (x ∷ esc p) ≡ unit_verdict room h x p
  unfolding judge
  judge-unit h x p l = rw (fault-unit x p l, un-esc 0 p) refl

  verdict_sps : (s : Session) → accepted (sequence_of s) ≡ true
      → unit_verdict room nothing 0x67 (sps_payload base_level (sequence_of s)) ≡ record { word = sps (sequence_of s); held = having (sequence_of s) false; stay = false }
  unfolding unit_verdict sps_verdict counted
  verdict_sps s t = rw (sps_whole base_level s t) refl

  -- the sequence parameter set, read with nothing held
  pub judged_sps : (s : Session) → accepted (sequence_of s) ≡ true
      → judge room nothing (sps_unit (sequence_of s)) ≡ record { word = sps (sequence_of s); held = having (sequence_of s) false; stay = false }
  unfolding sps_unit
  judged_sps s t = judge-unit nothing 0x67 (sps_payload base_level (sequence_of s)) (omega arith) ∙ verdict_sps s t

  verdict_pps : (q : Sequence) → possible q ≡ true → unit_verdict room (having q false) 0x68 pps_payload ≡ record { word = pps; held = having q true; stay = false }
  unfolding unit_verdict pps_verdict
  verdict_pps q e = rw (counted_is q false e, same_refl pps_payload) refl

  -- the picture parameter set behind it
  pub judged_pps : (q : Sequence) → possible q ≡ true → judge room (having q false) pps_unit ≡ record { word = pps; held = having q true; stay = false }
  unfolding pps_unit
  judged_pps q e = judge-unit (having q false) 0x68 pps_payload (omega arith) ∙ verdict_pps q e

  -- a picture unit with both sets held
  verdict_picture : (q : Sequence) (X : List ℕ) → possible q ≡ true → unit_verdict room (having q true) 0x25 X ≡ picture_verdict room (having q true) q X
  unfolding unit_verdict held_verdict
  verdict_picture q X e = rw (counted_is q true e) refl

  accepted_picture : (q : Sequence) (L : P.Lends) → Fine q → P.Whole q L → Enough room (having q true) → possible q ≡ true → picture_verdict room (having q true) q (P.picture_of q L) ≡ keep (having q true) (picture (visible_of q L))
  unfolding picture_verdict formless
  accepted_picture q L g w n e =
      let l = P.picture_length_lem q L g w in
      rw (le-ltb (length (P.picture_of q L)) (P.picture_length q) (omega arith), le-ltb (P.picture_length q) (length (P.picture_of q L)) (omega arith), P.picture_right q L g w, enough-long room (having q true) q n (held_is q true e))
      (rw (P.picture_back q L g w 0 (omega arith), P.picture_back q L g w 1 (omega arith), P.picture_back q L g w 2 (omega arith)) refl)

  -- a picture, with both sets held and planes that are long enough: its visible samples
  pub judged_picture : (q : Sequence) (L : P.Lends) → possible q ≡ true → Fine q → P.Whole q L → Enough room (having q true)
      → judge room (having q true) (picture_unit q L) ≡ keep (having q true) (picture (visible_of q L))
  unfolding picture_unit
  judged_picture q L e g w n = judge-unit (having q true) 0x25 (P.picture_of q L) (omega arith) ∙ (verdict_picture q (P.picture_of q L) e ∙ accepted_picture q L g w n e)
