-- The unit of a take that a cut falls in, whichever it is: what is answered about what is left of it (paper 01: 11 for a bare start code, 14 in a parameter
-- set, 17 in a picture, and nothing where no whole start code is left).
--     cut_word i r    the answer where the cut leaves r bytes of the frame of unit i
--     broken-said     so it is
-- Of these proofs/Broken.antt has `broken-said`, since an edit of must-fail/ changes what it rests on.
-- Assumes nothing.
use Rattle.std.specs.Prelude.{◌≡◌, List, [], ◌∷◌, ◌++◌, true, false, cond, ℕ, suc, ◌<◌, leb, ltb, eqb, length, take}
use Rattle.std.proofs.Math.Path.{refl, ap}
use Rattle.std.proofs.Common.{arith, le-ltb}
use Rattle.nal_unit.specs.Walk.{trim}
use Rattle.nal_unit.specs.Calls.{Verdict}
use Rattle.nal_unit.specs.Frame.{held_by}
use Rattle.ycbcr_image.specs.declared.Session.{Session}
use Rattle.ycbcr_image.specs.Sizes.{Sequence}
use Rattle.ycbcr_image.specs.Refusals.{session_of}
use Rattle.encoder.specs.Units.{sps_unit, pps_unit, picture_unit}
use Rattle.encoder.specs.Shot.{Shot, image_of, lends_of, sequence_in, shot_whole}
use Rattle.reader.specs.Judge.{Held, nothing, Word, refused, keep}
use Rattle.reader.specs.Read.{plane_length}
use Rattle.reader.specs.Enough.{plain}
use Rattle.take.specs.Judged.{having, judged_sps}
use Rattle.take.specs.Take.{Take, Frames, frames, Framed, size_of, units_of, picture_units}
use Rattle.take.specs.Reading.{fits, sizes, sets-held}
use Rattle.take.specs.Cut.{cut-sps, cut_pps, cut_picture}

unfoldable pub cut_word : ℕ → ℕ → List Word
cut_word i r = cond (leb r 3) [] (cond (eqb r 4) (refused 11 ∷ []) (cond (ltb i 2) (refused 14 ∷ []) (refused 17 ∷ [])))

-- a unit among those of pictures is that of a picture
picture_in_lem : (q : Sequence) (ss : List Shot) (K : List (List ℕ)) (v : List ℕ) (ws : List (List ℕ)) → Frames q ss → picture_units ss ≡ K ++ (v ∷ ws)
    → (s : Shot) × Framed q s × (v ≡ picture_unit (sequence_in s) (lends_of s))
unfolding picture_units
picture_in_lem q [] [] v ws f e = let z : ◌≡◌ {A = ℕ} 0 1 = cc in absurd (omega arith)
picture_in_lem q [] (k ∷ K) v ws f e = let z : ◌≡◌ {A = ℕ} 0 1 = cc in absurd (omega arith)
picture_in_lem q (s ∷ ss) [] v ws f e = (s, f.0, cc)
picture_in_lem q (s ∷ ss) (k ∷ K) v ws f e = picture_in_lem q ss K v ws f.1 (cc)

module _ (T : Take) where
  abbrev q : Sequence
  q = size_of T

  abbrev z : Session
  z = session_of (image_of T.first)

  held_none : held_by plain nothing [] ≡ nothing
  unfolding held_by
  held_none = refl

  held-sps : held_by plain nothing (sps_unit q ∷ []) ≡ having q false
  unfolding held_by
  held-sps = ap (λ (v : Verdict Held Word). v.held) (judged_sps (plane_length nothing) z (sizes T))

  -- the cut falls behind the header byte of the unit behind K
  pub behind_header : (K : List (List ℕ)) (v : List ℕ) (ws : List (List ℕ)) (m : ℕ) → units_of T ≡ K ++ (v ∷ ws) → suc m < length v
      → plain (held_by plain nothing K) (trim (take (suc m) v)) ≡ keep (held_by plain nothing K) (refused (cond (ltb (length K) 2) 14 17))
  behind_header [] v ws m e l =
      let u : v ≡ sps_unit q = cc in
      rw (held_none, u) (cut-sps (plane_length nothing) z m (sizes T) (rw u at l))
  behind_header (a ∷ []) v ws m e l =
      let t : a ≡ sps_unit q = cc in
      let u : v ≡ pps_unit = cc in
      rw (t, u, held-sps) (cut_pps (plane_length (having q false)) q m (rw u at l))
  behind_header (a ∷ b ∷ K) v ws m e l =
      let t : a ≡ sps_unit q = cc in
      let u : b ≡ pps_unit = cc in
      let r : picture_units (T.first ∷ T.others) ≡ K ++ (v ∷ ws) = cc in
      let p = picture_in_lem q (T.first ∷ T.others) K v ws (frames T) r in
      rw (le-ltb (suc (suc (length K))) 2 (omega arith)) (rw (t, u, sets-held T K) (shot p.0 p.1 p.2))
    where
      shot : (s : Shot) → Framed q s → v ≡ picture_unit (sequence_in s) (lends_of s) → plain (having q true) (trim (take (suc m) v)) ≡ keep (having q true) (refused 17)
      shot s f y =
          let w = f.size in
          rw (y, ← w) (cut_picture (plane_length (having (sequence_in s) true)) (sequence_in s) (lends_of s) m (rw w (fits T)) f.pass.fine (shot_whole s f.pass) (rw y at l))
