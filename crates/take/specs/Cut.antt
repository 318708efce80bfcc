-- What a cut leaves of a unit of a take, and what is answered about it (paper 01, the last paragraph of "Reading a take"). Assumes nothing.
use Rattle.std.specs.Prelude.{◌≡◌, List, [], ◌∷◌, Bool, false, ℕ, suc, ◌<◌, length, take}
use Rattle.std.proofs.Math.Path.{refl}
use Rattle.std.proofs.Common.{ap, arith}
use Rattle.std.proofs.Math.Bool.{true}
use Rattle.std.proofs.Math.ListN.{length-take}
use borrow.Author.Tests.{lt-ltb}
use Rattle.lists.specs.Test.{same, same→eq}
use Rattle.nal_unit.specs.Escape.{esc}
use Rattle.nal_unit.specs.Walk.{trim}
use Rattle.nal_unit.proofs.Units.{broken-unit}
use Rattle.parameter_sets.specs.Sps.{sps_payload, base_level}
use Rattle.parameter_sets.specs.Pps.{pps_payload}
use Rattle.parameter_sets.specs.Prefix.{sps-prefix}
use Rattle.slice.specs.Picture as P
use Rattle.ycbcr_image.specs.declared.Session.{Session}
use Rattle.ycbcr_image.specs.Accepted.{Fine}
use Rattle.ycbcr_image.specs.Sizes.{Sequence, sequence_of}
use Rattle.ycbcr_image.specs.Refusals.{accepted}
use Rattle.encoder.specs.Units.{sps_unit, pps_unit, picture_unit}
use Rattle.reader.specs.Judge.{Held, nothing, refused, possible, keep, sps_verdict, pps_verdict, picture_verdict, held_verdict, unit_verdict, judge}
use Rattle.take.specs.Judged.{having, counted_is}

-- a list that is shorter is not the same
not_same : (xs ys : List ℕ) → length xs < length ys → same xs ys ≡ false
not_same xs ys l = go (same xs ys) refl
  where
    go : (b : Bool) → same xs ys ≡ b → same xs ys ≡ false
    go true e = absurd (omega (arith, ap length (same→eq xs ys (rw e tt))))
    go false e = e

module _ (room : ℕ → ℕ) where
  -- the refusal about what m bytes behind the header leave of a unit, where a payload that is too short gives it
  judge-cut : (h : Held) (x m : ℕ) (p : List ℕ) (number : ℕ) → 0 < x → m < length (esc p)
      → ((count : ℕ) → count < length p → unit_verdict room h x (take count p) ≡ keep h (refused number))
      → judge room h (trim (take (suc m) (x ∷ esc p))) ≡ keep h (refused number)
  unfolding judge
  judge-cut h x m p number l k f =
      let b = broken-unit x m p l k in
      rw (b.left, b.sound, b.reads) (f b.count b.less)

  -- a payload that is too short, by its unit's header
  short_sps : (s : Session) (count : ℕ) → accepted (sequence_of s) ≡ true → count < length (sps_payload base_level (sequence_of s))
      → unit_verdict room nothing 0x67 (take count (sps_payload base_level (sequence_of s))) ≡ keep nothing (refused 14)
  unfolding unit_verdict sps_verdict
  short_sps s count t l = rw (sps-prefix base_level s count t l) refl

  short_pps : (q : Sequence) (count : ℕ) → count < length pps_payload → unit_verdict room (having q false) 0x68 (take count pps_payload) ≡ keep (having q false) (refused 14)
  unfolding unit_verdict pps_verdict
  short_pps q count l = rw (not_same (take count pps_payload) pps_payload (omega (arith, length-take count pps_payload))) refl

  short_picture : (q : Sequence) (L : P.Lends) (count : ℕ) → possible q ≡ true → Fine q → P.Whole q L → count < length (P.picture_of q L)
      → unit_verdict room (having q true) 0x25 (take count (P.picture_of q L)) ≡ keep (having q true) (refused 17)
  unfolding unit_verdict held_verdict picture_verdict
  short_picture q L count e g w l =
      rw (counted_is q true e, lt-ltb (length (take count (P.picture_of q L))) (P.picture_length q) (omega (arith, length-take count (P.picture_of q L), P.picture_length_lem q L g w))) refl

  -- a unit of a take, cut behind its header
  pub cut-sps : (s : Session) (m : ℕ) → accepted (sequence_of s) ≡ true → suc m < length (sps_unit (sequence_of s)) → judge room nothing (trim (take (suc m) (sps_unit (sequence_of s)))) ≡ keep nothing (refused 14)
  unfolding sps_unit
  cut-sps s m t l = judge-cut nothing 0x67 m (sps_payload base_level (sequence_of s)) 14 (omega arith) (omega arith) (λ count k. short_sps s count t k)

  pub cut_pps : (q : Sequence) (m : ℕ) → suc m < length pps_unit → judge room (having q false) (trim (take (suc m) pps_unit)) ≡ keep (having q false) (refused 14)
  unfolding pps_unit
  cut_pps q m l = judge-cut (having q false) 0x68 m pps_payload 14 (omega arith) (omega arith) (short_pps q)

  pub cut_picture : (q : Sequence) (L : P.Lends) (m : ℕ) → possible q ≡ true → Fine q → P.Whole q L → suc m < length (picture_unit q L)
      → judge room (having q true) (trim (take (suc m) (picture_unit q L))) ≡ keep (having q true) (refused 17)
  unfolding picture_unit
  cut_picture q L m e g w l = judge-cut (having q true) 0x25 m (P.picture_of q L) 17 (omega arith) (omega arith) (λ count k. short_picture q L count e g w k)

  -- a bare start code
  pub cut-bare : (h : Held) → judge room h (trim []) ≡ keep h (refused 11)
  unfolding judge trim
  cut-bare h = refl
