-- A take (paper 01, "Pictures accepted"): an accepted start call's bytes, then those of each accepted next call, every one given the session that the
-- accepted call before it left.
--     Take               the calls
--     bytes_of, units_of   its bytes; its units in order
--     words_of           what there is to be answered about them: size and kind, the picture parameter set, each picture's visible samples
--     bytes-units        the bytes are the units in a row, each behind 00 00 00 01
-- Refusal 9 concerns the lent output alone: a call that passes 1 to 8 is accepted as soon as the output has room.
-- Assumes nothing.
use Rattle.std.specs.Prelude.{◌≡◌, refl, List, [], ◌∷◌, ◌++◌, ℕ}
use Rattle.std.proofs.Common.{sym, ◌∙◌}
use Rattle.nal_unit.specs.Frame.{joined, joined-append, joined-tail}
use Rattle.ycbcr_image.specs.Sizes.{Sequence}
use Rattle.ycbcr_image.specs.Refusals.{refusal_of, refusal_next}
use Rattle.ycbcr_image.specs.Passed.{Passed}
use Rattle.ycbcr_image.proofs.Passed.{passed, passed_next}
use Rattle.encoder.specs.Units.{sps_unit, pps_unit, picture_unit, start_units, start_bytes, next_bytes}
use Rattle.encoder.specs.Shot.{Shot, image_of, lends_of, sequence_in}
use Rattle.reader.specs.Judge.{Samples, Word, sps, pps, picture}
use Rattle.take.specs.Judged.{visible_of}

-- the next calls behind a call that left the session q
abbrev pub Follows : Sequence → List Shot → Type 0
Follows q [] = Unit {0}
Follows q (s ∷ ss) = (refusal_next q (image_of s) ≡ 0) × Follows (sequence_in s) ss

pub record Take : Type 0 where
  pub first : Shot
  pub others : List Shot
  pub starts : refusal_of (image_of first) ≡ 0
  pub follows : Follows (sequence_in first) others

-- the size and kind of a take
abbrev pub size_of : Take → Sequence
size_of T = sequence_in T.first

unfoldable pub nexts_bytes : List Shot → List ℕ
nexts_bytes [] = []
nexts_bytes (s ∷ ss) = next_bytes (sequence_in s) (lends_of s) ++ nexts_bytes ss

unfoldable pub bytes_of : Take → List ℕ
bytes_of T = start_bytes (size_of T) (lends_of T.first) ++ nexts_bytes T.others

unfoldable pub picture_units : List Shot → List (List ℕ)
picture_units [] = []
picture_units (s ∷ ss) = picture_unit (sequence_in s) (lends_of s) ∷ picture_units ss

-- both parameter sets of a size and pictures behind them
abbrev pub sets_and : Sequence → List Shot → List (List ℕ)
sets_and q ss = sps_unit q ∷ pps_unit ∷ picture_units ss

abbrev pub units_of : Take → List (List ℕ)
units_of T = sets_and (size_of T) (T.first ∷ T.others)

-- a picture's visible samples
abbrev pub samples_of : Shot → Samples
samples_of s = visible_of (sequence_in s) (lends_of s)

unfoldable pub picture_words : List Shot → List Word
picture_words [] = []
picture_words (s ∷ ss) = picture (samples_of s) ∷ picture_words ss

abbrev pub words_of : Take → List Word
words_of T = sps (size_of T) ∷ pps ∷ picture_words (T.first ∷ T.others)

nexts-units : (ss : List Shot) → nexts_bytes ss ≡ joined (picture_units ss) []
unfolding nexts_bytes picture_units next_bytes joined
nexts-units [] = refl
nexts-units (s ∷ ss) =
    rw (nexts-units ss) (sym (joined-append (picture_unit (sequence_in s) (lends_of s) ∷ []) (picture_units ss) [] ∙ joined-tail (picture_unit (sequence_in s) (lends_of s) ∷ []) (joined (picture_units ss) [])))

pub bytes-units : (T : Take) → bytes_of T ≡ joined (units_of T) []
unfolding bytes_of start_bytes picture_units
bytes-units T =
    let us = start_units (size_of T) (lends_of T.first) in
    rw (nexts-units T.others) (sym (joined-append us (picture_units T.others) [] ∙ joined-tail us (joined (picture_units T.others) [])))

-- every picture of a take passes, and is of its size and kind
pub record Framed (q : Sequence) (s : Shot) : Type 0 where
  pub size : sequence_in s ≡ q
  pub pass : Passed (image_of s)

pub first_framed : (T : Take) → Framed (size_of T) T.first
first_framed T = record { size = refl; pass = passed (image_of T.first) T.starts }

next_framed : {q : Sequence} (s : Shot) → refusal_next q (image_of s) ≡ 0 → Framed q s
next_framed {q} s e = let p = passed_next q (image_of s) e in record { size = sym p.0; pass = p.1 }

abbrev pub Frames : Sequence → List Shot → Type 0
Frames q [] = Unit {0}
Frames q (s ∷ ss) = Framed q s × Frames q ss

follows-frames : (q : Sequence) (ss : List Shot) → Follows q ss → Frames q ss
follows-frames q [] f = tt
follows-frames q (s ∷ ss) f = let d = next_framed s f.0 in (d, rw d.size at (follows-frames (sequence_in s) ss f.1))

pub frames : (T : Take) → Frames (size_of T) (T.first ∷ T.others)
frames T = (first_framed T, follows-frames (size_of T) T.others T.follows)

-- of some pictures and those behind them
pub frames_both : (q : Sequence) (ss ts : List Shot) → Frames q (ss ++ ts) → Frames q ss × Frames q ts
frames_both q [] ts f = (tt, f)
frames_both q (s ∷ ss) ts f = let g = frames_both q ss ts f.1 in ((f.0, g.0), g.1)

pub units_both : (ss ts : List Shot) → picture_units (ss ++ ts) ≡ picture_units ss ++ picture_units ts
unfolding picture_units
units_both [] ts = refl
units_both (s ∷ ss) ts = rw (units_both ss ts) refl
