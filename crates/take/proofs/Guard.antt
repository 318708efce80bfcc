-- Theorems over specs/Guard.antt that rest on a definition which a must-fail edit of this crate changes. They stand here, so that the edit is read and refused.
use Rattle.std.specs.Prelude.{◌≡◌, refl, [], ◌∷◌, true, drop}
use Rattle.std.proofs.Common.{arith}
use Rattle.nal_unit.specs.StartCode.{code}
use Rattle.nal_unit.specs.Calls.{said}
use Rattle.nal_unit.specs.Frame.{joined, place_by}
use Rattle.nal_unit.specs.Cut.{kept}
use Rattle.reader.specs.Judge.{refused}
use Rattle.take.specs.Take.{bytes_of, picture_units}
use Rattle.take.specs.Broken.{cut_word}
use Rattle.take.specs.Promises.{picture_code, cut_says}
use Rattle.take.specs.Exhibit.{picture_flat, flat-sps, flat_pps, flat-unit, two, two_bytes, exhibited}
use Rattle.take.specs.InC.{ShootIn, nexts_in, file_in}
use Rattle.take.specs.Guard.{shoot}

-- two parameter sets of 12 and 8 bytes, 00 00 00 01, the first picture; at 286 stands 00 00 00 01 again
pub damage_there : (picture_code two ≡ 24) × (code (drop 287 (bytes_of two)) ≡ true)
unfolding picture_code two joined code picture_flat
damage_there = (rw (flat-sps, flat_pps) refl, rw two_bytes refl)

-- 3 and 23 bytes leave a unit no whole start code, 4 and 24 a bare one, 5 and 25 a part of a parameter set and of a picture; 552 leave all
pub cut_there : (cut_says 3 two ≡ []) × (cut_says 4 two ≡ said 4 (refused 11) ∷ []) × (cut_says 5 two ≡ said 4 (refused 14) ∷ [])
    × (cut_says 23 two ≡ []) × (cut_says 24 two ≡ said 24 (refused 11) ∷ []) × (cut_says 25 two ≡ said 24 (refused 17) ∷ []) × (cut_says 552 two ≡ [])
unfolding two picture_units kept place_by cut_word
cut_there = rw (exhibited.1, flat-sps, flat_pps, flat-unit 0x10 (omega arith)) (refl, refl, refl, refl, refl, refl, refl)

-- there is a shoot of C calls; its file is the take of two pictures
pub shoot_there : (S : ShootIn) × (file_in S ≡ bytes_of two)
unfolding file_in nexts_in picture_flat
shoot_there = (shoot, rw two_bytes refl)
