-- What the reader makes of a unit (refusals 11 to 19): the judge of the walk in crate nal_unit. The unit u is what stands behind its start code,
-- less trailing zeros.
--     Held                 the parameter sets held: the sequence parameter set as its size and kind, or none, and whether a picture parameter set is
--     Word                 what is answered about a unit: an SPS, a PPS, a picture with its visible samples stored tight, or a refusal
--     judge room h u       the answer, what is held then, and whether the call keeps its place; room p is the length of the lent plane p
-- Assumes nothing.
use Rattle.std.specs.Prelude.{◌≡◌, refl, List, [], ◌∷◌, Bool, true, false, cond, not, ◌&&◌, ◌||◌, ℕ, leb, ltb, eqb, length}
use Rattle.std.proofs.Math.Option.{Option, none, some}
use Rattle.lists.specs.Test.{same}
use Rattle.nal_unit.specs.Unescape.{un, fault}
use Rattle.nal_unit.specs.Calls.{Verdict}
use Rattle.parameter_sets.specs.Sps.{base_level}
use Rattle.parameter_sets.specs.Pps.{pps_payload}
use Rattle.parameter_sets.specs.Read.{read_sps}
use Rattle.slice.specs.Header.{header_of}
use Rattle.slice.specs.Formed.{right}
use Rattle.slice.specs.Picture.{mbs_in, picture_length, samples_in}
use Rattle.ycbcr_image.specs.declared.BitDepth.{BitDepth}
use Rattle.ycbcr_image.specs.declared.BitDepth.TheVariants.{Depth8, Depth12}
use Rattle.ycbcr_image.specs.declared.Kind.{Kind}
use Rattle.ycbcr_image.specs.declared.Kind.TheVariants.{Mono, Colour}
use Rattle.ycbcr_image.specs.declared.Session.{Session}
use Rattle.ycbcr_image.specs.Form.{form_of, mb_bytes}
use Rattle.ycbcr_image.specs.Sizes.{Sequence, sequence_of, tight_length}
use Rattle.ycbcr_image.specs.Refusals.{accepted, session_bad}

pub record Held : Type 0 where
  pub sps : Option Sequence
  pub pps : Bool

-- nothing
abbrev pub nothing : Held
nothing = record { sps = none; pps = false }

-- the visible samples of the planes, stored tight
pub record Samples : Type 0 where
  pub y : List ℕ
  pub cb : List ℕ
  pub cr : List ℕ

pub data Word : Type 0 where
  sps : Sequence → Word
  pps : Word
  picture : Samples → Word
  refused : ℕ → Word

-- a size and kind that an accepted SPS gives
unfoldable pub possible : Sequence → Bool
possible q = accepted q && (leb q.form.chroma 1 && (eqb q.form.depth 8 || eqb q.form.depth 12))

-- an accepted session is a possible state
pub session-possible : (s : Session) → accepted (sequence_of s) ≡ true → possible (sequence_of s) ≡ true
unfolding possible
session-possible s t = rw t (go s.kind s.depth)
  where
    go : (k : Kind) (d : BitDepth) → (leb (form_of k d).chroma 1 && (eqb (form_of k d).depth 8 || eqb (form_of k d).depth 12)) ≡ true
    go Mono Depth8 = refl
    go Mono Depth12 = refl
    go Colour Depth8 = refl
    go Colour Depth12 = refl

-- a state whose held size or kind no accepted SPS gives counts as holding nothing
unfoldable pub counted : Held → Held
counted h = elim h.sps [ none ↦ h | some q ↦ cond (possible q) h nothing ]

abbrev pub keep : Held → Word → Verdict Held Word
keep h w = record { word = w; held = h; stay = false }

-- 14 and 15, of a sequence parameter set that reads as r; h is what is held, c what it counts as
unfoldable pub sps_verdict : Held → Held → Option Sequence → Verdict Held Word
sps_verdict h c none = keep h (refused 14)
sps_verdict h c (some q) =
    elim c.sps [
      | none ↦ record { word = sps q; held = record { sps = some q; pps = c.pps }; stay = false }
      | some held ↦ cond (session_bad held q) (keep h (refused 15)) (keep h (sps q))
    ]

-- 14, of a picture parameter set with the payload X
unfoldable pub pps_verdict : Held → Held → List ℕ → Verdict Held Word
pps_verdict h c X = cond (same X pps_payload) (record { word = pps; held = record { sps = c.sps; pps = true }; stay = false }) (keep h (refused 14))

-- whether a lent plane that the kind uses has fewer bytes than its visible rows, stored tight
unfoldable pub short : (ℕ → ℕ) → Sequence → Bool
short room q = ltb (room 0) (tight_length q 0) || (ltb (room 1) (tight_length q 1) || ltb (room 2) (tight_length q 2))

abbrev pub samples_of : Sequence → List ℕ → Samples
samples_of q X = record { y = samples_in q 0 X; cb = samples_in q 1 X; cr = samples_in q 2 X }

-- 18, of a picture of the size q with a payload X that is not shorter
unfoldable pub formless : Sequence → List ℕ → Bool
formless q X = ltb (picture_length q) (length X) || not (right (header_of 0 0) (mb_bytes q.form) (mbs_in q) X)

-- 17, 18 and 19, of a picture of the size q with the payload X; only 19 keeps the place
unfoldable pub picture_verdict : (ℕ → ℕ) → Held → Sequence → List ℕ → Verdict Held Word
picture_verdict room h q X =
    cond (ltb (length X) (picture_length q)) (keep h (refused 17))
    (cond (formless q X) (keep h (refused 18))
    (cond (short room q) (record { word = refused 19; held = h; stay = true })
    (keep h (picture (samples_of q X)))))

-- 16, of a picture while SPS or PPS is missing
unfoldable pub held_verdict : (ℕ → ℕ) → Held → Held → List ℕ → Verdict Held Word
held_verdict room h c X = elim c.sps [ none ↦ keep h (refused 16) | some q ↦ cond c.pps (picture_verdict room h q X) (keep h (refused 16)) ]

-- by the header byte x: 13 where it is none of the three; X is the payload
unfoldable pub unit_verdict : (ℕ → ℕ) → Held → ℕ → List ℕ → Verdict Held Word
unit_verdict room h x X =
    cond (eqb x 0x67) (sps_verdict h (counted h) (read_sps base_level X))
    (cond (eqb x 0x68) (pps_verdict h (counted h) X)
    (cond (eqb x 0x25) (held_verdict room h (counted h) X)
    (keep h (refused 13))))

-- 11 and 12 first
unfoldable pub judge : (ℕ → ℕ) → Held → List ℕ → Verdict Held Word
judge room h [] = keep h (refused 11)
judge room h (x ∷ t) = cond (fault (x ∷ t)) (keep h (refused 12)) (unit_verdict room h x (un t))
