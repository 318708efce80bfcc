-- The worked cases of paper 01 ("Bytes to prove and bytes to run"): computed from the definitions, one table in the paper's order. Assumes nothing.
use Rattle.std.specs.Prelude.{◌≡◌, refl, List, [], ◌∷◌, ℕ, pos, negsuc}
use Rattle.std.proofs.Common.{ap}
use Rattle.golomb.specs.Code.{ue}
use Rattle.golomb.specs.Signed.{se}
use Rattle.golomb.specs.Cases.{unsigned-codes, signed-codes}
use Rattle.nal_unit.specs.Escape.{inserts, emit, zeros, esc_from, esc}
use Rattle.nal_unit.proofs.Escape.{esc-five, esc_two, esc-four, esc-three}
use Rattle.nal_unit.specs.Calls.{ended, turn, turn_end}
use Rattle.nal_unit.specs.Walk.{meet-nil}
use Rattle.ycbcr_image.specs.Sizes.{Sequence}
use Rattle.parameter_sets.specs.Cases.{sps-cases}
use Rattle.encoder.specs.Units.{sps_unit}
use Rattle.reader.specs.Judge.{Held, judge}

-- a size, a kind by chroma_format_idc, a depth
abbrev pub sized : ℕ → ℕ → ℕ → ℕ → Sequence
sized w h chroma depth = record { width = w; height = h; form = record { chroma = chroma; depth = depth } }

-- 1 and 2: codes; 3 to 6: the units of sequence parameter sets; 7 to 9: escapes; 10: an empty input, whatever is held and lent
pub worked_cases : (room : ℕ → ℕ) (h : Held)
    → ((ue 0 ≡ 1 ∷ []) × (ue 7 ≡ 0 ∷ 0 ∷ 0 ∷ 1 ∷ 0 ∷ 0 ∷ 0 ∷ []) × (ue 25 ≡ 0 ∷ 0 ∷ 0 ∷ 0 ∷ 1 ∷ 1 ∷ 0 ∷ 1 ∷ 0 ∷ []))
    × ((se (pos 0) ≡ 1 ∷ []) × (se (negsuc 0) ≡ 0 ∷ 1 ∷ 1 ∷ []) × (se (pos 4) ≡ 0 ∷ 0 ∷ 0 ∷ 1 ∷ 0 ∷ 0 ∷ 0 ∷ []))
    × (sps_unit (sized 16 16 0 8) ≡ 0x67 ∷ 0x64 ∷ 0x00 ∷ 0x0A ∷ 0xF3 ∷ 0xDC ∷ 0x9B ∷ 0x01 ∷ [])
    × (sps_unit (sized 17 16 0 8) ≡ 0x67 ∷ 0x64 ∷ 0x00 ∷ 0x0A ∷ 0xF3 ∷ 0xCB ∷ 0x61 ∷ 0x0E ∷ 0x6C ∷ 0x04 ∷ [])
    × (sps_unit (sized 16 16 0 12) ≡ 0x67 ∷ 0xF4 ∷ 0x00 ∷ 0x0A ∷ 0xCA ∷ 0x53 ∷ 0xDC ∷ 0x9B ∷ 0x01 ∷ [])
    × (sps_unit (sized 16 16 1 8) ≡ 0x67 ∷ 0x42 ∷ 0x00 ∷ 0x0A ∷ 0xFB ∷ 0x93 ∷ 0x60 ∷ 0x20 ∷ [])
    × (esc (0 ∷ 0 ∷ 0 ∷ 0 ∷ 0 ∷ []) ≡ 0 ∷ 0 ∷ 3 ∷ 0 ∷ 0 ∷ 3 ∷ 0 ∷ [])
    × ((esc (0 ∷ 0 ∷ []) ≡ 0 ∷ 0 ∷ []) × (esc (0 ∷ 0 ∷ 4 ∷ []) ≡ 0 ∷ 0 ∷ 4 ∷ []))
    × (esc (0 ∷ 0 ∷ 3 ∷ []) ≡ 0 ∷ 0 ∷ 3 ∷ 3 ∷ [])
    × ((turn (judge room) h []).say ≡ ended)
unfolding sps_unit esc_from emit zeros inserts
worked_cases room h =
    let s = sps-cases in
    let unit : List ℕ → List ℕ = λ p. 0x67 ∷ esc p in (
      unsigned-codes,
      signed-codes,
      ap unit s.0,
      ap unit s.1,
      ap unit s.2,
      ap unit s.3,
      esc-five,
      (esc_two, esc-four),
      esc-three,
      rw (turn_end (judge room) h [] meet-nil) refl,
    )
