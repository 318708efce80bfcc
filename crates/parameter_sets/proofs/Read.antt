-- What reading finds at a place, as sets for the tactics. Assumes nothing.
use Rattle.std.specs.Prelude.{◌≡◌, List, ℕ, ◌/◌, ◌≤◌, length, get_or}
use Rattle.std.proofs.Common.{arith}
use lib.ListN.{get_or-eq_default}
use Rattle.bits.specs.Bits.{bits_of, bits-length}
use Rattle.parameter_sets.specs.Code.{behind_most, sizes_most}

-- no bit behind the end is set
pub bit_past : (s : List ℕ) (place : ℕ) → length s ≤ place / 8 → get_or (bits_of s) place 0 ≡ 0
bit_past s place h = get_or-eq_default (bits_of s) 0 {n = place} (omega (arith, bits-length s))

pub ruleset places = (behind_most, sizes_most)
