-- The worked examples of paper 01: 1, unsigned codes, and 2, signed codes. Assumes nothing.
use Rattle.std.specs.Prelude.{◌≡◌, refl, [], ◌∷◌, pos, negsuc}
use Rattle.bits.specs.Bits.{low_bits}
use Rattle.golomb.specs.Code.{digits_in, num_bits, ue}
use Rattle.golomb.specs.Signed.{mapped, se}

pub unsigned-codes : (ue 0 ≡ 1 ∷ []) × (ue 7 ≡ 0 ∷ 0 ∷ 0 ∷ 1 ∷ 0 ∷ 0 ∷ 0 ∷ []) × (ue 25 ≡ 0 ∷ 0 ∷ 0 ∷ 0 ∷ 1 ∷ 1 ∷ 0 ∷ 1 ∷ 0 ∷ [])
unfolding ue num_bits digits_in low_bits
unsigned-codes = (refl, refl, refl)

pub signed-codes : (se (pos 0) ≡ 1 ∷ []) × (se (negsuc 0) ≡ 0 ∷ 1 ∷ 1 ∷ []) × (se (pos 4) ≡ 0 ∷ 0 ∷ 0 ∷ 1 ∷ 0 ∷ 0 ∷ 0 ∷ [])
unfolding se mapped ue num_bits digits_in low_bits
signed-codes = (refl, refl, refl)
