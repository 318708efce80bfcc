-- Laws of lists and of bits in general that the code needs: zeros, the last element, the bytes that bits are packed into.
-- Assumes nothing.
use Rattle.std.specs.Prelude.{◌≡◌, refl, List, [], ◌∷◌, ◌++◌, ℕ, zero, suc, ◌+◌, ◌-◌, ◌*◌, ◌/◌, ◌%◌, ◌^◌, ◌≤◌, ◌<◌, Bool, true, false, ◌&&◌, eqb, length, drop, get_or, replicate}
use Rattle.std.proofs.Common.{sym, ap, ◌∙◌, arith, length-append, drop_of_length-le, pow_pos, get_or-append-add}
use Rattle.std.proofs.Math.Nat.{sub-zero, div-eq_of_lt}
use Rattle.std.proofs.lemmas.List.{replicate-append-replicate}
use Rattle.std.proofs.Math.ListN.{get_or-append}
use Rattle.lists.specs.Part.{drop_step}
use Rattle.lists.specs.Test.{same, either}
use Rattle.lists.specs.Every.{Below, below_nil, below_cons, below_append, below_zeros, below_take, below_drop}
use Rattle.bits.specs.Bits.{value, value-lt, low_bits, bits_of, bit_is}
use Rattle.bits.specs.Pack.{packed, padding, packed-length, bits-packed}

-- zeros behind n zeros
pub zeros-drop : (n k : ℕ) → drop {A = ℕ} n (replicate k 0) ≡ replicate (k - n) 0
zeros-drop zero k = rw (sub-zero k) refl
zeros-drop (suc n) zero = let e : 0 ≡ 0 - suc n = omega arith in ap (λ (m : ℕ). replicate {A = ℕ} m 0) e
zeros-drop (suc n) (suc k) = let e : k - n ≡ suc k - suc n = omega arith in zeros-drop n k ∙ ap (λ (m : ℕ). replicate {A = ℕ} m 0) e

-- the bits of zeros
pub bits-zeros : (k : ℕ) → bits_of (replicate k 0) ≡ replicate (8 * k) 0
unfolding bits_of low_bits
bits-zeros zero = refl
bits-zeros (suc k) =
    let e : 8 + 8 * k ≡ 8 * suc k = omega arith in
    ap (λ (l : List ℕ). replicate 8 0 ++ l) (bits-zeros k) ∙ replicate-append-replicate 8 (8 * k) 0 ∙ ap (λ (m : ℕ). replicate {A = ℕ} m 0) e

-- the last element is that of the second list, where it has one
pub last_append : (xs ys : List ℕ) → 1 ≤ length ys → get_or (xs ++ ys) (length (xs ++ ys) - 1) 0 ≡ get_or ys (length ys - 1) 0
last_append xs ys h =
    let e : length (xs ++ ys) - 1 ≡ length xs + (length ys - 1) = omega (arith, length-append xs ys) in
    rw e (get_or-append-add xs ys (length ys - 1) 0)

-- lists of different lengths are not the same
pub same_lengths : (xs ys : List ℕ) → (length xs ≡ length ys → ⊥) → same xs ys ≡ false
unfolding same
same_lengths [] [] h = absurd (h refl)
same_lengths [] (y ∷ ys) h = refl
same_lengths (x ∷ xs) [] h = refl
same_lengths (x ∷ xs) (y ∷ ys) h = rw (same_lengths xs ys (λ e. h (ap suc e))) (neither (eqb x y))
  where
    neither : (b : Bool) → (b && false) ≡ false
    neither true = refl
    neither false = refl

-- lists from a place on: the elements there, then what stands behind them
pub same_step : (xs ys : List ℕ) (i : ℕ) → i < length xs → i < length ys
    → same (drop i xs) (drop i ys) ≡ (eqb (get_or xs i 0) (get_or ys i 0) && same (drop (i + 1) xs) (drop (i + 1) ys))
unfolding same
same_step xs ys i h k = rw (drop_step xs i h, drop_step ys i k) refl

pub same_end : (xs ys : List ℕ) (i : ℕ) → length xs ≤ i → length ys ≤ i → same (drop i xs) (drop i ys) ≡ true
unfolding same
same_end xs ys i h k = rw (drop_of_length-le xs {i = i} h, drop_of_length-le ys {i = i} k) refl

-- eight bits are a byte
byte : (bs : List ℕ) (k : ℕ) → length (bs ++ replicate k 0) ≡ 8 → Below 2 bs → value (bs ++ replicate k 0) < 256
byte bs k l h = rw l at (value-lt (bs ++ replicate k 0) (below_append bs (replicate k 0) h (below_zeros k (omega arith))))

-- bits are packed into bytes
pub packed_below : (bs : List ℕ) → Below 2 bs → Below 256 (packed bs)
unfolding packed
packed_below [] h = below_nil (omega arith)
packed_below (a ∷ []) h = below_cons (byte (a ∷ []) 7 refl h) (below_nil (omega arith))
packed_below (a ∷ b ∷ []) h = below_cons (byte (a ∷ b ∷ []) 6 refl h) (below_nil (omega arith))
packed_below (a ∷ b ∷ c ∷ []) h = below_cons (byte (a ∷ b ∷ c ∷ []) 5 refl h) (below_nil (omega arith))
packed_below (a ∷ b ∷ c ∷ d ∷ []) h = below_cons (byte (a ∷ b ∷ c ∷ d ∷ []) 4 refl h) (below_nil (omega arith))
packed_below (a ∷ b ∷ c ∷ d ∷ e ∷ []) h = below_cons (byte (a ∷ b ∷ c ∷ d ∷ e ∷ []) 3 refl h) (below_nil (omega arith))
packed_below (a ∷ b ∷ c ∷ d ∷ e ∷ f ∷ []) h = below_cons (byte (a ∷ b ∷ c ∷ d ∷ e ∷ f ∷ []) 2 refl h) (below_nil (omega arith))
packed_below (a ∷ b ∷ c ∷ d ∷ e ∷ f ∷ g ∷ []) h = below_cons (byte (a ∷ b ∷ c ∷ d ∷ e ∷ f ∷ g ∷ []) 1 refl h) (below_nil (omega arith))
packed_below (a ∷ b ∷ c ∷ d ∷ e ∷ f ∷ g ∷ h ∷ t) k =
    below_cons (byte (a ∷ b ∷ c ∷ d ∷ e ∷ f ∷ g ∷ h ∷ []) 0 refl (below_take 8 (a ∷ b ∷ c ∷ d ∷ e ∷ f ∷ g ∷ h ∷ t) k))
    (packed_below t (below_drop 8 (a ∷ b ∷ c ∷ d ∷ e ∷ f ∷ g ∷ h ∷ t) k))

-- bits that end in a 1 are packed into bytes whose last one is not 0
pub packed_last : (bs : List ℕ) → Below 2 bs → 1 ≤ length bs → get_or bs (length bs - 1) 0 ≡ 1 → 0 < get_or (packed bs) (length (packed bs) - 1) 0
packed_last bs b h one =
    let i : ℕ = length bs - 1 in
    let l = packed-length bs b in
    let q : i / 8 ≡ length (packed bs) - 1 = omega arith in
    let seen : get_or (bits_of (packed bs)) i 0 ≡ 1 = rw (bits-packed bs b) (get_or-append bs (padding (length bs)) 0 i (omega arith) ∙ one) in
    let bit : 1 ≡ get_or (packed bs) (length (packed bs) - 1) 0 / 2 ^ (7 - i % 8) % 2 = rw (← q) (sym seen ∙ bit_is (packed bs) i (omega arith)) in
    either 1 (get_or (packed bs) (length (packed bs) - 1) 0) (λ y. y) (λ y. absurd (omega (arith, div-eq_of_lt {n = get_or (packed bs) (length (packed bs) - 1) 0} {m = 2 ^ (7 - i % 8)} (omega (arith, pow_pos (7 - i % 8))))))
