-- Bits packed into bytes, the most significant first, with zero bits at the end up to a whole byte.
--     packed bs        the bytes
--     padding n        the zero bits that n bits lack up to a whole byte
--     bits-packed, packed-bits   each undoes the other on whole bytes
-- Assumes nothing.
use Rattle.std.specs.Prelude.{◌≡◌, refl, List, [], ◌∷◌, ◌++◌, ℕ, ◌+◌, ◌-◌, ◌/◌, ◌%◌, ◌<◌, length, replicate}
use Rattle.std.proofs.Common.{sym, ap, ◌∙◌, append-nil, append_assoc, mod-eq_of_lt, arith, length-append}
use Rattle.std.proofs.lemmas.List.{length-replicate}
use Rattle.lists.specs.Every.{Below, below_head, below_tail, below_append, below_zeros, below_take, below_drop}
use Rattle.bits.specs.Bits.{low_bits, bits_of, value, low_value, value_low, bits-length}

unfoldable pub packed : List ℕ → List ℕ
packed [] = []
packed (a ∷ []) = value (a ∷ 0 ∷ 0 ∷ 0 ∷ 0 ∷ 0 ∷ 0 ∷ 0 ∷ []) ∷ []
packed (a ∷ b ∷ []) = value (a ∷ b ∷ 0 ∷ 0 ∷ 0 ∷ 0 ∷ 0 ∷ 0 ∷ []) ∷ []
packed (a ∷ b ∷ c ∷ []) = value (a ∷ b ∷ c ∷ 0 ∷ 0 ∷ 0 ∷ 0 ∷ 0 ∷ []) ∷ []
packed (a ∷ b ∷ c ∷ d ∷ []) = value (a ∷ b ∷ c ∷ d ∷ 0 ∷ 0 ∷ 0 ∷ 0 ∷ []) ∷ []
packed (a ∷ b ∷ c ∷ d ∷ e ∷ []) = value (a ∷ b ∷ c ∷ d ∷ e ∷ 0 ∷ 0 ∷ 0 ∷ []) ∷ []
packed (a ∷ b ∷ c ∷ d ∷ e ∷ f ∷ []) = value (a ∷ b ∷ c ∷ d ∷ e ∷ f ∷ 0 ∷ 0 ∷ []) ∷ []
packed (a ∷ b ∷ c ∷ d ∷ e ∷ f ∷ g ∷ []) = value (a ∷ b ∷ c ∷ d ∷ e ∷ f ∷ g ∷ 0 ∷ []) ∷ []
packed (a ∷ b ∷ c ∷ d ∷ e ∷ f ∷ g ∷ h ∷ t) = value (a ∷ b ∷ c ∷ d ∷ e ∷ f ∷ g ∷ h ∷ []) ∷ packed t

unfoldable pub padding : ℕ → List ℕ
padding n = replicate (7 - (n + 7) % 8) 0

-- eight bits are a byte
pub packed_byte : (b : ℕ) (t : List ℕ) → b < 256 → packed (low_bits 8 b ++ t) ≡ b ∷ packed t
unfolding packed low_bits
packed_byte b t h = ap (λ (x : ℕ). x ∷ packed t) (value_low 8 b ∙ mod-eq_of_lt h)

-- whole bytes in front stay as they are
pub packed_behind : (s bs : List ℕ) → Below 256 s → packed (bits_of s ++ bs) ≡ s ++ packed bs
unfolding bits_of
packed_behind [] bs h = refl
packed_behind (b ∷ s) bs h =
    rw (append_assoc (low_bits 8 b) (bits_of s) bs, packed_byte b (bits_of s ++ bs) (below_head h), packed_behind s bs (below_tail h)) refl

pub packed-bits : (s : List ℕ) → Below 256 s → packed (bits_of s) ≡ s
unfolding packed
packed-bits s h = rw (← append-nil (bits_of s), packed_behind s [] h) (append-nil s)

-- so bytes are known by their bits
pub bits_same : (s t : List ℕ) → Below 256 s → Below 256 t → bits_of s ≡ bits_of t → s ≡ t
bits_same s t h k e = sym (packed-bits s h) ∙ ap packed e ∙ packed-bits t k

-- fewer than eight bits, and their padding
short : (bs : List ℕ) (k : ℕ) → length (bs ++ replicate k 0) ≡ 8 → Below 2 bs → low_bits 8 (value (bs ++ replicate k 0)) ++ [] ≡ bs ++ replicate k 0
short bs k l h = rw (append-nil (low_bits 8 (value (bs ++ replicate k 0)))) (rw l at (low_value (bs ++ replicate k 0) (below_append bs (replicate k 0) h (below_zeros k (omega arith)))))

pub bits-packed : (bs : List ℕ) → Below 2 bs → bits_of (packed bs) ≡ bs ++ padding (length bs)
unfolding packed bits_of padding
bits-packed [] h = refl
bits-packed (a ∷ []) h = short (a ∷ []) 7 refl h
bits-packed (a ∷ b ∷ []) h = short (a ∷ b ∷ []) 6 refl h
bits-packed (a ∷ b ∷ c ∷ []) h = short (a ∷ b ∷ c ∷ []) 5 refl h
bits-packed (a ∷ b ∷ c ∷ d ∷ []) h = short (a ∷ b ∷ c ∷ d ∷ []) 4 refl h
bits-packed (a ∷ b ∷ c ∷ d ∷ e ∷ []) h = short (a ∷ b ∷ c ∷ d ∷ e ∷ []) 3 refl h
bits-packed (a ∷ b ∷ c ∷ d ∷ e ∷ f ∷ []) h = short (a ∷ b ∷ c ∷ d ∷ e ∷ f ∷ []) 2 refl h
bits-packed (a ∷ b ∷ c ∷ d ∷ e ∷ f ∷ g ∷ []) h = short (a ∷ b ∷ c ∷ d ∷ e ∷ f ∷ g ∷ []) 1 refl h
bits-packed (a ∷ b ∷ c ∷ d ∷ e ∷ f ∷ g ∷ h ∷ t) k =
    let front = low_value (a ∷ b ∷ c ∷ d ∷ e ∷ f ∷ g ∷ h ∷ []) (below_take 8 (a ∷ b ∷ c ∷ d ∷ e ∷ f ∷ g ∷ h ∷ t) k) in
    let rest = bits-packed t (below_drop 8 (a ∷ b ∷ c ∷ d ∷ e ∷ f ∷ g ∷ h ∷ t) k) in
    let n : 7 - (length (a ∷ b ∷ c ∷ d ∷ e ∷ f ∷ g ∷ h ∷ t) + 7) % 8 ≡ 7 - (length t + 7) % 8 = omega arith in
    rw (rest, n) (ap (λ (l : List ℕ). l ++ (t ++ replicate (7 - (length t + 7) % 8) 0)) front)

-- bits in whole bytes come back
pub bits-packed_whole : (bs : List ℕ) → Below 2 bs → length bs % 8 ≡ 0 → bits_of (packed bs) ≡ bs
unfolding padding
bits-packed_whole bs h e =
    let n : 7 - (length bs + 7) % 8 ≡ 0 = omega arith in
    bits-packed bs h ∙ rw n (append-nil bs)

pub packed-length : (bs : List ℕ) → Below 2 bs → length (packed bs) ≡ (length bs + 7) / 8
unfolding padding
packed-length bs h =
    omega (arith, bits-length (packed bs), ap length (bits-packed bs h), length-append bs (padding (length bs)), length-replicate {A = ℕ} (7 - (length bs + 7) % 8) 0)
