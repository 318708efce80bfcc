-- Reading an unsigned code (9.1): leading_zero_bits counts the zeros in front; behind the 1 stand as many bits again, and
-- code_num = 2 ^ leading_zero_bits - 1 + read_bits(leading_zero_bits). Paper 01 reads no code of more than 31 leading zeros.
--     whole bs      whether a whole code stands at the front of the bits bs
--     code_num bs   its number
--     code_bits bs  its length
--     read-ue       what is written is read, whatever follows
--     ue-read       what is read is the code of its number
--     ue-prefix     no strict prefix of a code is read as a code
-- Assumes nothing.
use Rattle.std.specs.Prelude.{◌≡◌, refl, List, [], ◌∷◌, ◌++◌, Bool, true, false, cond, ◌&&◌, ℕ, zero, suc, ◌+◌, ◌-◌, ◌*◌, ◌%◌, ◌^◌, ◌≤◌, ◌<◌, leb, eqb, length, take, drop, replicate}
use Rattle.std.proofs.Common.{sym, ap, ◌∙◌, append_assoc, append-nil, pow-suc, suc-add, add-one, arith, length-append, length-take, take-append-drop, pow_mono, pow_pos, le-leb, leb-true, ne_eqb}
use Rattle.std.proofs.Math.Bool.{and-eq-true_iff}
use Rattle.std.proofs.Math.Dec.{eqb-suc-zero}
use Rattle.std.proofs.lemmas.List.{length-replicate}
use Rattle.std.proofs.Math.Pow.{split}
use Rattle.std.proofs.lemmas.Bool.{lt-leb}
use Rattle.lists.specs.Every.{Below, below_head, below_tail, below_take, below_part}
use Rattle.lists.specs.Part.{part, part_length, part-between, part_rest}
use Rattle.bits.specs.Bits.{low_bits, value, low-length, low-over, low_value, value_low, value-lt}
use Rattle.golomb.specs.Code.{ue, num_bits, num-bits, num_same, num_most, ue-length, ue_below, ue-shape, ue-top}

unfoldable pub leading_zero_bits : List ℕ → ℕ
leading_zero_bits [] = 0
leading_zero_bits (b ∷ bs) = cond (eqb b 0) (suc (leading_zero_bits bs)) 0

unfoldable pub code_bits : List ℕ → ℕ
code_bits bs = 2 * leading_zero_bits bs + 1

unfoldable pub code_num : List ℕ → ℕ
code_num bs = 2 ^ leading_zero_bits bs - 1 + value (part bs (leading_zero_bits bs + 1) (leading_zero_bits bs))

unfoldable pub whole : List ℕ → Bool
whole bs = leb (leading_zero_bits bs) 31 && leb (code_bits bs) (length bs)

-- ---- whether a code stands

pub whole_long : (bs : List ℕ) → 31 < leading_zero_bits bs → whole bs ≡ false
unfolding whole
whole_long bs h = rw (lt-leb (leading_zero_bits bs) 31 h) refl

pub whole_short : (bs : List ℕ) → leading_zero_bits bs ≤ 31 → length bs < code_bits bs → whole bs ≡ false
unfolding whole
whole_short bs h k = rw (le-leb (leading_zero_bits bs) 31 h, lt-leb (code_bits bs) (length bs) k) refl

pub whole_yes : (bs : List ℕ) → leading_zero_bits bs ≤ 31 → code_bits bs ≤ length bs → whole bs ≡ true
unfolding whole
whole_yes bs h k = rw (le-leb (leading_zero_bits bs) 31 h, le-leb (code_bits bs) (length bs) k) refl

pub code-bits : (bs : List ℕ) → code_bits bs ≡ 2 * leading_zero_bits bs + 1
unfolding code_bits
code-bits bs = refl

pub code-num : (bs : List ℕ) → code_num bs ≡ 2 ^ leading_zero_bits bs - 1 + value (part bs (leading_zero_bits bs + 1) (leading_zero_bits bs))
unfolding code_num
code-num bs = refl

-- ---- the zeros in front

pub lead-nil : leading_zero_bits [] ≡ 0
unfolding leading_zero_bits
lead-nil = refl

pub lead_zero : (bs : List ℕ) → leading_zero_bits (0 ∷ bs) ≡ leading_zero_bits bs + 1
unfolding leading_zero_bits
lead_zero bs = sym (add-one (leading_zero_bits bs))

pub lead_one : (b : ℕ) (bs : List ℕ) → (b ≡ 0 → ⊥) → leading_zero_bits (b ∷ bs) ≡ 0
unfolding leading_zero_bits
lead_one b bs h = rw (ne_eqb b 0 h) refl

-- ---- what is written is read

-- zeros, then a 1
lead-zeros : (m : ℕ) (t : List ℕ) → leading_zero_bits (replicate m 0 ++ (1 ∷ t)) ≡ m
unfolding leading_zero_bits
lead-zeros zero t = refl
lead-zeros (suc m) t = ap suc (lead-zeros m t)

-- what a reading of a code finds
pub record Reads (bs : List ℕ) (x : ℕ) : Type 0 where
  pub is_whole : whole bs ≡ true
  pub number : code_num bs ≡ x
  pub bits : code_bits bs ≡ length (ue x)

pub read-ue : (x : ℕ) (t : List ℕ) → x ≤ 2 ^ 32 - 2 → Reads (ue x ++ t) x
unfolding whole code_num code_bits
read-ue x t h =
    let d = num-bits (x + 1) in
    let m : ℕ = num_bits (x + 1) - 1 in
    let few : num_bits (x + 1) ≤ 32 = num_most (x + 1) 32 (omega arith) (omega arith) in
    let e : ue x ++ t ≡ replicate m 0 ++ (1 ∷ (low_bits m (x + 1) ++ t)) = rw (ue-shape x) (append_assoc (replicate m 0) (1 ∷ low_bits m (x + 1)) t) in
    let z : leading_zero_bits (ue x ++ t) ≡ m = rw e (lead-zeros m (low_bits m (x + 1) ++ t)) in
    let f : length {A = ℕ} (replicate m 0 ++ (1 ∷ [])) ≡ m + 1 = rw (length-append {A = ℕ} (replicate m 0) (1 ∷ []), length-replicate {A = ℕ} m 0) refl in
    let p : part (ue x ++ t) (m + 1) m ≡ low_bits m (x + 1) =
    rw (e, ← append_assoc (replicate m 0) (1 ∷ []) (low_bits m (x + 1) ++ t))
    (part-between (replicate m 0 ++ (1 ∷ [])) (low_bits m (x + 1)) t (m + 1) m f (low-length m (x + 1))) in
    let s : 1 * 2 ^ m + (x + 1) % 2 ^ m ≡ x + 1 = rw (ue-top x) at (split (x + 1) m) in
    let long : 2 * m + 1 ≤ length (ue x ++ t) = omega (arith, length-append (ue x) t, ue-length x) in
    record {
      is_whole = rw (z, le-leb m 31 (omega arith), le-leb (2 * m + 1) (length (ue x ++ t)) long) refl;
      number = rw (z, p, value_low m (x + 1)) (omega (arith, pow_pos m));
      bits = rw z (omega (arith, ue-length x));
    }

-- ---- what is read was written

-- of bits among which a 1 stands, the zeros in front and that 1
lead-shape : (bs : List ℕ) → Below 2 bs → leading_zero_bits bs < length bs → bs ≡ replicate (leading_zero_bits bs) 0 ++ (1 ∷ drop (leading_zero_bits bs + 1) bs)
unfolding leading_zero_bits
lead-shape [] h l = absurd (omega arith)
lead-shape (zero ∷ bs) h l =
    rw (suc-add (leading_zero_bits bs) 1) (ap (λ (t : List ℕ). 0 ∷ t) (lead-shape bs (below_tail h) (omega arith)))
lead-shape (suc b ∷ bs) h l =
    let e : suc b ≡ 1 = omega (arith, below_head h) in
    rw (eqb-suc-zero b) (ap (λ (x : ℕ). x ∷ bs) e)

-- what a reading tells of the bits
pub record Written (bs : List ℕ) : Type 0 where
  pub small : code_num bs ≤ 2 ^ 32 - 2
  pub bits : code_bits bs ≡ length (ue (code_num bs))
  pub code : bs ≡ ue (code_num bs) ++ drop (code_bits bs) bs

pub ue-read : (bs : List ℕ) → Below 2 bs → whole bs ≡ true → Written bs
unfolding whole code_num code_bits
ue-read bs h w =
    let z : ℕ = leading_zero_bits bs in
    let t = (and-eq-true_iff (leb z 31) (leb (2 * z + 1) (length bs))).0 w in
    let few : z ≤ 31 = leb-true z 31 t.0 in
    let long : 2 * z + 1 ≤ length bs = leb-true (2 * z + 1) (length bs) t.1 in
    let s : List ℕ = part bs (z + 1) z in
    let n : length s ≡ z = part_length bs (z + 1) z (omega arith) in
    let b : Below 2 s = below_part bs (z + 1) z h in
    let v : value s < 2 ^ z = rw n at (value-lt s b) in
    let x : ℕ = 2 ^ z - 1 + value s in
    let p : x + 1 ≡ 1 * 2 ^ z + value s = omega (arith, pow_pos z) in
    let r : 2 ^ z ≤ 2 ^ 31 = pow_mono few in
    let g : 2 ^ (z + 1) ≡ 2 ^ z * 2 = rw (add-one z) (pow-suc 2 z) in
    let m : num_bits (x + 1) ≡ z + 1 =
    num_same (x + 1) (z + 1) (omega arith) (omega arith) (rw g (omega arith)) (let q : z + 1 - 1 ≡ z = omega arith in rw q (omega arith)) in
    let q : num_bits (x + 1) - 1 ≡ z = omega arith in
    let low : low_bits z (x + 1) ≡ s = rw (p, low-over z 1 (value s) v) (rw n at (low_value s b)) in
    let u : ue x ≡ replicate z 0 ++ (1 ∷ s) = rw (ue-shape x, q, low) refl in
    let k : z + 1 + z ≡ 2 * z + 1 = omega arith in
    let d : drop (z + 1) bs ≡ s ++ drop (2 * z + 1) bs = rw k at (part_rest bs (z + 1) z) in
    record {
      small = omega arith;
      bits = omega (arith, ue-length x);
      code = lead-shape bs h (omega arith) ∙ rw (d, u) (sym (append_assoc (replicate z 0) (1 ∷ s) (drop (2 * z + 1) bs)));
    }

pub ue-prefix : (x n : ℕ) → x ≤ 2 ^ 32 - 2 → n < length (ue x) → whole (take n (ue x)) ≡ false
ue-prefix x n h l = go (whole (take n (ue x))) refl
  where
    clash : whole (take n (ue x)) ≡ true → ⊥
    clash w =
        let r = ue-read (take n (ue x)) (below_take n (ue x) (ue_below x)) w in
        let y : ℕ = code_num (take n (ue x)) in
        let t : List ℕ = drop (code_bits (take n (ue x))) (take n (ue x)) in
        let e : ue x ≡ ue y ++ (t ++ drop n (ue x)) =
        sym (take-append-drop n (ue x)) ∙ ap (λ (l : List ℕ). l ++ drop n (ue x)) r.code ∙ append_assoc (ue y) t (drop n (ue x)) in
        let f : y ≡ x = sym (read-ue y (t ++ drop n (ue x)) r.small).number ∙ (rw (append-nil, e) at (read-ue x [] h).number) in
        omega (arith, ap length r.code, length-append (ue y) t, length-take n (ue x), ap (λ (i : ℕ). length (ue i)) f)

    go : (b : Bool) → whole (take n (ue x)) ≡ b → whole (take n (ue x)) ≡ false
    go true e = absurd (clash e)
    go false e = e
