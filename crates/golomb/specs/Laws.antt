-- What the calls promise together, for every buffer, place and number.
--     buffer-bits                   a written code touches its own bits only
--     ue-stands, se-stands          where a code stands it is read, whatever is around it
--     ue-written-read, se-written-read   reading what was written gives the number and the place behind it
--     ue_only, se_only              what is read is exactly the code of the number answered, in its place
--     ue-grow                       a code that is read in the first bytes of a buffer is read in the buffer
--     ue-cut, se-cut                a buffer that ends inside a code: no code is read
-- Of these proofs/Laws.antt has `ue-written-read` and `se-written-read`, since an edit of must-fail/ changes what they rest on.
-- Assumes nothing.
use Rattle.std.specs.Prelude.{◌≡◌, refl, Option, Some, None, List, [], ◌++◌, Bool, true, false, ℕ, ◌+◌, ◌-◌, ◌*◌, ◌^◌, ◌≤◌, ◌<◌, ℤ, nat_abs, length, take, drop}
use Rattle.std.proofs.Common.{sym, ap, ◌∙◌, arith, add-zero, length-append, length-take}
use Rattle.lists.specs.Every.{Below, below_splice}
use Rattle.lists.specs.Fill.{splice, splice-length}
use Rattle.lists.specs.Part.{part, part-between, part-take, splice-part}
use Rattle.bits.specs.Bits.{bits_of, bits_from, bit_count, bits-length, bits_below, bits-take, count-length, count_same, from_split, from_below, from_length, from_part}
use Rattle.bits.specs.Pack.{packed, bits-packed_whole}
use Rattle.golomb.specs.Code.{ue, ue-long}
use Rattle.golomb.specs.Read.{whole, code_num, code_bits, read-ue, ue-read, ue-prefix}
use Rattle.golomb.specs.Signed.{mapped, unmapped, unmap_map, map_unmap, map_most, unmap_most, se}
use Rattle.golomb.specs.Answers.{read_ue, read_se, same_number, same_place, signed, ue_none, ue_some, se_is}

-- ---- what is written

pub buffer-bits : (s : List ℕ) (place : ℕ) (code : List ℕ) → Below 2 code → place + length code ≤ bit_count s
    → bits_of (packed (splice (bits_of s) place code)) ≡ splice (bits_of s) place code
buffer-bits s place code b h =
    let l : length (splice (bits_of s) place code) ≡ length (bits_of s) = splice-length (bits_of s) place code (omega (arith, count-length s, bits-length s)) in
    bits-packed_whole (splice (bits_of s) place code) (below_splice (bits_of s) place code (bits_below s) b) (omega (arith, bits-length s))

-- the code stands at its place in the buffer
pub stands : (s : List ℕ) (place : ℕ) (code : List ℕ) → Below 2 code → place + length code ≤ bit_count s
    → bits_from (packed (splice (bits_of s) place code)) place ≡ code ++ bits_from (packed (splice (bits_of s) place code)) (place + length code)
stands s place code b h =
    let t : List ℕ = packed (splice (bits_of s) place code) in
    let e = buffer-bits s place code b h in
    let r : place + length code ≤ length (bits_of s) = omega (arith, count-length s, bits-length s) in
    let l : length t ≡ length s = omega (arith, ap length e, splice-length (bits_of s) place code r, bits-length s, bits-length t) in
    let p : part (bits_of t) place (length code) ≡ code = rw e (splice-part (bits_of s) place code r) in
    from_split t place (length code) (omega (arith, count_same t s l)) ∙ ap (λ (v : List ℕ). v ++ bits_from t (place + length code)) p

-- ---- what is read

pub ue-stands : (s : List ℕ) (place x : ℕ) (t : List ℕ) → x ≤ 2 ^ 32 - 2 → bits_from s place ≡ ue x ++ t → read_ue s place ≡ Some (x, place + length (ue x))
ue-stands s place x t h e =
    let r = read-ue x t h in
    ue_some s place (rw e r.is_whole) ∙ rw (e, r.number, r.bits) refl

pub se-stands : (s : List ℕ) (place : ℕ) (x : ℤ) (t : List ℕ) → nat_abs x ≤ 2 ^ 31 - 1 → bits_from s place ≡ se x ++ t → read_se s place ≡ Some (x, place + length (se x))
unfolding se
se-stands s place x t h e =
    se_is s place ∙ ap signed (ue-stands s place (mapped x) t (map_most x h) e) ∙ ap (λ (z : ℤ). Some (z, place + length (ue (mapped x)))) (unmap_map x)

-- ---- reading what was written

-- what an accepted call tells
pub record Accepted (has : Bool) (code s : List ℕ) (place p : ℕ) : Type 0 where
  pub domain : has ≡ true
  pub room : place + length code ≤ bit_count s
  pub behind : p ≡ place + length code

-- ---- what is read was written

-- the code stands in the buffer from the place on, and ends at p
pub record Stands (code s : List ℕ) (place p : ℕ) : Type 0 where
  pub behind : p ≡ place + length code
  pub inside : p ≤ bit_count s
  pub bits : part (bits_of s) place (length code) ≡ code

pub ue_only : (s : List ℕ) (place x p : ℕ) → read_ue s place ≡ Some (x, p) → (x ≤ 2 ^ 32 - 2) × Stands (ue x) s place p
ue_only s place x p e = go (whole (bits_from s place)) refl
  where
    go : (b : Bool) → whole (bits_from s place) ≡ b → (x ≤ 2 ^ 32 - 2) × Stands (ue x) s place p
    go true w =
        let r = ue-read (bits_from s place) (from_below s place) w in
        let n : code_num (bits_from s place) ≡ x = same_number (sym (ue_some s place w) ∙ e) in
        let q : place + code_bits (bits_from s place) ≡ p = same_place (sym (ue_some s place w) ∙ e) in
        let k : code_bits (bits_from s place) ≡ length (ue x) = r.bits ∙ ap (λ (i : ℕ). length (ue i)) n in
        let c : bits_from s place ≡ ue x ++ drop (code_bits (bits_from s place)) (bits_from s place) = rw n at r.code in
        let m : place + length (ue x) ≤ bit_count s =
        omega (arith, ap length c, length-append (ue x) (drop (code_bits (bits_from s place)) (bits_from s place)), from_length s place, ue-long x) in (
          rw n at r.small,
          record {
            behind = omega arith;
            inside = omega arith;
            bits = rw (add-zero place) at (sym (from_part s place 0 (length (ue x)) (omega arith))) ∙ rw c (part-between [] (ue x) _ 0 (length (ue x)) refl refl);
          },
        )
    go false w = let z : ◌≡◌ {A = ℕ} 0 1 = cc (ue_none s place w) in absurd (omega arith)

pub se_only : (s : List ℕ) (place : ℕ) (x : ℤ) (p : ℕ) → read_se s place ≡ Some (x, p) → (nat_abs x ≤ 2 ^ 31 - 1) × Stands (se x) s place p
unfolding se
se_only s place x p e = go (read_ue s place) refl
  where
    go : (r : Option (ℕ × ℕ)) → read_ue s place ≡ r → (nat_abs x ≤ 2 ^ 31 - 1) × Stands (ue (mapped x)) s place p
    go (Some (k, q)) w =
        let t : read_se s place ≡ Some (unmapped k, q) = se_is s place ∙ ap signed w in
        let n : unmapped k ≡ x = same_number (sym t ∙ e) in
        let m : q ≡ p = same_place (sym t ∙ e) in
        let u = ue_only s place k q w in
        let g : mapped x ≡ k = ap mapped (sym n) ∙ map_unmap k in
        (rw n at (unmap_most k u.0), rw (g, ← m) u.1)
    go None w =
        let t : read_se s place ≡ None = se_is s place ∙ ap signed w in
        let z : ◌≡◌ {A = ℕ} 0 1 = cc in
        absurd (omega arith)

-- ---- more bytes behind

pub ue-grow : (s : List ℕ) (j place x p : ℕ) → read_ue (take j s) place ≡ Some (x, p) → read_ue s place ≡ Some (x, p)
unfolding bit_count
ue-grow s j place x p e =
    let o = ue_only (take j s) place x p e in
    let t = o.1 in
    let n : ℕ = length (ue x) in
    let l = length-take j s in
    let few : place + n ≤ bit_count s = omega (arith, t.behind, t.inside) in
    let bits : part (bits_of s) place n ≡ ue x = sym (part-take (bits_of s) (8 * j) place n (omega (arith, t.behind, t.inside))) ∙ (rw (bits-take j s) at t.bits) in
    ue-stands s place x (bits_from s (place + n)) o.0 (from_split s place n few ∙ ap (λ (v : List ℕ). v ++ bits_from s (place + n)) bits) ∙ ap (λ (q : ℕ). Some (x, q)) (sym t.behind)

-- ---- a strict prefix of a code

pub ue-cut : (s : List ℕ) (place x n : ℕ) → x ≤ 2 ^ 32 - 2 → n < length (ue x) → bits_from s place ≡ take n (ue x) → read_ue s place ≡ None
ue-cut s place x n h l e = ue_none s place (rw e (ue-prefix x n h l))

pub se-cut : (s : List ℕ) (place : ℕ) (x : ℤ) (n : ℕ) → nat_abs x ≤ 2 ^ 31 - 1 → n < length (se x) → bits_from s place ≡ take n (se x) → read_se s place ≡ None
unfolding se
se-cut s place x n h l e = se_is s place ∙ ap signed (ue-cut s place (mapped x) n (map_most x h) l e)
