-- Reading a sequence parameter set back. What size and kind a payload would be the form of is looked up in its fields; it is a form exactly if it
-- is that form, so that no other bit can differ (refusal 14 of paper 01 is exact).
--     guessed p               the size and kind that the fields of the bytes p say
--     read_sps level p        that, where p is the payload of a sequence parameter set of an accepted size; else none
--     sps-sound, sps_whole    so p is read as q exactly if q is accepted and p is its payload
-- Assumes nothing.
use Rattle.std.specs.Prelude.{◌≡◌, Some, Bool, cond, ◌&&◌, eqb, take, get_or}
use Rattle.std.proofs.Math.Path.{refl, ap}
use Rattle.std.proofs.Common.{sym, ap₂, ◌∙◌, div-add-mod', arith, length-take, get_or-take}
use mathlib.Core.List.{List, [], ◌∷◌, ◌++◌, append_assoc}
use Rattle.std.proofs.Math.Bool.{true, false, and-eq-true_iff}
use Rattle.std.proofs.Math.Option.{Option, none, some}
use Prim.Native.Nat.{ℕ, ◌+◌, ◌-◌, ◌*◌, ◌/◌, ◌%◌, ◌^◌, ◌≤◌, ◌<◌}
use Rattle.std.proofs.Math.ListN.{length, length-append}
use Rattle.std.proofs.Math.Seq.{take-length}
use borrow.Author.Tests.{eqb-true, not-false}
use Rattle.lists.specs.Test.{same, same→eq, same_refl}
use Rattle.bits.specs.Bits.{low_bits, bits_of, bits-take, bits-length}
use Rattle.golomb.specs.Code.{digits_in, num_bits, ue}
use Rattle.golomb.specs.Laws.{ue-grow}
use Rattle.golomb.specs.Answers.{read_ue, read_number, read_place}
use Rattle.bits.specs.Pack.{padding, packed_byte, packed-length, bits-packed}
use Rattle.ycbcr_image.specs.declared.BitDepth.{BitDepth}
use Rattle.ycbcr_image.specs.declared.BitDepth.TheVariants.{Depth8, Depth12}
use Rattle.ycbcr_image.specs.declared.Kind.{Kind}
use Rattle.ycbcr_image.specs.declared.Kind.TheVariants.{Mono, Colour}
use Rattle.ycbcr_image.specs.Form.{Form, form_of, mono, in_plane, block_width, block_height, crop_unit_x, crop_unit_y}
use Rattle.ycbcr_image.specs.declared.Session.{Session}
use Rattle.ycbcr_image.specs.Sizes.{Sequence, sequence_of, pic_width_in_mbs, frame_height_in_mbs, visible_width, visible_height, padded_width, padded_height}
use Rattle.ycbcr_image.specs.Refusals.{accepted}
use Rattle.ycbcr_image.specs.Accepted.{Fine}
use Rattle.ycbcr_image.proofs.Accepted.{fine}
use Rattle.parameter_sets.specs.Sps.{profile_idc, chroma_fields, crop_right, crop_bottom, cropped, crop_fields, sps_bits, sps_payload}
use Rattle.parameter_sets.specs.Split.{sps_head, sps_tail, sps-split, head-length, sps_below, sps_short, crop_yes, crop_no, right_most, bottom_most, code-stands, bit-stands}

-- the form by profile_idc, and where two kinds share one by the bit that chroma_format_idc begins with
unfoldable pub form_by : ℕ → ℕ → Form
form_by profile bit =
    cond (eqb profile 66) (record { chroma = 1; depth = 8 })
    (cond (eqb profile 100) (record { chroma = 0; depth = 8 })
    (cond (eqb bit 1) (record { chroma = 0; depth = 12 })
    (record { chroma = 1; depth = 12 })))

abbrev pub form_in : List ℕ → Form
form_in p = form_by (get_or p 0 0) (get_or (bits_of p) 25 0)

-- the place of pic_width_in_mbs_minus1: behind three bytes, seq_parameter_set_id, the chroma fields, four codes of 0 and a flag
unfoldable pub width_place : Form → ℕ
width_place f = 30 + length (chroma_fields f)

-- a code's number and the place behind it, or what stands for them where there is none
abbrev pub number : List ℕ → ℕ → ℕ
number p at = read_number (read_ue p at) 0

abbrev pub behind : List ℕ → ℕ → ℕ
behind p at = read_place (read_ue p at) 0

-- the place behind both sizes
unfoldable pub sizes_end : List ℕ → ℕ
sizes_end p = behind p (behind p (width_place (form_in p)))

-- whether frame_cropping_flag, behind two flags, is set
unfoldable pub crop_in : List ℕ → Bool
crop_in p = eqb (get_or (bits_of p) (sizes_end p + 2) 0) 1

-- frame_crop_right_offset, behind that flag and frame_crop_left_offset
unfoldable pub right_in : List ℕ → ℕ
right_in p = cond (crop_in p) (number p (sizes_end p + 4)) 0

-- frame_crop_bottom_offset, behind it and frame_crop_top_offset
unfoldable pub bottom_in : List ℕ → ℕ
bottom_in p = cond (crop_in p) (number p (behind p (sizes_end p + 4) + 1)) 0

unfoldable pub guessed : List ℕ → Sequence
guessed p =
    record {
      width = 16 * (number p (width_place (form_in p)) + 1) - crop_unit_x (form_in p) * right_in p;
      height = 16 * (number p (behind p (width_place (form_in p))) + 1) - crop_unit_y (form_in p) * bottom_in p;
      form = form_in p;
    }

unfoldable pub read_sps : ℕ → List ℕ → Option Sequence
read_sps level p = cond (accepted (guessed p) && same p (sps_payload level (guessed p))) (some (guessed p)) none

-- what is read is the payload of an accepted size, the one that its fields say
pub sps-sound : (level : ℕ) (p : List ℕ) (q : Sequence) → read_sps level p ≡ some q → (accepted q ≡ true) × (p ≡ sps_payload level q) × (guessed p ≡ q)
unfolding read_sps
sps-sound level p q e = go (accepted (guessed p) && same p (sps_payload level (guessed p))) refl
  where
    go : (b : Bool) → (accepted (guessed p) && same p (sps_payload level (guessed p))) ≡ b → (accepted q ≡ true) × (p ≡ sps_payload level q) × (guessed p ≡ q)
    go true w =
        let both = (and-eq-true_iff (accepted (guessed p)) (same p (sps_payload level (guessed p)))).0 w in
        let r : some (guessed p) ≡ some q = sym (rw w refl) ∙ e in
        let g : guessed p ≡ q = cc in
        (rw (← g) both.0, rw (← g) (same→eq p (sps_payload level (guessed p)) (rw both.1 tt)), g)
    go false w =
        let r : none ≡ some q = sym (rw w refl) ∙ e in
        let z : ◌≡◌ {A = ℕ} 0 1 = cc in
        absurd (omega arith)

-- ---- every accepted size is found

-- profile_idc is the first byte
profile_found : (level : ℕ) (q : Sequence) → profile_idc q.form < 256 → get_or (sps_payload level q) 0 0 ≡ profile_idc q.form
unfolding sps_payload sps_bits
profile_found level q h = ap (λ (l : List ℕ). get_or l 0 0) (packed_byte (profile_idc q.form) _ h)

-- of the two kinds of profile 244 the bit behind seq_parameter_set_id is that of chroma_format_idc 0, or begins 1
bit-mono : (level w h : ℕ) → get_or (bits_of (sps_payload level (record { width = w; height = h; form = form_of Mono Depth12 }))) 25 0 ≡ 1
unfolding sps_payload sps_bits chroma_fields profile_idc mono ue num_bits digits_in low_bits
bit-mono level w h = rw (bits-packed (sps_bits level (record { width = w; height = h; form = form_of Mono Depth12 })) (sps_below level (record { width = w; height = h; form = form_of Mono Depth12 }))) refl

bit-colour : (level w h : ℕ) → get_or (bits_of (sps_payload level (record { width = w; height = h; form = form_of Colour Depth12 }))) 25 0 ≡ 0
unfolding sps_payload sps_bits chroma_fields profile_idc mono ue num_bits digits_in low_bits
bit-colour level w h = rw (bits-packed (sps_bits level (record { width = w; height = h; form = form_of Colour Depth12 })) (sps_below level (record { width = w; height = h; form = form_of Colour Depth12 }))) refl

-- the form, by profile_idc and the bit behind seq_parameter_set_id
form-found : (level : ℕ) (k : Kind) (d : BitDepth) (w h : ℕ)
    → form_in (sps_payload level (record { width = w; height = h; form = form_of k d })) ≡ form_of k d
unfolding form_by profile_idc mono
form-found level Mono Depth8 w h = rw (profile_found level (record { width = w; height = h; form = form_of Mono Depth8 }) (omega arith)) refl
form-found level Mono Depth12 w h = rw (profile_found level (record { width = w; height = h; form = form_of Mono Depth12 }) (omega arith), bit-mono level w h) refl
form-found level Colour Depth8 w h = rw (profile_found level (record { width = w; height = h; form = form_of Colour Depth8 }) (omega arith)) refl
form-found level Colour Depth12 w h = rw (profile_found level (record { width = w; height = h; form = form_of Colour Depth12 }) (omega arith), bit-colour level w h) refl

-- n divided by u and multiplied by it again, where u divides it
whole : (n v : ℕ) → n % v ≡ 0 → v * (n / v) ≡ n
whole n v e = omega (arith, div-add-mod' n v)

-- Over any bytes r that begin with the payload: what is behind it does not count.
module _ (level : ℕ) (k : Kind) (d : BitDepth) (w h : ℕ) (g : Fine (record { width = w; height = h; form = form_of k d })) (r : List ℕ) (j : ℕ)
    (begins : take j r ≡ sps_payload level (record { width = w; height = h; form = form_of k d })) where
  abbrev q : Sequence
  q = record { width = w; height = h; form = form_of k d }

  abbrev p : List ℕ
  p = sps_payload level q

  -- the two sizes' codes, and what is before them
  abbrev a : List ℕ
  a = ue (pic_width_in_mbs q - 1)

  abbrev b : List ℕ
  b = ue (frame_height_in_mbs q - 1)

  abbrev H : List ℕ
  H = sps_head level (form_of k d)

  abbrev R : List ℕ
  R = sps_tail ++ padding (length (sps_bits level q))

  bits : bits_of p ≡ H ++ (a ++ (b ++ (1 ∷ 0 ∷ (crop_fields q ++ R))))
  unfolding sps_payload
  bits = bits-packed (sps_bits level q) (sps_below level q) ∙ ap (λ (l : List ℕ). l ++ padding (length (sps_bits level q))) (sps-split level q) ∙ simp append_assoc

  long : 30 ≤ 8 * length p
  unfolding sps_payload
  long = omega (arith, packed-length (sps_bits level q) (sps_below level q), ap length (sps-split level q), length-append H (a ++ (b ++ (1 ∷ 0 ∷ (crop_fields q ++ sps_tail)))), head-length level (form_of k d))

  few : 8 * length p < 2 ^ 64
  unfolding sps_payload
  few = omega (arith, packed-length (sps_bits level q) (sps_below level q), sps_short level k d w h g)

  -- the place of the first size, and those behind each
  abbrev o : ℕ
  o = width_place (form_of k d)

  abbrev e : ℕ
  e = o + length a + length b

  head : length H ≡ o
  unfolding width_place
  head = head-length level (form_of k d)

  -- a code that stands in the payload is read in r
  read : (c t : List ℕ) (at x : ℕ) → x ≤ 2 ^ 32 - 2 → bits_of p ≡ c ++ (ue x ++ t) → length c ≡ at → read_ue r at ≡ Some (x, at + length (ue x))
  read c t at x l v n = ue-grow r j at x (at + length (ue x)) (rw begins (code-stands p c t at x few l v n))

  -- a bit of the payload is one of r
  seen : (i : ℕ) → i < 8 * length p → get_or (bits_of r) i 0 ≡ get_or (bits_of p) i 0
  seen i l = sym (rw (← begins, bits-take j r) (get_or-take (8 * j) (bits_of r) i 0 (omega (arith, ap length begins, length-take j r))))

  -- and so is its first byte
  first : get_or r 0 0 ≡ get_or p 0 0
  first = sym (rw (← begins) (get_or-take j r 0 0 (omega (arith, ap length begins, length-take j r, long))))

  form-begins : form_in r ≡ form_of k d
  form-begins = ap₂ form_by first (seen 25 (omega (arith, long))) ∙ form-found level k d w h

  width-found : read_ue r o ≡ Some (pic_width_in_mbs q - 1, o + length a)
  width-found = read H (b ++ (1 ∷ 0 ∷ (crop_fields q ++ R))) o (pic_width_in_mbs q - 1) (omega (arith, g.across-high)) bits head

  height-found : read_ue r (o + length a) ≡ Some (frame_height_in_mbs q - 1, e)
  height-found =
      read (H ++ a) (1 ∷ 0 ∷ (crop_fields q ++ R)) (o + length a) (frame_height_in_mbs q - 1) (omega (arith, g.down_high))
      (bits ∙ sym (append_assoc H a (b ++ (1 ∷ 0 ∷ (crop_fields q ++ R))))) (omega (arith, length-append H a, head))

  -- what stands behind the sizes
  abbrev A : List ℕ
  A = H ++ (a ++ b)

  A-length : length A ≡ e
  A-length = omega (arith, length-append H (a ++ b), length-append a b, head)

  behind_sizes : bits_of p ≡ A ++ (1 ∷ 0 ∷ (crop_fields q ++ R))
  behind_sizes = bits ∙ simp append_assoc

  sizes_end_lem : sizes_end r ≡ e
  unfolding sizes_end
  sizes_end_lem = rw (form-begins, width-found, height-found) refl

  -- the flag, two flags behind the sizes
  flag : (v : ℕ) (t : List ℕ) → crop_fields q ++ R ≡ v ∷ t → get_or (bits_of r) (e + 2) 0 ≡ v
  flag v t c =
      seen (e + 2) (omega (arith, bits-length p, ap length behind_sizes, length-append A (1 ∷ 0 ∷ (crop_fields q ++ R)), ap length c, A-length)) ∙ bit-stands p (A ++ (1 ∷ 0 ∷ [])) t (e + 2) v (behind_sizes ∙ rw (c, append_assoc A (1 ∷ 0 ∷ []) (v ∷ t)) refl) (omega (arith, length-append A (1 ∷ 0 ∷ []), A-length))

  crop_found : cropped q ≡ true → (right_in r ≡ crop_right q) × (bottom_in r ≡ crop_bottom q)
  unfolding right_in bottom_in crop_in
  crop_found c =
      let c₁ : List ℕ = ue (crop_right q) in
      let t : List ℕ = ue (crop_bottom q) in
      let y : crop_fields q ++ R ≡ 1 ∷ 1 ∷ (c₁ ++ (1 ∷ (t ++ R))) = rw (crop_yes q c) (ap (λ (l : List ℕ). 1 ∷ 1 ∷ l) (append_assoc c₁ (1 ∷ t) R)) in
      let z : bits_of p ≡ (A ++ (1 ∷ 0 ∷ 1 ∷ 1 ∷ [])) ++ (c₁ ++ (1 ∷ (t ++ R))) = behind_sizes ∙ rw (y, append_assoc A (1 ∷ 0 ∷ 1 ∷ 1 ∷ []) (c₁ ++ (1 ∷ (t ++ R)))) refl in
      let x : read_ue r (e + 4) ≡ Some (crop_right q, e + 4 + length c₁) =
      read (A ++ (1 ∷ 0 ∷ 1 ∷ 1 ∷ [])) (1 ∷ (t ++ R)) (e + 4) (crop_right q) (omega (arith, right_most q g)) z (omega (arith, length-append A (1 ∷ 0 ∷ 1 ∷ 1 ∷ []), A-length)) in
      let B : List ℕ = A ++ (1 ∷ 0 ∷ 1 ∷ 1 ∷ (c₁ ++ (1 ∷ []))) in
      let v : bits_of p ≡ B ++ (t ++ R) = z ∙ simp append_assoc in
      let u : read_ue r (e + 4 + length c₁ + 1) ≡ Some (crop_bottom q, e + 4 + length c₁ + 1 + length t) =
      read B R (e + 4 + length c₁ + 1) (crop_bottom q) (omega (arith, bottom_most q g)) v
      (omega (arith, length-append A (1 ∷ 0 ∷ 1 ∷ 1 ∷ (c₁ ++ (1 ∷ []))), length-append c₁ (1 ∷ []), A-length)) in
      (rw (sizes_end_lem, flag 1 (1 ∷ (c₁ ++ (1 ∷ (t ++ R)))) y, x) refl, rw (sizes_end_lem, flag 1 (1 ∷ (c₁ ++ (1 ∷ (t ++ R)))) y, x, u) refl)

  crop_none : cropped q ≡ false → (right_in r ≡ 0) × (bottom_in r ≡ 0)
  unfolding right_in bottom_in crop_in
  crop_none c =
      let y : crop_fields q ++ R ≡ 0 ∷ R = rw (crop_no q c) refl in
      (rw (sizes_end_lem, flag 0 R y) refl, rw (sizes_end_lem, flag 0 R y) refl)

  -- the padded sizes, and that the visible ones are no larger
  padded-x : (padded_width q 0 ≡ 16 * pic_width_in_mbs q) × (w ≤ 16 * pic_width_in_mbs q)
  unfolding block_width in_plane visible_width
  padded-x = (omega (arith, (g.plane 0).wide), omega (arith, (g.plane 0).wide, (g.plane 0).visible-wide))

  padded-y : (padded_height q 0 ≡ 16 * frame_height_in_mbs q) × (h ≤ 16 * frame_height_in_mbs q)
  unfolding block_height in_plane visible_height
  padded-y = (omega (arith, (g.plane 0).high), omega (arith, (g.plane 0).high, (g.plane 0).visible-high))

  -- where nothing is cropped, the padded sizes are the sizes
  none_padded : cropped q ≡ false → (16 * pic_width_in_mbs q ≡ w) × (16 * frame_height_in_mbs q ≡ h)
  unfolding cropped
  none_padded c =
      let t = (and-eq-true_iff (eqb (16 * pic_width_in_mbs q) w) (eqb (16 * frame_height_in_mbs q) h)).0 (not-false _ c) in
      (eqb-true (16 * pic_width_in_mbs q) w t.0, eqb-true (16 * frame_height_in_mbs q) h t.1)

  -- what is cropped is what the padded sizes have too much
  sizes : (crop_unit_x (form_of k d) * right_in r ≡ 16 * pic_width_in_mbs q - w) × (crop_unit_y (form_of k d) * bottom_in r ≡ 16 * frame_height_in_mbs q - h)
  unfolding crop_right crop_bottom
  sizes = go (cropped q) refl
    where
      go : (t : Bool) → cropped q ≡ t → (crop_unit_x (form_of k d) * right_in r ≡ 16 * pic_width_in_mbs q - w) × (crop_unit_y (form_of k d) * bottom_in r ≡ 16 * frame_height_in_mbs q - h)
      go true c =
          let f = crop_found c in (
            rw f.0 (whole (16 * pic_width_in_mbs q - w) (crop_unit_x (form_of k d)) (rw padded-x.0 at g.units.right)),
            rw f.1 (whole (16 * frame_height_in_mbs q - h) (crop_unit_y (form_of k d)) (rw padded-y.0 at g.units.bottom)),
          )
      go false c =
          let f = crop_none c in
          let t = none_padded c in
          (rw f.0 (omega arith), rw f.1 (omega arith))

  pub guess_found : guessed r ≡ q
  unfolding guessed
  guess_found =
      let x : 16 * (pic_width_in_mbs q - 1 + 1) - (16 * pic_width_in_mbs q - w) ≡ w = omega (arith, padded-x.1, g.across-low) in
      let y : 16 * (frame_height_in_mbs q - 1 + 1) - (16 * frame_height_in_mbs q - h) ≡ h = omega (arith, padded-y.1, g.down_low) in
      rw (form-begins, width-found, height-found, sizes.0, sizes.1, x, y) refl

-- every payload of an accepted size is read as that size
pub sps_whole : (level : ℕ) (s : Session) → accepted (sequence_of s) ≡ true → read_sps level (sps_payload level (sequence_of s)) ≡ some (sequence_of s)
unfolding read_sps
sps_whole level s t =
    let p : List ℕ = sps_payload level (sequence_of s) in
    let e = guess_found level s.kind s.depth s.width s.height (fine s t) p (length p) (take-length p) in
    rw (e, t, same_refl (sps_payload level (sequence_of s))) refl
