-- What the code needs of the definitions, and what crates above need of a payload.
--     head_fields, size_fields, sps-pieces   the sequence parameter set in the pieces that are written by a method each
--     cropping_of, cropping_in             what is cropped of a size, and what a payload says of it, if anything
--     Putting                              pieces being written one behind the other into 32 bytes; put_room, put_next, put_last
--     packed_in                            bits written into 32 bytes of zeros are packed there
--     sps-length, sps_last                 a payload has 7 to 32 bytes, the last of them not 0
--     Found, read_none ..                  reading by tests
-- Assumes nothing.
use Rattle.std.specs.Prelude.{◌≡◌, refl, Bool, true, false, cond, eqb, List, [], ◌∷◌, ◌++◌, ℕ, ◌+◌, ◌-◌, ◌*◌, ◌/◌, ◌%◌, ◌≤◌, ◌<◌, length, take, get_or, replicate}
use Rattle.std.proofs.Common.{sym, ap, ◌∙◌, append_assoc, append-nil, zero-add, arith, length-append, take_at, drop_at, eq-eqb, ne_eqb}
use Rattle.std.proofs.Math.Option.{Option, none, some}
use Rattle.std.proofs.lemmas.List.{replicate-append-replicate}
use Rattle.lists.specs.Fill.{splice, Writing, start_at, puts, done_at}
use Rattle.lists.specs.Test.{same}
use Rattle.lists.specs.Every.{Below, below_append, below_zeros}
use Rattle.bits.specs.Bits.{low_bits, bits_of, bit_count, BitsPut, bits-length, bits-append, count-length, low-length}
use Rattle.bits.specs.Pack.{packed, padding, packed-length, bits-packed, bits_same}
use Rattle.golomb.specs.Code.{digits_in, num_bits, ue, ue-long}
use Rattle.golomb.specs.Answers.{read_ue}
use Rattle.golomb.specs.Laws.{ue_only}
use Rattle.std.specs.Prelude as Prelude
use Rattle.std.specs.Prelude.{Some, None}
use Rattle.ycbcr_image.specs.declared.BitDepth.{BitDepth}
use Rattle.ycbcr_image.specs.declared.BitDepth.TheVariants.{Depth8, Depth12}
use Rattle.ycbcr_image.specs.Form.{Form, form_of, depth_of, mono, sub_width_c, sub_height_c, crop_unit_x, crop_unit_y}
use Rattle.ycbcr_image.specs.declared.Session.{Session}
use Rattle.ycbcr_image.specs.Refusals.{accepted}
use Rattle.ycbcr_image.proofs.Accepted.{fine}
use Rattle.ycbcr_image.specs.Sizes.{Sequence, sequence_of, div_ceil, next_multiple, pic_width_in_mbs, frame_height_in_mbs}
use Rattle.parameter_sets.specs.declared.FrameCropping.{FrameCropping}
use Rattle.parameter_sets.specs.declared.SizeCodes.{SizeCodes}
use Rattle.parameter_sets.specs.Sps.{u, profile_idc, chroma_fields, crop_right, crop_bottom, cropped, crop_fields, vui_fields, sps_bits, sps_payload}
use Rattle.parameter_sets.specs.Answers.{Holds}
use Rattle.parameter_sets.specs.Lists.{zeros-drop, bits-zeros, packed_below, packed_last, last_append}
use Rattle.parameter_sets.specs.Split.{sps_head, sps_tail, sps-split, head-length, sps_below, sps_short}
use Rattle.parameter_sets.specs.Read.{form_in, width_place, number, behind, sizes_end, crop_in, right_in, bottom_in, guessed, read_sps, sps-sound}
use Rattle.parameter_sets.specs.Prefix.{form-known, guessed-form}
use Rattle.parameter_sets.specs.Pps.{pps_payload, pps_is}

-- ---- the pieces

-- the fields before the chroma fields
unfoldable pub head_fields : ℕ → Form → List ℕ
head_fields level f =
    u 8 (profile_idc f)  -- profile_idc
    ++ (u 8 0  -- constraint_set0_flag to constraint_set5_flag, reserved_zero_2bits
    ++ (u 8 level  -- level_idc
    ++ ue 0))  -- seq_parameter_set_id

-- the fields between them and cropping
unfoldable pub size_fields : Sequence → List ℕ
size_fields q =
    ue 0  -- log2_max_frame_num_minus4
    ++ (ue 0  -- pic_order_cnt_type
    ++ (ue 0  -- log2_max_pic_order_cnt_lsb_minus4
    ++ (ue 0  -- max_num_ref_frames
    ++ (u 1 0  -- gaps_in_frame_num_value_allowed_flag
    ++ (ue (pic_width_in_mbs q - 1)  -- pic_width_in_mbs_minus1
    ++ (ue (frame_height_in_mbs q - 1)  -- pic_height_in_map_units_minus1
    ++ (u 1 1  -- frame_mbs_only_flag
    ++ u 1 0)))))))  -- direct_8x8_inference_flag

-- the whole is head, chroma fields, sizes, cropping and tail
pub sps-pieces : (level : ℕ) (q : Sequence)
    → sps_bits level q ≡ head_fields level q.form ++ (chroma_fields q.form ++ (size_fields q ++ (crop_fields q ++ sps_tail)))
unfolding sps_bits head_fields size_fields sps_tail ue num_bits digits_in low_bits
sps-pieces level q = simp append_assoc

-- the fixed fields around the sizes are five bits and two
pub size_is : (q : Sequence) → size_fields q ≡ u 5 30 ++ (ue (pic_width_in_mbs q - 1) ++ (ue (frame_height_in_mbs q - 1) ++ u 2 2))
unfolding size_fields ue num_bits digits_in low_bits
size_is q = refl

-- the last piece: vui_parameters_present_flag, the VUI and the stop bit
pub tail_is : sps_tail ≡ u 16 0x9B01
unfolding sps_tail vui_fields low_bits
tail_is = refl

-- the chroma fields, where the profile has none and where it has them
pub chroma_none : (f : Form) → profile_idc f ≡ 66 → chroma_fields f ≡ []
unfolding chroma_fields
chroma_none f e = rw (eq-eqb _ _ e) refl

pub chroma_some : (f : Form) → (profile_idc f ≡ 66 → ⊥) → chroma_fields f ≡ ue f.chroma ++ (ue (f.depth - 8) ++ (ue (f.depth - 8) ++ u 2 0))
unfolding chroma_fields low_bits
chroma_some f e = rw (ne_eqb _ _ e) refl

-- a sample has 8 bits or more
pub depth_low : (d : BitDepth) → 8 ≤ depth_of d
depth_low Depth8 = omega arith
depth_low Depth12 = omega arith

-- the macroblocks hold the picture
pub cover-x : (q : Sequence) → q.width ≤ 16 * pic_width_in_mbs q
unfolding pic_width_in_mbs next_multiple div_ceil
cover-x q = omega arith

pub cover-y : (q : Sequence) → q.height ≤ 16 * frame_height_in_mbs q
unfolding frame_height_in_mbs next_multiple div_ceil
cover-y q = omega arith

-- crop units are 1 or 2
pub unit-x : {n : ℕ} (f : Form) → n ≡ crop_unit_x f → (1 ≤ n) × (n ≤ 2)
unfolding crop_unit_x sub_width_c
unit-x f e = rw e (go (mono f) (eqb f.chroma 1))
  where
    go : (b c : Bool) → (1 ≤ cond b 1 (cond c 2 1)) × (cond b 1 (cond c 2 1) ≤ 2)
    go true c = omega arith
    go false true = omega arith
    go false false = omega arith

pub unit-y : {n : ℕ} (f : Form) → n ≡ crop_unit_y f → (1 ≤ n) × (n ≤ 2)
unfolding crop_unit_y sub_height_c
unit-y f e = rw e (go (mono f) (eqb f.chroma 1))
  where
    go : (b c : Bool) → (1 ≤ cond b 1 (cond c 2 1 * 1)) × (cond b 1 (cond c 2 1 * 1) ≤ 2)
    go true c = omega arith
    go false true = omega arith
    go false false = omega arith

-- the code's cropping of a size
unfoldable pub cropping_of : Sequence → Prelude.Option FrameCropping
cropping_of q = cond (cropped q) (Some (record { left = 0; right = crop_right q; top = 0; bottom = crop_bottom q })) None

-- ---- pieces written one behind the other

-- Of `fields`, written into the 32 bytes s from a place on, `rest` is still to come; the bytes are t now, and p is the place behind what was written.
pub record Putting (s : List ℕ) (place : ℕ) (fields t : List ℕ) (p : ℕ) (rest : List ℕ) : Type 0 where
  pub writing : Writing (bits_of s) (take place (bits_of s) ++ fields) (bits_of t) p rest
  pub bytes : length s ≡ 32
  pub inside : place ≤ 256

pub putting : {s fields rest : List ℕ} {place : ℕ} → fields ≡ rest → length s ≡ 32 → place + length fields ≤ 256 → Putting s place fields s place rest
putting {s} {fields} {rest} {place} e l h =
    record { writing = rw (← e) (start_at (bits_of s) place fields (omega (arith, bits-length s))); bytes = l; inside = omega arith }

-- what is still to come has room
pub put_most : {s fields t rest : List ℕ} {place p : ℕ} (n : ℕ) → Putting s place fields t p rest → n ≤ length rest → p + n ≤ 256
put_most {s} n g h = let w = g.writing in omega (arith, bits-length s)

pub put-bytes : {s fields t rest : List ℕ} {place p : ℕ} → Putting s place fields t p rest → length t ≡ 32
put-bytes {s} {fields} {t} g = let w = g.writing in omega (arith, bits-length s, bits-length t)

pub put_room : {s fields t rest : List ℕ} {place p : ℕ} (n : ℕ) → Putting s place fields t p rest → n ≤ length rest → p + n ≤ bit_count t
unfolding bit_count
put_room n g h = omega (arith, put_most n g h, put-bytes g)

pub put_fits : {s fields t v' : List ℕ} {place p : ℕ} (v rest : List ℕ) → v' ≡ v → Putting s place fields t p (v ++ rest) → p + length v' ≤ bit_count t
put_fits {s} {fields} {t} {v'} v rest e g = put_room (length v') g (omega (arith, ap length e, length-append v rest))

-- a piece is known by its bits
pub put_as : {t t' v v' : List ℕ} {p p' : ℕ} → v ≡ v' → BitsPut t p v t' p' → BitsPut t p v' t' p'
put_as e x = rw e at x

-- one piece
pub put_next : {s fields t t' : List ℕ} {place p p' : ℕ} (v rest : List ℕ) → Putting s place fields t p (v ++ rest) → BitsPut t p v t' p' → Putting s place fields t' p' rest
put_next v rest g x = record { writing = rw (x.bits, x.behind) (puts v rest g.writing); bytes = g.bytes; inside = g.inside }

-- the last piece
pub put_last : {s fields t t' v : List ℕ} {place p p' : ℕ} → Putting s place fields t p v → BitsPut t p v t' p' → BitsPut s place fields t' p'
put_last {s} {fields} {t} {t'} {v} {place} g x =
    let e = done_at place fields (put_next v [] (rw (← append-nil v) at g) x).writing (omega (arith, bits-length s, g.bytes, g.inside)) in
    record { behind = e.1; bits = e.0 }

-- ---- the bytes that hold them

-- bits written into 32 bytes of zeros are packed in the bytes up to them
pub packed_in : {t : List ℕ} {p : ℕ} (bs : List ℕ) → Below 2 bs → length bs ≤ 256 → Below 256 t → BitsPut (replicate 32 0) 0 bs t p
    → Holds (record { bytes = t; len = (p + 7) / 8 }) (packed bs)
unfolding splice padding
packed_in {t} {p} bs b h k x =
    let n : ℕ = length bs in
    let j : ℕ = (p + 7) / 8 in
    let m : ℕ = 7 - (n + 7) % 8 in
    let e : p ≡ n = x.behind ∙ zero-add n in
    let l : j ≡ length (packed bs) = omega (arith, packed-length bs b) in
    let c : m + 8 * (32 - j) ≡ 256 - n = omega arith in
    let all : bits_of t ≡ bs ++ replicate (256 - n) 0 = x.bits ∙ rw (bits-zeros 32, zero-add n) (ap (λ (l : List ℕ). bs ++ l) (zeros-drop n 256)) in
    let both : bits_of (packed bs ++ replicate (32 - j) 0) ≡ bs ++ replicate (256 - n) 0 =
    bits-append (packed bs) (replicate (32 - j) 0) ∙ rw (bits-packed bs b, bits-zeros (32 - j), append_assoc bs (replicate m 0) (replicate (8 * (32 - j)) 0), replicate-append-replicate {A = ℕ} m (8 * (32 - j)) 0, c) refl in
    let w : t ≡ packed bs ++ replicate (32 - j) 0 =
    bits_same t (packed bs ++ replicate (32 - j) 0) k (below_append (packed bs) (replicate (32 - j) 0) (packed_below bs b) (below_zeros (32 - j) (omega arith))) (all ∙ sym both) in
    record { len = l; bytes = rw w (take_at (packed bs) (replicate (32 - j) 0) j (sym l)); zeros = rw w (drop_at (packed bs) (replicate (32 - j) 0) j (sym l)) }

-- ---- what crates above need of a payload

-- the bits end in the stop bit
tail_last : get_or sps_tail (length sps_tail - 1) 0 ≡ 1
unfolding sps_tail vui_fields low_bits
tail_last = refl

-- and there are 50 or more
sps-long : (level : ℕ) (q : Sequence) → 50 ≤ length (sps_bits level q)
sps-long level q =
    let h : List ℕ = sps_head level q.form in
    let a : List ℕ = ue (pic_width_in_mbs q - 1) in
    let b : List ℕ = ue (frame_height_in_mbs q - 1) in
    let c : List ℕ = 1 ∷ 0 ∷ (crop_fields q ++ sps_tail) in
    omega (
      arith,
      ap length (sps-split level q),
      length-append h (a ++ (b ++ c)),
      length-append a (b ++ c),
      length-append b c,
      length-append (crop_fields q) sps_tail,
      head-length level q.form,
      ue-long (pic_width_in_mbs q - 1),
      ue-long (frame_height_in_mbs q - 1),
      ap length tail_is,
      low-length 16 0x9B01,
    )

-- 7 to 32 of them
pub sps-length : (level : ℕ) (s : Session) → accepted (sequence_of s) ≡ true → (7 ≤ length (sps_payload level (sequence_of s))) × (length (sps_payload level (sequence_of s)) ≤ 32)
unfolding sps_payload
sps-length level s t =
    let q : Sequence = sequence_of s in
    let g = fine s t in
    let l = packed-length (sps_bits level q) (sps_below level q) in
    (omega (arith, sps-long level q), omega (arith, sps_short level s.kind s.depth s.width s.height g))

-- the last one holds the stop bit
pub sps_last : (level : ℕ) (q : Sequence) → 0 < get_or (sps_payload level q) (length (sps_payload level q) - 1) 0
unfolding sps_payload
sps_last level q =
    let a : List ℕ = head_fields level q.form ++ (chroma_fields q.form ++ (size_fields q ++ crop_fields q)) in
    let e : sps_bits level q ≡ a ++ sps_tail = sps-pieces level q ∙ simp append_assoc in
    let one : get_or (sps_bits level q) (length (sps_bits level q) - 1) 0 ≡ 1 = rw e (last_append a sps_tail (omega (arith, ap length tail_is, low-length 16 0x9B01)) ∙ tail_last) in
    packed_last (sps_bits level q) (sps_below level q) (omega (arith, sps-long level q)) one

pub pps_last : 0 < get_or pps_payload (length pps_payload - 1) 0
pps_last = rw pps_is (omega arith)

-- ---- reading

-- a size with a form
abbrev pub sized : ℕ → ℕ → Form → Sequence
sized w h f = record { width = w; height = h; form = f }

-- what the code finds of the sizes' codes
pub record SizesIn (p : List ℕ) (r : SizeCodes) : Type 0 where
  pub across : r.across ≡ number p (width_place (form_in p))
  pub down : r.down ≡ number p (behind p (width_place (form_in p)))
  pub behind : r.behind ≡ sizes_end p

-- and of cropping
unfoldable pub cropping_in : List ℕ → Prelude.Option FrameCropping
cropping_in p = cond (crop_in p) (Some (record { left = 0; right = right_in p; top = 0; bottom = bottom_in p })) None

-- a code ends in the payload
pub behind_most : (p : List ℕ) (at : ℕ) → behind p at ≤ 8 * length p
behind_most p at = go (read_ue p at) refl
  where
    go : (r : Prelude.Option (ℕ × ℕ)) → read_ue p at ≡ r → behind p at ≤ 8 * length p
    go (Some (x, q)) e = rw e (omega (arith, (ue_only p at x q e).1.inside, count-length p))
    go None e = rw e (omega arith)

pub sizes_most : (p : List ℕ) → sizes_end p ≤ 8 * length p
unfolding sizes_end
sizes_most p = behind_most p (behind p (width_place (form_in p)))

-- what is read is what a session says
pub read-session : (level : ℕ) (p : List ℕ) (q : Sequence) → read_sps level p ≡ some q → (s : Session) × (q ≡ sequence_of s)
read-session level p q e =
    let f = form-known p in
    let k : q.form ≡ form_of f.0 f.1 = ap (λ (i : Sequence). i.form) (sym (sps-sound level p q e).2) ∙ (guessed-form p ∙ f.2) in
    (record { width = q.width; height = q.height; kind = f.0; depth = f.1 }, rw (← k) refl)

-- and what a payload that is read has
pub record Found (p : List ℕ) : Type 0 where
  pub low : 7 ≤ length p
  pub most : length p ≤ 32
  pub wide : (guessed p).width ≤ 16384
  pub high : (guessed p).height ≤ 16384

found : (level : ℕ) (p : List ℕ) (s : Session) → read_sps level p ≡ some (sequence_of s) → Found p
found level p s e =
    let r = sps-sound level p (sequence_of s) e in
    let g = fine s r.0 in
    let l = sps-length level s r.0 in
    let n = ap length r.1 in
    record {
      low = omega arith;
      most = omega arith;
      wide = omega (arith, ap (λ (i : Sequence). i.width) r.2, g.width-high);
      high = omega (arith, ap (λ (i : Sequence). i.height) r.2, g.height-high);
    }

pub read_none : (level : ℕ) (p : List ℕ) → (Found p → ⊥) → read_sps level p ≡ none
read_none level p h = go (read_sps level p) refl
  where
    clash : (q : Sequence) → read_sps level p ≡ some q → ⊥
    clash q e = let r = read-session level p q e in h (found level p r.0 (e ∙ ap some r.1))

    go : (o : Option Sequence) → read_sps level p ≡ o → read_sps level p ≡ none
    go none e = e
    go (some q) e = absurd (clash q e)

-- the tests that read one
pub read-refused : (level : ℕ) (p : List ℕ) (q : Sequence) → q ≡ guessed p → accepted q ≡ false → read_sps level p ≡ none
unfolding read_sps
read-refused level p q e a = rw (← e, a) refl

pub read-tested : (level : ℕ) (p : List ℕ) (q : Sequence) → q ≡ guessed p → accepted q ≡ true → read_sps level p ≡ cond (same p (sps_payload level q)) (some q) none
unfolding read_sps
read-tested level p q e a = rw (← e, a) refl
