-- Takes exhibited, so that nothing that is said of takes is said of none: pictures of 16 x 16, monochrome of 8 bits, whose samples are all one number.
--     flat x                      such a picture
--     sets_flat, picture_flat x   the bytes of its parameter sets, and of its own unit, where x is over 3
--     flat_start, flat_next       so they are
--     started, lacked, went       a start call with it and 286 bytes of output is accepted, with fewer it is refused with 9; so a next call with 266
--     one, two                    a take of one picture, with paper 01's samples, 0x10; and of two, of which the second has others
--     exhibited                   their bytes: 286, and 266 more; they differ
-- Assumes nothing.
use Rattle.std.specs.Prelude.{◌≡◌, refl, Err, List, [], ◌∷◌, ◌++◌, true, ℕ, zero, suc, ◌≤◌, ◌<◌, length, drop, replicate}
use Rattle.std.proofs.Common.{ap, ◌∙◌, append-nil, arith, length-append, le-leb}
use Rattle.std.proofs.lemmas.List.{length-replicate}
use Rattle.std.proofs.lemmas.Bool.{lt-leb}
use Rattle.lists.specs.Part.{part}
use Rattle.nal_unit.specs.Escape.{inserts, emit, zeros, esc_from, esc}
use Rattle.nal_unit.specs.EscapeCode.{esc-other, esc-stop}
use Rattle.nal_unit.specs.Frame.{joined}
use Rattle.parameter_sets.specs.Cases.{sps-cases}
use Rattle.parameter_sets.specs.Pps.{pps_is}
use Rattle.ycbcr_image.specs.declared.BitDepth.TheVariants.{Depth8}
use Rattle.ycbcr_image.specs.declared.Kind.TheVariants.{Mono}
use Rattle.ycbcr_image.specs.declared.Session.{Session}
use Rattle.ycbcr_image.specs.Form as F
use Rattle.ycbcr_image.specs.Form.{mono, in_plane, sub_width_c, sub_height_c, block_width, block_height, block_row_bytes}
use Rattle.ycbcr_image.specs.Sizes.{sequence_of, div_ceil, next_multiple, pic_width_in_mbs, frame_height_in_mbs, visible_width, visible_height, padded_width, padded_height, padded_row_bytes}
use Rattle.ycbcr_image.proofs.Passed.{passed}
use Rattle.ycbcr_image.specs.Refusals.{accepted, size_bad, depths_bad, four_bad, odd_bad, height_bad, session_bad, stride_bad, rows_bad, shape_refusal, plane_refusal, first, chroma_refusal, planes_refusal, refusal_of, refusal_next}
use Rattle.slice.specs.Cat.{cat}
use Rattle.slice.specs.Layout.{block_row, block, mb, mb_at, head, macroblock, slice_of}
use Rattle.slice.specs.Header.{header_is}
use Rattle.slice.specs.Picture.{planes_in, picture_of}
use Rattle.encoder.specs.declared.EncodeError.TheVariants.{NoRoom}
use Rattle.encoder.specs.Shot.{Shot, lent, image_of, lends_of, sequence_in}
use Rattle.encoder.specs.Units.{sps_unit, pps_unit, picture_unit, start_bytes, next_bytes}
use Rattle.encoder.specs.Answers.{wrote, answer_of, out_of, start_of, start_out, next_of, next_out}
use Rattle.take.specs.Take.{Take, nexts_bytes, bytes_of}

abbrev pub flat : ℕ → Shot
flat x = record { width = 16; height = 16; kind = Mono; y = lent (replicate 256 x) 16 Depth8; cb = lent [] 0 Depth8; cr = lent [] 0 Depth8 }

-- the session that a start call with it leaves
abbrev pub flat_session : Session
flat_session = record { width = 16; height = 16; kind = Mono; depth = Depth8 }

abbrev pub sets_flat : List ℕ
sets_flat = 0 ∷ 0 ∷ 0 ∷ 1 ∷ 0x67 ∷ 0x64 ∷ 0x00 ∷ 0x0A ∷ 0xF3 ∷ 0xDC ∷ 0x9B ∷ 0x01 ∷ 0 ∷ 0 ∷ 0 ∷ 1 ∷ 0x68 ∷ 0xCE ∷ 0x38 ∷ 0x80 ∷ []

unfoldable pub picture_flat : ℕ → List ℕ
picture_flat x = 0 ∷ 0 ∷ 0 ∷ 1 ∷ 0x25 ∷ 0x88 ∷ 0x84 ∷ 0x28 ∷ 0x68 ∷ (replicate 256 x ++ (0x80 ∷ []))

-- its payload
flat-payload : (x : ℕ) → picture_of (sequence_in (flat x)) (lends_of (flat x)) ≡ 0x88 ∷ 0x84 ∷ 0x28 ∷ 0x68 ∷ (replicate 256 x ++ (0x80 ∷ []))
unfolding picture_of planes_in slice_of macroblock head mb_at mb block block_row cat part mono in_plane F.bytes_of sub_width_c sub_height_c block_width block_height block_row_bytes pic_width_in_mbs frame_height_in_mbs next_multiple div_ceil
flat-payload x = rw header_is refl

-- samples over 3 want no inserted byte
esc-flat : (n x : ℕ) (t : List ℕ) → 3 < x → esc_from 0 (replicate n x ++ t) ≡ replicate n x ++ esc_from 0 t
esc-flat zero x t l = refl
esc-flat (suc n) x t l = esc-other 0 x (replicate n x ++ t) l ∙ ap (λ (r : List ℕ). x ∷ r) (esc-flat n x t l)

pub flat-unit : (x : ℕ) → 3 < x → picture_unit (sequence_in (flat x)) (lends_of (flat x)) ≡ 0x25 ∷ 0x88 ∷ 0x84 ∷ 0x28 ∷ 0x68 ∷ (replicate 256 x ++ (0x80 ∷ []))
unfolding picture_unit
flat-unit x l =
    let t = replicate 256 x ++ (0x80 ∷ []) in
    rw (flat-payload x, esc-other 0 0x88 (0x84 ∷ 0x28 ∷ 0x68 ∷ t) (omega arith), esc-other 0 0x84 (0x28 ∷ 0x68 ∷ t) (omega arith), esc-other 0 0x28 (0x68 ∷ t) (omega arith), esc-other 0 0x68 t (omega arith), esc-flat 256 x (0x80 ∷ []) l, esc-stop 0)
    refl

pub flat-sps : sps_unit (sequence_of flat_session) ≡ 0x67 ∷ 0x64 ∷ 0x00 ∷ 0x0A ∷ 0xF3 ∷ 0xDC ∷ 0x9B ∷ 0x01 ∷ []
unfolding sps_unit esc_from emit zeros inserts
flat-sps = ap (λ (p : List ℕ). 0x67 ∷ esc p) sps-cases.0

pub flat_pps : pps_unit ≡ 0x68 ∷ 0xCE ∷ 0x38 ∷ 0x80 ∷ []
unfolding pps_unit esc_from emit zeros inserts
flat_pps = ap (λ (p : List ℕ). 0x68 ∷ esc p) pps_is

pub flat_next : (x : ℕ) → 3 < x → next_bytes (sequence_in (flat x)) (lends_of (flat x)) ≡ picture_flat x
unfolding next_bytes picture_flat joined
flat_next x l = rw (flat-unit x l) (append-nil (0 ∷ 0 ∷ 0 ∷ 1 ∷ 0x25 ∷ 0x88 ∷ 0x84 ∷ 0x28 ∷ 0x68 ∷ (replicate 256 x ++ (0x80 ∷ []))))

pub flat_start : (x : ℕ) → 3 < x → start_bytes (sequence_in (flat x)) (lends_of (flat x)) ≡ sets_flat ++ picture_flat x
unfolding start_bytes picture_flat joined
flat_start x l = rw (flat-sps, flat_pps, flat-unit x l) (append-nil (sets_flat ++ (0 ∷ 0 ∷ 0 ∷ 1 ∷ 0x25 ∷ 0x88 ∷ 0x84 ∷ 0x28 ∷ 0x68 ∷ (replicate 256 x ++ (0x80 ∷ [])))))

pub flat-length : (x : ℕ) → length (picture_flat x) ≡ 266
unfolding picture_flat
flat-length x = omega (arith, length-append (replicate 256 x) (0x80 ∷ []), length-replicate {A = ℕ} 256 x)

-- it passes 1 to 8, and the next picture of the same kind too
pub flat-passes : (x : ℕ) → refusal_of (image_of (flat x)) ≡ 0
unfolding refusal_of planes_refusal chroma_refusal first plane_refusal shape_refusal size_bad depths_bad four_bad odd_bad height_bad stride_bad rows_bad padded_width padded_height padded_row_bytes visible_width visible_height next_multiple div_ceil block_width block_height sub_width_c sub_height_c F.bytes_of in_plane mono
flat-passes x = refl

pub flat-sized : accepted (sequence_of flat_session) ≡ true
flat-sized = (passed (image_of (flat 0)) (flat-passes 0)).sizes

pub flat-follows : (x : ℕ) → refusal_next (sequence_of flat_session) (image_of (flat x)) ≡ 0
unfolding refusal_next planes_refusal chroma_refusal first plane_refusal shape_refusal size_bad depths_bad four_bad odd_bad height_bad session_bad stride_bad rows_bad padded_width padded_height padded_row_bytes visible_width visible_height next_multiple div_ceil block_width block_height sub_width_c sub_height_c F.bytes_of in_plane mono
flat-follows x = refl

start_length_lem : (x : ℕ) → 3 < x → length (start_bytes (sequence_in (flat x)) (lends_of (flat x))) ≡ 286
start_length_lem x l = ap length (flat_start x l) ∙ omega (arith, length-append sets_flat (picture_flat x), flat-length x)

next_length_lem : (x : ℕ) → 3 < x → length (next_bytes (sequence_in (flat x)) (lends_of (flat x))) ≡ 266
next_length_lem x l = ap length (flat_next x l) ∙ flat-length x

-- with 286 bytes of output a start call is accepted, and its bytes stand in it
pub started : (x : ℕ) (d : List ℕ) → 3 < x → 286 ≤ length d → (start_of (flat x) d ≡ wrote flat_session 286) × (start_out (flat x) d ≡ (sets_flat ++ picture_flat x) ++ drop 286 d)
unfolding start_of start_out answer_of out_of
started x d l r =
    let n = start_length_lem x l in
    rw (flat-passes x, n, le-leb 286 (length d) r, flat_start x l) (refl, refl)

-- with fewer it is refused with 9, and the length needed is told
pub lacked : (x : ℕ) (d : List ℕ) → 3 < x → length d < 286 → (start_of (flat x) d ≡ Err (NoRoom 286)) × (start_out (flat x) d ≡ d)
unfolding start_of start_out answer_of out_of
lacked x d l r = rw (flat-passes x, start_length_lem x l, lt-leb 286 (length d) r) (refl, refl)

-- with 266 a next call is accepted
pub went : (x : ℕ) (d : List ℕ) → 3 < x → 266 ≤ length d → (next_of flat_session (flat x) d ≡ wrote flat_session 266) × (next_out flat_session (flat x) d ≡ picture_flat x ++ drop 266 d)
unfolding next_of next_out answer_of out_of
went x d l r = rw (flat-follows x, next_length_lem x l, le-leb 266 (length d) r, flat_next x l) (refl, refl)

unfoldable pub one : Take
one = record { first = flat 0x10; others = []; starts = flat-passes 0x10; follows = tt }

unfoldable pub two : Take
two = record { first = flat 0x10; others = flat 0x20 ∷ []; starts = flat-passes 0x10; follows = (flat-follows 0x20, tt) }

pub one_bytes : bytes_of one ≡ sets_flat ++ picture_flat 0x10
unfolding bytes_of nexts_bytes one
one_bytes = append-nil (start_bytes (sequence_in (flat 0x10)) (lends_of (flat 0x10))) ∙ flat_start 0x10 (omega arith)

pub two_bytes : bytes_of two ≡ (sets_flat ++ picture_flat 0x10) ++ picture_flat 0x20
unfolding bytes_of nexts_bytes two
two_bytes = rw (append-nil (next_bytes (sequence_in (flat 0x20)) (lends_of (flat 0x20))), flat_start 0x10 (omega arith), flat_next 0x20 (omega arith)) refl

one_length : length (bytes_of one) ≡ 286
one_length = ap length one_bytes ∙ omega (arith, length-append sets_flat (picture_flat 0x10), flat-length 0x10)

two_length : length (bytes_of two) ≡ 552
two_length =
    ap length two_bytes
    ∙ omega (arith, length-append (sets_flat ++ picture_flat 0x10) (picture_flat 0x20), length-append sets_flat (picture_flat 0x10), flat-length 0x10, flat-length 0x20)

pub exhibited : (length (bytes_of one) ≡ 286) × (length (bytes_of two) ≡ 552) × (bytes_of one ≡ bytes_of two → ⊥)
exhibited = (one_length, two_length, λ e. omega (arith, one_length, two_length, ap length e))
