-- Where the wrong programs of `wrong/` for the calls of a host differ from the definitions: for each an input, and what the definition gives there. The wrong
-- program gives the number behind its name, as read off its line. (Those of the C functions: reelpony, Differ;
-- the C functions of the codes are here, in golomb's words, of which reelpony's are short names.)
-- Assumes nothing.
use Rattle.std.specs.Prelude.{◌≡◌, refl, None, [], ◌∷◌, true, false, ℕ, replicate, get_or, pos}
use Rattle.std.proofs.Common.{ap, arith}
use Rattle.std.proofs.lemmas.List.{length-replicate}
use Rattle.lists.specs.Part.{part}
use Rattle.bits.specs.Bits.{low_bits, bits_of, value_from, bit_count, room_for, bits_from}
use Rattle.golomb.specs.Code.{digits_in, num_bits, ue}
use Rattle.golomb.specs.Signed.{mapped, unmapped, se}
use Rattle.golomb.specs.Read.{leading_zero_bits, code_bits, code_num, whole}
use Rattle.golomb.specs.Answers.{written_place, write_of, has_ue, has_se, read_answer, read_number, read_place, read_ue, read_se}
use Rattle.nal_unit.specs.StartCode.{code, next}
use Rattle.nal_unit.specs.Walk.{blank, lay, trim, behind, meet}
use Rattle.nal_unit.specs.Calls.{at, turned, turn}
use Rattle.nal_unit.specs.Escape.{inserts, emit, zeros, esc_from}
use Rattle.nal_unit.specs.Unescape.{fault_here, fault}
use Rattle.nal_unit.specs.Frame.{joined}
use Rattle.ycbcr_image.specs.declared.BitDepth.TheVariants.{Depth8}
use Rattle.ycbcr_image.specs.declared.Kind.TheVariants.{Mono, Colour}
use Rattle.ycbcr_image.specs.Form as F
use Rattle.ycbcr_image.specs.Form.{mono, in_plane, sub_width_c, sub_height_c, block_width, block_height, block_row_bytes, mb_bytes}
use Rattle.ycbcr_image.specs.Sizes.{div_ceil, next_multiple, pic_width_in_mbs, frame_height_in_mbs, visible_width, visible_height, visible_row_bytes, padded_width, padded_height, padded_row_bytes, tight_length}
use Rattle.ycbcr_image.specs.Refusals.{session_of, size_bad, depths_bad, four_bad, odd_bad, height_bad, session_bad, accepted, stride_bad, rows_bad, shape_refusal, plane_refusal, first, chroma_refusal, planes_refusal, refusal_next}
use Rattle.slice.specs.Picture.{picture_length, picture_of, planes_in}
use Rattle.slice.specs.Cat.{cat}
use Rattle.slice.specs.Layout.{block_row, block, mb, mb_at, head, macroblock, slice_of}
use Rattle.slice.specs.Header.{header_is}
use Rattle.encoder.specs.Shot.{Shot, lent, image_of, sequence_in}
use Rattle.encoder.specs.Units.{picture_unit, next_bytes}
use Rattle.ycbcr_image.specs.Numbers.{named}
use Rattle.encoder.specs.Answers.{number_of, length_of, answer_of, out_of, start_of, next_of, next_out}
use Rattle.encoder.specs.Room.{picture_most, room_of}
use Rattle.reader.specs.declared.Reader.{Reader}
use Rattle.reader.specs.Judge.{nothing, possible, counted, unit_verdict, judge}
use Rattle.reader.specs.Read.{refused_at, told, read_of, plane_length}
use Rattle.take.specs.Judged.{having}
use Rattle.take.specs.Exhibit.{flat, flat_session, started, lacked}

-- a picture whose width is 0
abbrev narrow : Shot
narrow = record { width = 0; height = 16; kind = Mono; y = lent [] 0 Depth8; cb = lent [] 0 Depth8; cr = lent [] 0 Depth8 }

-- a colour picture of 16 x 16 whose Y is all 0x10, Cb 0x20, Cr 0x30
abbrev striped : Shot
striped = record { width = 16; height = 16; kind = Colour; y = lent (replicate 256 0x10) 16 Depth8; cb = lent (replicate 64 0x20) 8 Depth8; cr = lent (replicate 64 0x30) 8 Depth8 }

-- a reader at the place p that holds nothing
abbrev reader : ℕ → Reader
reader p = record { place = p; sets = record { sps = None; pps = false } }

pub record Differ : Type 0 where
  -- start: "the length without the parameter sets", 266
  pub start_length_lem : length_of (start_of (flat 0x10) (replicate 286 0)) ≡ 286
  -- start: "9 without the length needed", 0
  pub start_needs : length_of (start_of (flat 0x10) []) ≡ 286
  -- next: "Y for Cb", 0x10
  pub next_cb : get_or (next_out (session_of (image_of striped)) striped (replicate 500 0)) 265 0 ≡ 0x20
  -- next: "what is refused is answered as 6", 6
  pub next_refuses : number_of (next_of flat_session narrow []) ≡ 1
  -- room: "a size that no call accepts has a room", 64
  pub room_none : room_of (sequence_in narrow) ≡ 0
  -- room: "a quarter for what escaping adds", 395
  pub room_flat : room_of (sequence_in (flat 0x10)) ≡ 460
  -- plane_len: "there is a fourth plane", 64
  pub plane-fourth : plane_length (having (sequence_in striped) true) 3 ≡ 0
  -- plane_len: "a length while nothing is held", 1
  pub plane_none : plane_length nothing 0 ≡ 0
  -- read: "the search begins at the take's first byte", 3
  pub read-second : told (at 4 (read_of (0 ∷ 0 ∷ 1 ∷ 9 ∷ 0 ∷ 0 ∷ 1 ∷ 9 ∷ []) (reader 4) [] [] []).say) ≡ refused_at 7 13
  -- read: "10 keeps the place", 0
  pub read-stray : (read_of (5 ∷ []) (reader 0) [] [] []).moved ≡ 1

pub differ : Differ
unfolding next_of answer_of named refusal_next first shape_refusal room_of picture_most picture_length accepted size_bad four_bad odd_bad height_bad plane_length counted possible tight_length visible_row_bytes visible_height visible_width picture_of planes_in slice_of macroblock head mb_at mb block block_row cat part mono in_plane F.bytes_of sub_width_c sub_height_c block_width block_height block_row_bytes mb_bytes pic_width_in_mbs frame_height_in_mbs next_multiple div_ceil meet behind next code blank trim lay turn turned at judge unit_verdict fault fault_here next_out out_of next_bytes picture_unit joined esc_from emit zeros inserts planes_refusal chroma_refusal plane_refusal stride_bad rows_bad session_bad depths_bad padded_width padded_height padded_row_bytes
differ = record {
  start_length_lem = ap length_of (started 0x10 (replicate 286 0) (omega arith) (omega (arith, length-replicate {A = ℕ} 286 0))).0;
  start_needs = ap length_of (lacked 0x10 [] (omega arith) (omega arith)).0;
  next_cb = rw header_is refl;
  next_refuses = refl;
  room_none = refl;
  room_flat = refl;
  plane-fourth = refl;
  plane_none = refl;
  read-second = refl;
  read-stray = refl;
}

-- the C functions that write and read codes
pub record CodesDiffer : Type 0 where
  -- write_ue: "always at the first bit", 1
  pub write-ue-place : written_place (write_of (has_ue 0) (ue 0) (0 ∷ []) 1) 1 ≡ 2
  -- write_ue: "always the code of 0", 1
  pub write-ue-code : written_place (write_of (has_ue 7) (ue 7) (0 ∷ []) 0) 0 ≡ 7
  -- write_se: "always at the first bit", 1
  pub write-se-place : written_place (write_of (has_se (pos 0)) (se (pos 0)) (0 ∷ []) 1) 1 ≡ 2
  -- write_se: "always the code of 0", 1
  pub write-se-code : written_place (write_of (has_se (pos 4)) (se (pos 4)) (0 ∷ []) 0) 0 ≡ 7
  -- read_ue: "always at the first bit", 1
  pub read-ue-place : read_place (read_ue (0xC0 ∷ []) 1) 1 ≡ 2
  -- read_ue: "the number is not told", 0
  pub read-ue-number : read_number (read_ue (0x40 ∷ []) 0) 5 ≡ 1
  -- read_se: "a code's place is not told", 0
  pub read-se-place : read_place (read_se (0x80 ∷ []) 0) 0 ≡ 1
  -- read_se: "no code is answered with 0", 0
  pub read-se_none : read_answer (read_se [] 0) ≡ 22

pub codes-differ : CodesDiffer
unfolding write_of has_ue has_se read_ue read_se room_for bit_count bits_from bits_of low_bits value_from whole code_bits code_num leading_zero_bits ue num_bits digits_in se mapped unmapped part
codes-differ = record {
  write-ue-place = refl;
  write-ue-code = refl;
  write-se-place = refl;
  write-se-code = refl;
  read-ue-place = refl;
  read-ue-number = refl;
  read-se-place = refl;
  read-se_none = refl;
}
