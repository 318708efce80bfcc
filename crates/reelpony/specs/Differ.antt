-- Where the wrong programs of `wrong/reelpony.txt` differ from the definitions: for each an input, and what the definition gives there. The wrong program
-- gives the number behind its name, as read off its line. (Those of the codes: take, Differ.)
-- Assumes nothing.
use Rattle.std.specs.Prelude.{◌≡◌, refl, List, [], ◌∷◌, ℕ, replicate, get_or}
use Rattle.lists.specs.Part.{part}
use Rattle.nal_unit.specs.StartCode.{code, next}
use Rattle.nal_unit.specs.Walk.{blank, lay, trim, behind, meet}
use Rattle.nal_unit.specs.Calls.{at, turned, turn}
use Rattle.nal_unit.specs.Escape.{inserts, emit, zeros, esc_from}
use Rattle.nal_unit.specs.Unescape.{inserted, un_from, fault_here, fault}
use Rattle.nal_unit.specs.Frame.{joined}
use Rattle.nal_unit.specs.Answers.{escaped_of, unescape_of}
use Rattle.ycbcr_image.specs.Form as F
use Rattle.ycbcr_image.specs.Form.{mono, in_plane, sub_width_c, sub_height_c, block_width, block_height, block_row_bytes, mb_bytes}
use Rattle.ycbcr_image.specs.Sizes.{div_ceil, next_multiple, pic_width_in_mbs, frame_height_in_mbs, visible_width, visible_height, visible_row_bytes, padded_width, padded_height, padded_row_bytes, tight_length}
use Rattle.ycbcr_image.specs.Refusals.{size_bad, depths_bad, four_bad, odd_bad, height_bad, session_bad, accepted, stride_bad, rows_bad, shape_refusal, plane_refusal, first, chroma_refusal, planes_refusal, refusal_next}
use Rattle.slice.specs.Picture.{picture_length, picture_of, planes_in}
use Rattle.slice.specs.Cat.{cat}
use Rattle.slice.specs.Layout.{block_row, block, mb, mb_at, head, macroblock, slice_of}
use Rattle.slice.specs.Header.{header_is}
use Rattle.encoder.specs.Shot.{Shot}
use Rattle.encoder.specs.Units.{picture_unit, next_bytes}
use Rattle.encoder.specs.Answers.{out_of, next_out}
use Rattle.encoder.specs.Room.{picture_most, room_of}
use Rattle.reader.specs.Judge.{possible, counted, unit_verdict, judge}
use Rattle.reader.specs.Read.{refused_at, told, number_told, plane_length}
use Rattle.reelpony.specs.Numbers.{colour_known, depth_known, known, kind_of, bit_depth_of, plane, shot_of, held_of, start_number, start_length, next_number, next_buffer}
use Rattle.reelpony.specs.Pieces.{escape_number, escape_length, unescape_number, unescape_length}
use Rattle.reelpony.specs.Reading.{held_in, turn_in}
use Rattle.reelpony.specs.Room.{room_number}

-- a colour picture of 16 x 16 whose Y is all 0x10, Cb 0x20, Cr 0x30; its session
abbrev striped : Shot
striped = shot_of 16 16 1 (plane (replicate 256 0x10) 16 8) (plane (replicate 64 0x20) 8 8) (plane (replicate 64 0x30) 8 8)

abbrev session : List ℕ
session = 16 ∷ 16 ∷ 1 ∷ 8 ∷ 0 ∷ 0 ∷ 0 ∷ 0 ∷ []

-- two units of one byte, 9; a reader at the second, which holds nothing
abbrev nines : List ℕ
nines = 0 ∷ 0 ∷ 1 ∷ 9 ∷ 0 ∷ 0 ∷ 1 ∷ 9 ∷ []

abbrev reader : List ℕ
reader = 4 ∷ 0 ∷ 0 ∷ 0 ∷ 0 ∷ 0 ∷ 0 ∷ 0 ∷ []

-- a colour number of 2 is none that is known
pub record Differ : Type 0 where
  -- start: "99 tells a length", 1
  pub start_length_lem : start_length (known 2 8 8 8) striped [] ≡ 0
  -- start: "unknown numbers are answered with 1", 1
  pub start_number_lem : start_number (known 2 8 8 8) striped [] ≡ 99
  -- next: "unknown numbers are answered with 6", 6
  pub next_number_lem : next_number (known 2 8 8 8) session striped [] ≡ 99
  -- next: "Cr for Cb", 0x30
  pub next_cb : get_or (next_buffer (known 1 8 8 8) session striped (replicate 500 0)) 265 0 ≡ 0x20
  -- room: "the room is another depth's", 460
  pub room_depth : room_number 16 16 0 12 ≡ 652
  -- room: "a number that is no colour has a room", 652
  pub room_colour : room_number 16 16 2 8 ≡ 0
  -- escape: "no room is answered with 20", 20
  pub escape-number : escape_number (1 ∷ []) [] ≡ 21
  -- escape: "a length of 0", 0
  pub escape-length : escape_length (1 ∷ []) (0 ∷ []) ≡ 1
  -- unescape: "no room is answered as a fault", 12
  pub unescape-number : unescape_number (1 ∷ []) [] ≡ 21
  -- unescape: "a refusal tells a length", 1
  pub unescape-length : unescape_length (1 ∷ []) [] ≡ 0
  -- read: "the place is the spare number", at 3
  pub read-place : told (at 4 (turn_in nines reader [] [] []).say) ≡ refused_at 7 13
  -- read: "a refusal is answered with 0", 0
  pub read_number : number_told (told (at 4 (turn_in nines reader [] [] []).say)) ≡ 13
  -- plane_len: "always Y's", 256
  pub plane-cb : plane_length (held_in (0 ∷ 1 ∷ 16 ∷ 16 ∷ 1 ∷ 8 ∷ 1 ∷ 0 ∷ [])) 1 ≡ 64
  -- plane_len: "a flag of 2 says that a set is held", 256
  pub plane-flag : plane_length (held_in (0 ∷ 1 ∷ 16 ∷ 16 ∷ 1 ∷ 8 ∷ 2 ∷ 0 ∷ [])) 0 ≡ 0

pub differ : Differ
unfolding start_length start_number next_number next_buffer known colour_known depth_known kind_of bit_depth_of held_of room_number held_in escaped_of unescape_of refusal_next first shape_refusal room_of picture_most picture_length accepted size_bad four_bad odd_bad height_bad plane_length counted possible tight_length visible_row_bytes visible_height visible_width picture_of planes_in slice_of macroblock head mb_at mb block block_row cat part mono in_plane F.bytes_of sub_width_c sub_height_c block_width block_height block_row_bytes mb_bytes pic_width_in_mbs frame_height_in_mbs next_multiple div_ceil meet behind next code blank trim lay turn turned at judge unit_verdict fault fault_here inserted un_from next_out out_of next_bytes picture_unit joined esc_from emit zeros inserts planes_refusal chroma_refusal plane_refusal stride_bad rows_bad session_bad depths_bad padded_width padded_height padded_row_bytes
differ = record {
  start_length_lem = refl;
  start_number_lem = refl;
  next_number_lem = refl;
  next_cb = rw header_is refl;
  room_depth = refl;
  room_colour = refl;
  escape-number = refl;
  escape-length = refl;
  unescape-number = refl;
  unescape-length = refl;
  read-place = refl;
  read_number = refl;
  plane-cb = refl;
  plane-flag = refl;
}
