-- The calls as C sees them: kinds, depths and sessions are numbers there.
--     colour_known, depth_known   a colour is 0 (mono) or 1 (4:2:0), a depth 8 or 12
--     known                       what a call is given can be looked at: its colour, and the depths of the planes that its kind has. Else the answer is 99
--     PictureIn, shot_in          the picture that a call is given, in numbers and planes; as the writer has it. known_in: it can be looked at
--     held_of                     the session that eight numbers say: width, height, colour, depth, whoever wrote them; the others are not looked at. Where the
--                                 third is no colour or the fourth no depth, a session of no size, which no picture that passes 1 to 5 has
--     words_of, words_after       the eight numbers of a session; those that an answer leaves
--     start_number ..             what a start call answers and leaves, where b says whether its numbers are known; next_number .. the same of a next call
--     StartsIn, NextsIn           what `reelpony_start` and `reelpony_next` answer and leave, whole
-- Assumes nothing.
use Rattle.std.specs.Prelude.{◌≡◌, Ok, Err, List, [], ◌∷◌, Bool, cond, ◌&&◌, ◌||◌, ℕ, eqb, get_or}
use Rattle.ycbcr_image.specs.declared.BitDepth.{BitDepth}
use Rattle.ycbcr_image.specs.declared.BitDepth.TheVariants.{Depth8, Depth12}
use Rattle.ycbcr_image.specs.declared.Kind.{Kind}
use Rattle.ycbcr_image.specs.declared.Kind.TheVariants.{Mono, Colour}
use Rattle.ycbcr_image.specs.declared.Session.{Session}
use Rattle.ycbcr_image.specs.Form.{chroma_of, depth_of}
use Rattle.encoder.specs.declared.Depths.{Depths}
use Rattle.encoder.specs.Shot.{Shot, Lent, lent}
use Rattle.encoder.specs.Answers.{Encoded, number_of, length_of, start_of, start_out, next_of, next_out}

unfoldable pub colour_known : ℕ → Bool
colour_known c = eqb c 0 || eqb c 1

unfoldable pub depth_known : ℕ → Bool
depth_known d = eqb d 8 || eqb d 12

unfoldable pub known : ℕ → ℕ → ℕ → ℕ → Bool
known c y cb cr = colour_known c && (depth_known y && (eqb c 0 || (depth_known cb && depth_known cr)))

unfoldable pub kind_of : ℕ → Kind
kind_of c = cond (eqb c 0) Mono Colour

unfoldable pub bit_depth_of : ℕ → BitDepth
bit_depth_of d = cond (eqb d 8) Depth8 Depth12

abbrev pub depths_of : ℕ → ℕ → ℕ → Depths
depths_of y cb cr = record { y = bit_depth_of y; cb = bit_depth_of cb; cr = bit_depth_of cr }

pub record Plane : Type 0 where
  pub bytes : List ℕ
  pub stride : ℕ
  pub depth : ℕ

abbrev pub plane : List ℕ → ℕ → ℕ → Plane
plane s stride depth = record { bytes = s; stride = stride; depth = depth }

abbrev pub lent_of : Plane → Lent
lent_of a = lent a.bytes a.stride (bit_depth_of a.depth)

abbrev pub shot_of : ℕ → ℕ → ℕ → Plane → Plane → Plane → Shot
shot_of w h c y cb cr = record { width = w; height = h; kind = kind_of c; y = lent_of y; cb = lent_of cb; cr = lent_of cr }

pub record PictureIn : Type 0 where
  pub width : ℕ
  pub height : ℕ
  pub colour : ℕ
  pub y : Plane
  pub cb : Plane
  pub cr : Plane

abbrev pub picture_in : ℕ → ℕ → ℕ → Plane → Plane → Plane → PictureIn
picture_in w h c y cb cr = record { width = w; height = h; colour = c; y = y; cb = cb; cr = cr }

abbrev pub shot_in : PictureIn → Shot
shot_in p = shot_of p.width p.height p.colour p.y p.cb p.cr

abbrev pub known_in : PictureIn → Bool
known_in p = known p.colour p.y.depth p.cb.depth p.cr.depth

unfoldable pub held_of : List ℕ → Session
held_of ws =
    cond (colour_known (get_or ws 2 0) && depth_known (get_or ws 3 0))
    (record { width = get_or ws 0 0; height = get_or ws 1 0; kind = kind_of (get_or ws 2 0); depth = bit_depth_of (get_or ws 3 0) })
    (record { width = 0; height = 0; kind = Mono; depth = Depth8 })

unfoldable pub words_of : Session → List ℕ
words_of s = s.width ∷ s.height ∷ chroma_of s.kind ∷ depth_of s.depth ∷ 0 ∷ 0 ∷ 0 ∷ 0 ∷ []

-- only an accepted call changes them
abbrev pub words_after : Encoded → List ℕ → List ℕ
words_after (Ok w) ws = words_of w.session
words_after (Err e) ws = ws

unfoldable pub start_number : Bool → Shot → List ℕ → ℕ
start_number b p d = cond b (number_of (start_of p d)) 99

unfoldable pub start_length : Bool → Shot → List ℕ → ℕ
start_length b p d = cond b (length_of (start_of p d)) 0

unfoldable pub start_buffer : Bool → Shot → List ℕ → List ℕ
start_buffer b p d = cond b (start_out p d) d

unfoldable pub start_words : Bool → Shot → List ℕ → List ℕ → List ℕ
start_words b p d ws = cond b (words_after (start_of p d) ws) ws

-- a next call leaves the session as it is, so its numbers too
unfoldable pub next_number : Bool → List ℕ → Shot → List ℕ → ℕ
next_number b ws p d = cond b (number_of (next_of (held_of ws) p d)) 99

unfoldable pub next_length : Bool → List ℕ → Shot → List ℕ → ℕ
next_length b ws p d = cond b (length_of (next_of (held_of ws) p d)) 0

unfoldable pub next_buffer : Bool → List ℕ → Shot → List ℕ → List ℕ
next_buffer b ws p d = cond b (next_out (held_of ws) p d) d

-- the picture p is given, with the output d and the session's numbers ws; the result is n, and then the length is l, the output d', the numbers ws'
pub record StartsIn (p : PictureIn) (d ws : List ℕ) (n l : ℕ) (d' ws' : List ℕ) : Type 0 where
  pub number : n ≡ start_number (known_in p) (shot_in p) d
  pub len : l ≡ start_length (known_in p) (shot_in p) d
  pub bytes : d' ≡ start_buffer (known_in p) (shot_in p) d
  pub session : ws' ≡ start_words (known_in p) (shot_in p) d ws

pub record NextsIn (p : PictureIn) (d ws : List ℕ) (n l : ℕ) (d' ws' : List ℕ) : Type 0 where
  pub number : n ≡ next_number (known_in p) ws (shot_in p) d
  pub len : l ≡ next_length (known_in p) ws (shot_in p) d
  pub bytes : d' ≡ next_buffer (known_in p) ws (shot_in p) d
  pub session : ws' ≡ ws
