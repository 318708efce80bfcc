-- The reader's call as C sees it: state and answer are eight numbers each.
--     held_in ws           what the reader's eight numbers say is held: place; SPS held, width, height, colour, depth; PPS held; one that is spare. A flag is 0 or 1,
--                          and where one is not, nothing is held
--     turn_in              the turn of a call (crate reader, Read, over numbers)
--     told8                an answer's eight numbers: what it is (0 End, 1 SPS, 2 PPS, 3 picture, 4 refusal), offset, width, height, colour, depth, number, one
--                          that is spare; what it does not have is 0
--     held8, moved8        the eight numbers of a state; those of a state that is only moved
--     after8               the reader's eight numbers then: the place; a parameter set that is answered writes what is held anew, and nothing else does
--     ReadsIn              what a call answers and leaves
-- Assumes nothing.
use Rattle.std.specs.Prelude.{◌≡◌, List, [], ◌∷◌, cond, ◌&&◌, ℕ, ◌+◌, leb, eqb, get_or, drop}
use Rattle.std.proofs.Math.Option.{none, some}
use Rattle.nal_unit.specs.Calls.{at, Turn, turn}
use Rattle.ycbcr_image.specs.Sizes.{Sequence}
use Rattle.reader.specs.Judge.{Held, nothing, Word, judge}
use Rattle.reader.specs.Read.{Told, over, sps_at, pps_at, picture_at, refused_at, told, number_told, rooms, handed, laid}

abbrev pub sequence_in : List ℕ → Sequence
sequence_in ws = record { width = get_or ws 2 0; height = get_or ws 3 0; form = record { chroma = get_or ws 4 0; depth = get_or ws 5 0 } }

unfoldable pub held_in : List ℕ → Held
held_in ws =
    cond (leb (get_or ws 1 0) 1 && leb (get_or ws 6 0) 1)
    (record { sps = cond (eqb (get_or ws 1 0) 1) (some (sequence_in ws)) none; pps = eqb (get_or ws 6 0) 1 })
    nothing

abbrev pub turn_in : List ℕ → List ℕ → List ℕ → List ℕ → List ℕ → Turn Held Word
turn_in s ws y cb cr = turn (judge (rooms y cb cr)) (held_in ws) (drop (get_or ws 0 0) s)

-- a size and kind among eight numbers
abbrev pub sized8 : ℕ → ℕ → Sequence → ℕ → ℕ → List ℕ
sized8 a b q c d = a ∷ b ∷ q.width ∷ q.height ∷ q.form.chroma ∷ q.form.depth ∷ c ∷ d ∷ []

abbrev pub told8 : Told → List ℕ
told8 over = 0 ∷ 0 ∷ 0 ∷ 0 ∷ 0 ∷ 0 ∷ 0 ∷ 0 ∷ []
told8 (sps_at o q) = sized8 1 o q 0 0
told8 (pps_at o) = 2 ∷ o ∷ 0 ∷ 0 ∷ 0 ∷ 0 ∷ 0 ∷ 0 ∷ []
told8 (picture_at o) = 3 ∷ o ∷ 0 ∷ 0 ∷ 0 ∷ 0 ∷ 0 ∷ 0 ∷ []
told8 (refused_at o n) = 4 ∷ o ∷ 0 ∷ 0 ∷ 0 ∷ 0 ∷ n ∷ 0 ∷ []

unfoldable pub held8 : ℕ → Held → ℕ → List ℕ
held8 p h z = elim h.sps [ none ↦ p ∷ 0 ∷ 0 ∷ 0 ∷ 0 ∷ 0 ∷ cond h.pps 1 0 ∷ z ∷ [] | some q ↦ sized8 p 1 q (cond h.pps 1 0) z ]

-- only the place is another
abbrev pub moved8 : ℕ → List ℕ → List ℕ
moved8 p ws = p ∷ get_or ws 1 0 ∷ get_or ws 2 0 ∷ get_or ws 3 0 ∷ get_or ws 4 0 ∷ get_or ws 5 0 ∷ get_or ws 6 0 ∷ get_or ws 7 0 ∷ []

abbrev pub after8 : List ℕ → Told → ℕ → Held → List ℕ
after8 ws over p h = moved8 p ws
after8 ws (sps_at o q) p h = held8 p h (get_or ws 7 0)
after8 ws (pps_at o) p h = held8 p h (get_or ws 7 0)
after8 ws (picture_at o) p h = moved8 p ws
after8 ws (refused_at o n) p h = moved8 p ws

-- the take s is read by the numbers ws with the planes y, cb and cr; the result is n, and then the numbers are ws', the answer a, the planes y', cb' and cr'
pub record ReadsIn (s ws y cb cr : List ℕ) (n : ℕ) (ws' a y' cb' cr' : List ℕ) : Type 0 where
  pub number : n ≡ number_told (told (at (get_or ws 0 0) (turn_in s ws y cb cr).say))
  pub answer : a ≡ told8 (told (at (get_or ws 0 0) (turn_in s ws y cb cr).say))
  pub reader : ws' ≡ after8 ws (told (at (get_or ws 0 0) (turn_in s ws y cb cr).say)) (get_or ws 0 0 + (turn_in s ws y cb cr).moved) (turn_in s ws y cb cr).held
  pub in_y : y' ≡ laid (handed (turn_in s ws y cb cr).say).y y
  pub in_cb : cb' ≡ laid (handed (turn_in s ws y cb cr).say).cb cb
  pub in_cr : cr' ≡ laid (handed (turn_in s ws y cb cr).say).cr cr
