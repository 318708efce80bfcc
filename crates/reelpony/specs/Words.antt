-- What the calls write into a host's numbers is what they read there: a session's eight numbers say that session again, a reader's eight numbers the place and
-- the parameter sets. So a host that passes the numbers on from call to call passes on what the definitions do.
--     session-words       the numbers of a session
--     state-words         the numbers of a state
--     told_in, told-words  the answer that eight numbers say; an answer's numbers say it
--     after_words         what a call of `reelpony_read` leaves in the reader's numbers is the place and what is held that the walk leaves
-- Assumes nothing.
use Rattle.std.specs.Prelude.{◌≡◌, refl, List, Bool, true, false, cond, ℕ, ◌+◌, eqb, get_or, drop}
use Rattle.std.proofs.Common.{◌∙◌}
use Rattle.std.proofs.Math.Option.{Option, none, some}
use Rattle.nal_unit.specs.Calls.{Say, ended, astray, said, at}
use Rattle.ycbcr_image.specs.declared.BitDepth.{BitDepth}
use Rattle.ycbcr_image.specs.declared.BitDepth.TheVariants.{Depth8, Depth12}
use Rattle.ycbcr_image.specs.declared.Kind.{Kind}
use Rattle.ycbcr_image.specs.declared.Kind.TheVariants.{Mono, Colour}
use Rattle.ycbcr_image.specs.declared.Session.{Session}
use Rattle.ycbcr_image.specs.Sizes.{Sequence}
use Rattle.reader.specs.Judge.{Held, Word, sps, pps, picture, refused}
use Rattle.reader.specs.Read.{Told, over, sps_at, pps_at, picture_at, refused_at, told, rooms}
use Rattle.reader.specs.Counted.{says_set, turn_leaves}
use Rattle.reelpony.specs.Numbers.{colour_known, depth_known, kind_of, bit_depth_of, held_of, words_of}
use Rattle.reelpony.specs.Reading.{sequence_in, held_in, turn_in, told8, held8, moved8, after8, ReadsIn}

pub session-words : (s : Session) → held_of (words_of s) ≡ s
unfolding held_of words_of colour_known depth_known kind_of bit_depth_of
session-words s = go s.width s.height s.kind s.depth
  where
    of : ℕ → ℕ → Kind → BitDepth → Session
    of w h k d = record { width = w; height = h; kind = k; depth = d }

    go : (w h : ℕ) (k : Kind) (d : BitDepth) → held_of (words_of (of w h k d)) ≡ of w h k d
    go w h Mono Depth8 = refl
    go w h Mono Depth12 = refl
    go w h Colour Depth8 = refl
    go w h Colour Depth12 = refl

pub state-words : (p : ℕ) (h : Held) (z : ℕ) → (get_or (held8 p h z) 0 0 ≡ p) × (held_in (held8 p h z) ≡ h)
unfolding held8 held_in
state-words p h z = go h.sps h.pps
  where
    of : Option Sequence → Bool → Held
    of s b = record { sps = s; pps = b }

    go : (s : Option Sequence) (b : Bool) → (get_or (held8 p (of s b) z) 0 0 ≡ p) × (held_in (held8 p (of s b) z) ≡ of s b)
    go none true = (refl, refl)
    go none false = (refl, refl)
    go (some q) true = (refl, refl)
    go (some q) false = (refl, refl)

-- only the place is another
moved-words : (p : ℕ) (ws : List ℕ) → held_in (moved8 p ws) ≡ held_in ws
unfolding held_in
moved-words p ws = refl

-- what eight numbers say, by the first of them
unfoldable pub told_in : List ℕ → Told
told_in ws =
    cond (eqb (get_or ws 0 0) 0) over
    (cond (eqb (get_or ws 0 0) 1) (sps_at (get_or ws 1 0) (sequence_in ws))
    (cond (eqb (get_or ws 0 0) 2) (pps_at (get_or ws 1 0))
    (cond (eqb (get_or ws 0 0) 3) (picture_at (get_or ws 1 0))
    (refused_at (get_or ws 1 0) (get_or ws 6 0)))))

pub told-words : (t : Told) → told_in (told8 t) ≡ t
unfolding told_in
told-words over = refl
told-words (sps_at o q) = refl
told-words (pps_at o) = refl
told-words (picture_at o) = refl
told-words (refused_at o n) = refl

-- the numbers that an answer leaves, where one about no parameter set leaves what was held
left_words : (ws : List ℕ) (p m : ℕ) (h : Held) (a : Say Word) → (says_set a ≡ false → h ≡ held_in ws)
    → (get_or (after8 ws (told (at p a)) m h) 0 0 ≡ m) × (held_in (after8 ws (told (at p a)) m h) ≡ h)
unfolding at
left_words ws p m h ended e = (refl, moved-words m ws ∙ rw (e refl) refl)
left_words ws p m h (astray o n) e = (refl, moved-words m ws ∙ rw (e refl) refl)
left_words ws p m h (said o (sps q)) e = state-words m h (get_or ws 7 0)
left_words ws p m h (said o pps) e = state-words m h (get_or ws 7 0)
left_words ws p m h (said o (picture X)) e = (refl, moved-words m ws ∙ rw (e refl) refl)
left_words ws p m h (said o (refused n)) e = (refl, moved-words m ws ∙ rw (e refl) refl)

pub after_words : {s ws y cb cr : List ℕ} {n : ℕ} {ws' a y' cb' cr' : List ℕ} → ReadsIn s ws y cb cr n ws' a y' cb' cr'
    → (get_or ws' 0 0 ≡ get_or ws 0 0 + (turn_in s ws y cb cr).moved) × (held_in ws' ≡ (turn_in s ws y cb cr).held)
after_words {s} {ws} {y} {cb} {cr} r =
    let t = turn_in s ws y cb cr in
    let p = get_or ws 0 0 in
    rw r.reader (left_words ws p (p + t.moved) t.held t.say (turn_leaves (rooms y cb cr) (held_in ws) (drop p s)))
