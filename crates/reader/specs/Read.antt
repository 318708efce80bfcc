-- The reader's call as the code has it: the turn of the walk (crate nal_unit, Calls) with the reader's judge.
--     Told, told, told_of     an answer without its samples, which go to the planes: of the walk, and of the code
--     number_told             the number of an answer that is a refusal, 0 where it is none
--     held_of                 the parameter sets that are held
--     room_of, rooms          the lengths of the lent planes
--     plane_length            the length of a plane for a picture while h is held: its visible rows, stored tight
--     handed, laid            the samples that an answer hands out; a plane that held d and now begins with x
--     read_of                 the turn of a call
--     Reads                   what a call answers and leaves
--     reads_one               which is one thing: two answers of one call are the same, and so are the planes
-- Assumes nothing.
use Rattle.std.specs.Prelude.{◌≡◌, refl, Some, None, List, [], ◌++◌, Bool, cond, ℕ, ◌+◌, ltb, eqb, length, drop}
use Rattle.std.specs.Prelude as Prelude
use Rattle.std.proofs.Common.{sym, ap, ◌∙◌}
use Rattle.std.proofs.Math.Option.{Option, none, some}
use Rattle.nal_unit.specs.Calls.{Say, ended, astray, said, at, Turn, turn}
use Rattle.ycbcr_image.specs.declared.BitDepth.{BitDepth}
use Rattle.ycbcr_image.specs.declared.BitDepth.TheVariants.{Depth8, Depth12}
use Rattle.ycbcr_image.specs.declared.Kind.{Kind}
use Rattle.ycbcr_image.specs.declared.Kind.TheVariants.{Mono, Colour}
use Rattle.ycbcr_image.specs.declared.Session.{Session}
use Rattle.ycbcr_image.specs.Form.{form_of}
use Rattle.ycbcr_image.specs.Sizes.{Sequence, sequence_of, session_one, tight_length}
use Rattle.reader.specs.declared.HeldSets.{HeldSets}
use Rattle.reader.specs.declared.Reader.{Reader}
use Rattle.reader.specs.declared.Refusal.{Refusal}
use Rattle.reader.specs.declared.Answer.{Answer}
use Rattle.reader.specs.declared.Answer.TheVariants.{End, Sps, Pps, Picture, Refused}
use Rattle.reader.specs.declared.Step.{Step}
use Rattle.reader.specs.Refusals.{number, named, named-number}
use Rattle.reader.specs.Judge.{Held, Samples, Word, sps, pps, picture, refused, counted, judge}

-- the end; a sequence parameter set, a picture parameter set and a picture at an offset; a refusal at an offset
pub data Told : Type 0 where
  over : Told
  sps_at : ℕ → Sequence → Told
  pps_at : ℕ → Told
  picture_at : ℕ → Told
  refused_at : ℕ → ℕ → Told

abbrev pub word_at : ℕ → Word → Told
word_at o (sps q) = sps_at o q
word_at o pps = pps_at o
word_at o (picture X) = picture_at o
word_at o (refused n) = refused_at o n

-- bytes that belong to no unit are refusal 10
abbrev pub told : Say Word → Told
told ended = over
told (astray o n) = refused_at o 10
told (said o w) = word_at o w

abbrev pub told_of : Answer → Told
told_of End = over
told_of (Sps o s) = sps_at o (sequence_of s)
told_of (Pps o) = pps_at o
told_of (Picture o) = picture_at o
told_of (Refused r o) = refused_at o (number r)

abbrev pub number_told : Told → ℕ
number_told over = 0
number_told (sps_at o q) = 0
number_told (pps_at o) = 0
number_told (picture_at o) = 0
number_told (refused_at o n) = n

abbrev pub sps_of : Prelude.Option Session → Option Sequence
sps_of None = none
sps_of (Some s) = some (sequence_of s)

abbrev pub held_of : HeldSets → Held
held_of h = record { sps = sps_of h.sps; pps = h.pps }

-- the length of the plane k, of three
unfoldable pub room_of : ℕ → ℕ → ℕ → ℕ → ℕ
room_of a b c k = cond (eqb k 0) a (cond (eqb k 1) b c)

abbrev pub rooms : List ℕ → List ℕ → List ℕ → ℕ → ℕ
rooms y cb cr = room_of (length y) (length cb) (length cr)

unfoldable pub plane_length : Held → ℕ → ℕ
plane_length h k = cond (ltb 2 k) 0 (elim (counted h).sps [ none ↦ 0 | some q ↦ tight_length q k ])

abbrev pub handed_by : Word → Samples
handed_by (sps q) = record { y = []; cb = []; cr = [] }
handed_by pps = record { y = []; cb = []; cr = [] }
handed_by (picture X) = X
handed_by (refused n) = record { y = []; cb = []; cr = [] }

abbrev pub handed : Say Word → Samples
handed ended = record { y = []; cb = []; cr = [] }
handed (astray o n) = record { y = []; cb = []; cr = [] }
handed (said o w) = handed_by w

-- bytes behind stay
abbrev pub laid : List ℕ → List ℕ → List ℕ
laid x d = x ++ drop (length x) d

abbrev pub read_of : List ℕ → Reader → List ℕ → List ℕ → List ℕ → Turn Held Word
read_of s b y cb cr = turn (judge (rooms y cb cr)) (held_of b.sets) (drop b.place s)

-- the take s is read by the reader b with the planes y, cb and cr; the answer is r, and the planes are then y', cb' and cr'
pub record Reads (s : List ℕ) (b : Reader) (y cb cr : List ℕ) (r : Step) (y' cb' cr' : List ℕ) : Type 0 where
  pub answer : told_of r.answer ≡ told (at b.place (read_of s b y cb cr).say)
  pub place : r.reader.place ≡ b.place + (read_of s b y cb cr).moved
  pub held : held_of r.reader.sets ≡ (read_of s b y cb cr).held
  pub in_y : y' ≡ laid (handed (read_of s b y cb cr).say).y y
  pub in_cb : cb' ≡ laid (handed (read_of s b y cb cr).say).cb cb
  pub in_cr : cr' ≡ laid (handed (read_of s b y cb cr).say).cr cr

-- One answer: what a view says, the code's value says

abbrev session_in : Sequence → Session
session_in q = record { width = q.width; height = q.height; kind = cond (eqb q.form.chroma 0) Mono Colour; depth = cond (eqb q.form.depth 8) Depth8 Depth12 }

session_back : (s : Session) → session_in (sequence_of s) ≡ s
session_back s = session_one (session_in (sequence_of s)) s (go s.kind s.depth)
  where
    go : (k : Kind) (d : BitDepth) → sequence_of (session_in (record { width = s.width; height = s.height; form = form_of k d })) ≡ record { width = s.width; height = s.height; form = form_of k d }
    go Mono Depth8 = refl
    go Mono Depth12 = refl
    go Colour Depth8 = refl
    go Colour Depth12 = refl

abbrev answer_in : Told → Answer
answer_in over = End
answer_in (sps_at o q) = Sps o (session_in q)
answer_in (pps_at o) = Pps o
answer_in (picture_at o) = Picture o
answer_in (refused_at o n) = Refused (named n) o

answer_back : (a : Answer) → answer_in (told_of a) ≡ a
answer_back End = refl
answer_back (Sps o s) = ap (λ (t : Session). Sps o t) (session_back s)
answer_back (Pps o) = refl
answer_back (Picture o) = refl
answer_back (Refused r o) = ap (λ (q : Refusal). Refused q o) (named-number r)

abbrev sps_in : Option Sequence → Prelude.Option Session
sps_in none = None
sps_in (some q) = Some (session_in q)

sps_back : (h : Prelude.Option Session) → sps_in (sps_of h) ≡ h
sps_back None = refl
sps_back (Some s) = ap (λ (t : Session). Some t) (session_back s)

step_one : (r t : Step) → told_of r.answer ≡ told_of t.answer → r.reader.place ≡ t.reader.place → held_of r.reader.sets ≡ held_of t.reader.sets → r ≡ t
step_one r t a p h = of (sym (answer_back _) ∙ (ap answer_in a ∙ answer_back _)) p (sym (sps_back _) ∙ (ap (λ (k : Held). sps_in k.sps) h ∙ sps_back _)) (ap (λ (k : Held). k.pps) h)
  where
    made : Answer → ℕ → Prelude.Option Session → Bool → Step
    made a p s b = record { answer = a; reader = record { place = p; sets = record { sps = s; pps = b } } }

    of : {a a' : Answer} {p p' : ℕ} {s s' : Prelude.Option Session} {b b' : Bool} → a ≡ a' → p ≡ p' → s ≡ s' → b ≡ b' → made a p s b ≡ made a' p' s' b'
    of a p s b = rw (a, p, s, b) refl

pub reads_one : {s : List ℕ} {b : Reader} {y cb cr : List ℕ} {r t : Step} {y' cb' cr' y'' cb'' cr'' : List ℕ} → Reads s b y cb cr r y' cb' cr' → Reads s b y cb cr t y'' cb'' cr''
    → (r ≡ t) × ((y' ≡ y'') × ((cb' ≡ cb'') × (cr' ≡ cr'')))
reads_one {r = r} {t = t} f g = (
  step_one r t (f.answer ∙ sym g.answer) (f.place ∙ sym g.place) (f.held ∙ sym g.held),
  (f.in_y ∙ sym g.in_y, (f.in_cb ∙ sym g.in_cb, f.in_cr ∙ sym g.in_cr)),
)
