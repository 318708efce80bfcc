-- The promises for the code itself: what a host gets that calls the proved reader, one call behind the other, with planes of any lengths. The contract of the
-- call is all that is used; what the writer's calls wrote is a take (Written).
--     Host              a way to call the reader: what is passed on from call to call, what is answered, and the contract; that it is a turn of the walk (Turns)
--     rattle            `reader::read`; `reelpony_read` is another (InC)
--     Call, Runs        calls over one take: each goes on where the one before it left the reader; the planes may hold anything before
--     served            the calls that were not answered with 19, which changes nothing, so that the call can be repeated with longer planes
--     Got, Gets         what calls answered and left in the planes is what the walk says
--     runs-get          so it is of those that were served, of any calls
--     Lends, lends-served     where each call lends planes that are long enough for what is held then, each is served; before a size is held, any planes are
--     host-round_trip, host-cut, host_damage     the promises so
--     host-refused      a refusal changes no byte of the planes and nothing that is held, 19 not even the place
-- Of these proofs/Host.antt has `runs-get`, `lends-served`, `host-round_trip`, `host-cut`, `host_damage` and `host-refused`, since an edit of must-fail/ changes what they rest on.
-- Assumes nothing.
use Rattle.std.specs.Prelude.{◌≡◌, None, false, cond, ℕ, ◌+◌, eqb, drop}
use Rattle.std.proofs.Math.Path.{refl, ap}
use Rattle.std.proofs.Common.{◌∙◌}
use mathlib.Core.List.{List, [], ◌∷◌}
use Rattle.nal_unit.specs.Calls.{Say, ended, astray, said, at, Turn, turn}
use Rattle.reader.specs.declared.Reader.{Reader}
use Rattle.reader.specs.declared.Answer.{Answer}
use Rattle.reader.specs.Judge.{Held, nothing, Samples, Word, sps, pps, picture, refused, judge}
use Rattle.reader.specs.Read as R
use Rattle.reader.specs.Read.{Told, told, told_of, number_told, held_of, rooms, handed, laid}
use Rattle.reader.specs.Counted.{says_set}
use Rattle.reader.specs.Enough.{Enough, plain, turn_other}

-- the bytes of three planes
abbrev pub Planes : Type 0
Planes = Samples

-- the turn of a call over s, at the place p with h held, which lends the planes P
abbrev pub turn_over : List ℕ → ℕ → Held → Planes → Turn Held Word
turn_over s p h P = turn (judge (rooms P.y P.cb P.cr)) h (drop p s)

-- the call in the state b, which lends P, answers a and leaves the state b' and the planes Q, is that turn
pub record Turns {S A : Type 0} (place : S → ℕ) (held : S → Held) (Says : A → Told → Type 0) (s : List ℕ) (b : S) (P : Planes) (a : A) (b' : S) (Q : Planes) : Type 0 where
  pub answer : Says a (told (at (place b) (turn_over s (place b) (held b) P).say))
  pub moves : place b' ≡ place b + (turn_over s (place b) (held b) P).moved
  pub holds : held b' ≡ (turn_over s (place b) (held b) P).held
  pub in_y : Q.y ≡ laid (handed (turn_over s (place b) (held b) P).say).y P.y
  pub in_cb : Q.cb ≡ laid (handed (turn_over s (place b) (held b) P).say).cb P.cb
  pub in_cr : Q.cr ≡ laid (handed (turn_over s (place b) (held b) P).say).cr P.cr

--     State, Answer     what is passed on from call to call; what a call answers
--     fresh             a state that has not begun
--     place, held       where a state is, and which parameter sets it holds
--     number            paper 01's number of an answer, 0 where it is no refusal
--     Says              what an answer says
--     Reads             the contract: the take, the state, the planes lent; the answer, the state then, the planes then
pub record Host : Type 1 where
  pub State : Type 0
  pub Answer : Type 0
  pub fresh : State
  pub place : State → ℕ
  pub held : State → Held
  pub number : Answer → ℕ
  pub Says : Answer → Told → Type 0
  pub Reads : List ℕ → State → Planes → Answer → State → Planes → Type 0
  pub begins : (place fresh ≡ 0) × (held fresh ≡ nothing)
  pub numbered : (a : Answer) (t : Told) → Says a t → number a ≡ number_told t
  pub turns : (s : List ℕ) (b : State) (P : Planes) (a : Answer) (b' : State) (Q : Planes) → Reads s b P a b' Q → Turns place held Says s b P a b' Q

-- a reader that has not begun
abbrev pub fresh : Reader
fresh = record { place = 0; sets = record { sps = None; pps = false } }

abbrev pub rattle : Host
rattle = record {
  State = Reader;
  Answer = Answer;
  fresh = fresh;
  place = λ b. b.place;
  held = λ b. held_of b.sets;
  number = λ a. number_told (told_of a);
  Says = λ a t. told_of a ≡ t;
  Reads = λ s b P a b' Q. R.Reads s b P.y P.cb P.cr (record { answer = a; reader = b' }) Q.y Q.cb Q.cr;
  begins = (refl, refl);
  numbered = λ a t e. ap number_told e;
  turns = λ s b P a b' Q r. record { answer = r.answer; moves = r.place; holds = r.held; in_y = r.in_y; in_cb = r.in_cb; in_cr = r.in_cr };
}

-- a call: the planes lent to it, what it answered, the state and the planes then
pub record Call (H : Host) : Type 0 where
  pub lent : Planes
  pub answer : H.Answer
  pub left : H.State
  pub planes : Planes

module _ (H : Host) where
  abbrev pub Runs : List ℕ → H.State → List (Call H) → Type 0
  Runs s b [] = Unit {0}
  Runs s b (c ∷ cs) = H.Reads s b c.lent c.answer c.left c.planes × Runs s c.left cs

  unfoldable pub served : List (Call H) → List (Call H)
  served [] = []
  served (c ∷ cs) = cond (eqb (H.number c.answer) 19) (served cs) (c ∷ served cs)

  abbrev pub Lends : H.State → List (Call H) → Type 0
  Lends b [] = Unit {0}
  Lends b (c ∷ cs) = Enough (rooms c.lent.y c.lent.cb c.lent.cr) (H.held b) × Lends c.left cs

  -- an answer, and the planes: the samples that it hands out, then what stood behind them
  pub record Got (c : Call H) (a : Say Word) : Type 0 where
    pub answer : H.Says c.answer (told a)
    pub in_y : c.planes.y ≡ laid (handed a).y c.lent.y
    pub in_cb : c.planes.cb ≡ laid (handed a).cb c.lent.cb
    pub in_cr : c.planes.cr ≡ laid (handed a).cr c.lent.cr

  abbrev pub Gets : List (Call H) → List (Say Word) → Type 0
  Gets [] [] = Unit {0}
  Gets [] (a ∷ us) = ⊥
  Gets (c ∷ cs) [] = ⊥
  Gets (c ∷ cs) (a ∷ us) = Got c a × Gets cs us

-- the samples of an answer do not depend on where it is counted from
pub handed_at : (p : ℕ) (a : Say Word) → handed (at p a) ≡ handed a
unfolding at
handed_at p ended = refl
handed_at p (astray o n) = refl
handed_at p (said o w) = refl

module _ (H : Host) where
  abbrev turn_of : List ℕ → H.State → Call H → Turn Held Word
  turn_of s b c = turn_over s (H.place b) (H.held b) c.lent

  abbrev pub plain_of : List ℕ → H.State → Turn Held Word
  plain_of s b = turn plain (H.held b) (drop (H.place b) s)

  -- a call that is the turn with planes that are long enough was not answered with 19
  pub served-plain : (s : List ℕ) (b : H.State) (c : Call H) → H.Reads s b c.lent c.answer c.left c.planes → turn_of s b c ≡ plain_of s b → eqb (H.number c.answer) 19 ≡ false
  served-plain s b c r e =
      let f = H.turns s b c.lent c.answer c.left c.planes r in
      ap (λ (n : ℕ). eqb n 19) (H.numbered c.answer _ f.answer ∙ ap (λ (t : Turn Held Word). number_told (told (at (H.place b) t.say))) e) ∙ turn_other (H.held b) (H.place b) (drop (H.place b) s)

-- ---- refusals

-- what a call leaves that is refused
pub record Unchanged (H : Host) (b : H.State) (P : Planes) (a : H.Answer) (b' : H.State) (Q : Planes) : Type 0 where
  pub in_y : Q.y ≡ P.y
  pub in_cb : Q.cb ≡ P.cb
  pub in_cr : Q.cr ≡ P.cr
  pub holds : H.held b' ≡ H.held b
  pub nineteen : H.number a ≡ 19 → H.place b' ≡ H.place b

-- a refusal is about no parameter set and hands out no samples
pub refusal : (p : ℕ) (a : Say Word) → (number_told (told (at p a)) ≡ 0 → ⊥) → (says_set a ≡ false) × (handed a ≡ record { y = []; cb = []; cr = [] })
unfolding at
refusal p ended z = absurd (z refl)
refusal p (astray o n) z = (refl, refl)
refusal p (said o (sps q)) z = absurd (z refl)
refusal p (said o pps) z = absurd (z refl)
refusal p (said o (picture X)) z = absurd (z refl)
refusal p (said o (refused n)) z = (refl, refl)
