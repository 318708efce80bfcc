-- Reading by calls (paper 01, "Reading a take"): each call looks at the bytes from a place on, with something held, and answers one thing; then it moves
-- the place and changes what is held. What a unit means is not said here: `judge`, a parameter, gives for what is held and a unit's bytes the word
-- that is answered, what is held then, and whether the call keeps its place, so that it can be repeated. The reader, an index and a conversion are judges.
--     turn h s                the call with h held where s are the bytes from the place on; its answer's offset is counted from there
--     answers bytes n h p     the answers of n calls in turn, from the place p with h held
--     after bytes n h p       what is held then, and the place
--     ans, aft                the same over the bytes from the place on: a call looks at nothing before its place
--     shift, suffix           bytes put in front move the offsets and change nothing else
--     align                   zeros before a start code or the end change no answer
--     Steady P                no unit takes what is held out of P, and none makes a call keep its place
--     reading-ends            every reading ends
-- A count of calls serves where others would take fuel: a call that answers End keeps its place, so "for every n" says all.
-- Assumes nothing.
use Rattle.std.specs.Prelude.{◌≡◌, ◌⊎◌, Bool, true, false, cond, length, take, replicate}
use Rattle.std.proofs.Math.Path.{refl}
use Rattle.std.proofs.Common.{ap, inl, inr, zero-add, suc-add, add-zero, arith, length-drop}
use mathlib.Core.List.{List, [], ◌∷◌, ◌++◌, map}
use Prim.Native.Nat.{ℕ, zero, suc, ◌+◌, ◌≤◌, ◌<◌}
use Rattle.std.proofs.Math.Nat.{add_assoc}
use Rattle.std.proofs.Math.ListN.{drop}
use Rattle.std.proofs.Math.Seq.{drop-drop, drop-append-add}
use Rattle.lists.specs.Test.{either}
use Rattle.nal_unit.specs.StartCode.{start_code, next, code_is, next_there}
use Rattle.nal_unit.specs.Walk.{blank, trim, Met, end, stray, unit, meet, Calm, meet-nil, meet-stray, stray_some, meet_end, meet-unit, Seen, over, holds, seen}

-- what a judge says of a unit: the word that is answered, what is held then, and whether the call keeps its place (paper 01's refusal 19 does)
pub record Verdict (H A : Type 0) : Type 0 where
  pub word : A
  pub held : H
  pub stay : Bool

-- an answer
--     ended           End
--     astray o n      n bytes from o on belong to no unit (refusal 10)
--     said o w        the word w about the unit that begins at o, behind its start code
pub data Say (A : Type 0) : Type 0 where
  ended : Say A
  astray : ℕ → ℕ → Say A
  said : ℕ → A → Say A

-- an answer counted from p, told from the first byte
unfoldable pub at : {A : Type 0} → ℕ → Say A → Say A
at p ended = ended
at p (astray o n) = astray (p + o) n
at p (said o w) = said (p + o) w

-- counted from p, and that from q
pub at_at : {A : Type 0} (q p : ℕ) (a : Say A) → at (q + p) a ≡ at q (at p a)
unfolding at
at_at q p ended = refl
at_at q p (astray o n) = ap (λ (k : ℕ). astray k n) (add_assoc q p o)
at_at q p (said o w) = ap (λ (k : ℕ). said k w) (add_assoc q p o)

-- one call: the answer, how far the place moves, what is held then
pub record Turn (H A : Type 0) : Type 0 where
  pub say : Say A
  pub moved : ℕ
  pub held : H

-- where a reading stands
pub record State (H : Type 0) : Type 0 where
  pub held : H
  pub place : ℕ

module _ {H A : Type 0} (judge : H → List ℕ → Verdict H A) where
  -- by what the walk meets: End keeps the place, stray bytes are passed, a unit is judged
  unfoldable pub turned : H → Met → Turn H A
  turned h end = record { say = ended; moved = 0; held = h }
  turned h (stray n) = record { say = astray 0 n; moved = n; held = h }
  turned h (unit o u n) = record { say = said o (judge h u).word; moved = cond (judge h u).stay 0 n; held = (judge h u).held }

  unfoldable pub turn : H → List ℕ → Turn H A
  turn h s = turned h (meet s)

  -- the three cases of a call
  pub turn_end : (h : H) (s : List ℕ) → meet s ≡ end → turn h s ≡ record { say = ended; moved = 0; held = h }
  unfolding turn turned
  turn_end h s e = rw e refl

  pub turn_stray : (h : H) (s : List ℕ) (n : ℕ) → meet s ≡ stray n → turn h s ≡ record { say = astray 0 n; moved = n; held = h }
  unfolding turn turned
  turn_stray h s n e = rw e refl

  pub turn_unit : (h : H) (s : List ℕ) (o : ℕ) (u : List ℕ) (n : ℕ) → meet s ≡ unit o u n
      → turn h s ≡ record { say = said o (judge h u).word; moved = cond (judge h u).stay 0 n; held = (judge h u).held }
  unfolding turn turned
  turn_unit h s o u n e = rw e refl

  -- by place
  unfoldable pub answers : List ℕ → ℕ → H → ℕ → List (Say A)
  answers bytes zero h p = []
  answers bytes (suc n) h p = at p (turn h (drop p bytes)).say ∷ answers bytes n (turn h (drop p bytes)).held (p + (turn h (drop p bytes)).moved)

  unfoldable pub after : List ℕ → ℕ → H → ℕ → State H
  after bytes zero h p = record { held = h; place = p }
  after bytes (suc n) h p = after bytes n (turn h (drop p bytes)).held (p + (turn h (drop p bytes)).moved)

  -- by what is left
  unfoldable pub ans : ℕ → H → ℕ → List ℕ → List (Say A)
  ans zero h p s = []
  ans (suc n) h p s = at p (turn h s).say ∷ ans n (turn h s).held (p + (turn h s).moved) (drop (turn h s).moved s)

  unfoldable pub aft : ℕ → H → ℕ → List ℕ → State H
  aft zero h p s = record { held = h; place = p }
  aft (suc n) h p s = aft n (turn h s).held (p + (turn h s).moved) (drop (turn h s).moved s)

  -- both are the same
  pub answers-ans : (bytes : List ℕ) (n : ℕ) (h : H) (p : ℕ) → answers bytes n h p ≡ ans n h p (drop p bytes)
  unfolding answers ans
  answers-ans bytes zero h p = refl
  answers-ans bytes (suc n) h p =
      let t = turn h (drop p bytes) in
      rw (answers-ans bytes n t.held (p + t.moved), drop-drop t.moved p bytes) refl

  pub after_aft : (bytes : List ℕ) (n : ℕ) (h : H) (p : ℕ) → after bytes n h p ≡ aft n h p (drop p bytes)
  unfolding after aft
  after_aft bytes zero h p = refl
  after_aft bytes (suc n) h p =
      let t = turn h (drop p bytes) in
      rw (after_aft bytes n t.held (p + t.moved), drop-drop t.moved p bytes) refl

  -- n calls and k more
  pub answers-add : (bytes : List ℕ) (n k : ℕ) (h : H) (p : ℕ)
      → answers bytes (n + k) h p ≡ answers bytes n h p ++ answers bytes k (after bytes n h p).held (after bytes n h p).place
  unfolding answers after
  answers-add bytes zero k h p = rw (zero-add k) refl
  answers-add bytes (suc n) k h p =
      let t = turn h (drop p bytes) in
      rw (suc-add n k, answers-add bytes n k t.held (p + t.moved)) refl

  pub after_add : (bytes : List ℕ) (n k : ℕ) (h : H) (p : ℕ)
      → after bytes (n + k) h p ≡ after bytes k (after bytes n h p).held (after bytes n h p).place
  unfolding after
  after_add bytes zero k h p = rw (zero-add k) refl
  after_add bytes (suc n) k h p =
      let t = turn h (drop p bytes) in
      rw (suc-add n k, after_add bytes n k t.held (p + t.moved)) refl

  -- bytes put in front of the place move the offsets and change nothing else
  pub shift : (n : ℕ) (h : H) (q p : ℕ) (s : List ℕ) → ans n h (q + p) s ≡ map (at q) (ans n h p s)
  unfolding ans
  shift zero h q p s = refl
  shift (suc n) h q p s =
      let t = turn h s in
      rw (at_at q p t.say, add_assoc q p t.moved, shift n t.held q (p + t.moved) (drop t.moved s)) refl

  -- the same by place: the walk over a ++ b from a place in b is the walk over b
  pub suffix : (a b : List ℕ) (n : ℕ) (h : H) (p : ℕ) → answers (a ++ b) n h (length a + p) ≡ map (at (length a)) (answers b n h p)
  suffix a b n h p =
      rw (answers-ans (a ++ b) n h (length a + p), drop-append-add a b p, answers-ans b n h p) (shift n h (length a) p (drop p b))

  -- zeros before a start code or the end change no answer: a walk may as well stand behind them
  pub align : (n : ℕ) (h : H) (p : ℕ) (s : List ℕ) → Calm s → ans n h p s ≡ ans n h (p + next s) (drop (next s) s)
  unfolding ans turn turned at
  align zero h p s c = refl
  align (suc n) h p s c = by (seen s c) (λ k q. align n k q s c)
    where
      here : List ℕ
      here = drop (next s) s

      judged : (b : Bool) (k : H) (m : ℕ) → ((k : H) (q : ℕ) → ans n k q s ≡ ans n k (q + next s) here)
          → ans n k (p + cond b 0 (next s + m)) (drop (cond b 0 (next s + m)) s) ≡ ans n k (p + next s + cond b 0 m) (drop (cond b 0 m) here)
      judged true k m ih = rw (add-zero p, add-zero (p + next s)) (ih k p)
      judged false k m ih = rw (drop-drop m (next s) s, add_assoc p (next s) m) refl

      by : Seen s → ((k : H) (q : ℕ) → ans n k q s ≡ ans n k (q + next s) here) → ans (suc n) h p s ≡ ans (suc n) h (p + next s) here
      by (over e f) ih = rw (e, f, add-zero p, add-zero (p + next s)) (ap (λ (l : List (Say A)). ended ∷ l) (ih h p))
      by (holds u m e f) ih =
          rw (e, f, add_assoc p (next s) 3)
          (ap (λ (l : List (Say A)). said (p + (next s + 3)) (judge h u).word ∷ l) (judged (judge h u).stay (judge h u).held m ih))

  -- no unit takes what is held out of P, and none makes a call keep its place: for the reader, that both parameter sets are held and the planes suffice
  pub record Steady (P : H → Type 0) : Type 0 where
    pub keeps : (h : H) → P h → (u : List ℕ) → P (judge h u).held
    pub moves : (h : H) → P h → (u : List ℕ) → (judge h u).stay ≡ false

  -- the strictest: no unit changes h
  pub record Full (h : H) : Type 0 where
    pub keeps : (u : List ℕ) → (judge h u).held ≡ h
    pub moves : (u : List ℕ) → (judge h u).stay ≡ false

  -- as what `Steady` says of "is h"
  pub steady : {h : H} → Full h → Steady (λ i. i ≡ h)
  steady {h} f = record { keeps = λ i e u. rw e (f.keeps u); moves = λ i e u. rw e (f.moves u) }

  -- where the walk meets the end, nothing but End is answered
  pub at_end : (n : ℕ) (h : H) (p : ℕ) (s : List ℕ) → meet s ≡ end → ans n h p s ≡ replicate n ended
  unfolding ans at
  at_end zero h p s e = refl
  at_end (suc n) h p s e = rw (turn_end h s e, at_end n h (p + 0) s e) refl

  -- elsewhere a call moves
  onwards : {P : H → Type 0} → Steady P → (h : H) (s : List ℕ) → P h → (meet s ≡ end) ⊎ ((0 < (turn h s).moved) × P (turn h s).held)
  onwards {P} st h s i = by (blank (take (next s) s)) refl
    where
      unit-moves : (t : List ℕ) → Calm s → drop (next s) s ≡ start_code t → (0 < (turn h s).moved) × P (turn h s).held
      unit-moves t c e =
          let u = trim (take (next t) t) in
          rw (turn_unit h s (next s + 3) u (next s + suc (suc (suc (next t)))) (meet-unit s t c e), st.moves h i u) (omega arith, st.keeps h i u)

      by : (b : Bool) → blank (take (next s) s) ≡ b → (meet s ≡ end) ⊎ ((0 < (turn h s).moved) × P (turn h s).held)
      by true c = either (length s) (next s) (λ l. inl (meet_end s c l)) (λ l. inr (unit-moves (drop 3 (drop (next s) s)) c (code_is (drop (next s) s) (next_there s l))))
      by false c = inr (rw (turn_stray h s (next s) (meet-stray s c)) (stray_some s c, i))

  -- after some calls, no more than there are bytes left, each further call answers End
  pub record Ends (h : H) (p : ℕ) (s : List ℕ) : Type 0 where
    pub calls : ℕ
    pub most : calls ≤ length s
    pub reads : (k : ℕ) → ans (calls + k) h p s ≡ ans calls h p s ++ replicate k ended

  -- every reading that keeps no place ends so
  pub ends : {P : H → Type 0} → Steady P → (h : H) (p : ℕ) (s : List ℕ) → P h → Ends h p s
  unfolding ans
  ends {P} st h p s i = go (length s) h p s (omega arith) i
    where
      done : (h : H) (p : ℕ) (s : List ℕ) → meet s ≡ end → Ends h p s
      done h p s e = record { calls = 0; most = omega arith; reads = λ k. rw (zero-add k) (at_end k h p s e) }

      empty : (s : List ℕ) → length s ≤ 0 → meet s ≡ end
      empty [] l = meet-nil
      empty (x ∷ s) l = absurd (omega arith)

      more : (h : H) (p : ℕ) (s : List ℕ) → 0 < length s → (meet s ≡ end) ⊎ ((0 < (turn h s).moved) × P (turn h s).held)
          → (0 < (turn h s).moved → P (turn h s).held → Ends (turn h s).held (p + (turn h s).moved) (drop (turn h s).moved s)) → Ends h p s
      more h p s l (inl e) ih = done h p s e
      more h p s l (inr m) ih =
          let t = turn h s in
          let g = ih m.0 m.1 in
          record {
            calls = suc g.calls;
            most = omega (arith, m.0, g.most, length-drop t.moved s);
            reads = λ k. rw (suc-add g.calls k) (ap (λ (l : List (Say A)). at p t.say ∷ l) (g.reads k));
          }

      go : (f : ℕ) (h : H) (p : ℕ) (s : List ℕ) → length s ≤ f → P h → Ends h p s
      go zero h p s l i = done h p s (empty s l)
      go (suc f) h p s l i =
          let t = turn h s in
          either (length s) 0 (λ z. done h p s (empty s z))
          (λ z. more h p s z (onwards st h s i) (λ m k. go f t.held (p + t.moved) (drop t.moved s) (omega (arith, length-drop t.moved s)) k))

  -- Every reading ends, where no unit makes a call keep its place: after some calls, no more than there are bytes, each further call answers End.
  pub reading-ends : {P : H → Type 0} → Steady P → (bytes : List ℕ) (h : H) (p : ℕ) → P h
      → (n : ℕ) × (n ≤ length bytes) × ((k : ℕ) → answers bytes (n + k) h p ≡ answers bytes n h p ++ replicate k ended)
  reading-ends st bytes h p i =
      let e = ends st h p (drop p bytes) i in
      let short : e.calls ≤ length bytes = omega (arith, e.most, length-drop p bytes) in
      (e.calls, short, λ k. rw (answers-ans bytes (e.calls + k) h p, answers-ans bytes e.calls h p) (e.reads k))
