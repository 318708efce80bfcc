-- The frame law: units in a row, each behind 00 00 00 01, are what a walk meets, one by one and no other, whatever the units mean.
--     joined us t      the units us, each behind 00 00 00 01, and then the bytes t
--     says h p us      what is answered about them where the first start code's zero is at p: each judged in turn, with its offset
--     held_by h us     what is held behind them
--     place_by p us    the place behind them
--     Goes h us        each is whole (it does not end in zero, and no start code stands in it), and no call keeps its place
--     frame            the law
-- Assumes nothing.
use Rattle.std.specs.Prelude.{◌≡◌, false, ℕ, suc, ◌+◌, drop, replicate}
use Rattle.std.proofs.Math.Path.{refl}
use Rattle.std.proofs.Common.{sym, ap, ◌∙◌, zero-add, suc-add, add-zero, length-append}
use mathlib.Core.List.{List, [], ◌∷◌, ◌++◌, append_assoc}
use native.Mathlib.Omega.{arith}
use Rattle.std.proofs.Math.ListN.{length}
use Rattle.std.proofs.Math.Seq.{drop-append-add}
use Rattle.nal_unit.specs.StartCode.{start_code, code, next}
use Rattle.nal_unit.specs.Walk.{Calm, calm-nil, calm_start, meet-nil, meet_whole, Whole}
use Rattle.nal_unit.specs.Calls.{Verdict, Say, ended, said, at, ans, answers, turn_unit, answers-ans, align, Full, at_end}

unfoldable pub joined : List (List ℕ) → List ℕ → List ℕ
joined [] t = t
joined (u ∷ us) t = 0 ∷ start_code (u ++ joined us t)

unfoldable pub place_by : ℕ → List (List ℕ) → ℕ
place_by p [] = p
place_by p (u ∷ us) = place_by (p + 4 + length u) us

-- units in a row and more units
pub joined-append : (us vs : List (List ℕ)) (t : List ℕ) → joined (us ++ vs) t ≡ joined us (joined vs t)
unfolding joined
joined-append [] vs t = refl
joined-append (u ∷ us) vs t = rw (joined-append us vs t) refl

-- units and what follows them
pub joined-tail : (us : List (List ℕ)) (t : List ℕ) → joined us t ≡ joined us [] ++ t
unfolding joined
joined-tail [] t = refl
joined-tail (u ∷ us) t = rw (joined-tail us t, append_assoc u (joined us []) t) refl

-- more bytes behind
pub joined_more : (us : List (List ℕ)) (t r : List ℕ) → joined us t ++ r ≡ joined us (t ++ r)
joined_more us t r = rw (joined-tail us t, joined-tail us (t ++ r)) (append_assoc (joined us []) t r)

-- the place behind the units
pub place-joined : (p : ℕ) (us : List (List ℕ)) → place_by p us ≡ p + length (joined us [])
unfolding place_by joined
place-joined p [] = sym (add-zero p)
place-joined p (u ∷ us) = place-joined (p + 4 + length u) us ∙ omega (arith, length-append u (joined us []))

-- behind units in a row and more units
pub place-append : (p : ℕ) (us vs : List (List ℕ)) → place_by p (us ++ vs) ≡ place_by (place_by p us) vs
unfolding place_by
place-append p [] vs = refl
place-append p (u ∷ us) vs = place-append (p + 4 + length u) us vs

-- each of the units is whole
abbrev pub Wholes : List (List ℕ) → Type 0
Wholes [] = Unit {0}
Wholes (u ∷ us) = Whole u × Wholes us

-- units in a row begin calmly
pub calm-joined : (us : List (List ℕ)) (t : List ℕ) → Calm t → Calm (joined us t)
unfolding joined
calm-joined [] t c = c
calm-joined (u ∷ us) t c = calm_start (u ++ joined us t)

module _ {H A : Type 0} (judge : H → List ℕ → Verdict H A) where
  unfoldable pub held_by : H → List (List ℕ) → H
  held_by h [] = h
  held_by h (u ∷ us) = held_by (judge h u).held us

  unfoldable pub says : H → ℕ → List (List ℕ) → List (Say A)
  says h p [] = []
  says h p (u ∷ us) = said (p + 4) (judge h u).word ∷ says (judge h u).held (p + 4 + length u) us

  abbrev pub Goes : H → List (List ℕ) → Type 0
  Goes h [] = Unit {0}
  Goes h (u ∷ us) = Whole u × ((judge h u).stay ≡ false) × Goes (judge h u).held us

  -- of units in a row and more units
  pub held-append : (h : H) (us vs : List (List ℕ)) → held_by h (us ++ vs) ≡ held_by (held_by h us) vs
  unfolding held_by
  held-append h [] vs = refl
  held-append h (u ∷ us) vs = held-append (judge h u).held us vs

  pub says-append : (h : H) (p : ℕ) (us vs : List (List ℕ)) → says h p (us ++ vs) ≡ says h p us ++ says (held_by h us) (place_by p us) vs
  unfolding says held_by place_by
  says-append h p [] vs = refl
  says-append h p (u ∷ us) vs = rw (says-append (judge h u).held (p + 4 + length u) us vs) refl

  pub goes-append : (h : H) (us vs : List (List ℕ)) → Goes h us → Goes (held_by h us) vs → Goes h (us ++ vs)
  unfolding held_by
  goes-append h [] vs g k = k
  goes-append h (u ∷ us) vs g k = (g.0, g.1, goes-append (judge h u).held us vs g.2 k)

  -- where no unit changes h: whole units go, and h is held behind them
  pub goes-full : (h : H) (us : List (List ℕ)) → Full judge h → Wholes us → Goes h us
  goes-full h [] f w = tt
  goes-full h (u ∷ us) f w = (w.0, f.moves u, rw (f.keeps u) (goes-full h us f w.1))

  pub held-full : (h : H) (us : List (List ℕ)) → Full judge h → held_by h us ≡ h
  unfolding held_by
  held-full h [] f = refl
  held-full h (u ∷ us) f = rw (f.keeps u) (held-full h us f)

  -- the call at the start code of a whole unit
  pub call : (n : ℕ) (h : H) (p : ℕ) (u t : List ℕ) → Whole u → (judge h u).stay ≡ false → Calm t
      → ans judge (suc n) h p (start_code (u ++ t)) ≡ said (p + 3) (judge h u).word ∷ ans judge n (judge h u).held (p + 3 + length u) t
  unfolding ans at
  call n h p u t w s c =
      let e = turn_unit judge h (start_code (u ++ t)) 3 u (suc (suc (suc (length u + next t)))) (meet_whole u t w c) in
      rw (e, s, drop-append-add u t (next t), align judge n (judge h u).held (p + 3 + length u) t c)
      (ap (λ (q : ℕ). said (p + 3) (judge h u).word ∷ ans judge n (judge h u).held q (drop (next t) t)) (omega arith))

  -- and at the zero before it
  pub call-framed : (n : ℕ) (h : H) (p : ℕ) (u t : List ℕ) → Whole u → (judge h u).stay ≡ false → Calm t
      → ans judge (suc n) h p (0 ∷ start_code (u ++ t)) ≡ said (p + 4) (judge h u).word ∷ ans judge n (judge h u).held (p + 4 + length u) t
  unfolding next code
  call-framed n h p u t w s c =
      let e : p + 1 + 3 ≡ p + 4 = omega arith in
      align judge (suc n) h p (0 ∷ start_code (u ++ t)) (calm_start (u ++ t)) ∙ rw e at (call n h (p + 1) u t w s c)

  -- The frame law. Over units in a row and calm bytes t behind them, as many calls as there are units answer their words, in order and at their offsets;
  -- each further call answers what a walk over t answers, with what the units left held.
  pub frame : (n : ℕ) (h : H) (p : ℕ) (us : List (List ℕ)) (t : List ℕ) → Goes h us → Calm t
      → ans judge (length us + n) h p (joined us t) ≡ says h p us ++ ans judge n (held_by h us) (place_by p us) t
  unfolding joined says held_by place_by
  frame n h p [] t g c = rw (zero-add n) refl
  frame n h p (u ∷ us) t g c =
      let e = call-framed (length us + n) h p u (joined us t) g.0 g.1 (calm-joined us t c) in
      rw (suc-add (length us) n, e, frame n (judge h u).held (p + 4 + length u) us t g.2 c) refl

  -- Units in a row and nothing else: their words in turn, then End, however often it is asked for
  pub reads : (n : ℕ) (h : H) (us : List (List ℕ)) → Goes h us → answers judge (joined us []) (length us + n) h 0 ≡ says h 0 us ++ replicate n ended
  reads n h us g =
      answers-ans judge (joined us []) (length us + n) h 0
      ∙ frame n h 0 us [] g calm-nil
      ∙ ap (λ (l : List (Say A)). says h 0 us ++ l) (at_end judge n (held_by h us) (place_by 0 us) [] meet-nil)
