-- Planes that are long enough (refusal 19). What a call answers turns on the lengths of the lent planes in 19 alone: where each is at least as long
-- as `plane_len` says for what is held, it does not turn on them.
--     Enough room h     each lent plane has the bytes that a picture needs while h is held; where no size is, none
--     plain h u         what the reader makes of a unit with planes of just these lengths
--     enough-plain      and with any planes that are long enough; turn_plain the same of a call
--     plain-moves       no call keeps its place then, nor is one answered with 19 (turn_other)
--     nineteen          19: what is held and the place are kept
--     plain-or          with planes of any lengths the judge says that, or what it says with planes that are long enough; turn_or the same of a call
--     stay-nineteen     only 19 keeps the place
-- Assumes nothing.
use Rattle.std.specs.Prelude.{◌≡◌, ◌⊎◌, Bool, cond, ℕ, ◌+◌, ◌≤◌, ltb, length}
use Rattle.std.proofs.Math.Path.{refl}
use Rattle.std.proofs.Common.{sym, ap, ◌∙◌, true≢false, arith, le-ltb}
use mathlib.Core.List.{List, [], ◌∷◌}
use Rattle.std.proofs.Math.Logic.{inl, inr}
use Rattle.std.proofs.Math.Bool.{true, false}
use Rattle.std.proofs.Math.Option.{Option, none, some}
use Rattle.std.proofs.Math.Dec.{eqb}
use Rattle.lists.specs.Test.{same, by_test, by_tests}
use Rattle.nal_unit.specs.Unescape.{un, fault}
use Rattle.nal_unit.specs.Walk.{Met, end, stray, unit, meet}
use Rattle.nal_unit.specs.Calls.{Verdict, said, at, turned, turn}
use Rattle.parameter_sets.specs.Sps.{base_level}
use Rattle.parameter_sets.specs.Pps.{pps_payload}
use Rattle.parameter_sets.specs.Read.{read_sps}
use Rattle.slice.specs.Picture.{picture_length}
use Rattle.ycbcr_image.specs.Sizes.{Sequence, tight_length}
use Rattle.ycbcr_image.specs.Refusals.{session_bad}
use Rattle.reader.specs.Judge.{Held, Word, sps, picture, refused, counted, keep, samples_of, sps_verdict, pps_verdict, short, formless, picture_verdict, held_verdict, unit_verdict, judge}
use Rattle.reader.specs.Read.{word_at, told, number_told, plane_length}

pub record Enough (room : ℕ → ℕ) (h : Held) : Type 0 where
  pub y : plane_length h 0 ≤ room 0
  pub cb : plane_length h 1 ≤ room 1
  pub cr : plane_length h 2 ≤ room 2

abbrev pub plain : Held → List ℕ → Verdict Held Word
plain h u = judge (plane_length h) h u

-- these lengths are enough
pub enough_own : (h : Held) → Enough (plane_length h) h
enough_own h = record { y = omega arith; cb = omega arith; cr = omega arith }

-- then 19 is not given
pub enough-long : (room : ℕ → ℕ) (h : Held) (q : Sequence) → Enough room h → (counted h).sps ≡ some q → short room q ≡ false
unfolding short plane_length
enough-long room h q n e =
    let a : tight_length q 0 ≤ room 0 = rw e at n.y in
    let b : tight_length q 1 ≤ room 1 = rw e at n.cb in
    let c : tight_length q 2 ≤ room 2 = rw e at n.cr in
    rw (le-ltb (room 0) (tight_length q 0) a, le-ltb (room 1) (tight_length q 1) b, le-ltb (room 2) (tight_length q 2) c) refl

module _ (room : ℕ → ℕ) (h : Held) (n : Enough room h) where
  held_plain : (X : List ℕ) → held_verdict room h (counted h) X ≡ held_verdict (plane_length h) h (counted h) X
  unfolding held_verdict picture_verdict
  held_plain X = go (counted h).sps refl
    where
      go : (m : Option Sequence) → (counted h).sps ≡ m → held_verdict room h (counted h) X ≡ held_verdict (plane_length h) h (counted h) X
      go none i = rw i refl
      go (some q) i = rw (i, enough-long room h q n i, enough-long (plane_length h) h q (enough_own h) i) refl

  pub enough-plain : (u : List ℕ) → judge room h u ≡ plain h u
  unfolding judge unit_verdict
  enough-plain [] = refl
  enough-plain (x ∷ t) = rw (held_plain (un t)) refl

-- a call with planes that are long enough
pub turn_plain : (room : ℕ → ℕ) (h : Held) → Enough room h → (s : List ℕ) → turn (judge room) h s ≡ turn plain h s
unfolding turn turned
turn_plain room h n s = go (meet s)
  where
    go : (m : Met) → turned (judge room) h m ≡ turned plain h m
    go end = refl
    go (stray k) = refl
    go (unit o u k) = rw (enough-plain room h n u) refl

-- a verdict that moves on, and is not 19
record Moves (v : Verdict Held Word) : Type 0 where
  on : v.stay ≡ false
  other : (o : ℕ) → eqb (number_told (word_at o v.word)) 19 ≡ false

moves-keep : (h : Held) (w : Word) → ((o : ℕ) → eqb (number_told (word_at o w)) 19 ≡ false) → Moves (keep h w)
moves-keep h w e = record { on = refl; other = e }

module _ (h : Held) where
  sps-moves : (m : Option Sequence) → Moves (sps_verdict h (counted h) m)
  unfolding sps_verdict
  sps-moves none = moves-keep h (refused 14) (λ o. refl)
  sps-moves (some q) = go (counted h).sps refl
    where
      go : (m : Option Sequence) → (counted h).sps ≡ m → Moves (sps_verdict h (counted h) (some q))
      go none i = rw i (record { on = refl; other = λ o. refl })
      go (some p) i = rw i (by_test Moves (session_bad p q) (moves-keep h (refused 15) (λ o. refl)) (moves-keep h (sps q) (λ o. refl)))

  pps_moves : (X : List ℕ) → Moves (pps_verdict h (counted h) X)
  unfolding pps_verdict
  pps_moves X = by_test Moves (same X pps_payload) (record { on = refl; other = λ o. refl }) (moves-keep h (refused 14) (λ o. refl))

  held-moves : (X : List ℕ) → Moves (held_verdict (plane_length h) h (counted h) X)
  unfolding held_verdict picture_verdict
  held-moves X = go (counted h).sps refl
    where
      go : (m : Option Sequence) → (counted h).sps ≡ m → Moves (held_verdict (plane_length h) h (counted h) X)
      go none i = rw i (moves-keep h (refused 16) (λ o. refl))
      go (some q) i =
          rw (i, enough-long (plane_length h) h q (enough_own h) i)
          (by_test Moves (counted h).pps
          (by_test Moves (ltb (length X) (picture_length q)) (moves-keep h (refused 17) (λ o. refl))
          (by_test Moves (formless q X) (moves-keep h (refused 18) (λ o. refl)) (moves-keep h (picture (samples_of q X)) (λ o. refl))))
          (moves-keep h (refused 16) (λ o. refl)))

  unit-moves : (x : ℕ) (X : List ℕ) → Moves (unit_verdict (plane_length h) h x X)
  unfolding unit_verdict
  unit-moves x X =
      by_test Moves (eqb x 0x67) (sps-moves (read_sps base_level X))
      (by_test Moves (eqb x 0x68) (pps_moves X) (by_test Moves (eqb x 0x25) (held-moves X) (moves-keep h (refused 13) (λ o. refl))))

  moves : (u : List ℕ) → Moves (plain h u)
  unfolding judge
  moves [] = moves-keep h (refused 11) (λ o. refl)
  moves (x ∷ t) = by_test Moves (fault (x ∷ t)) (moves-keep h (refused 12) (λ o. refl)) (unit-moves x (un t))

  pub plain-moves : (u : List ℕ) → (plain h u).stay ≡ false
  plain-moves u = (moves u).on

  -- no call is answered with 19
  pub turn_other : (p : ℕ) (s : List ℕ) → eqb (number_told (told (at p (turn plain h s).say))) 19 ≡ false
  unfolding turn turned at
  turn_other p s = go (meet s)
    where
      go : (m : Met) → eqb (number_told (told (at p (turned plain h m).say))) 19 ≡ false
      go end = refl
      go (stray k) = refl
      go (unit o u k) = (moves u).other (p + o)

-- ---- planes of any lengths

abbrev pub nineteen : Held → Verdict Held Word
nineteen h = record { word = refused 19; held = h; stay = true }

module _ (room : ℕ → ℕ) (h : Held) where
  -- the verdict v is w, or 19
  abbrev Or : Verdict Held Word → Verdict Held Word → Type 0
  Or v w = (v ≡ w) ⊎ (v ≡ nineteen h)

  held-or : (X : List ℕ) → Or (held_verdict room h (counted h) X) (held_verdict (plane_length h) h (counted h) X)
  unfolding held_verdict picture_verdict
  held-or X = go (counted h).sps refl
    where
      lacks : (b : Bool) (q : Sequence) → Or (cond b (nineteen h) (keep h (picture (samples_of q X)))) (keep h (picture (samples_of q X)))
      lacks true q = inr refl
      lacks false q = inl refl

      go : (m : Option Sequence) → (counted h).sps ≡ m → Or (held_verdict room h (counted h) X) (held_verdict (plane_length h) h (counted h) X)
      go none i = rw i (inl refl)
      go (some q) i =
          rw (i, enough-long (plane_length h) h q (enough_own h) i)
          (by_tests Or (counted h).pps
          (by_tests Or (ltb (length X) (picture_length q)) (inl refl) (by_tests Or (formless q X) (inl refl) (lacks (short room q) q)))
          (inl refl))

  pub plain-or : (u : List ℕ) → (judge room h u ≡ plain h u) ⊎ (judge room h u ≡ nineteen h)
  unfolding judge unit_verdict
  plain-or [] = inl refl
  plain-or (x ∷ t) =
      by_tests Or (fault (x ∷ t)) (inl refl)
      (by_tests Or (eqb x 0x67) (inl refl) (by_tests Or (eqb x 0x68) (inl refl) (by_tests Or (eqb x 0x25) (held-or (un t)) (inl refl))))

  -- a call: it keeps what is held and its place where it is answered with 19
  pub turn_or : (s : List ℕ) → (turn (judge room) h s ≡ turn plain h s) ⊎ ((o : ℕ) × (turn (judge room) h s ≡ record { say = said o (refused 19); moved = 0; held = h }))
  unfolding turn turned
  turn_or s = go (meet s)
    where
      go : (m : Met) → (turned (judge room) h m ≡ turned plain h m) ⊎ ((o : ℕ) × (turned (judge room) h m ≡ record { say = said o (refused 19); moved = 0; held = h }))
      go end = inl refl
      go (stray k) = inl refl
      go (unit o u k) = elim (plain-or u) [ inl e ↦ inl (rw e refl) | inr e ↦ inr (o, rw e refl) ]

  -- Only 19 keeps the place, whatever the planes' lengths.
  pub stay-nineteen : (u : List ℕ) → (judge room h u).stay ≡ true → (judge room h u).word ≡ refused 19
  stay-nineteen u t =
      elim (plain-or u) [
        | inl e ↦ absurd (true≢false (sym t ∙ (ap (λ (v : Verdict Held Word). v.stay) e ∙ plain-moves h u)))
        | inr e ↦ rw e refl
      ]
