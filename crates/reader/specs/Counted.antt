-- The reader looks at what is held only by what it counts as: two states that count as one are told the same.
--     is_set w          whether w is about a parameter set, the only words that change what is held
--     Alike v w         two verdicts say and do the same; where they are about a parameter set, they leave the same held
--     judge-alike       of states that count as one
--     Turned            the same of two turns (turn_alike)
--     judge-leaves      a word that is about no parameter set leaves what is held; turn_leaves the same of a call
-- Assumes nothing.
use Rattle.std.specs.Prelude.{◌≡◌, Bool, true, cond, ℕ, ltb, eqb, length}
use Rattle.std.proofs.Math.Path.{refl, sym}
use Rattle.std.proofs.Common.{ap, ◌∙◌}
use mathlib.Core.List.{List, [], ◌∷◌}
use Rattle.std.proofs.Math.Bool.{false}
use Rattle.std.proofs.Math.Option.{Option, none, some}
use Rattle.lists.specs.Test.{same, by_test, by_tests}
use Rattle.nal_unit.specs.Unescape.{un, fault}
use Rattle.nal_unit.specs.Walk.{Met, end, stray, unit, meet}
use Rattle.nal_unit.specs.Calls.{Verdict, Say, ended, astray, said, Turn, turned, turn}
use Rattle.parameter_sets.specs.Sps.{base_level}
use Rattle.parameter_sets.specs.Pps.{pps_payload}
use Rattle.parameter_sets.specs.Read.{read_sps}
use Rattle.slice.specs.Picture.{picture_length}
use Rattle.ycbcr_image.specs.Sizes.{Sequence}
use Rattle.ycbcr_image.specs.Refusals.{session_bad}
use Rattle.reader.specs.Judge.{Held, nothing, Word, sps, pps, picture, refused, possible, counted, keep, sps_verdict, pps_verdict, short, samples_of, formless, picture_verdict, held_verdict, unit_verdict, judge}

abbrev pub is_set : Word → Bool
is_set (sps q) = true
is_set pps = true
is_set (picture X) = false
is_set (refused n) = false

pub record Alike (v w : Verdict Held Word) : Type 0 where
  pub word : v.word ≡ w.word
  pub stay : v.stay ≡ w.stay
  pub held : is_set v.word ≡ true → v.held ≡ w.held

alike_refl : (v : Verdict Held Word) → Alike v v
alike_refl v = record { word = refl; stay = refl; held = λ e. refl }

-- words that are about no parameter set
alike-keep : (h k : Held) (w : Word) → is_set w ≡ false → Alike (keep h w) (keep k w)
alike-keep h k w e = record { word = refl; stay = refl; held = λ t. cc }

-- what counts as a size is held
counted-held : (h : Held) (q : Sequence) → (counted h).sps ≡ some q → counted h ≡ h
unfolding counted
counted-held h q e = go h.sps refl
  where
    by : (p : Sequence) (b : Bool) → counted h ≡ cond b h nothing → counted h ≡ h
    by p true k = k
    by p false k =
        let z : none ≡ some q = sym (ap (λ (g : Held). g.sps) k) ∙ e in
        cc

    go : (m : Option Sequence) → h.sps ≡ m → counted h ≡ h
    go none i = rw i refl
    go (some p) i = by p (possible p) (rw i refl)

module _ (room : ℕ → ℕ) (h k : Held) (e : counted h ≡ counted k) where
  sps-alike : (m : Option Sequence) → Alike (sps_verdict h (counted h) m) (sps_verdict k (counted h) m)
  unfolding sps_verdict
  sps-alike none = alike-keep h k (refused 14) refl
  sps-alike (some q) = go (counted h).sps refl
    where
      one : (p : Sequence) → (counted h).sps ≡ some p → h ≡ k
      one p i =
          let j : (counted k).sps ≡ some p = sym (ap (λ (g : Held). g.sps) e) ∙ i in
          sym (counted-held h p i) ∙ (e ∙ counted-held k p j)

      go : (m : Option Sequence) → (counted h).sps ≡ m → Alike (sps_verdict h (counted h) (some q)) (sps_verdict k (counted h) (some q))
      go none i = rw i (alike_refl _)
      go (some p) i = rw (one p i) (alike_refl _)

  pps_alike : (X : List ℕ) → Alike (pps_verdict h (counted h) X) (pps_verdict k (counted h) X)
  unfolding pps_verdict
  pps_alike X = by_tests Alike (same X pps_payload) (alike_refl _) (alike-keep h k (refused 14) refl)

  picture_alike : (q : Sequence) (X : List ℕ) → Alike (picture_verdict room h q X) (picture_verdict room k q X)
  unfolding picture_verdict
  picture_alike q X =
      by_tests Alike (ltb (length X) (picture_length q)) (alike-keep h k (refused 17) refl)
      (by_tests Alike (formless q X) (alike-keep h k (refused 18) refl)
      (by_tests Alike (short room q) (record { word = refl; stay = refl; held = λ t. cc })
      (alike-keep h k (picture (samples_of q X)) refl)))

  held-alike : (X : List ℕ) → Alike (held_verdict room h (counted h) X) (held_verdict room k (counted h) X)
  unfolding held_verdict
  held-alike X = go (counted h).sps refl
    where
      go : (m : Option Sequence) → (counted h).sps ≡ m → Alike (held_verdict room h (counted h) X) (held_verdict room k (counted h) X)
      go none i = rw i (alike-keep h k (refused 16) refl)
      go (some q) i = rw i (by_tests Alike (counted h).pps (picture_alike q X) (alike-keep h k (refused 16) refl))

  unit-alike : (x : ℕ) (X : List ℕ) → Alike (unit_verdict room h x X) (unit_verdict room k x X)
  unfolding unit_verdict
  unit-alike x X =
      rw (← e)
      (by_tests Alike (eqb x 0x67) (sps-alike (read_sps base_level X))
      (by_tests Alike (eqb x 0x68) (pps_alike X)
      (by_tests Alike (eqb x 0x25) (held-alike X)
      (alike-keep h k (refused 13) refl))))

  pub judge-alike : (u : List ℕ) → Alike (judge room h u) (judge room k u)
  unfolding judge
  judge-alike [] = alike-keep h k (refused 11) refl
  judge-alike (x ∷ t) = by_tests Alike (fault (x ∷ t)) (alike-keep h k (refused 12) refl) (unit-alike x (un t))

-- whether an answer is about a parameter set
abbrev pub says_set : Say Word → Bool
says_set ended = false
says_set (astray o n) = false
says_set (said o w) = is_set w

pub record Turned (a b : Turn Held Word) : Type 0 where
  pub say : a.say ≡ b.say
  pub moved : a.moved ≡ b.moved
  pub held : says_set a.say ≡ true → a.held ≡ b.held

pub turn_alike : (room : ℕ → ℕ) (h k : Held) → counted h ≡ counted k → (s : List ℕ) → Turned (turn (judge room) h s) (turn (judge room) k s)
unfolding turn turned
turn_alike room h k e s = go (meet s)
  where
    go : (m : Met) → Turned (turned (judge room) h m) (turned (judge room) k m)
    go end = record { say = refl; moved = refl; held = λ t. cc }
    go (stray n) = record { say = refl; moved = refl; held = λ t. cc }
    go (unit o u n) =
        let a = judge-alike room h k e u in
        record { say = ap (λ (w : Word). said o w) a.word; moved = ap (λ (b : Bool). cond b 0 n) a.stay; held = a.held }

-- ---- what a word about no parameter set leaves

record Leaves (h : Held) (v : Verdict Held Word) : Type 0 where
  held : is_set v.word ≡ false → v.held ≡ h

leaves-keep : (h : Held) (w : Word) → Leaves h (keep h w)
leaves-keep h w = record { held = λ e. refl }

module _ (room : ℕ → ℕ) (h : Held) where
  sps-leaves : (m : Option Sequence) → Leaves h (sps_verdict h (counted h) m)
  unfolding sps_verdict
  sps-leaves none = leaves-keep h (refused 14)
  sps-leaves (some q) = go (counted h).sps refl
    where
      go : (m : Option Sequence) → (counted h).sps ≡ m → Leaves h (sps_verdict h (counted h) (some q))
      go none i = rw i (record { held = λ e. cc })
      go (some p) i = rw i (by_test (Leaves h) (session_bad p q) (leaves-keep h (refused 15)) (leaves-keep h (sps q)))

  pps_leaves : (X : List ℕ) → Leaves h (pps_verdict h (counted h) X)
  unfolding pps_verdict
  pps_leaves X = by_test (Leaves h) (same X pps_payload) (record { held = λ e. cc }) (leaves-keep h (refused 14))

  picture_leaves : (q : Sequence) (X : List ℕ) → Leaves h (picture_verdict room h q X)
  unfolding picture_verdict
  picture_leaves q X =
      by_test (Leaves h) (ltb (length X) (picture_length q)) (leaves-keep h (refused 17))
      (by_test (Leaves h) (formless q X) (leaves-keep h (refused 18))
      (by_test (Leaves h) (short room q) (record { held = λ e. refl }) (leaves-keep h (picture (samples_of q X)))))

  held-leaves : (X : List ℕ) → Leaves h (held_verdict room h (counted h) X)
  unfolding held_verdict
  held-leaves X = go (counted h).sps refl
    where
      go : (m : Option Sequence) → (counted h).sps ≡ m → Leaves h (held_verdict room h (counted h) X)
      go none i = rw i (leaves-keep h (refused 16))
      go (some q) i = rw i (by_test (Leaves h) (counted h).pps (picture_leaves q X) (leaves-keep h (refused 16)))

  judge-leaves : (u : List ℕ) → Leaves h (judge room h u)
  unfolding judge unit_verdict
  judge-leaves [] = leaves-keep h (refused 11)
  judge-leaves (x ∷ t) =
      by_test (Leaves h) (fault (x ∷ t)) (leaves-keep h (refused 12))
      (by_test (Leaves h) (eqb x 0x67) (sps-leaves (read_sps base_level (un t)))
      (by_test (Leaves h) (eqb x 0x68) (pps_leaves (un t))
      (by_test (Leaves h) (eqb x 0x25) (held-leaves (un t)) (leaves-keep h (refused 13)))))

  pub turn_leaves : (s : List ℕ) → says_set (turn (judge room) h s).say ≡ false → (turn (judge room) h s).held ≡ h
  unfolding turn turned
  turn_leaves s = go (meet s)
    where
      go : (m : Met) → says_set (turned (judge room) h m).say ≡ false → (turned (judge room) h m).held ≡ h
      go end e = refl
      go (stray n) e = refl
      go (unit o u n) e = (judge-leaves u).held e
