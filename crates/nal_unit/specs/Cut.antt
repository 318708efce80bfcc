-- Units in a row, cut at any byte: what a walk over the first n bytes answers (paper 01, the last paragraph of "Reading a take").
--     kept n us       the units that are whole within n bytes
--     broken n us     what the cut leaves of the unit that it falls in, behind its start code: nothing where it leaves no whole start code
--     cut             the answers: the words of the units kept; one more about what is left of a broken one, less its trailing zeros; then End
--     cut-exact       where the cut falls: behind all units, or r bytes into the frame of the first unit that is not kept
-- Assumes nothing.
use Rattle.std.specs.Prelude.{◌≡◌, Bool, cond, replicate}
use Rattle.std.proofs.Math.Path.{refl}
use Rattle.std.proofs.Common.{sym, ap, ◌∙◌, length-append}
use mathlib.Core.List.{List, [], ◌∷◌, ◌++◌}
use Rattle.std.proofs.Math.Bool.{true, false}
use Rattle.std.proofs.Math.Option.{Option, none, some}
use Prim.Native.Nat.{ℕ, zero, suc, ◌+◌, ◌-◌, ◌≤◌, ◌<◌}
use Rattle.std.proofs.Math.Nat.{zero-add}
use native.Mathlib.Omega.{arith}
use Rattle.std.proofs.Math.Dec.{leb}
use Rattle.std.proofs.Math.ListN.{length, take}
use Rattle.std.proofs.Math.Seq.{take-nil, take-append-add, take-length, drop-length}
use Rattle.std.proofs.lemmas.List.{take-append-le}
use borrow.Author.Tests.{leb-true, leb-false}
use Rattle.nal_unit.specs.StartCode.{start_code, code, next, clear-take}
use Rattle.nal_unit.specs.Walk.{blank, trim, Calm, calm-blank, calm_start, meet-nil, meet-blank, meet_start}
use Rattle.nal_unit.specs.Calls.{Verdict, Say, ended, said, at, ans, answers, turn_unit, answers-ans, align, at_end}
use Rattle.nal_unit.specs.Frame.{joined, place_by, held_by, says, Goes, frame}

unfoldable pub kept : ℕ → List (List ℕ) → List (List ℕ)
kept n [] = []
kept n (u ∷ us) = cond (leb (4 + length u) n) (u ∷ kept (n - (4 + length u)) us) []

unfoldable pub broken : ℕ → List (List ℕ) → Option (List ℕ)
broken n [] = none
broken n (u ∷ us) = cond (leb (4 + length u) n) (broken (n - (4 + length u)) us) (cond (leb n 3) none (some (take (n - 4) u)))

-- the bytes that the cut leaves behind the units kept
unfoldable pub rest : ℕ → List (List ℕ) → List ℕ
rest n [] = []
rest n (u ∷ us) = cond (leb (4 + length u) n) (rest (n - (4 + length u)) us) (take n (0 ∷ start_code u))

-- a cut leaves the units kept, and the rest
pub cut-bytes : (n : ℕ) (us : List (List ℕ)) → take n (joined us []) ≡ joined (kept n us) (rest n us)
unfolding joined kept rest
cut-bytes n [] = take-nil {A = ℕ} n
cut-bytes n (u ∷ us) = by (leb (4 + length u) n) refl (cut-bytes (n - (4 + length u)) us)
  where
    r : ℕ
    r = n - (4 + length u)

    by : (b : Bool) → leb (4 + length u) n ≡ b → take r (joined us []) ≡ joined (kept r us) (rest r us)
        → take n (0 ∷ start_code (u ++ joined us [])) ≡ joined (cond b (u ∷ kept r us) []) (cond b (rest r us) (take n (0 ∷ start_code u)))
    by true e ih =
        let m : n ≡ suc (suc (suc (suc (length u + r)))) = omega (arith, leb-true (4 + length u) n e) in
        ap (λ (k : ℕ). take k (0 ∷ start_code (u ++ joined us []))) m
        ∙ ap (λ (l : List ℕ). 0 ∷ start_code l) (take-append-add u (joined us []) r ∙ ap (λ (l : List ℕ). u ++ l) ih)
    by false e ih = take-append-le n (0 ∷ start_code u) (joined us []) (omega (arith, leb-false (4 + length u) n e))

-- where the cut falls
--     all      behind all units
--     within   r bytes into the frame of the first unit that is not kept, v; up to 3 bytes are zeros, and from 4 on there is a start code
pub data Cut (n : ℕ) (us keep : List (List ℕ)) (left : Option (List ℕ)) : Type 0 where
  all : keep ≡ us → left ≡ none → length (joined us []) ≤ n → Cut n us keep left
  within : (v : List ℕ) (ws : List (List ℕ)) (r : ℕ) → us ≡ keep ++ (v ∷ ws) → n ≡ length (joined keep []) + r → r < 4 + length v
      → left ≡ cond (leb r 3) none (some (take (r - 4) v)) → Cut n us keep left

-- For every n, exactly one of these: every unit is kept and nothing is broken; or the units kept are the first ones, the cut falls into the frame of the
-- next, and what it leaves of that one is told by the bytes of the frame before the cut.
pub cut-exact : (n : ℕ) (us : List (List ℕ)) → Cut n us (kept n us) (broken n us)
unfolding joined kept broken
cut-exact n [] = all refl refl (omega arith)
cut-exact n (u ∷ us) = by (leb (4 + length u) n) refl (cut-exact (n - (4 + length u)) us)
  where
    r : ℕ
    r = n - (4 + length u)

    by : (b : Bool) → leb (4 + length u) n ≡ b → Cut r us (kept r us) (broken r us)
        → Cut n (u ∷ us) (cond b (u ∷ kept r us) []) (cond b (broken r us) (cond (leb n 3) none (some (take (n - 4) u))))
    by true e (all k b l) = all (ap (λ (l : List (List ℕ)). u ∷ l) k) b (omega (arith, length-append u (joined us []), leb-true (4 + length u) n e))
    by true e (within v ws q k m l b) =
        let d : n ≡ length (0 ∷ start_code (u ++ joined (kept r us) [])) + q = omega (arith, length-append u (joined (kept r us) []), leb-true (4 + length u) n e) in
        within v ws q (ap (λ (l : List (List ℕ)). u ∷ l) k) d l b
    by false e c = within u us n refl (sym (zero-add n)) (leb-false (4 + length u) n e) refl

-- what the rest is, where the units are whole
data Rest (s : List ℕ) (left : Option (List ℕ)) : Type 0 where
  zeros : blank s ≡ true → left ≡ none → Rest s left
  start : (c : List ℕ) → s ≡ 0 ∷ start_code c → left ≡ some c → next c ≡ length c → Rest s left

-- up to three bytes of a frame are zeros
few : (n : ℕ) (u : List ℕ) → n ≤ 3 → blank (take n (0 ∷ start_code u)) ≡ true
unfolding blank
few zero u h = refl
few (suc zero) u h = refl
few (suc (suc zero)) u h = refl
few (suc (suc (suc zero))) u h = refl
few (suc (suc (suc (suc n)))) u h = absurd (omega arith)

calm_rest : (s : List ℕ) (left : Option (List ℕ)) → Rest s left → Calm s
calm_rest s left (zeros e f) = calm-blank s e
calm_rest s left (start c e f l) = rw e (calm_start c)

module _ {H A : Type 0} (judge : H → List ℕ → Verdict H A) where
  -- it is zeros only, or a start code and what is broken
  resting : (n : ℕ) (h : H) (us : List (List ℕ)) → Goes judge h us → Rest (rest n us) (broken n us)
  unfolding rest broken blank
  resting n h [] g = zeros refl refl
  resting n h (u ∷ us) g = by (leb (4 + length u) n) (resting (n - (4 + length u)) (judge h u).held us g.2)
    where
      most : (b : Bool) → leb n 3 ≡ b → Rest (take n (0 ∷ start_code u)) (cond b none (some (take (n - 4) u)))
      most true e = zeros (few n u (leb-true n 3 e)) refl
      most false e =
          let m : n ≡ suc (suc (suc (suc (n - 4)))) = omega (arith, leb-false n 3 e) in
          start (take (n - 4) u) (ap (λ (k : ℕ). take k (0 ∷ start_code u)) m) refl (clear-take (n - 4) u g.0.clear)

      by : (b : Bool) → Rest (rest (n - (4 + length u)) us) (broken (n - (4 + length u)) us)
          → Rest (cond b (rest (n - (4 + length u)) us) (take n (0 ∷ start_code u))) (cond b (broken (n - (4 + length u)) us) (cond (leb n 3) none (some (take (n - 4) u))))
      by true r = r
      by false r = most (leb n 3) refl

  -- the units kept go as all do
  goes_kept : (n : ℕ) (h : H) (us : List (List ℕ)) → Goes judge h us → Goes judge h (kept n us)
  unfolding kept
  goes_kept n h [] g = g
  goes_kept n h (u ∷ us) g = by (leb (4 + length u) n) (goes_kept (n - (4 + length u)) (judge h u).held us g.2)
    where
      by : (b : Bool) → Goes judge (judge h u).held (kept (n - (4 + length u)) us) → Goes judge h (cond b (u ∷ kept (n - (4 + length u)) us) [])
      by true k = (g.0, g.1, k)
      by false k = tt

  -- what is answered about a broken unit
  unfoldable pub tell : H → ℕ → Option (List ℕ) → List (Say A)
  tell h p none = []
  tell h p (some c) = said (p + 4) (judge h (trim c)).word ∷ []

  -- the call about it does not keep its place
  abbrev pub Moves : H → Option (List ℕ) → Type 0
  Moves h none = Unit {0}
  Moves h (some c) = (judge h (trim c)).stay ≡ false

  -- the call about what is left of a unit, and what follows it
  at_broken : (k : ℕ) (h : H) (p : ℕ) (c : List ℕ) → next c ≡ length c → (judge h (trim c)).stay ≡ false
      → ans judge (suc k) h p (start_code c) ≡ said (p + 3) (judge h (trim c)).word ∷ replicate k ended
  unfolding ans at
  at_broken k h p c e m =
      let t = turn_unit judge h (start_code c) 3 (trim (take (next c) c)) (suc (suc (suc (next c)))) (meet_start c) in
      rw (t, e, take-length c, m, drop-length c, at_end judge k (judge h (trim c)).held (p + suc (suc (suc (length c)))) [] meet-nil) refl

  at_rest : (k : ℕ) (h : H) (p : ℕ) (s : List ℕ) (left : Option (List ℕ)) → Rest s left → Moves h left
      → ans judge (length (tell h p left) + k) h p s ≡ tell h p left ++ replicate k ended
  unfolding tell next code
  at_rest k h p s left (zeros e f) m = rw (f, zero-add k) (at_end judge k h p s (meet-blank s e))
  at_rest k h p s left (start c e f l) m =
      let q : p + 1 + 3 ≡ p + 4 = omega arith in
      let n : 1 + k ≡ suc k = omega arith in
      rw (e, f, n) (align judge (suc k) h p (0 ∷ start_code c) (calm_start c) ∙ rw q at (at_broken k h (p + 1) c l (rw f at m)))

  -- the same for the unit that a cut at n breaks: at most one word
  abbrev pub told : ℕ → H → List (List ℕ) → List (Say A)
  told n h us = tell (held_by judge h (kept n us)) (place_by 0 (kept n us)) (broken n us)

  -- For every n: the first n bytes answer the words of the units that are whole within n, in order and at their offsets; then, where the cut leaves
  -- a start code with less than its unit, the word about what it leaves, less its trailing zeros; then End, however often it is asked for.
  pub cut : (n k : ℕ) (h : H) (us : List (List ℕ)) → Goes judge h us → Moves (held_by judge h (kept n us)) (broken n us)
      → answers judge (take n (joined us [])) (length (kept n us) + (length (told n h us) + k)) h 0 ≡ says judge h 0 (kept n us) ++ (told n h us ++ replicate k ended)
  cut n k h us g m =
      let r = resting n h us g in
      let i = held_by judge h (kept n us) in
      let p = place_by 0 (kept n us) in
      let l = length (told n h us) + k in
      answers-ans judge (take n (joined us [])) (length (kept n us) + l) h 0
      ∙ ap (λ (s : List ℕ). ans judge (length (kept n us) + l) h 0 s) (cut-bytes n us)
      ∙ frame judge l h 0 (kept n us) (rest n us) (goes_kept n h us g) (calm_rest (rest n us) (broken n us) r)
      ∙ ap (λ (w : List (Say A)). says judge h 0 (kept n us) ++ w) (at_rest k i p (rest n us) (broken n us) r m)
