-- Where a reading stands, and what its answers are about: a reading from one place to another answers about bytes that lie between them.
--     after_frame        behind whole units a reading stands at the next start code, or the end
--     Within lo hi a     the answer a is about bytes from lo up to hi; End is about none
--     answers-within     so are all answers of a reading from the one place to the other, where no call keeps its place
-- Assumes nothing.
use Rattle.std.specs.Prelude.{◌≡◌, Bool, true, false, take, drop}
use Rattle.std.proofs.Math.Path.{refl}
use mathlib.Core.List.{List, [], ◌∷◌, ◌++◌}
use Prim.Native.Nat.{ℕ, zero, suc, ◌+◌, ◌≤◌}
use native.Mathlib.Omega.{arith}
use Rattle.std.proofs.Math.ListN.{length}
use Rattle.lists.specs.Test.{either}
use Rattle.nal_unit.specs.StartCode.{start_code, code, next, code_is, code_start, next_there}
use Rattle.nal_unit.specs.Walk.{blank, trim, Calm, calm_code, calm_start, meet-stray, meet_end, meet-unit}
use Rattle.nal_unit.specs.Calls.{Verdict, Say, ended, astray, said, at, turn, answers, after, aft, turn_end, turn_stray, turn_unit, after_aft}
use Rattle.nal_unit.specs.Frame.{joined, place_by, held_by, Goes}
use Rattle.nal_unit.specs.Damage.{aft_whole}

abbrev pub Within : {A : Type 0} → ℕ → ℕ → Say A → Type 0
Within lo hi ended = Unit {0}
Within lo hi (astray o n) = (lo ≤ o) × (o + n ≤ hi)
Within lo hi (said o w) = (lo ≤ o) × (o ≤ hi)

abbrev pub Withins : {A : Type 0} → ℕ → ℕ → List (Say A) → Type 0
Withins lo hi [] = Unit {0}
Withins lo hi (a ∷ xs) = Within lo hi a × Withins lo hi xs

-- what lies between two places lies between two that are farther apart
within_wider : {A : Type 0} {lo hi : ℕ} (lo' hi' : ℕ) (a : Say A) → lo' ≤ lo → hi ≤ hi' → Within lo hi a → Within lo' hi' a
within_wider lo' hi' ended l m w = tt
within_wider lo' hi' (astray o n) l m w = (omega (arith, w.0), omega (arith, w.1))
within_wider lo' hi' (said o w) l m v = (omega (arith, v.0), omega (arith, v.1))

withins_wider : {A : Type 0} {lo hi : ℕ} (lo' hi' : ℕ) (xs : List (Say A)) → lo' ≤ lo → hi ≤ hi' → Withins lo hi xs → Withins lo' hi' xs
withins_wider lo' hi' [] l m w = tt
withins_wider lo' hi' (a ∷ xs) l m w = (within_wider lo' hi' a l m w.0, withins_wider lo' hi' xs l m w.1)

-- counted from another place
within_at : {A : Type 0} (p n : ℕ) (a : Say A) → Within 0 n a → Within p (p + n) (at p a)
unfolding at
within_at p n ended w = tt
within_at p n (astray o k) w = (omega arith, omega (arith, w.1))
within_at p n (said o k) w = (omega arith, omega (arith, w.1))

module _ {H A : Type 0} (judge : H → List ℕ → Verdict H A) where
  -- over whole units in a row, from the zero before the first one's start code on, at q, or from the start code itself
  aft-units : (h : H) (p q : ℕ) (s u : List ℕ) (us : List (List ℕ)) (t : List ℕ) → Calm s → drop (next s) s ≡ start_code (u ++ joined us t) → q + 1 ≡ p + next s
      → Goes judge h (u ∷ us) → Calm t → aft judge (length (u ∷ us)) h p s ≡ record { held = held_by judge h (u ∷ us); place = place_by q (u ∷ us) + next t }
  unfolding joined held_by place_by aft next code
  aft-units h p q s u [] t c e m g d =
      let z : p + (next s + suc (suc (suc (length u + next t)))) ≡ q + 4 + length u + next t = omega arith in
      rw z at (aft_whole judge 0 h p s u t c e g.0 d g.1)
  aft-units h p q s u (v ∷ vs) t c e m g d =
      let r = start_code (v ++ joined vs t) in
      let z : p + (next s + suc (suc (suc (length u + 1)))) ≡ q + 4 + length u + 1 = omega arith in
      rw (aft_whole judge (length (v ∷ vs)) h p s u (0 ∷ r) c e g.0 (calm_start (v ++ joined vs t)) g.1, z)
      (aft-units (judge h u).held (q + 4 + length u + 1) (q + 4 + length u) r v vs t (calm_code r (code_start (v ++ joined vs t))) refl (omega arith) g.2 d)

  -- Behind whole units, with calm bytes t behind them, a reading from the first byte stands at the first start code in t, or at the end.
  pub after_frame : (h : H) (u : List ℕ) (us : List (List ℕ)) (t : List ℕ) → Goes judge h (u ∷ us) → Calm t
      → after judge (joined (u ∷ us) t) (length (u ∷ us)) h 0 ≡ record { held = held_by judge h (u ∷ us); place = place_by 0 (u ∷ us) + next t }
  unfolding joined next code
  after_frame h u us t g c =
      let s : List ℕ = 0 ∷ start_code (u ++ joined us t) in
      rw (after_aft judge s (length (u ∷ us)) h 0) (aft-units h 0 0 s u us t (calm_start (u ++ joined us t)) refl (omega arith) g c)

  -- what one call answers about lies in what it passes
  turn_within : (h : H) (s : List ℕ) → ((u : List ℕ) → (judge h u).stay ≡ false) → Within 0 (turn judge h s).moved (turn judge h s).say
  turn_within h s f = by (blank (take (next s) s)) refl
    where
      unit-within : (t : List ℕ) → Calm s → drop (next s) s ≡ start_code t → Within 0 (turn judge h s).moved (turn judge h s).say
      unit-within t c e =
          let u = trim (take (next t) t) in
          rw (turn_unit judge h s (next s + 3) u (next s + suc (suc (suc (next t)))) (meet-unit s t c e), f u) (omega arith, omega arith)

      by : (b : Bool) → blank (take (next s) s) ≡ b → Within 0 (turn judge h s).moved (turn judge h s).say
      by true c = either (length s) (next s) (λ l. rw (turn_end judge h s (meet_end s c l)) tt) (λ l. unit-within (drop 3 (drop (next s) s)) c (code_is (drop (next s) s) (next_there s l)))
      by false c = rw (turn_stray judge h s (next s) (meet-stray s c)) (omega arith, omega arith)

  -- a reading does not go back
  place_on : (bytes : List ℕ) (n : ℕ) (h : H) (p : ℕ) → p ≤ (after judge bytes n h p).place
  unfolding after
  place_on bytes zero h p = omega arith
  place_on bytes (suc n) h p = let t = turn judge h (drop p bytes) in omega (arith, place_on bytes n t.held (p + t.moved))

  -- Where no call keeps its place, all answers of n calls are about what lies between the place from which and the place to which they go.
  pub answers-within : ((h : H) (u : List ℕ) → (judge h u).stay ≡ false) → (bytes : List ℕ) (n : ℕ) (h : H) (p : ℕ)
      → Withins p (after judge bytes n h p).place (answers judge bytes n h p)
  unfolding answers after
  answers-within f bytes zero h p = tt
  answers-within f bytes (suc n) h p =
      let t = turn judge h (drop p bytes) in
      let q = (after judge bytes n t.held (p + t.moved)).place in
      let w = turn_within h (drop p bytes) (f h) in (
        within_wider p q (at p t.say) (omega arith) (place_on bytes n t.held (p + t.moved)) (within_at p t.moved t.say w),
        withins_wider p q (answers judge bytes n t.held (p + t.moved)) (omega arith) (omega arith) (answers-within f bytes n t.held (p + t.moved)),
      )
