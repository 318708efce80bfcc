-- Laws of the reader's exported call that its code cites.
--     sized ws      the numbers of a state have a size and kind that can be looked at
--     SaysSize      what is read off them, if anything
-- Assumes nothing.
use Rattle.std.specs.Prelude.{◌≡◌, Option, Some, None, IsNone, IfSome, ◌^◌, List, [], ◌∷◌, ◌⊎◌, Bool, cond, ◌&&◌, ◌||◌, eqb, drop}
use Rattle.std.proofs.Math.Path.{refl, ap}
use Rattle.std.proofs.Common.{sym, ◌∙◌, inl, inr, true≢false, arith}
use Rattle.std.proofs.Math.Bool.{true, false, and-eq-true_iff}
use Rattle.std.proofs.Math.Option.{none, some}
use Prim.Native.Nat.{ℕ, zero, suc, ◌+◌, ◌≤◌}
use Rattle.std.proofs.Math.Dec.{leb}
use Rattle.std.proofs.Math.ListN.{get_or}
use Rattle.std.proofs.lemmas.Bool.{eqb-false}
use borrow.Author.Tests.{leb-true, le-leb, eqb-true, eq-eqb}
use Rattle.nal_unit.specs.Calls.{Say, ended, astray, said, at}
use Rattle.ycbcr_image.specs.declared.BitDepth.{BitDepth}
use Rattle.ycbcr_image.specs.declared.Kind.{Kind}
use Rattle.ycbcr_image.specs.declared.Session.{Session}
use Rattle.ycbcr_image.specs.declared.BitDepth.TheVariants.{Depth8, Depth12}
use Rattle.ycbcr_image.specs.declared.Kind.TheVariants.{Mono, Colour}
use Rattle.ycbcr_image.specs.Form.{Form, form_of}
use Rattle.ycbcr_image.specs.Sizes.{Sequence, sequence_of}
use Rattle.ycbcr_image.specs.Refusals.{accepted}
use Rattle.ycbcr_image.specs.Accepted.{sound}
use Rattle.reader.specs.declared.HeldSets.{HeldSets}
use Rattle.reader.specs.declared.Step.{Step}
use Rattle.reader.specs.Judge.{Held, nothing, Word, sps, pps, picture, refused, possible, counted}
use Rattle.reader.specs.Counted.{says_set, Turned, turn_alike}
use Rattle.reader.specs.Read.{told, told_of, number_told, held_of, rooms, plane_length, Reads}
use Rattle.reelpony.specs.Numbers.{colour_known, depth_known, kind_of, bit_depth_of}
use Rattle.reelpony.specs.Code.{session_in}
use Rattle.reelpony.specs.Reading.{sequence_in, held_in, turn_in, told8, sized8, held8, after8, ReadsIn}

unfoldable pub sized : List ℕ → Bool
sized ws = (leb (get_or ws 2 0) 16384 && leb (get_or ws 3 0) 16384) && (leb (get_or ws 4 0) 1 && (eqb (get_or ws 5 0) 8 || eqb (get_or ws 5 0) 12))

pub sized_as : (ws : List ℕ) → (leb (get_or ws 2 0) 16384 && leb (get_or ws 3 0) 16384) && (leb (get_or ws 4 0) 1 && (eqb (get_or ws 5 0) 8 || eqb (get_or ws 5 0) 12)) ≡ sized ws
unfolding sized
sized_as ws = refl

pub record Sized (ws : List ℕ) : Type 0 where
  pub wide : get_or ws 2 0 ≤ 16384
  pub high : get_or ws 3 0 ≤ 16384
  pub colour : get_or ws 4 0 ≤ 1
  pub depth : (get_or ws 5 0 ≡ 8) ⊎ (get_or ws 5 0 ≡ 12)
  pub depth_most : get_or ws 5 0 ≤ 12

pub sized-has : (ws : List ℕ) → sized ws ≡ true → Sized ws
unfolding sized
sized-has ws e =
    let a = (and-eq-true_iff (leb (get_or ws 2 0) 16384 && leb (get_or ws 3 0) 16384) _).0 e in
    let b = (and-eq-true_iff (leb (get_or ws 2 0) 16384) _).0 a.0 in
    let c = (and-eq-true_iff (leb (get_or ws 4 0) 1) _).0 a.1 in
    let d = one (eqb (get_or ws 5 0) 8) refl c.1 in
    record { wide = leb-true _ _ b.0; high = leb-true _ _ b.1; colour = leb-true _ _ c.0; depth = d; depth_most = most d }
  where
    one : (b : Bool) → eqb (get_or ws 5 0) 8 ≡ b → (b || eqb (get_or ws 5 0) 12) ≡ true → (get_or ws 5 0 ≡ 8) ⊎ (get_or ws 5 0 ≡ 12)
    one true i t = inl (eqb-true _ _ i)
    one false i t = inr (eqb-true _ _ t)

    most : (get_or ws 5 0 ≡ 8) ⊎ (get_or ws 5 0 ≡ 12) → get_or ws 5 0 ≤ 12
    most (inl i) = omega arith
    most (inr i) = omega arith

-- the size and kind that the numbers say
pub session_as : (ws : List ℕ) {k : Kind} {d : BitDepth} → Sized ws → k ≡ kind_of (get_or ws 4 0) → d ≡ bit_depth_of (get_or ws 5 0)
    → sequence_of (record { width = get_or ws 2 0; height = get_or ws 3 0; kind = k; depth = d }) ≡ sequence_in ws
unfolding kind_of bit_depth_of
session_as ws g e f = rw (e, f) (ap (λ (m : Form). record { width = get_or ws 2 0; height = get_or ws 3 0; form = m }) (go (get_or ws 4 0) (get_or ws 5 0) g.colour g.depth))
  where
    go : (c d : ℕ) → c ≤ 1 → (d ≡ 8) ⊎ (d ≡ 12) → form_of (kind_of c) (bit_depth_of d) ≡ record { chroma = c; depth = d }
    go zero d l (inl i) = rw i refl
    go zero d l (inr i) = rw i refl
    go (suc zero) d l (inl i) = rw i refl
    go (suc zero) d l (inr i) = rw i refl
    go (suc (suc c)) d l m = absurd (omega arith)

-- a possible size and kind can be looked at
possible-sized : (ws : List ℕ) → possible (sequence_in ws) ≡ true → sized ws ≡ true
unfolding possible sized
possible-sized ws e =
    let a = (and-eq-true_iff (accepted (sequence_in ws)) _).0 e in
    let g = sound (sequence_in ws) a.0 in
    rw (le-leb (get_or ws 2 0) 16384 g.width-high, le-leb (get_or ws 3 0) 16384 g.height-high) a.1

not_possible : (ws : List ℕ) → (Sized ws → ⊥) → possible (sequence_in ws) ≡ false
not_possible ws z = go (possible (sequence_in ws)) refl
  where
    go : (b : Bool) → possible (sequence_in ws) ≡ b → possible (sequence_in ws) ≡ false
    go true i = absurd (z (sized-has ws (possible-sized ws i)))
    go false i = i

-- what is read off a state's numbers says the same size and kind; nothing is read off numbers that no accepted set gives
pub record SaysSize (ws : List ℕ) (s : Option Session) : Type 0 where
  pub some : IfSome s (λ (t : Session). sequence_of t ≡ sequence_in ws)
  pub none : IsNone s → possible (sequence_in ws) ≡ false

nothing-said : (ws : List ℕ) {s : Option Session} → s ≡ None → (Sized ws → ⊥) → SaysSize ws s
nothing-said ws e z = rw e (record { some = tt; none = λ n. not_possible ws z })

-- one of the four has more than 32 bits
pub says-wide : (ws : List ℕ) {s : Option Session} → s ≡ None → 2 ^ 32 ≤ get_or ws 2 0 → SaysSize ws s
says-wide ws e l = nothing-said ws e (λ g. let w = g.wide in omega arith)

pub says-high : (ws : List ℕ) {s : Option Session} → s ≡ None → 2 ^ 32 ≤ get_or ws 3 0 → SaysSize ws s
says-high ws e l = nothing-said ws e (λ g. let w = g.high in omega arith)

pub says-colour : (ws : List ℕ) {s : Option Session} → s ≡ None → 2 ^ 32 ≤ get_or ws 4 0 → SaysSize ws s
says-colour ws e l = nothing-said ws e (λ g. let w = g.colour in omega arith)

pub says-bits : (ws : List ℕ) {s : Option Session} → s ≡ None → 2 ^ 32 ≤ get_or ws 5 0 → SaysSize ws s
says-bits ws e l = nothing-said ws e (λ g. let w = g.depth_most in omega arith)

-- none has
pub says : (ws : List ℕ) {s : Option Session} → s ≡ session_in (get_or ws 2 0) (get_or ws 3 0) (get_or ws 4 0) (get_or ws 5 0) → SaysSize ws s
unfolding session_in colour_known depth_known kind_of bit_depth_of
says ws e = rw e (go (eqb (get_or ws 4 0) 0) (eqb (get_or ws 4 0) 1) (eqb (get_or ws 5 0) 8) (eqb (get_or ws 5 0) 12) refl refl refl refl)
  where
    said : Bool → Bool → Bool → Bool → Option Session
    said p q a b = cond ((p || q) && (a || b)) (Some (record { width = get_or ws 2 0; height = get_or ws 3 0; kind = cond p Mono Colour; depth = cond a Depth8 Depth12 })) None

    no_colour : eqb (get_or ws 4 0) 0 ≡ false → eqb (get_or ws 4 0) 1 ≡ false → Sized ws → ⊥
    no_colour k m g = let l = g.colour in let u = eqb-false _ _ k in let v = eqb-false _ _ m in omega arith

    no_depth : eqb (get_or ws 5 0) 8 ≡ false → eqb (get_or ws 5 0) 12 ≡ false → Sized ws → ⊥
    no_depth i j g = elim g.depth [ inl e ↦ true≢false (sym (eq-eqb _ _ e) ∙ i) | inr e ↦ true≢false (sym (eq-eqb _ _ e) ∙ j) ]

    go : (p q a b : Bool) → eqb (get_or ws 4 0) 0 ≡ p → eqb (get_or ws 4 0) 1 ≡ q → eqb (get_or ws 5 0) 8 ≡ a → eqb (get_or ws 5 0) 12 ≡ b → SaysSize ws (said p q a b)
    go true q true b k m i j = record { some = rw (eqb-true _ _ k, eqb-true _ _ i) refl; none = λ n. cc }
    go true q false true k m i j = record { some = rw (eqb-true _ _ k, eqb-true _ _ j) refl; none = λ n. cc }
    go true q false false k m i j = nothing-said ws refl (no_depth i j)
    go false true true b k m i j = record { some = rw (eqb-true _ _ m, eqb-true _ _ i) refl; none = λ n. cc }
    go false true false true k m i j = record { some = rw (eqb-true _ _ m, eqb-true _ _ j) refl; none = λ n. cc }
    go false true false false k m i j = nothing-said ws refl (no_depth i j)
    go false false a b k m i j = nothing-said ws refl (no_colour k m)

-- ---- what is held, as it counts

module _ (ws : List ℕ) where
  flags : get_or ws 1 0 ≤ 1 → get_or ws 6 0 ≤ 1 → leb (get_or ws 1 0) 1 && leb (get_or ws 6 0) 1 ≡ true
  flags l m = rw (le-leb (get_or ws 1 0) 1 l, le-leb (get_or ws 6 0) 1 m) refl

  -- a flag is neither 0 nor 1
  pub sets-flags : (get_or ws 1 0 ≤ 1 → get_or ws 6 0 ≤ 1 → ⊥) → {h : Held} → h ≡ nothing → counted h ≡ counted (held_in ws)
  unfolding held_in
  sets-flags z e = rw e (ap counted (rw (go (leb (get_or ws 1 0) 1) (leb (get_or ws 6 0) 1) refl refl) refl))
    where
      go : (a b : Bool) → leb (get_or ws 1 0) 1 ≡ a → leb (get_or ws 6 0) 1 ≡ b → leb (get_or ws 1 0) 1 && leb (get_or ws 6 0) 1 ≡ false
      go true true i j = absurd (z (leb-true _ _ i) (leb-true _ _ j))
      go true false i j = rw (i, j) refl
      go false b i j = rw i refl

  -- no SPS is held
  pub sets-missing : get_or ws 1 0 ≤ 1 → get_or ws 6 0 ≤ 1 → get_or ws 1 0 ≡ 0 → counted (record { sps = none; pps = eqb (get_or ws 6 0) 1 }) ≡ counted (held_in ws)
  unfolding held_in
  sets-missing l m z = ap counted (rw (flags l m, z) refl)

  -- one is held
  has : get_or ws 1 0 ≤ 1 → get_or ws 6 0 ≤ 1 → (get_or ws 1 0 ≡ 0 → ⊥) → record { sps = some (sequence_in ws); pps = eqb (get_or ws 6 0) 1 } ≡ held_in ws
  unfolding held_in
  has l m z =
      let i : get_or ws 1 0 ≡ 1 = omega arith in
      rw (flags l m, i) refl

  -- of a size or kind that none gives
  pub sets-impossible : get_or ws 1 0 ≤ 1 → get_or ws 6 0 ≤ 1 → (get_or ws 1 0 ≡ 0 → ⊥) → possible (sequence_in ws) ≡ false → {h : Held} → h ≡ nothing → counted h ≡ counted (held_in ws)
  unfolding counted
  sets-impossible l m z i e = rw (← has l m z, e, i) refl

  pub sets-unsized : get_or ws 1 0 ≤ 1 → get_or ws 6 0 ≤ 1 → (get_or ws 1 0 ≡ 0 → ⊥) → {b : Bool} → b ≡ sized ws → b ≡ false → {h : Held} → h ≡ nothing → counted h ≡ counted (held_in ws)
  sets-unsized l m z f n e = sets-impossible l m z (by (possible (sequence_in ws)) refl) e
    where
      by : (b : Bool) → possible (sequence_in ws) ≡ b → possible (sequence_in ws) ≡ false
      by true i = absurd (true≢false (sym (possible-sized ws i) ∙ (sym f ∙ n)))
      by false i = i

  pub sets-sized : get_or ws 1 0 ≤ 1 → get_or ws 6 0 ≤ 1 → (get_or ws 1 0 ≡ 0 → ⊥) → {q : Sequence} → q ≡ sequence_in ws
      → counted (record { sps = some q; pps = eqb (get_or ws 6 0) 1 }) ≡ counted (held_in ws)
  sets-sized l m z e = ap counted (rw e (has l m z))

-- ---- the numbers of a state

pub held-missing : (p : ℕ) (h : HeldSets) (z : ℕ) {f : ℕ} → h.sps ≡ None → f ≡ cond h.pps 1 0 → p ∷ 0 ∷ 0 ∷ 0 ∷ 0 ∷ 0 ∷ f ∷ z ∷ [] ≡ held8 p (held_of h) z
unfolding held8
held-missing p h z e f = rw (e, f) refl

pub held-sized : (p : ℕ) (h : HeldSets) (z : ℕ) {f : ℕ} {s : Session} {w : List ℕ} → h.sps ≡ Some s → f ≡ cond h.pps 1 0 → w ≡ sized8 p 1 (sequence_of s) f z → w ≡ held8 p (held_of h) z
unfolding held8
held-sized p h z e f w = w ∙ rw (e, f) refl

-- ---- the call

pub plane_as : (ws : List ℕ) (k : ℕ) (h : Held) {n : ℕ} → counted h ≡ counted (held_in ws) → n ≡ plane_length h k → n ≡ plane_length (held_in ws) k
unfolding plane_length
plane_as ws k h e f = f ∙ rw e refl

-- what is held is looked at only where a parameter set is answered
after_held : (ws : List ℕ) (p m : ℕ) (h k : Held) (a : Say Word) → (says_set a ≡ true → h ≡ k) → after8 ws (told (at p a)) m h ≡ after8 ws (told (at p a)) m k
unfolding at
after_held ws p m h k ended e = refl
after_held ws p m h k (astray o n) e = refl
after_held ws p m h k (said o (sps q)) e = rw (e refl) refl
after_held ws p m h k (said o pps) e = rw (e refl) refl
after_held ws p m h k (said o (picture X)) e = refl
after_held ws p m h k (said o (refused n)) e = refl

pub reads_in : (s ws y cb cr : List ℕ) {h : HeldSets} {t : Step} {n : ℕ} {ws' a y' cb' cr' : List ℕ} → counted (held_of h) ≡ counted (held_in ws)
    → Reads s (record { place = get_or ws 0 0; sets = h }) y cb cr t y' cb' cr'
    → ws' ≡ after8 ws (told_of t.answer) t.reader.place (held_of t.reader.sets) → a ≡ told8 (told_of t.answer) → n ≡ number_told (told_of t.answer)
    → ReadsIn s ws y cb cr n ws' a y' cb' cr'
reads_in s ws y cb cr {h} {t} e g w a n =
    let p = get_or ws 0 0 in
    let u = turn_in s ws y cb cr in
    let l : Turned _ u = turn_alike (rooms y cb cr) (held_of h) (held_in ws) e (drop p s) in
    let i : told_of t.answer ≡ told (at p u.say) = g.answer ∙ ap (λ (x : Say Word). told (at p x)) l.say in
    let m : t.reader.place ≡ p + u.moved = g.place ∙ ap (λ (x : ℕ). p + x) l.moved in
    let k : says_set u.say ≡ true → held_of t.reader.sets ≡ u.held = λ v. g.held ∙ l.held (ap says_set l.say ∙ v) in
    record {
      number = n ∙ ap number_told i;
      answer = a ∙ ap told8 i;
      reader = w ∙ (rw (i, m) refl ∙ after_held ws p (p + u.moved) (held_of t.reader.sets) u.held u.say k);
      in_y = rw (← l.say) g.in_y;
      in_cb = rw (← l.say) g.in_cb;
      in_cr = rw (← l.say) g.in_cr;
    }
