-- 17 and 18 are exact: a picture's payload is refused with neither exactly if it is the payload of some planes, lent whole.
--     IsPicture q X     X is the payload of some planes of bytes, lent whole
--     picture_exact     so of each payload of bytes, whatever planes are lent to the reader
--     Holds h q         both parameter sets are held, and they say q
--     unit-exact        so a picture's unit is answered with its samples, where both sets are held and the planes lent are long enough, and no other is
-- Assumes nothing.
use Rattle.std.specs.Prelude.{◌≡◌, List, [], ◌∷◌, Bool, cond, ◌||◌, ◌↔◌, ◌⊎◌, ℕ, zero, suc, ◌≤◌, ◌<◌, leb, eqb}
use Rattle.std.proofs.Math.Path.{refl, ap}
use Rattle.std.proofs.Common.{sym, ◌∙◌, inl, inr, arith}
use Rattle.std.proofs.Math.Bool.{true, false, and-eq-true_iff}
use Rattle.std.proofs.Math.Option.{Option, none, some, some-injective}
use Rattle.std.proofs.Math.Dec.{ltb}
use Rattle.std.proofs.Math.ListN.{length}
use borrow.Author.Tests.{ltb-false, le-ltb, leb-true, eqb-true, not-false}
use Rattle.lists.specs.Every.{Below, below_cons, below_head, below_tail}
use Rattle.lists.specs.Test.{or_left, or_right}
use Rattle.nal_unit.specs.Calls.{Verdict}
use Rattle.nal_unit.specs.Unescape as U
use Rattle.nal_unit.specs.Unescape.{un, un_from, inserted, fault}
use Rattle.slice.specs.Header.{header_of}
use Rattle.slice.specs.Formed.{right}
use Rattle.slice.specs.Picture.{Lends, mbs_in, picture_of, picture_length, Whole, picture_length_lem, picture_right}
use Rattle.slice.specs.Exact.{Bytes, picture_sound}
use Rattle.ycbcr_image.specs.declared.BitDepth.{BitDepth}
use Rattle.ycbcr_image.specs.declared.BitDepth.TheVariants.{Depth8, Depth12}
use Rattle.ycbcr_image.specs.declared.Kind.{Kind}
use Rattle.ycbcr_image.specs.declared.Kind.TheVariants.{Mono, Colour}
use Rattle.ycbcr_image.specs.Form.{mb_bytes}
use Rattle.ycbcr_image.specs.Sizes.{Sequence, sequence_of}
use Rattle.ycbcr_image.specs.Refusals.{accepted}
use Rattle.ycbcr_image.specs.Accepted.{Fine}
use Rattle.ycbcr_image.proofs.Accepted.{fine}
use Rattle.reader.specs.Judge.{Held, nothing, Word, sps, pps, picture, refused, possible, counted, keep, short, samples_of, formless, picture_verdict, held_verdict, unit_verdict, judge}

abbrev pub IsPicture : Sequence → List ℕ → Type 0
IsPicture q X = (L : Lends) × Whole q L × Bytes q L × (X ≡ picture_of q L)

-- the number of a refusal, 0 for all else
abbrev number : Word → ℕ
number (sps q) = 0
number pps = 0
number (picture X) = 0
number (refused n) = n

module _ (q : Sequence) (X : List ℕ) (g : Fine q) (b : Below 256 X) where
  -- the tests of 17 and 18
  record Passes : Type 0 where
    long : ltb (length X) (picture_length q) ≡ false
    formed : formless q X ≡ false

  sound : Passes → IsPicture q X
  unfolding formless
  sound p =
      let l = ltb-false (length X) (picture_length q) p.long in
      let m = ltb-false (picture_length q) (length X) (or_left _ _ p.formed) in
      picture_sound q X g b (omega arith) (not-false _ (or_right (ltb (picture_length q) (length X)) _ p.formed))

  whole : IsPicture q X → Passes
  unfolding formless
  whole (L, w, c, e) =
      let l : length X ≡ picture_length q = ap length e ∙ picture_length_lem q L g w in
      let t : right (header_of 0 0) (mb_bytes q.form) (mbs_in q) X ≡ true = rw e (picture_right q L g w) in
      record {
        long = le-ltb (length X) (picture_length q) (omega arith);
        formed = rw (le-ltb (picture_length q) (length X) (omega arith), t) refl;
      }

  module _ (room : ℕ → ℕ) (h : Held) where
    -- what passes them is answered with 19 or with its samples
    answered : Passes → picture_verdict room h q X ≡ cond (short room q) (record { word = refused 19; held = h; stay = true }) (keep h (picture (samples_of q X)))
    unfolding picture_verdict
    answered p = rw (p.long, p.formed) refl

    -- a payload of bytes is refused with neither 17 nor 18 exactly if it is a picture
    pub picture_exact : (((picture_verdict room h q X).word ≡ refused 17 → ⊥) × ((picture_verdict room h q X).word ≡ refused 18 → ⊥)) ↔ IsPicture q X
    unfolding picture_verdict
    picture_exact =
        (λ n. sound (passed n (ltb (length X) (picture_length q)) (formless q X) refl refl), λ p. (other 17 (whole p) (omega arith) (omega arith), other 18 (whole p) (omega arith) (omega arith)))
      where
        passed : (((picture_verdict room h q X).word ≡ refused 17 → ⊥) × ((picture_verdict room h q X).word ≡ refused 18 → ⊥)) → (s t : Bool)
            → ltb (length X) (picture_length q) ≡ s → formless q X ≡ t → Passes
        passed n true t x y = absurd (n.0 (rw x refl))
        passed n false true x y = absurd (n.1 (rw (x, y) refl))
        passed n false false x y = record { long = x; formed = y }

        other : (k : ℕ) → Passes → 0 < k → k < 19 → (picture_verdict room h q X).word ≡ refused k → ⊥
        other k p l m e = by (short room q) (ap (λ (v : Verdict Held Word). v.word) (sym (answered p)) ∙ e)
          where
            by : (s : Bool) → (cond s (record { word = refused 19; held = h; stay = true }) (keep h (picture (samples_of q X)))).word ≡ refused k → ⊥
            by true z = let n : 19 ≡ k = ap number z in omega arith
            by false z = let n : 0 ≡ k = ap number z in omega arith

-- ---- a picture's unit

-- a possible size and kind passes 1 to 5
abbrev sized : Sequence → ℕ → ℕ → Sequence
sized q c d = record { width = q.width; height = q.height; form = record { chroma = c; depth = d } }

known-depth : (d : ℕ) (b : Bool) → eqb d 8 ≡ b → (eqb d 8 || eqb d 12) ≡ true → (d ≡ 8) ⊎ (d ≡ 12)
known-depth d true e t = inl (eqb-true d 8 e)
known-depth d false e t = inr (eqb-true d 12 (rw e at t))

possible-fine : (q : Sequence) → possible q ≡ true → Fine q
unfolding possible
possible-fine q t =
    let a = (and-eq-true_iff (accepted q) _).0 t in
    let c = (and-eq-true_iff (leb q.form.chroma 1) _).0 a.1 in
    go q.form.chroma q.form.depth a.0 (leb-true q.form.chroma 1 c.0) (known-depth q.form.depth (eqb q.form.depth 8) refl c.1)
  where
    of : (k : Kind) (d : BitDepth) → accepted (sequence_of (record { width = q.width; height = q.height; kind = k; depth = d })) ≡ true
        → Fine (sequence_of (record { width = q.width; height = q.height; kind = k; depth = d }))
    of k d = fine (record { width = q.width; height = q.height; kind = k; depth = d })

    go : (c d : ℕ) → accepted (sized q c d) ≡ true → c ≤ 1 → (d ≡ 8) ⊎ (d ≡ 12) → Fine (sized q c d)
    go zero d t l (inl e) = rw e (of Mono Depth8 (rw e at t))
    go zero d t l (inr e) = rw e (of Mono Depth12 (rw e at t))
    go (suc zero) d t l (inl e) = rw e (of Colour Depth8 (rw e at t))
    go (suc zero) d t l (inr e) = rw e (of Colour Depth12 (rw e at t))
    go (suc (suc c)) d t l e = absurd (omega arith)

-- what counts is possible
counted-possible : (h : Held) (q : Sequence) → (counted h).sps ≡ some q → possible q ≡ true
unfolding counted
counted-possible h q e = go h.sps refl
  where
    by : (p : Sequence) (b : Bool) → possible p ≡ b → h.sps ≡ some p → (cond b h nothing).sps ≡ some q → possible q ≡ true
    by p true t i k = let z : p ≡ q = some-injective _ _ (sym i ∙ k) in rw (← z) t
    by p false t i k = cc

    go : (m : Option Sequence) → h.sps ≡ m → possible q ≡ true
    go none i =
        let k : counted h ≡ h = rw i refl in
        let z : none ≡ some q = sym i ∙ (ap (λ (k : Held). k.sps) (sym k) ∙ e) in
        cc
    go (some p) i =
        let k : counted h ≡ cond (possible p) h nothing = rw i refl in
        by p (possible p) refl i (rw k at e)

pub record Holds (h : Held) (q : Sequence) : Type 0 where
  pub sps : (counted h).sps ≡ some q
  pub pps : (counted h).pps ≡ true

unit_is : (room : ℕ → ℕ) (h : Held) (q : Sequence) (t : List ℕ) → Holds h q → fault (0x25 ∷ t) ≡ false → judge room h (0x25 ∷ t) ≡ picture_verdict room h q (un t)
unfolding judge unit_verdict held_verdict
unit_is room h q t k f = rw (f, k.sps, k.pps) refl

-- unescaped bytes are bytes
un_below : (z : ℕ) (xs : List ℕ) → Below 256 xs → Below 256 (un_from z xs)
unfolding un_from
un_below z [] b = b
un_below z (x ∷ xs) b = by (inserted z x) (un_below 0 xs (below_tail b)) (below_cons (below_head b) (un_below (U.counted z x) xs (below_tail b)))
  where
    by : (s : Bool) {xs ys : List ℕ} → Below 256 xs → Below 256 ys → Below 256 (cond s xs ys)
    by true c d = c
    by false c d = d

-- A picture's unit of bytes that 12 does not refuse, where both sets are held and the planes lent are long enough, is answered with its samples exactly if
-- its payload is that of some planes, lent whole.
pub unit-exact : (room : ℕ → ℕ) (h : Held) (q : Sequence) (t : List ℕ) → Holds h q → Below 256 t → fault (0x25 ∷ t) ≡ false → short room q ≡ false
    → (judge room h (0x25 ∷ t) ≡ keep h (picture (samples_of q (un t)))) ↔ IsPicture q (un t)
unit-exact room h q t k b f s = (
  λ e. (picture_exact q (un t) g c room h).0 (λ z. other 17 e (omega arith) z, λ z. other 18 e (omega arith) z),
  λ p. unit_is room h q t k f ∙ (answered q (un t) g c room h (whole q (un t) g c p) ∙ rw s refl),
)
  where
    g : Fine q
    g = possible-fine q (counted-possible h q k.sps)

    c : Below 256 (un t)
    c = un_below 0 t b

    other : (n : ℕ) → judge room h (0x25 ∷ t) ≡ keep h (picture (samples_of q (un t))) → 0 < n → (picture_verdict room h q (un t)).word ≡ refused n → ⊥
    other n e l z =
        let y : 0 ≡ n = ap number (ap (λ (v : Verdict Held Word). v.word) (sym e ∙ unit_is room h q t k f) ∙ z) in
        omega arith
