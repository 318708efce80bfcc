-- Reading is exact, and no strict prefix of a sequence parameter set is one.
--     IsSps level p q    the bytes p are the payload of the sequence parameter set of q, a size and kind that is accepted
--     sps-exact          p is read as q exactly if they are; sps-never: p is read as none exactly if they are it of no size and kind
--     sps_one            two accepted sizes with one payload are one size
--     sps-prefix         what would be read of a prefix is read of the whole too, so it would be the whole
-- Assumes nothing.
use Rattle.std.specs.Prelude.{◌≡◌, refl, List, Bool, true, false, cond, ℕ, ◌<◌, eqb, length, take, get_or}
use Rattle.std.proofs.Common.{sym, ap, ◌∙◌, arith, length-take}
use Rattle.std.proofs.Math.Option.{Option, none, some}
use Rattle.std.proofs.Math.Seq.{take-length}
use Rattle.bits.specs.Bits.{bits_of}
use Rattle.ycbcr_image.specs.declared.BitDepth.{BitDepth}
use Rattle.ycbcr_image.specs.declared.BitDepth.TheVariants.{Depth8, Depth12}
use Rattle.ycbcr_image.specs.declared.Kind.{Kind}
use Rattle.ycbcr_image.specs.declared.Kind.TheVariants.{Mono, Colour}
use Rattle.ycbcr_image.specs.declared.Session.{Session}
use Rattle.ycbcr_image.specs.Form.{form_of}
use Rattle.ycbcr_image.specs.Sizes.{Sequence, sequence_of}
use Rattle.ycbcr_image.specs.Refusals.{accepted}
use Rattle.ycbcr_image.proofs.Accepted.{fine}
use Rattle.parameter_sets.specs.Sps.{sps_payload}
use Rattle.parameter_sets.specs.Read.{form_by, form_in, guessed, read_sps, sps-sound, sps_whole, guess_found}

-- two accepted sizes with one payload are one size
pub sps_one : (level : ℕ) (s t : Session) → accepted (sequence_of s) ≡ true → accepted (sequence_of t) ≡ true
    → sps_payload level (sequence_of s) ≡ sps_payload level (sequence_of t) → sequence_of s ≡ sequence_of t
sps_one level s t a b e =
    let x = sps_whole level s a in
    let y = sps_whole level t b in
    let z : some (sequence_of s) ≡ some (sequence_of t) = sym x ∙ (ap (read_sps level) e ∙ y) in
    cc

-- what is read has a form that the code's types can say
pub form-known : (p : List ℕ) → (k : Kind) × (d : BitDepth) × (form_in p ≡ form_of k d)
unfolding form_by
form-known p = go (eqb (get_or p 0 0) 66) (eqb (get_or p 0 0) 100) (eqb (get_or (bits_of p) 25 0) 1)
  where
    go : (a b c : Bool) → (k : Kind) × (d : BitDepth) × (cond a (record { chroma = 1; depth = 8 }) (cond b (record { chroma = 0; depth = 8 }) (cond c (record { chroma = 0; depth = 12 }) (record { chroma = 1; depth = 12 }))) ≡ form_of k d)
    go true b c = (Colour, Depth8, refl)
    go false true c = (Mono, Depth8, refl)
    go false false true = (Mono, Depth12, refl)
    go false false false = (Colour, Depth12, refl)

-- the form that is guessed
pub guessed-form : (p : List ℕ) → (guessed p).form ≡ form_in p
unfolding guessed
guessed-form p = refl

abbrev pub IsSps : ℕ → List ℕ → Sequence → Type 0
IsSps level p q = (s : Session) × (q ≡ sequence_of s) × (accepted q ≡ true) × (p ≡ sps_payload level q)

-- 14 is exact: what is read as a size and kind is its payload, and what is its payload is read as it
pub sps-exact : (level : ℕ) (p : List ℕ) (q : Sequence) → (read_sps level p ≡ some q → IsSps level p q) × (IsSps level p q → read_sps level p ≡ some q)
sps-exact level p q = (is, read)
  where
    is : read_sps level p ≡ some q → IsSps level p q
    is e =
        let f = form-known p in
        let r = sps-sound level p q e in
        let k : q.form ≡ form_of f.0 f.1 = ap (λ (i : Sequence). i.form) (sym r.2) ∙ (guessed-form p ∙ f.2) in
        let m : q ≡ sequence_of (record { width = q.width; height = q.height; kind = f.0; depth = f.1 }) = rw (← k) refl in
        (record { width = q.width; height = q.height; kind = f.0; depth = f.1 }, m, r.0, r.1)

    read : IsSps level p q → read_sps level p ≡ some q
    read w =
        let t : accepted (sequence_of w.0) ≡ true = sym (ap accepted w.1) ∙ w.2 in
        ap (read_sps level) (w.3 ∙ ap (sps_payload level) w.1) ∙ (sps_whole level w.0 t ∙ ap some (sym w.1))

-- and what is none is no size's
pub sps-never : (level : ℕ) (p : List ℕ) → (read_sps level p ≡ none → (q : Sequence) → IsSps level p q → ⊥) × (((q : Sequence) → IsSps level p q → ⊥) → read_sps level p ≡ none)
sps-never level p = (never, λ n. by (read_sps level p) refl n)
  where
    never : read_sps level p ≡ none → (q : Sequence) → IsSps level p q → ⊥
    never e q w =
        let r : none ≡ some q = sym e ∙ (sps-exact level p q).1 w in
        let z : ◌≡◌ {A = ℕ} 0 1 = cc in
        omega arith

    by : (o : Option Sequence) → read_sps level p ≡ o → ((q : Sequence) → IsSps level p q → ⊥) → read_sps level p ≡ none
    by none e n = e
    by (some q) e n = absurd (n q ((sps-exact level p q).0 e))

-- no strict prefix of a form is a form
pub sps-prefix : (level : ℕ) (s : Session) (j : ℕ) → accepted (sequence_of s) ≡ true → j < length (sps_payload level (sequence_of s))
    → read_sps level (take j (sps_payload level (sequence_of s))) ≡ none
sps-prefix level s j t l = go (read_sps level (take j p)) refl
  where
    p : List ℕ
    p = sps_payload level (sequence_of s)

    clash : (q : Sequence) → read_sps level (take j p) ≡ some q → ⊥
    clash q e =
        let f = form-known (take j p) in
        let r = sps-sound level (take j p) q e in
        let k : q.form ≡ form_of f.0 f.1 = ap (λ (i : Sequence). i.form) (sym r.2) ∙ (guessed-form (take j p) ∙ f.2) in
        let i : Sequence = record { width = q.width; height = q.height; form = form_of f.0 f.1 } in
        let m : q ≡ i = rw (← k) refl in
        let a : accepted i ≡ true = rw m at r.0 in
        let b : take j p ≡ sps_payload level i = rw m at r.1 in
        let x = guess_found level f.0 f.1 q.width q.height (fine (record { width = q.width; height = q.height; kind = f.0; depth = f.1 }) a) p j b in
        let y = guess_found level s.kind s.depth s.width s.height (fine s t) p (length p) (take-length p) in
        let z : take j p ≡ p = b ∙ ap (sps_payload level) (sym x ∙ y) in
        omega (arith, ap length z, length-take j p)

    go : (o : Option Sequence) → read_sps level (take j p) ≡ o → read_sps level (take j p) ≡ none
    go none e = e
    go (some q) e = absurd (clash q e)
