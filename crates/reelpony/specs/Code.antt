-- Laws of the exported calls that their code cites.
--     kind_in, depth_in   the kind and the depth that a number says, if any
--     form_in             the kind and the depths that the four numbers of a call say, if they can be looked at; of mono Y's depth stands for the others
--     session_in          the session that a size, a colour and a number of bits say, if they do
--     Same                since of mono the depths of Cb and Cr are not looked at
-- Assumes nothing.
use Rattle.std.specs.Prelude.{◌≡◌, refl, Option, Some, None, List, [], ◌∷◌, Bool, true, false, cond, ◌&&◌, ◌||◌, ℕ, eqb, get_or}
use Rattle.std.proofs.Common.{ap, ◌∙◌}
use Rattle.ycbcr_image.specs.declared.BitDepth.{BitDepth}
use Rattle.ycbcr_image.specs.declared.Kind.{Kind}
use Rattle.ycbcr_image.specs.declared.BitDepth.TheVariants.{Depth8}
use Rattle.ycbcr_image.specs.declared.Kind.TheVariants.{Mono, Colour}
use Rattle.ycbcr_image.specs.declared.Session.{Session}
use Rattle.ycbcr_image.specs.Form.{chroma_of, depth_of, mono}
use Rattle.ycbcr_image.specs.Sizes.{Sequence, sequence_of}
use Rattle.ycbcr_image.specs.Refusals.{refusal_of, refusal_next, first, shape_refusal, depths_bad, planes_refusal}
use Rattle.slice.specs.declared.Strides.{Strides}
use Rattle.encoder.specs.declared.Depths.{Depths}
use Rattle.encoder.specs.Shot.{Shot, shot, image_of}
use Rattle.encoder.specs.Answers.{Encoded, number_of, length_of, start_of, start_out, next_of, next_out}
use Rattle.reelpony.specs.Numbers.{colour_known, depth_known, known, kind_of, bit_depth_of, depths_of, PictureIn, known_in, shot_in, held_of, words_of, words_after, start_number, start_length, start_buffer, start_words, next_number, next_length, next_buffer, StartsIn, NextsIn}

abbrev pub depths : BitDepth → BitDepth → BitDepth → Depths
depths a b c = record { y = a; cb = b; cr = c }

abbrev pub session : ℕ → ℕ → Kind → BitDepth → Session
session w h k d = record { width = w; height = h; kind = k; depth = d }

-- the tests of the parts are the test of all
pub known_as : (c y cb cr : ℕ) {a b e f : Bool} → a ≡ colour_known c → b ≡ depth_known y → e ≡ depth_known cb → f ≡ depth_known cr → a && (b && (eqb c 0 || (e && f))) ≡ known c y cb cr
unfolding known
known_as c y cb cr p q r s = rw (p, q, r, s) refl

pub depths_as : (y cb cr : ℕ) {a b c : BitDepth} → a ≡ bit_depth_of y → b ≡ bit_depth_of cb → c ≡ bit_depth_of cr → depths a b c ≡ depths_of y cb cr
depths_as y cb cr p q r = rw (p, q, r) refl

abbrev pub kind_in : ℕ → Option Kind
kind_in c = cond (colour_known c) (Some (kind_of c)) None

abbrev pub depth_in : ℕ → Option BitDepth
depth_in d = cond (depth_known d) (Some (bit_depth_of d)) None

abbrev pub looked : ℕ → ℕ → ℕ → ℕ → Depths
looked c y cb cr = cond (eqb c 0) (depths_of y y y) (depths_of y cb cr)

unfoldable pub form_in : ℕ → ℕ → ℕ → ℕ → Option (Kind × Depths)
form_in c y cb cr = cond (known c y cb cr) (Some (kind_of c, looked c y cb cr)) None

unfoldable pub session_in : ℕ → ℕ → ℕ → ℕ → Option Session
session_in w h c d = cond (colour_known c && depth_known d) (Some (session w h (kind_of c) (bit_depth_of d))) None

-- ---- what a number says

record Said {A : Type 0} (b : Bool) (x y : A) : Type 0 where
  holds : b ≡ true
  value : y ≡ x

said : {A : Type 0} (b : Bool) {x y : A} → cond b (Some x) None ≡ Some y → Said b x y
said true {x} {y} e = record { holds = refl; value = cc }
said false e = cc

unsaid : {A : Type 0} (b : Bool) (x : A) → cond b (Some x) None ≡ None → b ≡ false
unsaid true x e = cc
unsaid false x e = refl

is_mono : (c : ℕ) → Mono ≡ kind_of c → eqb c 0 ≡ true
unfolding kind_of
is_mono c e = go (eqb c 0) refl
  where
    go : (b : Bool) → eqb c 0 ≡ b → eqb c 0 ≡ true
    go true i = i
    go false i = let f : Mono ≡ Colour = rw i at e in cc

is_colour : (c : ℕ) → Colour ≡ kind_of c → eqb c 0 ≡ false
unfolding kind_of
is_colour c e = go (eqb c 0) refl
  where
    go : (b : Bool) → eqb c 0 ≡ b → eqb c 0 ≡ false
    go true i = let f : Colour ≡ Mono = rw i at e in cc
    go false i = i

-- ---- what the numbers of a call say, by the tests that the code makes

pub unformed-colour : (c y cb cr : ℕ) → kind_in c ≡ None → None ≡ form_in c y cb cr
unfolding form_in known
unformed-colour c y cb cr e = rw (unsaid (colour_known c) (kind_of c) e) refl

pub unformed-luma : (c y cb cr : ℕ) → depth_in y ≡ None → None ≡ form_in c y cb cr
unfolding form_in known
unformed-luma c y cb cr e = rw (unsaid (depth_known y) (bit_depth_of y) e) (go (colour_known c))
  where
    go : (b : Bool) → ◌≡◌ {A = Option (Kind × Depths)} None (cond (b && false) (Some (kind_of c, looked c y cb cr)) None)
    go true = refl
    go false = refl

pub unformed-cb : (c y cb cr : ℕ) → kind_in c ≡ Some Colour → depth_in cb ≡ None → None ≡ form_in c y cb cr
unfolding form_in known
unformed-cb c y cb cr k e =
    let s = said (colour_known c) k in
    rw (s.holds, is_colour c s.value, unsaid (depth_known cb) (bit_depth_of cb) e) (go (depth_known y))
  where
    go : (b : Bool) → ◌≡◌ {A = Option (Kind × Depths)} None (cond (b && false) (Some (kind_of c, depths_of y cb cr)) None)
    go true = refl
    go false = refl

pub unformed-cr : (c y cb cr : ℕ) → kind_in c ≡ Some Colour → depth_in cr ≡ None → None ≡ form_in c y cb cr
unfolding form_in known
unformed-cr c y cb cr k e =
    let s = said (colour_known c) k in
    rw (s.holds, is_colour c s.value, unsaid (depth_known cr) (bit_depth_of cr) e) (go (depth_known y) (depth_known cb))
  where
    go : (b a : Bool) → ◌≡◌ {A = Option (Kind × Depths)} None (cond (b && (a && false)) (Some (kind_of c, depths_of y cb cr)) None)
    go true true = refl
    go true false = refl
    go false a = refl

pub formed-mono : (c y cb cr : ℕ) {a : BitDepth} → kind_in c ≡ Some Mono → depth_in y ≡ Some a → Some (Mono, depths a a a) ≡ form_in c y cb cr
unfolding form_in known
formed-mono c y cb cr k e =
    let s = said (colour_known c) k in
    let d = said (depth_known y) e in
    rw (s.holds, is_mono c s.value, d.holds, ← s.value, d.value) refl

pub formed-colour : (c y cb cr : ℕ) {a b e : BitDepth} → kind_in c ≡ Some Colour → depth_in y ≡ Some a → depth_in cb ≡ Some b → depth_in cr ≡ Some e
    → Some (Colour, depths a b e) ≡ form_in c y cb cr
unfolding form_in known
formed-colour c y cb cr k p q r =
    let s = said (colour_known c) k in
    let d = said (depth_known y) p in
    let f = said (depth_known cb) q in
    let g = said (depth_known cr) r in
    rw (s.holds, is_colour c s.value, d.holds, f.holds, g.holds, ← s.value, d.value, f.value, g.value) refl

-- the session of four numbers, by the same tests
pub session-colour : (w h c d : ℕ) → kind_in c ≡ None → None ≡ session_in w h c d
unfolding session_in
session-colour w h c d e = rw (unsaid (colour_known c) (kind_of c) e) refl

pub session-depth : (w h c d : ℕ) → depth_in d ≡ None → None ≡ session_in w h c d
unfolding session_in
session-depth w h c d e = rw (unsaid (depth_known d) (bit_depth_of d) e) (go (colour_known c))
  where
    go : (b : Bool) → None ≡ cond (b && false) (Some (session w h (kind_of c) (bit_depth_of d))) None
    go true = refl
    go false = refl

pub session-said : (w h c d : ℕ) {k : Kind} {b : BitDepth} → kind_in c ≡ Some k → depth_in d ≡ Some b → Some (session w h k b) ≡ session_in w h c d
unfolding session_in
session-said w h c d k e =
    let s = said (colour_known c) k in
    let d = said (depth_known d) e in
    rw (s.holds, d.holds, s.value, d.value) refl

-- the session that eight numbers say, and that they say none
pub held_as : (ws : List ℕ) {a b : Bool} {k : Kind} {d : BitDepth} → a ≡ colour_known (get_or ws 2 0) → b ≡ depth_known (get_or ws 3 0) → a && b ≡ true → k ≡ kind_of (get_or ws 2 0) → d ≡ bit_depth_of (get_or ws 3 0)
    → session (get_or ws 0 0) (get_or ws 1 0) k d ≡ held_of ws
unfolding held_of
held_as ws p q t r s = rw (← p, ← q, t, r, s) refl

pub held_none : (ws : List ℕ) {a b : Bool} → a ≡ colour_known (get_or ws 2 0) → b ≡ depth_known (get_or ws 3 0) → a && b ≡ false → session 0 0 Mono Depth8 ≡ held_of ws
unfolding held_of
held_none ws p q t = rw (← p, ← q, t) refl

-- by the session of four numbers
pub held_said : (ws : List ℕ) {s : Session} → session_in (get_or ws 0 0) (get_or ws 1 0) (get_or ws 2 0) (get_or ws 3 0) ≡ Some s → s ≡ held_of ws
unfolding session_in
held_said ws e = let s = said (colour_known (get_or ws 2 0) && depth_known (get_or ws 3 0)) e in s.value ∙ held_as ws refl refl s.holds refl refl

pub held_unsaid : (ws : List ℕ) → session_in (get_or ws 0 0) (get_or ws 1 0) (get_or ws 2 0) (get_or ws 3 0) ≡ None → session 0 0 Mono Depth8 ≡ held_of ws
unfolding session_in
held_unsaid ws e = held_none ws refl refl (unsaid (colour_known (get_or ws 2 0) && depth_known (get_or ws 3 0)) (session (get_or ws 0 0) (get_or ws 1 0) (kind_of (get_or ws 2 0)) (bit_depth_of (get_or ws 3 0))) e)

-- the eight numbers of a session
pub words_as : (s : Session) {c d : ℕ} → c ≡ chroma_of s.kind → d ≡ depth_of s.depth → s.width ∷ s.height ∷ c ∷ d ∷ 0 ∷ 0 ∷ 0 ∷ 0 ∷ [] ≡ words_of s
unfolding words_of
words_as s e f = rw (e, f) refl

-- the strides of a picture's planes, and the picture as the writer's call has it
abbrev pub strides : PictureIn → Strides
strides p = record { y = p.y.stride; cb = p.cb.stride; cr = p.cr.stride }

abbrev pub shot_with : PictureIn → Kind → Depths → Shot
shot_with p k ds = shot p.width p.height k p.y.bytes p.cb.bytes p.cr.bytes (strides p) ds

-- ---- of mono the depths of Cb and Cr are not looked at

refusal-mono : (w h : ℕ) (y cb cr : List ℕ) (t : Strides) (d e : Depths) → d.y ≡ e.y → refusal_of (image_of (shot w h Mono y cb cr t d)) ≡ refusal_of (image_of (shot w h Mono y cb cr t e))
unfolding refusal_of first shape_refusal depths_bad planes_refusal mono
refusal-mono w h y cb cr t d e p = rw p refl

refusal_next-mono : (s : Sequence) (w h : ℕ) (y cb cr : List ℕ) (t : Strides) (d e : Depths) → d.y ≡ e.y
    → refusal_next s (image_of (shot w h Mono y cb cr t d)) ≡ refusal_next s (image_of (shot w h Mono y cb cr t e))
unfolding refusal_next first shape_refusal depths_bad planes_refusal mono
refusal_next-mono s w h y cb cr t d e p = rw p refl

-- the picture of a call, as the writer is given it and as its numbers say it, to a start call and to a next call
pub record Same (p q : Shot) : Type 0 where
  pub start : (d : List ℕ) → start_of p d ≡ start_of q d
  pub out : (d : List ℕ) → start_out p d ≡ start_out q d
  pub next : (s : Session) (d : List ℕ) → next_of s p d ≡ next_of s q d
  pub next_out : (s : Session) (d : List ℕ) → next_out s p d ≡ next_out s q d

same-mono : (w h : ℕ) (y cb cr : List ℕ) (t : Strides) (d e : Depths) → d.y ≡ e.y → Same (shot w h Mono y cb cr t d) (shot w h Mono y cb cr t e)
unfolding start_of start_out next_of next_out
same-mono w h y cb cr t d e p =
    record {
      start = λ o. rw (refusal-mono w h y cb cr t d e p, p) refl;
      out = λ o. rw (refusal-mono w h y cb cr t d e p, p) refl;
      next = λ s o. rw (refusal_next-mono (sequence_of s) w h y cb cr t d e p, p) refl;
      next_out = λ s o. rw (refusal_next-mono (sequence_of s) w h y cb cr t d e p, p) refl;
    }

same-looked : (p : PictureIn) → Same (shot_with p (kind_of p.colour) (looked p.colour p.y.depth p.cb.depth p.cr.depth)) (shot_in p)
unfolding kind_of
same-looked p = go (eqb p.colour 0) refl
  where
    go : (b : Bool) → eqb p.colour 0 ≡ b → Same (shot_with p (kind_of p.colour) (looked p.colour p.y.depth p.cb.depth p.cr.depth)) (shot_in p)
    go true e = rw e (same-mono p.width p.height p.y.bytes p.cb.bytes p.cr.bytes (strides p) (depths_of p.y.depth p.y.depth p.y.depth) (depths_of p.y.depth p.cb.depth p.cr.depth) refl)
    go false e = rw e (record { start = λ o. refl; out = λ o. refl; next = λ s o. refl; next_out = λ s o. refl })

-- ---- the calls

-- the numbers can be looked at, and what they say
pub record Formed (c y cb cr : ℕ) (k : Kind) (ds : Depths) : Type 0 where
  pub is_known : known c y cb cr ≡ true
  pub kind : k ≡ kind_of c
  pub depths : ds ≡ looked c y cb cr

pub is_formed : (c y cb cr : ℕ) {k : Kind} {ds : Depths} → Some (k, ds) ≡ form_in c y cb cr → Formed c y cb cr k ds
unfolding form_in
is_formed c y cb cr {k} {ds} e = go (known c y cb cr) refl
  where
    kind_or : Option (Kind × Depths) → Kind
    kind_or (Some r) = r.0
    kind_or None = k

    depths_or : Option (Kind × Depths) → Depths
    depths_or (Some r) = r.1
    depths_or None = ds

    go : (b : Bool) → known c y cb cr ≡ b → Formed c y cb cr k ds
    go true i =
        let f : ◌≡◌ {A = Option (Kind × Depths)} (Some (k, ds)) (Some (kind_of c, looked c y cb cr)) = rw i at e in
        record { is_known = i; kind = ap kind_or f; depths = ap depths_or f }
    go false i = let f : ◌≡◌ {A = Option (Kind × Depths)} (Some (k, ds)) None = rw i at e in cc

pub is_unknown : (c y cb cr : ℕ) → None ≡ form_in c y cb cr → known c y cb cr ≡ false
unfolding form_in
is_unknown c y cb cr e = go (known c y cb cr) refl
  where
    go : (b : Bool) → known c y cb cr ≡ b → known c y cb cr ≡ false
    go true i = let f : ◌≡◌ {A = Option (Kind × Depths)} None (Some (kind_of c, looked c y cb cr)) = rw i at e in cc
    go false i = i

same-formed : (p : PictureIn) {k : Kind} {ds : Depths} → Formed p.colour p.y.depth p.cb.depth p.cr.depth k ds → Same (shot_with p k ds) (shot_in p)
same-formed p f = rw (f.kind, f.depths) (same-looked p)

-- what a call answers and leaves where its numbers are not known
pub start_unknown : (p : PictureIn) (d ws : List ℕ) {a : Bool} → a ≡ known_in p → a ≡ false → StartsIn p d ws 99 0 d ws
unfolding start_number start_length start_buffer start_words
start_unknown p d ws f e = record { number = rw (← f, e) refl; len = rw (← f, e) refl; bytes = rw (← f, e) refl; session = rw (← f, e) refl }

pub next_unknown : (p : PictureIn) (d ws : List ℕ) {a : Bool} → a ≡ known_in p → a ≡ false → NextsIn p d ws 99 0 d ws
unfolding next_number next_length next_buffer
next_unknown p d ws f e = record { number = rw (← f, e) refl; len = rw (← f, e) refl; bytes = rw (← f, e) refl; session = refl }

-- they are, and the writer's answer is r
pub start_known : (p : PictureIn) (d ws : List ℕ) {a : Bool} {k : Kind} {ds : Depths} {r : Encoded} {d' ws' : List ℕ} {n l : ℕ} → a ≡ known_in p → a ≡ true
    → k ≡ kind_of p.colour → ds ≡ depths_of p.y.depth p.cb.depth p.cr.depth
    → r ≡ start_of (shot_with p k ds) d → d' ≡ start_out (shot_with p k ds) d → ws' ≡ words_after r ws → l ≡ length_of r → n ≡ number_of r → StartsIn p d ws n l d' ws'
unfolding start_number start_length start_buffer start_words
start_known p d ws f e k ds r o u l n =
    record {
      number = rw (← f, e) (n ∙ ap number_of (rw (k, ds) at r));
      len = rw (← f, e) (l ∙ ap length_of (rw (k, ds) at r));
      bytes = rw (← f, e) (rw (k, ds) at o);
      session = rw (← f, e) (u ∙ ap (λ (x : Encoded). words_after x ws) (rw (k, ds) at r));
    }

pub next_known : (p : PictureIn) (d ws : List ℕ) {a : Bool} {k : Kind} {ds : Depths} {s : Session} {r : Encoded} {d' : List ℕ} {n l : ℕ} → a ≡ known_in p → a ≡ true
    → k ≡ kind_of p.colour → ds ≡ depths_of p.y.depth p.cb.depth p.cr.depth → s ≡ held_of ws
    → r ≡ next_of s (shot_with p k ds) d → d' ≡ next_out s (shot_with p k ds) d → l ≡ length_of r → n ≡ number_of r → NextsIn p d ws n l d' ws
unfolding next_number next_length next_buffer
next_known p d ws f e k ds s r o l n =
    record {
      number = rw (← f, e) (n ∙ ap number_of (rw (k, ds, s) at r));
      len = rw (← f, e) (l ∙ ap length_of (rw (k, ds, s) at r));
      bytes = rw (← f, e) (rw (k, ds, s) at o);
      session = refl;
    }

-- the same by what the four numbers of the call say
pub start_unformed : (p : PictureIn) (d ws : List ℕ) → None ≡ form_in p.colour p.y.depth p.cb.depth p.cr.depth → StartsIn p d ws 99 0 d ws
start_unformed p d ws e = start_unknown p d ws refl (is_unknown p.colour p.y.depth p.cb.depth p.cr.depth e)

pub next_unformed : (p : PictureIn) (d ws : List ℕ) → None ≡ form_in p.colour p.y.depth p.cb.depth p.cr.depth → NextsIn p d ws 99 0 d ws
next_unformed p d ws e = next_unknown p d ws refl (is_unknown p.colour p.y.depth p.cb.depth p.cr.depth e)

pub start_formed : (p : PictureIn) (d ws : List ℕ) {k : Kind} {ds : Depths} {r : Encoded} {d' ws' : List ℕ} {n l : ℕ} → Some (k, ds) ≡ form_in p.colour p.y.depth p.cb.depth p.cr.depth
    → r ≡ start_of (shot_with p k ds) d → d' ≡ start_out (shot_with p k ds) d → ws' ≡ words_after r ws → l ≡ length_of r → n ≡ number_of r → StartsIn p d ws n l d' ws'
start_formed p d ws e r o u l n =
    let f = is_formed p.colour p.y.depth p.cb.depth p.cr.depth e in
    let m = same-formed p f in
    start_known p d ws {k = kind_of p.colour} {ds = depths_of p.y.depth p.cb.depth p.cr.depth} refl f.is_known refl refl (r ∙ m.start d) (o ∙ m.out d) u l n

pub next_formed : (p : PictureIn) (d ws : List ℕ) {k : Kind} {ds : Depths} {s : Session} {r : Encoded} {d' : List ℕ} {n l : ℕ} → Some (k, ds) ≡ form_in p.colour p.y.depth p.cb.depth p.cr.depth
    → s ≡ held_of ws → r ≡ next_of s (shot_with p k ds) d → d' ≡ next_out s (shot_with p k ds) d → l ≡ length_of r → n ≡ number_of r → NextsIn p d ws n l d' ws
next_formed p d ws e s r o l n =
    let f = is_formed p.colour p.y.depth p.cb.depth p.cr.depth e in
    let m = same-formed p f in
    next_known p d ws {k = kind_of p.colour} {ds = depths_of p.y.depth p.cb.depth p.cr.depth} refl f.is_known refl refl s (r ∙ m.next _ d) (o ∙ m.next_out _ d) l n
