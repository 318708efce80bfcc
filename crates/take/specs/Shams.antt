-- Paper 01's sham programs ("How answers are held to account"): each as a condition on what a program answers and leaves, and that no program behaves so
-- that meets the public contract, by a call (Exhibit) at which the contract asks for something else. A program is a function here: of all that a call can
-- be given, which is bytes, and numbers as large as the machine has them; and of the call before, where it may remember that.
--     Given, Left, Writer              a call of the writer; what it answers, and leaves in the output; a program for such calls
--     MeetsStart, MeetsNext s          the contracts of `start`, and of `next` in the session s (encoder, src)
--     Shown, Seen, Player, MeetsRead   the same of the reader: the contract of `read` (reader, src)
--     RefusesAlways, OneTake           "refuses always, or emits one fixed take"
--     WritesNothing                    "writes nothing"
--     Repeats, FirstUnitOnly           "encodes the first picture truly and repeats it, or reads only the first unit"
--     OtherLength                      "invents a length"
--     no_refusing_always ..            none of these meets the contract
--     honest                           which the definitions themselves do
-- Assumes nothing.
use Rattle.std.specs.Prelude.{◌≡◌, refl, Option, Some, None, List, [], ◌∷◌, ◌++◌, Bool, true, false, ◌&&◌, ℕ, zero, suc, ◌-◌, ◌^◌, ◌≤◌, ◌<◌, T, ltb, length, take, drop, replicate, get_or}
use Rattle.std.proofs.Common.{sym, ap, ◌∙◌, arith, ltb→lt, length-append, take_at}
use Rattle.std.proofs.lemmas.List.{length-replicate}
use Rattle.lists.specs.Every.{Below, below_nil, below_cons}
use Rattle.lists.specs.Test.{left, right}
use Rattle.nal_unit.specs.StartCode.{code, next}
use Rattle.nal_unit.specs.Walk.{blank, lay, trim, unit, behind, meet}
use Rattle.nal_unit.specs.Calls.{at, said, turn, turn_unit}
use Rattle.ycbcr_image.specs.declared.Session.{Session}
use Rattle.ycbcr_image.specs.Sizes.{Sequence, sequence_of}
use Rattle.encoder.specs.Shot.{Shot, image_of, lends_of, sequence_in}
use Rattle.encoder.specs.Units.{start_bytes, next_bytes}
use Rattle.encoder.specs.Answers.{Encoded, wrote, number_of, length_of, answer_of, zero-written, start_of, start_out, next_of, next_out}
use Rattle.reader.specs.declared.Reader.{Reader}
use Rattle.reader.specs.declared.Step.{Step}
use Rattle.reader.specs.declared.Answer.TheVariants.{End, Sps}
use Rattle.reader.specs.Judge.{nothing, sps, pps, session-possible, judge}
use Rattle.reader.specs.Read.{over, pps_at, told_of, rooms, Reads, reads_one}
use Rattle.take.specs.Judged.{having, judged_sps, judged_pps}
use Rattle.take.specs.Host.{fresh}
use Rattle.take.specs.Exhibit.{flat, flat_session, sets_flat, picture_flat, flat-sps, flat_pps, flat-sized, flat-length, started, went}

-- bytes in memory
pub record Bytes (d : List ℕ) : Type 0 where
  pub each : Below 256 d
  pub many : length d < 2 ^ 63

-- a call of the writer: a picture and an output
pub record Given : Type 0 where
  pub shot : Shot
  pub out : List ℕ
  pub sizes : (shot.width < 2 ^ 32) × (shot.height < 2 ^ 32)
  pub strides : (shot.y.stride < 2 ^ 64) × (shot.cb.stride < 2 ^ 64) × (shot.cr.stride < 2 ^ 64)
  pub planes : Bytes shot.y.bytes × Bytes shot.cb.bytes × Bytes shot.cr.bytes
  pub output : Bytes out

pub record Left : Type 0 where
  pub answer : Encoded
  pub out : List ℕ

abbrev pub Writer : Type 0
Writer = Given → Left

abbrev pub MeetsStart : Writer → Type 0
MeetsStart w = (g : Given) → ((w g).answer ≡ start_of g.shot g.out) × ((w g).out ≡ start_out g.shot g.out)

abbrev pub MeetsNext : Session → Writer → Type 0
MeetsNext s w = (g : Given) → ((w g).answer ≡ next_of s g.shot g.out) × ((w g).out ≡ next_out s g.shot g.out)

abbrev pub Sizes : Option Session → Type 0
Sizes None = Unit {0}
Sizes (Some s) = (s.width < 2 ^ 32) × (s.height < 2 ^ 32)

-- a call of the reader: the bytes of a take, a state, three planes
pub record Shown : Type 0 where
  pub bytes : List ℕ
  pub reader : Reader
  pub y : List ℕ
  pub cb : List ℕ
  pub cr : List ℕ
  pub lent : Bytes bytes × Bytes y × Bytes cb × Bytes cr
  pub state : (reader.place < 2 ^ 64) × Sizes reader.sets.sps

pub record Seen : Type 0 where
  pub step : Step
  pub y : List ℕ
  pub cb : List ℕ
  pub cr : List ℕ

abbrev pub Player : Type 0
Player = Shown → Seen

abbrev pub MeetsRead : Player → Type 0
MeetsRead w = (g : Shown) → Reads g.bytes g.reader g.y g.cb g.cr (w g).step (w g).y (w g).cb (w g).cr

-- ---- the shams

-- "One that refuses always": no call is answered with 0.
abbrev pub RefusesAlways : Writer → Type 0
RefusesAlways w = (g : Given) → number_of (w g).answer ≡ 0 → ⊥

-- "or emits one fixed take": two calls that differ in the samples alone leave the same output.
abbrev pub OneTake : Writer → Type 0
OneTake w = (g h : Given) → image_of g.shot ≡ image_of h.shot → g.out ≡ h.out → (w g).out ≡ (w h).out

-- "One that writes nothing": the output is always as it was.
abbrev pub WritesNothing : Writer → Type 0
WritesNothing w = (g : Given) → (w g).out ≡ g.out

-- the bytes that an accepted call wrote
abbrev pub written : Left → List ℕ
written r = take (length_of r.answer) r.out

-- "One that encodes the first picture truly and repeats it": v is the start call, w g the next call behind g. What an accepted next call h wrote, whatever
-- is lent to it, are the last of the bytes that g wrote.
abbrev pub Repeats : Writer → (Given → Writer) → Type 0
Repeats v w =
    (g h : Given) → number_of (v g).answer ≡ 0 → number_of (w g h).answer ≡ 0
    → written (w g h) ≡ drop (length (written (v g)) - length (written (w g h))) (written (v g))

-- the next call behind any accepted start call meets its contract in the session that the start call left
abbrev pub MeetsBehind : Writer → (Given → Writer) → Type 0
MeetsBehind v w = (g : Given) (s : Session) (n : ℕ) → (v g).answer ≡ wrote s n → MeetsNext s (w g)

-- "or reads only the first unit": v is the first call, w g the call behind g. Over whatever take, the second call is answered with End.
abbrev pub FirstUnitOnly : Player → (Shown → Player) → Type 0
FirstUnitOnly v w = (g h : Shown) → g.reader ≡ fresh → h.bytes ≡ g.bytes → h.reader ≡ (v g).step.reader → (w g h).step.answer ≡ End

-- "One that invents a length": some accepted call answers another length than that of the bytes which the picture lent to it has by the definition.
abbrev pub OtherLength : (Shot → List ℕ) → Writer → Type 0
OtherLength bytes w = (g : Given) × (number_of (w g).answer ≡ 0) × (length_of (w g).answer ≡ length (bytes g.shot) → ⊥)

-- ---- the calls exhibited: a picture of samples 0x10 or 0x20, and 286 zero bytes of output

same_below : (m n x : ℕ) → x < m → Below m (replicate n x)
same_below m zero x l = below_nil (omega arith)
same_below m (suc n) x l = below_cons l (same_below m n x l)

same_bytes : (n x : ℕ) → n ≤ 286 → x < 256 → Bytes (replicate n x)
same_bytes n x m l = record { each = same_below 256 n x l; many = omega (arith, length-replicate {A = ℕ} n x) }

no_bytes : Bytes []
no_bytes = same_bytes 0 0 (omega arith) (omega arith)

abbrev zeros : List ℕ
zeros = replicate 286 0

abbrev given : (x : ℕ) → x < 256 → Given
given x l = record {
  shot = flat x;
  out = zeros;
  sizes = (omega arith, omega arith);
  strides = (omega arith, omega arith, omega arith);
  planes = (same_bytes 256 x (omega arith) l, no_bytes, no_bytes);
  output = same_bytes 286 0 (omega arith) (omega arith);
}

abbrev ten : Given
ten = given 0x10 (omega arith)

abbrev twenty : Given
twenty = given 0x20 (omega arith)

-- what they are answered with, and what they leave, where the contract is met
start_flat : (w : Writer) → MeetsStart w → (x : ℕ) (l : x < 256) → 3 < x → ((w (given x l)).answer ≡ wrote flat_session 286) × ((w (given x l)).out ≡ (sets_flat ++ picture_flat x) ++ drop 286 zeros)
start_flat w m x l k =
    let s = started x zeros k (omega (arith, length-replicate {A = ℕ} 286 0)) in
    ((m (given x l)).0 ∙ s.0, (m (given x l)).1 ∙ s.1)

next_flat : (w : Writer) → MeetsNext flat_session w → (x : ℕ) (l : x < 256) → 3 < x → ((w (given x l)).answer ≡ wrote flat_session 266) × ((w (given x l)).out ≡ picture_flat x ++ drop 266 zeros)
next_flat w m x l k =
    let s = went x zeros k (omega (arith, length-replicate {A = ℕ} 286 0)) in
    ((m (given x l)).0 ∙ s.0, (m (given x l)).1 ∙ s.1)

-- the fourth byte of what they wrote, and the first sample
start_fourth : (x : ℕ) (t : List ℕ) → get_or ((sets_flat ++ picture_flat x) ++ t) 3 0 ≡ 1
start_fourth x t = refl

next_fourth : (x : ℕ) (t : List ℕ) → get_or (picture_flat x ++ t) 3 0 ≡ 1
unfolding picture_flat
next_fourth x t = refl

start_sample : (x : ℕ) (t : List ℕ) → get_or ((sets_flat ++ picture_flat x) ++ t) 29 0 ≡ x
unfolding picture_flat
start_sample x t = refl

next_sample : (x : ℕ) (t : List ℕ) → get_or (picture_flat x ++ t) 9 0 ≡ x
unfolding picture_flat
next_sample x t = refl

sample : (x : ℕ) → get_or (picture_flat x) 9 0 ≡ x
unfolding picture_flat
sample x = refl

start_many : (x : ℕ) → length (sets_flat ++ picture_flat x) ≡ 286
start_many x = omega (arith, length-append sets_flat (picture_flat x), flat-length x)

-- lists that are equal have the same element at i
alike : {a b : List ℕ} (i x y : ℕ) → a ≡ b → get_or a i 0 ≡ x → get_or b i 0 ≡ y → x ≡ y
alike i x y e f g = sym f ∙ (ap (λ (l : List ℕ). get_or l i 0) e ∙ g)

-- an accepted answer has the length of its bytes
accepted-length : (r : ℕ) (s : Session) (w d : List ℕ) → number_of (answer_of r s w (length d)) ≡ 0 → length_of (answer_of r s w (length d)) ≡ length w
accepted-length r s w d e = ap length_of (zero-written r s w d e)

-- the take of one picture, from its first byte on and from the second unit's start code on
abbrev q : Sequence
q = sequence_of flat_session

abbrev of_one : List ℕ
of_one = sets_flat ++ picture_flat 0x10

one_meets : meet of_one ≡ unit 4 (0x67 ∷ 0x64 ∷ 0x00 ∷ 0x0A ∷ 0xF3 ∷ 0xDC ∷ 0x9B ∷ 0x01 ∷ []) 13
unfolding meet behind next code blank trim lay
one_meets = refl

one_meets_next : meet (drop 13 of_one) ≡ unit 3 (0x68 ∷ 0xCE ∷ 0x38 ∷ 0x80 ∷ []) 8
unfolding meet behind next code blank trim lay picture_flat
one_meets_next = refl

one_turn : (room : ℕ → ℕ) → turn (judge room) nothing of_one ≡ record { say = said 4 (sps q); moved = 13; held = having q false }
one_turn room =
    let j = rw flat-sps at (judged_sps room flat_session flat-sized) in
    turn_unit (judge room) nothing _ 4 _ 13 one_meets ∙ rw j refl

one_turn_next : (room : ℕ → ℕ) → turn (judge room) (having q false) (drop 13 of_one) ≡ record { say = said 3 pps; moved = 8; held = having q true }
one_turn_next room =
    let j = rw flat_pps at (judged_pps room q (session-possible flat_session flat-sized)) in
    turn_unit (judge room) (having q false) _ 3 _ 8 one_meets_next ∙ rw j refl

-- numbers that are bytes
small : List ℕ → Bool
small [] = true
small (x ∷ xs) = ltb x 256 && small xs

small_below : (xs : List ℕ) → T (small xs) → Below 256 xs
unfolding small
small_below [] t = below_nil (omega arith)
small_below (x ∷ xs) t = below_cons (ltb→lt x 256 (left (ltb x 256) (small xs) t)) (small_below xs (right (ltb x 256) (small xs) t))

one_small : Bytes of_one
unfolding small picture_flat
one_small = record { each = small_below of_one tt; many = omega (arith, start_many 0x10) }

abbrev shown : (b : Reader) → (b.place < 2 ^ 64) × Sizes b.sets.sps → Shown
shown b s = record { bytes = of_one; reader = b; y = []; cb = []; cr = []; lent = (one_small, no_bytes, no_bytes, no_bytes); state = s }

-- the state behind the first unit
abbrev second : Reader
second = record { place = 13; sets = record { sps = Some flat_session; pps = false } }

first_read : Reads of_one fresh [] [] [] (record { answer = Sps 4 flat_session; reader = second }) [] [] []
unfolding at
first_read =
    let t = one_turn (rooms [] [] []) in
    record { answer = rw t refl; place = rw t refl; held = rw t refl; in_y = rw t refl; in_cb = rw t refl; in_cr = rw t refl }

-- ---- no program that meets the contract behaves so

pub no_refusing_always : (w : Writer) → RefusesAlways w → (MeetsStart w → ⊥) × (MeetsNext flat_session w → ⊥)
no_refusing_always w r = (
  λ m. r ten (ap number_of (start_flat w m 0x10 (omega arith) (omega arith)).0),
  λ m. r ten (ap number_of (next_flat w m 0x10 (omega arith) (omega arith)).0),
)

pub no_one_take : (w : Writer) → OneTake w → (MeetsStart w → ⊥) × (MeetsNext flat_session w → ⊥)
no_one_take w r = (
  λ m. omega (arith, alike 29 0x10 0x20 (sym (start_flat w m 0x10 (omega arith) (omega arith)).1 ∙ (r ten twenty refl refl ∙ (start_flat w m 0x20 (omega arith) (omega arith)).1)) (start_sample 0x10 _) (start_sample 0x20 _)),
  λ m. omega (arith, alike 9 0x10 0x20 (sym (next_flat w m 0x10 (omega arith) (omega arith)).1 ∙ (r ten twenty refl refl ∙ (next_flat w m 0x20 (omega arith) (omega arith)).1)) (next_sample 0x10 _) (next_sample 0x20 _)),
)

pub no_writing-nothing : (w : Writer) → WritesNothing w → (MeetsStart w → ⊥) × (MeetsNext flat_session w → ⊥)
no_writing-nothing w r = (
  λ m. omega (arith, alike 3 0 1 (sym (r ten) ∙ (start_flat w m 0x10 (omega arith) (omega arith)).1) refl (start_fourth 0x10 (drop 286 zeros))),
  λ m. omega (arith, alike 3 0 1 (sym (r ten) ∙ (next_flat w m 0x10 (omega arith) (omega arith)).1) refl (next_fourth 0x10 (drop 266 zeros))),
)

pub no_repeating : (v : Writer) (w : Given → Writer) → Repeats v w → MeetsStart v → MeetsBehind v w → ⊥
no_repeating v w r m n =
    let a = start_flat v m 0x10 (omega arith) (omega arith) in
    let b = next_flat (w ten) (n ten flat_session 286 a.0) 0x20 (omega arith) (omega arith) in
    let i : written (v ten) ≡ of_one =
    ap (λ (r : Encoded). take (length_of r) (v ten).out) a.0 ∙ (ap (take 286) a.1 ∙ take_at of_one (drop 286 zeros) 286 (start_many 0x10)) in
    let j : written (w ten twenty) ≡ picture_flat 0x20 =
    ap (λ (r : Encoded). take (length_of r) (w ten twenty).out) b.0 ∙ (ap (take 266) b.1 ∙ take_at (picture_flat 0x20) (drop 266 zeros) 266 (flat-length 0x20)) in
    let e : picture_flat 0x20 ≡ drop (length of_one - length (picture_flat 0x20)) of_one = rw (i, j) at (r ten twenty (ap number_of a.0) (ap number_of b.0)) in
    let f : picture_flat 0x20 ≡ picture_flat 0x10 = rw (start_many 0x10, flat-length 0x20) at e in
    omega (arith, alike 9 0x20 0x10 f (sample 0x20) (sample 0x10))

pub no_first_unit_only : (v : Player) (w : Shown → Player) → FirstUnitOnly v w → MeetsRead v → ((g : Shown) → MeetsRead (w g)) → ⊥
unfolding at
no_first_unit_only v w r m n =
    let g = shown fresh (omega arith, tt) in
    let h = shown second (omega arith, (omega arith, omega arith)) in
    let b : second ≡ (v g).step.reader = sym (ap (λ (s : Step). s.reader) (reads_one (m g) first_read).0) in
    let e : (w g h).step.answer ≡ End = r g h refl refl b in
    let f : told_of (w g h).step.answer ≡ pps_at 16 = (n g h).answer ∙ rw (one_turn_next (rooms [] [] [])) refl in
    let z : over ≡ pps_at 16 = rw e at f in
    let o : ◌≡◌ {A = ℕ} 0 1 = cc in
    omega arith

pub no_other-length : (w : Writer) → (OtherLength (λ p. start_bytes (sequence_in p) (lends_of p)) w → MeetsStart w → ⊥)
    × ((s : Session) → OtherLength (λ p. next_bytes (sequence_in p) (lends_of p)) w → MeetsNext s w → ⊥)
unfolding start_of next_of
no_other-length w = (
  λ r m. r.2 (ap length_of (m r.0).0 ∙ accepted-length _ _ _ r.0.out (sym (ap number_of (m r.0).0) ∙ r.1)),
  λ s r m. r.2 (ap length_of (m r.0).0 ∙ accepted-length _ _ _ r.0.out (sym (ap number_of (m r.0).0) ∙ r.1)),
)

-- The contracts are met: by the definitions.
pub honest : MeetsStart (λ g. record { answer = start_of g.shot g.out; out = start_out g.shot g.out })
    × ((s : Session) → MeetsNext s (λ g. record { answer = next_of s g.shot g.out; out = next_out s g.shot g.out }))
honest = (λ g. (refl, refl), λ s g. (refl, refl))
