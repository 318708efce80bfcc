-- Samples as numbers: reading a take hands out, for each of its pictures, planes whose sample at each visible row and column is the number that was lent.
--     Same s X       the samples X, stored tight, are those of the picture s, number for number (slice, Sample: `sample_in`)
--     numbers        so are those of every picture of every take
--     host-numbers   and so are the planes that a host has after its calls, whatever they held before
-- Of these proofs/Numbers.antt has `host-numbers`, since an edit of must-fail/ changes what it rests on.
-- Assumes nothing.
use Rattle.std.specs.Prelude.{◌≡◌, refl, List, [], ◌∷◌, ◌++◌, map, ℕ, zero, suc, ◌+◌, ◌<◌, length, replicate}
use Rattle.std.proofs.Common.{ap, ◌∙◌, append-nil, arith}
use Rattle.nal_unit.specs.Calls.{ended, answers}
use Rattle.slice.specs.Picture.{lend_at}
use Rattle.slice.specs.Sample.{sample_in, tight, visible_front}
use Rattle.ycbcr_image.specs.Form.{planes, planes_few}
use Rattle.ycbcr_image.specs.Sizes.{Sequence, visible_width, visible_height}
use Rattle.encoder.specs.Shot.{Shot, lends_of, sequence_in, shot_whole}
use Rattle.encoder.specs.Units.{picture_unit}
use Rattle.reader.specs.Judge.{nothing, Samples, Word, sps, pps, picture}
use Rattle.reader.specs.Enough.{plain}
use Rattle.take.specs.Take.{Take, size_of, bytes_of, units_of, samples_of, picture_units, picture_words, Framed, Frames, frames}
use Rattle.take.specs.Reading.{listed}
use Rattle.take.specs.Promises.{round_trip}
use Rattle.take.specs.Host.{Host, Call, Gets}

-- plane p of the samples handed out
abbrev pub samples_at : Samples → ℕ → List ℕ
samples_at X zero = X.y
samples_at X (suc zero) = X.cb
samples_at X (suc (suc p)) = X.cr

-- the bits of a sample of a picture
abbrev pub depth_in : Shot → ℕ
depth_in s = (sequence_in s).form.depth

-- at each visible row r and column c of each plane p that the picture s has stands the number that was lent
pub record Same (s : Shot) (X : Samples) : Type 0 where
  pub number : (p r c : ℕ) → p < planes (sequence_in s).form → r < visible_height (sequence_in s) p → c < visible_width (sequence_in s) p
      → sample_in (depth_in s) (tight (sequence_in s) p (samples_at X p)) r c ≡ sample_in (depth_in s) (lend_at (lends_of s) p) r c

-- of pictures and samples in order
abbrev pub Sames : List Shot → List Samples → Type 0
Sames [] [] = Unit {0}
Sames [] (X ∷ Xs) = ⊥
Sames (s ∷ ss) [] = ⊥
Sames (s ∷ ss) (X ∷ Xs) = Same s X × Sames ss Xs

-- the visible samples of a picture of a take, whatever stands behind them in the planes that they were written to
one_same : {q : Sequence} (s : Shot) → Framed q s → (y cb cr : List ℕ) → Same s (record { y = (samples_of s).y ++ y; cb = (samples_of s).cb ++ cb; cr = (samples_of s).cr ++ cr })
one_same s f y cb cr = record { number = go }
  where
    go : (p r c : ℕ) → p < planes (sequence_in s).form → r < visible_height (sequence_in s) p → c < visible_width (sequence_in s) p
        → sample_in (depth_in s) (tight (sequence_in s) p (samples_at (record { y = (samples_of s).y ++ y; cb = (samples_of s).cb ++ cb; cr = (samples_of s).cr ++ cr }) p)) r c
        ≡ sample_in (depth_in s) (lend_at (lends_of s) p) r c
    go zero = visible_front (sequence_in s) (lends_of s) f.pass.fine (shot_whole s f.pass) y 0
    go (suc zero) = visible_front (sequence_in s) (lends_of s) f.pass.fine (shot_whole s f.pass) cb 1
    go (suc (suc zero)) = visible_front (sequence_in s) (lends_of s) f.pass.fine (shot_whole s f.pass) cr 2
    go (suc (suc (suc p))) = λ r c l. absurd (omega (arith, planes_few (sequence_in s).form))

all_same : (q : Sequence) (ss : List Shot) → Frames q ss → Sames ss (map samples_of ss)
all_same q [] f = tt
all_same q (s ∷ ss) f =
    (rw (append-nil (samples_of s).y, append-nil (samples_of s).cb, append-nil (samples_of s).cr) at (one_same s f.0 [] [] []), all_same q ss f.1)

words_are : (ss : List Shot) → picture_words ss ≡ map picture (map samples_of ss)
unfolding picture_words
words_are [] = refl
words_are (s ∷ ss) = ap (λ (l : List Word). picture (samples_of s) ∷ l) (words_are ss)

-- Reading an accepted take from its first byte with nothing held answers its size and kind, its picture parameter set, and one picture for each that was
-- written, in order and at their offsets, then End; and each picture's samples are, at each visible row and column of each plane, the numbers that were lent.
pub numbers : (T : Take) (k : ℕ)
    → (Xs : List Samples) × Sames (T.first ∷ T.others) Xs
    × (answers plain (bytes_of T) (length (units_of T) + k) nothing 0 ≡ listed 0 (units_of T) (sps (size_of T) ∷ pps ∷ map picture Xs) ++ replicate k ended)
numbers T k =
    let ss : List Shot = T.first ∷ T.others in
    (map samples_of ss, all_same (size_of T) ss (frames T), round_trip T k ∙ ap (λ (ws : List Word). listed 0 (units_of T) (sps (size_of T) ∷ pps ∷ ws) ++ replicate k ended) (words_are ss))

-- the planes after a call
abbrev pub after : {H : Host} → Call H → Samples
after c = c.planes

pub after_same : (H : Host) (q : Sequence) (p : ℕ) (ss : List Shot) (cs : List (Call H)) → Frames q ss → Gets H cs (listed p (picture_units ss) (picture_words ss)) → Sames ss (map after cs)
unfolding listed picture_units picture_words
after_same H q p [] [] f g = tt
after_same H q p [] (c ∷ cs) f g = absurd g
after_same H q p (s ∷ ss) [] f g = absurd g
after_same H q p (s ∷ ss) (c ∷ cs) f g = (
  rw (g.0.in_y, g.0.in_cb, g.0.in_cr) (one_same s f.0 _ _ _),
  after_same H q (p + 4 + length (picture_unit (sequence_in s) (lends_of s))) ss cs f.1 g.1,
)
