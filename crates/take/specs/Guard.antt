-- The words that the promises are said in (Promises), computed on the take of two pictures (Exhibit): where damage may begin, that a start code stands
-- behind it, and what is answered about the unit that a cut falls in. A word that said less would fail here. And that there are calls as the promises for C
-- have them (InC): a shoot, one of whose calls is refused, and readings with whatever planes. Assumes nothing.
use Rattle.std.specs.Prelude.{◌≡◌, refl, List, [], ◌∷◌, ◌++◌, map, ℕ, ◌+◌, replicate, get_or}
use Rattle.std.proofs.Common.{sym, ap, ◌∙◌, append-nil, arith}
use Rattle.std.proofs.lemmas.List.{length-replicate}
use Rattle.nal_unit.specs.Calls.{at}
use Rattle.reader.specs.Read.{told, number_told, handed, laid}
use Rattle.reelpony.specs.Numbers.{colour_known, depth_known, known, kind_of, bit_depth_of, plane, PictureIn, picture_in, held_of, words_of, start_number, start_length, start_buffer, start_words, next_number, next_length, next_buffer, StartsIn, NextsIn}
use Rattle.reelpony.specs.Reading.{turn_in, told8, after8}
use Rattle.take.specs.Exhibit.{sets_flat, picture_flat, started, went}
use Rattle.take.specs.Host.{Planes, Call, Runs}
use Rattle.take.specs.InC.{c, zeros, CallIn, ShootIn}

-- ---- the C calls

-- a picture of 16 x 16, mono, 8 bits, whose samples are all x, as C gives it; the session's numbers behind it
abbrev flat_in : ℕ → PictureIn
flat_in x = picture_in 16 16 0 (plane (replicate 256 x) 16 8) (plane [] 0 8) (plane [] 0 8)

abbrev flat_words : List ℕ
flat_words = 16 ∷ 16 ∷ 0 ∷ 8 ∷ 0 ∷ 0 ∷ 0 ∷ 0 ∷ []

-- a start call, a next call whose colour is 2, which is none, and another next call
abbrev first_call : CallIn
first_call = record { picture = flat_in 0x10; out = replicate 286 0; number = 0; len = 286; out' = sets_flat ++ picture_flat 0x10; session = flat_words }

abbrev refused_call : CallIn
refused_call = record { picture = picture_in 16 16 2 (plane [] 0 8) (plane [] 0 8) (plane [] 0 8); out = []; number = 99; len = 0; out' = []; session = flat_words }

abbrev second_call : CallIn
second_call = record { picture = flat_in 0x20; out = replicate 266 0; number = 0; len = 266; out' = picture_flat 0x20; session = flat_words }

pub first_starts : StartsIn (flat_in 0x10) (replicate 286 0) zeros 0 286 (sets_flat ++ picture_flat 0x10) flat_words
unfolding start_number start_length start_buffer start_words known colour_known depth_known kind_of bit_depth_of words_of
first_starts =
    let r = started 0x10 (replicate 286 0) (omega arith) (omega (arith, length-replicate {A = ℕ} 286 0)) in
    record { number = rw r.0 refl; len = rw r.0 refl; bytes = sym (r.1 ∙ append-nil (sets_flat ++ picture_flat 0x10)); session = rw r.0 refl }

pub second-follows : NextsIn (flat_in 0x20) (replicate 266 0) flat_words 0 266 (picture_flat 0x20) flat_words
unfolding next_number next_length next_buffer known colour_known depth_known kind_of bit_depth_of held_of
second-follows =
    let r = went 0x20 (replicate 266 0) (omega arith) (omega (arith, length-replicate {A = ℕ} 266 0)) in
    record { number = rw r.0 refl; len = rw r.0 refl; bytes = sym (r.1 ∙ append-nil (picture_flat 0x20)); session = refl }

pub refused-follows : NextsIn refused_call.picture [] flat_words 99 0 [] flat_words
unfolding next_number next_length next_buffer known colour_known
refused-follows = record { number = refl; len = refl; bytes = refl; session = refl }

abbrev pub shoot : ShootIn
shoot = record { before = zeros; first = first_call; others = refused_call ∷ second_call ∷ []; begun = first_starts; none = refl; went = (refused-follows, (second-follows, tt)) }

-- and whatever planes a host lends, call by call, over whatever bytes, there are calls of the reader that do as their contract says
pub runs_there : (s ws : List ℕ) (Ps : List Planes) → (cs : List (Call c)) × Runs c s ws cs × (map (λ (k : Call c). k.lent) cs ≡ Ps)
runs_there s ws [] = ([], tt, refl)
runs_there s ws (P ∷ Ps) =
    let t = turn_in s ws P.y P.cb P.cr in
    let a = told (at (get_or ws 0 0) t.say) in
    let ws' = after8 ws a (get_or ws 0 0 + t.moved) t.held in
    let k : Call c = record {
      lent = P;
      answer = record { number = number_told a; words = told8 a };
      left = ws';
      planes = record { y = laid (handed t.say).y P.y; cb = laid (handed t.say).cb P.cb; cr = laid (handed t.say).cr P.cr };
    } in
    let r = runs_there s ws' Ps in
    (k ∷ r.0, (record { number = refl; answer = refl; reader = refl; in_y = refl; in_cb = refl; in_cr = refl }, r.1), ap (λ (l : List Planes). P ∷ l) r.2)
