-- Damage that names pictures (paper 01's third demand): of a take any stretch behind the start code of a picture is replaced by anything. The pictures before that
-- one are read as ever, and so is each picture whose start code stands wholly behind the stretch, and every one behind it; only what lies between may
-- differ, and whatever is answered about it is about bytes that lie there.
--     behind T ss      the place behind the parameter sets and the pictures ss
--     damaged          the statement; host_damaged for the code
-- Assumes nothing.
use Rattle.std.specs.Prelude.{◌≡◌, refl, true, ℕ, suc, ◌+◌, ◌-◌, ◌≤◌, take, drop, replicate}
use Rattle.std.proofs.Common.{sym, ap, ◌∙◌, arith, take-append-drop, drop-drop, length-take-le}
use mathlib.Core.List.{List, [], ◌∷◌, ◌++◌, map, append_assoc}
use Rattle.std.proofs.Math.ListN.{length}
use Rattle.std.proofs.Math.Seq.{drop-append-add}
use Rattle.lists.specs.Part.{part, part_length, part_rest}
use Rattle.nal_unit.specs.StartCode.{start_code, code, next, code_start, code_fits}
use Rattle.nal_unit.specs.Walk.{calm-nil, calm_start, meet-nil}
use Rattle.nal_unit.specs.Calls.{Say, ended, answers, after, answers-ans, answers-add, after_add, align, at_end}
use Rattle.nal_unit.specs.Frame.{joined, joined-append, joined-tail, joined_more, place_by, place-joined, held_by, frame, goes-full}
use Rattle.nal_unit.specs.Damage.{moved, front, before, damage_full, onward}
use Rattle.nal_unit.specs.Window.{Withins, after_frame, answers-within}
use Rattle.ycbcr_image.specs.Sizes.{Sequence}
use Rattle.encoder.specs.Shot.{Shot, lends_of, sequence_in}
use Rattle.encoder.specs.Units.{sps_unit, pps_unit, picture_unit}
use Rattle.reader.specs.Judge.{Held, nothing, Word, sps, pps}
use Rattle.reader.specs.Enough.{plain, plain-moves}
use Rattle.take.specs.Judged.{having}
use Rattle.take.specs.Take.{Take, Frames, frames, frames_both, units_both, size_of, sets_and, bytes_of, picture_units, picture_words, bytes-units}
use Rattle.take.specs.Reading.{listed, fits, full, sets-goes, sets-said, sets-held, pictures_said, pictures_whole}
use Rattle.take.specs.Promises.{replaced}

-- where the zero before the next start code stands
abbrev pub behind : Take → List Shot → ℕ
behind T ss = place_by 0 (sets_and (size_of T) ss)

count : (ss : List Shot) → length (picture_units ss) ≡ length ss
unfolding picture_units
count [] = refl
count (s ∷ ss) = ap (λ (n : ℕ). suc n) (count ss)

-- the start code behind units in a row
coded_here : (us : List (List ℕ)) (x : List ℕ) → code (drop (place_by 0 us + 1) (joined us (0 ∷ start_code x))) ≡ true
coded_here us x =
    let p : place_by 0 us + 1 ≡ length (joined us []) + 1 = omega (arith, place-joined 0 us) in
    rw (p, joined-tail us (0 ∷ start_code x), drop-append-add (joined us []) (0 ∷ start_code x) 1) (code_start x)

module _ (T : Take) where
  abbrev q : Sequence
  q = size_of T

  abbrev h : Held
  h = having (size_of T) true

  -- the take by some of its pictures and the one behind them
  split : (A B : List Shot) → T.first ∷ T.others ≡ A ++ B → bytes_of T ≡ joined (sets_and q A) (joined (picture_units B) [])
  unfolding joined
  split A B e =
      bytes-units T
      ∙ (ap (λ (ss : List Shot). joined (sets_and q ss) []) e
      ∙ (ap (λ (us : List (List ℕ)). joined (sps_unit q ∷ pps_unit ∷ us) []) (units_both A B)
      ∙ joined-append (sets_and q A) (picture_units B) []))

  framed : (ss : List Shot) → T.first ∷ T.others ≡ ss → Frames q ss
  framed ss e = rw (← e) (frames T)

  -- the bytes from the start code of the picture behind A on
  from_code : (A : List Shot) (s : Shot) (C : List Shot) → T.first ∷ T.others ≡ A ++ (s ∷ C)
      → drop (behind T A + 1) (bytes_of T) ≡ start_code (picture_unit (sequence_in s) (lends_of s) ++ joined (picture_units C) [])
  unfolding joined picture_units
  from_code A s C e =
      let K = sets_and q A in
      let Y = picture_unit (sequence_in s) (lends_of s) ++ joined (picture_units C) [] in
      let p : behind T A + 1 ≡ length (joined K []) + 1 = omega (arith, place-joined 0 K) in
      rw (p, split A (s ∷ C) e, joined-tail K (0 ∷ start_code Y)) (drop-append-add (joined K []) (0 ∷ start_code Y) 1)

  -- the undamaged reading from there
  from_picture : (A : List Shot) (s : Shot) (C : List Shot) (c : ℕ) → T.first ∷ T.others ≡ A ++ (s ∷ C)
      → answers plain (bytes_of T) (length (s ∷ C) + c) h (behind T A + 1) ≡ listed (behind T A) (picture_units (s ∷ C)) (picture_words (s ∷ C)) ++ replicate c ended
  unfolding joined picture_units next code
  from_picture A s C c e =
      let F = (frames_both q A (s ∷ C) (framed (A ++ (s ∷ C)) e)).1 in
      let Y = picture_unit (sequence_in s) (lends_of s) ++ joined (picture_units C) [] in
      let us = picture_units (s ∷ C) in
      let g = goes-full plain h us (full q (fits T)) (pictures_whole q (fits T) (s ∷ C) F) in
      let n : length (s ∷ C) + c ≡ length us + c = omega (arith, count (s ∷ C)) in
      rw (answers-ans plain (bytes_of T) (length (s ∷ C) + c) h (behind T A + 1), from_code A s C e, n)
      (sym (align plain (length us + c) h (behind T A) (0 ∷ start_code Y) (calm_start Y))
      ∙ (frame plain c h (behind T A) us [] g calm-nil
      ∙ rw (pictures_said q (fits T) (behind T A) (s ∷ C) F, at_end plain c (held_by plain h us) (place_by (behind T A) us) [] meet-nil) refl))

  -- there is a start code behind any pictures but the last
  coded : (A B : List Shot) (s : Shot) (C : List Shot) → T.first ∷ T.others ≡ A ++ (B ++ (s ∷ C)) → (y : List ℕ) × (bytes_of T ≡ joined (sets_and q A) (0 ∷ start_code y))
  unfolding joined picture_units
  coded A [] s C e = (picture_unit (sequence_in s) (lends_of s) ++ joined (picture_units C) [], split A (s ∷ C) e)
  coded A (b ∷ B) s C e = (picture_unit (sequence_in b) (lends_of b) ++ joined (picture_units (B ++ (s ∷ C))) [], split A (b ∷ (B ++ (s ∷ C))) e)

-- Of a take's pictures A stand before B and those before s and C. The bytes from i up to j are replaced by m: i is behind the start code of the picture behind A,
-- and the start code of s is behind j. Then the reader, from the first byte with nothing held, answers the parameter sets and the pictures of A as in
-- the undamaged take; then, in n calls, something about bytes that lie between A and s; and then s and every picture behind it, with their samples, at their
-- offsets moved by the change in length; then End, however often it is asked for. After those n calls it stands at the start code of s.
pub record Damaged (T : Take) (A B : List Shot) (s : Shot) (C : List Shot) (i j : ℕ) (m : List ℕ) : Type 0 where
  pub n : ℕ
  pub between : List (Say Word)
  pub within : Withins (behind T A + 1) (behind T (A ++ B) + 1 + length m - (j - i)) between
  pub stands : after plain (replaced (bytes_of T) i j m) (length (sets_and (size_of T) A) + n) nothing 0
      ≡ record { held = having (size_of T) true; place = behind T (A ++ B) + 1 + length m - (j - i) }
  pub reads : (c : ℕ) → answers plain (replaced (bytes_of T) i j m) (length (sets_and (size_of T) A) + (n + (length (s ∷ C) + c))) nothing 0
      ≡ listed 0 (sets_and (size_of T) A) (sps (size_of T) ∷ pps ∷ picture_words A)
      ++ (between ++ (map (moved (j - i) (length m)) (listed (behind T (A ++ B)) (picture_units (s ∷ C)) (picture_words (s ∷ C)) ++ replicate c ended)))

pub damaged : (T : Take) (A B : List Shot) (s : Shot) (C : List Shot) (i j : ℕ) (m : List ℕ) → T.first ∷ T.others ≡ A ++ (B ++ (s ∷ C))
    → behind T A + 4 ≤ i → i ≤ j → j ≤ behind T (A ++ B) + 1 → Damaged T A B s C i j m
unfolding replaced next code
damaged T A B s C i j m e l a b =
    let q = size_of T in
    let h = having q true in
    let t = bytes_of T in
    let K = sets_and q A in
    let r = m ++ drop j t in
    let y = coded T A B s C e in
    let f = front K y.0 i l in
    let x = f.0 in
    let d : take i t ≡ joined K (0 ∷ start_code x) = ap (λ (z : List ℕ). take i z) y.1 ∙ f.1 in
    let F = (frames_both q A (B ++ (s ∷ C)) (framed T (A ++ (B ++ (s ∷ C))) e)).0 in
    let g = sets-goes T A F in
    let e2 : T.first ∷ T.others ≡ (A ++ B) ++ (s ∷ C) = e ∙ sym (append_assoc A B (s ∷ C)) in
    let k = behind T (A ++ B) + 1 - j in
    let D = take i t ++ r in
    let whole : D ≡ joined K (0 ∷ start_code (x ++ r)) = ap (λ (z : List ℕ). z ++ r) d ∙ joined_more K (0 ∷ start_code x) r in
    let first : after plain D (length K) nothing 0 ≡ record { held = h; place = behind T A + 1 } =
    rw whole (after_frame plain nothing (sps_unit q) (pps_unit ∷ picture_units A) (0 ∷ start_code (x ++ r)) g (calm_start (x ++ r)) ∙ rw (sets-held T (picture_units A)) refl) in
    let said : answers plain D (length K) nothing 0 ≡ listed 0 K (sps q ∷ pps ∷ picture_words A) = before plain K (take i t) x r nothing d g ∙ sets-said T 0 A F in
    let there : code (drop (behind T (A ++ B) + 1) t) ≡ true = rw (from_code T (A ++ B) s C e2) (code_start (picture_unit (sequence_in s) (lends_of s) ++ joined (picture_units C) [])) in
    let long = code_fits t (behind T (A ++ B) + 1) there in
    let la : length (take i t) ≡ i = length-take-le i t (omega arith) in
    let lp : length (part t i (j - i)) ≡ j - i = part_length t i (j - i) (omega arith) in
    let c1 : code (drop (behind T A + 1) (take i t)) ≡ true = rw d (coded_here K x) in
    let c2 : code (drop k (drop j t)) ≡ true =
    let z : j + k ≡ behind T (A ++ B) + 1 = omega arith in
    rw (drop-drop k j t) (rw z there) in
    let w = damage_full plain (take i t) m (drop j t) h (behind T A + 1) k (full q (fits T)) c1 c2 in
    let n = w.0 in
    let place : length (take i t) + (length m + k) ≡ behind T (A ++ B) + 1 + length m - (j - i) = omega arith in
    let arrives : after plain D n h (behind T A + 1) ≡ record { held = h; place = behind T (A ++ B) + 1 + length m - (j - i) } = rw place at w.1 in
    let same : take i t ++ (part t i (j - i) ++ drop j t) ≡ t =
    let z : i + (j - i) ≡ j = omega arith in
    let v : drop i t ≡ part t i (j - i) ++ drop j t = rw z at (part_rest t i (j - i)) in
    rw v at (take-append-drop i t) in
    let back : length (take i t) + (length (part t i (j - i)) + k) ≡ behind T (A ++ B) + 1 = omega arith in
    let tail : (c : ℕ) → answers plain D (length (s ∷ C) + c) h (behind T (A ++ B) + 1 + length m - (j - i))
    ≡ map (moved (j - i) (length m)) (listed (behind T (A ++ B)) (picture_units (s ∷ C)) (picture_words (s ∷ C)) ++ replicate c ended) =
    λ c. rw (← place) (onward plain (take i t) (part t i (j - i)) m (drop j t) (length (s ∷ C) + c) h k ∙ rw (same, back, lp, from_picture T (A ++ B) s C c e2) refl) in
    record {
      n = n;
      between = answers plain D n h (behind T A + 1);
      within = rw arrives at (answers-within plain plain-moves D n h (behind T A + 1));
      stands = after_add plain D (length K) n nothing 0 ∙ rw (first, arrives) refl;
      reads =
          λ c.
          answers-add plain D (length K) (n + (length (s ∷ C) + c)) nothing 0
          ∙ rw (said, first, answers-add plain D n (length (s ∷ C) + c) h (behind T A + 1), arrives, tail c) refl;
    }
