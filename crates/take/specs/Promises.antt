-- The promises about a take, for every take, whatever the planes held: what a reader that begins with nothing held, at the first byte, answers, if each call
-- lends it planes that are long enough for the size held then (reader, Enough: `plain`).
--     round_trip     the size and kind, then the picture parameter set, then each picture with its visible samples, in order, then End
--     cut            the first n bytes alone: the units that are whole within n, then at most one refusal, then End
--     damage         any stretch behind the first picture's start code is replaced by anything: from each start code wholly behind it, all is read
--                    as in the undamaged take
--     picture_code, replaced    the place behind the first picture's start code; bytes of which a stretch is replaced
-- Of these proofs/Promises.antt has `cut`, since an edit of must-fail/ changes what it rests on.
-- Assumes nothing.
use Rattle.std.specs.Prelude.{◌≡◌, refl, List, [], ◌∷◌, ◌++◌, map, true, cond, ℕ, ◌+◌, ◌-◌, ◌≤◌, leb, length, take, drop, replicate}
use Rattle.std.proofs.Common.{ap, ◌∙◌, arith, length-append, take-append-drop, drop-drop, length-take-le}
use Rattle.lists.specs.Part.{part, part_length, part_rest}
use Rattle.nal_unit.specs.StartCode.{start_code, code, code_fits}
use Rattle.nal_unit.specs.Calls.{Verdict, Say, ended, said, answers}
use Rattle.nal_unit.specs.Frame.{joined, reads, says, held_by, place_by, place-joined, joined-append, joined-tail}
use Rattle.nal_unit.specs.Cut.{kept, broken, told, Moves}
use Rattle.nal_unit.specs.Damage.{moved, front, damage_reads}
use Rattle.encoder.specs.Shot.{lends_of}
use Rattle.encoder.specs.Units.{sps_unit, pps_unit, picture_unit}
use Rattle.reader.specs.Judge.{Held, nothing, Word}
use Rattle.reader.specs.Enough.{plain}
use Rattle.take.specs.Judged.{having}
use Rattle.take.specs.Take.{Take, size_of, bytes_of, picture_units, units_of, words_of, bytes-units}
use Rattle.take.specs.Broken.{cut_word}
use Rattle.take.specs.Reading.{listed, fits, full, take-goes, take-said, sets-goes, sets-held}

-- Reading an accepted take from its first byte with nothing held answers its size and kind, its picture parameter set, and each picture with its visible
-- samples, in order and at their offsets; then End, however often it is asked for.
pub round_trip : (T : Take) (k : ℕ)
    → answers plain (bytes_of T) (length (units_of T) + k) nothing 0 ≡ listed 0 (units_of T) (words_of T) ++ replicate k ended
round_trip T k =
    rw (bytes-units T) (reads plain k nothing (units_of T) (take-goes T) ∙ ap (λ (l : List (Say Word)). l ++ replicate k ended) (take-said T 0))

-- ---- a cut

-- what is answered about the units kept is what is answered about them in the whole take
pub kept-said : (judge : Held → List ℕ → Verdict Held Word) (h : Held) (p : ℕ) (K R : List (List ℕ)) (ws : List Word)
    → says judge h p (K ++ R) ≡ listed p (K ++ R) ws → says judge h p K ≡ listed p K ws
unfolding says listed
kept-said judge h p [] R ws e = refl
kept-said judge h p (u ∷ K) R [] e = let z : ◌≡◌ {A = ℕ} 0 1 = cc in absurd (omega arith)
kept-said judge h p (u ∷ K) R (w ∷ ws) e =
    let x : (judge h u).word ≡ w = cc in
    let y : says judge (judge h u).held (p + 4 + length u) (K ++ R) ≡ listed (p + 4 + length u) (K ++ R) ws = cc in
    rw (x, kept-said judge (judge h u).held (p + 4 + length u) K R ws y) refl

-- the frame of a unit behind others
pub frame_behind : (K : List (List ℕ)) (v : List ℕ) (ws : List (List ℕ)) → length (joined K []) + (4 + length v) ≤ length (joined (K ++ (v ∷ ws)) [])
unfolding joined
frame_behind K v ws =
    rw (joined-append K (v ∷ ws) [], joined-tail K (0 ∷ start_code (v ++ joined ws [])), length-append (joined K []) (0 ∷ start_code (v ++ joined ws [])))
    (omega (arith, length-append v (joined ws [])))

-- what is answered about the unit that a cut after n bytes falls in: nothing where it falls behind the take
abbrev pub cut_says : ℕ → Take → List (Say Word)
cut_says n T = cond (leb (length (bytes_of T)) n) [] (map (said (place_by 0 (kept n (units_of T)) + 4)) (cut_word (length (kept n (units_of T))) (n - place_by 0 (kept n (units_of T)))))

-- the answers about the units kept, and about the unit that the cut falls in
pub record Told (T : Take) (n : ℕ) : Type 0 where
  pub moves : Moves plain (held_by plain nothing (kept n (units_of T))) (broken n (units_of T))
  pub is : told plain n nothing (units_of T) ≡ cut_says n T
  pub said : says plain nothing 0 (kept n (units_of T)) ≡ listed 0 (kept n (units_of T)) (words_of T)

-- ---- damage

-- the place behind the first picture's start code
unfoldable pub picture_code : Take → ℕ
picture_code T = length (joined (sps_unit (size_of T) ∷ pps_unit ∷ []) []) + 4

-- the bytes s of which those from i up to j are replaced by m
unfoldable pub replaced : List ℕ → ℕ → ℕ → List ℕ → List ℕ
replaced s i j m = take i s ++ (m ++ drop j s)

-- a take by its parameter sets and the bytes behind the first picture's start code
pub first_coded : (T : Take) → bytes_of T ≡ joined (sps_unit (size_of T) ∷ pps_unit ∷ []) (0 ∷ start_code (picture_unit (size_of T) (lends_of T.first) ++ joined (picture_units T.others) []))
unfolding picture_units joined
first_coded T = bytes-units T ∙ joined-append (sps_unit (size_of T) ∷ pps_unit ∷ []) (picture_unit (size_of T) (lends_of T.first) ∷ picture_units T.others) []

-- Replace any stretch of a take behind the first picture's start code, the bytes from i up to j, by anything, m; and take any start code that stands wholly
-- behind it, at k. The reader, from the first byte with nothing held, arrives there after some calls, n; and from there on it answers, however often it is
-- called, what it answers there in the undamaged take, with the offsets moved by the change in length.
pub damage : (T : Take) (i j k : ℕ) (m : List ℕ) → picture_code T ≤ i → i ≤ j → j ≤ k → code (drop k (bytes_of T)) ≡ true
    → (n : ℕ) × ((c : ℕ) → answers plain (replaced (bytes_of T) i j m) (n + c) nothing 0
    ≡ answers plain (replaced (bytes_of T) i j m) n nothing 0 ++ map (moved (j - i) (length m)) (answers plain (bytes_of T) c (having (size_of T) true) k))
unfolding replaced picture_code picture_units
damage T i j k m l a b c =
    let s = bytes_of T in
    let h = sets-held T [] in
    let sets = sps_unit (size_of T) ∷ pps_unit ∷ [] in
    let f = front sets (picture_unit (size_of T) (lends_of T.first) ++ joined (picture_units T.others) []) i (omega (arith, place-joined 0 sets)) in
    let g : take i s ≡ joined sets (0 ∷ start_code f.0) = ap (λ (y : List ℕ). take i y) (first_coded T) ∙ f.1 in
    let long : k + 3 ≤ length s = code_fits s k c in
    let t : length (take i s) ≡ i = length-take-le i s (omega arith) in
    let d : length (part s i (j - i)) ≡ j - i = part_length s i (j - i) (omega arith) in
    let x : i + (j - i) ≡ j = omega arith in
    let y : j + (k - j) ≡ k = omega arith in
    let z : i + (j - i + (k - j)) ≡ k = omega arith in
    let v : drop i s ≡ part s i (j - i) ++ drop j s = rw x at (part_rest s i (j - i)) in
    let w : take i s ++ (part s i (j - i) ++ drop j s) ≡ s = rw v at (take-append-drop i s) in
    let o : code (drop (k - j) (drop j s)) ≡ true = rw (drop-drop (k - j) j s) (rw y c) in
    let r = damage_reads plain sets (take i s) f.0 (part s i (j - i)) m (drop j s) nothing (k - j) g (sets-goes T [] tt) (rw h (full (size_of T) (fits T))) o in
    rw (t, d, w, z, h) at r
