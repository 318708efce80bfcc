-- Every reading ends (paper 01: "Every entry point takes any input and ends with an answer", of a host that reads on). For any bytes, damaged ones too, any
-- place and anything held.
--     goes_on       each call answers End, or 19, or moves on by a byte at least
--     ends          with planes that are long enough a reading answers nothing but End after no more calls than there are bytes
--     host-ends     so it is of a host's calls
-- Of these proofs/Ends.antt has `host-ends`, since an edit of must-fail/ changes what it rests on.
-- Assumes nothing.
use Rattle.std.specs.Prelude.{◌≡◌, refl, List, ◌++◌, ◌⊎◌, Bool, true, false, ℕ, suc, ◌+◌, ◌≤◌, ◌<◌, length, take, drop, replicate}
use Rattle.std.proofs.Common.{ap, inl, inr, arith}
use Rattle.lists.specs.Test.{either}
use Rattle.nal_unit.specs.StartCode.{start_code, next, code_is, next_there}
use Rattle.nal_unit.specs.Walk.{blank, trim, Calm, meet-stray, stray_some, meet_end, meet-unit}
use Rattle.nal_unit.specs.Calls.{ended, said, Turn, turn, answers, turn_end, turn_stray, turn_unit, reading-ends}
use Rattle.reader.specs.Judge.{Held, Word, refused, judge}
use Rattle.reader.specs.Enough.{plain, plain-moves, stay-nineteen}

-- what a call does that does not end: it gives 19, or it moves
abbrev pub Moves : Turn Held Word → Type 0
Moves t = ((o : ℕ) × (t.say ≡ said o (refused 19))) ⊎ (0 < t.moved)

pub goes_on : (room : ℕ → ℕ) (h : Held) (s : List ℕ) → ((turn (judge room) h s).say ≡ ended) ⊎ Moves (turn (judge room) h s)
goes_on room h s = by (blank (take (next s) s)) refl
  where
    of_unit : (t : List ℕ) → Calm s → drop (next s) s ≡ start_code t → Moves (turn (judge room) h s)
    of_unit t c e = go (judge room h u).stay refl
      where
        u : List ℕ
        u = trim (take (next t) t)

        go : (b : Bool) → (judge room h u).stay ≡ b → Moves (turn (judge room) h s)
        go true k =
            rw (turn_unit (judge room) h s (next s + 3) u (next s + suc (suc (suc (next t)))) (meet-unit s t c e))
            (inl (next s + 3, ap (λ (w : Word). said (next s + 3) w) (stay-nineteen room h u k)))
        go false k = rw (turn_unit (judge room) h s (next s + 3) u (next s + suc (suc (suc (next t)))) (meet-unit s t c e), k) (inr (omega arith))

    by : (b : Bool) → blank (take (next s) s) ≡ b → ((turn (judge room) h s).say ≡ ended) ⊎ Moves (turn (judge room) h s)
    by true c =
        either (length s) (next s) (λ l. inl (ap (λ (t : Turn Held Word). t.say) (turn_end (judge room) h s (meet_end s c l))))
        (λ l. inr (of_unit (drop 3 (drop (next s) s)) c (code_is (drop (next s) s) (next_there s l))))
    by false c = inr (rw (turn_stray (judge room) h s (next s) (meet-stray s c)) (inr (stray_some s c)))

pub ends : (s : List ℕ) (h : Held) (p : ℕ) → (n : ℕ) × (n ≤ length s) × ((k : ℕ) → answers plain s (n + k) h p ≡ answers plain s n h p ++ replicate k ended)
ends s h p = reading-ends plain {P = λ i. Unit {0}} (record { keeps = λ i x u. tt; moves = λ i x u. plain-moves i u }) s h p tt
