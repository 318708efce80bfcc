-- What a tally counts and says.
--     counted, added    a tally with one comparison more; one with those of another
--     right             whether something was compared, and no difference found
--     line              what is printed of it
-- The counts are those of a u64, which start anew behind its largest.
-- Assumes nothing.
use Rattle.std.specs.Prelude.{Bool, cond, not, ◌&&◌, ℕ, ◌+◌, ◌%◌, ◌^◌, eqb, List, ◌++◌, codes, decimal}
use Rattle.tally.specs.declared.Tally.{Tally}

-- one more where the comparison found a difference
abbrev pub counted : Tally → Bool → Tally
counted t right = record { compared = (t.compared + 1) % 2 ^ 64; wrong = cond right t.wrong ((t.wrong + 1) % 2 ^ 64) }

abbrev pub added : Tally → Tally → Tally
added t part = record { compared = (t.compared + part.compared) % 2 ^ 64; wrong = (t.wrong + part.wrong) % 2 ^ 64 }

-- nothing compared is not right
abbrev pub right : Tally → Bool
right t = not (eqb t.compared 0) && eqb t.wrong 0

abbrev pub line : Tally → List ℕ
line t = cond (right t) (decimal t.compared ++ codes " compared, ok") (decimal t.compared ++ (codes " compared, WRONG: " ++ decimal t.wrong))
