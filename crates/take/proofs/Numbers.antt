-- Theorems over specs/Numbers.antt that rest on a definition which a must-fail edit of this crate changes. They stand here, so that the edit is read and refused.
use Rattle.std.specs.Prelude.{◌≡◌, List, [], ◌∷◌, map, length, drop}
use Rattle.std.proofs.Common.{sym, ◌∙◌, append-nil, add-zero}
use Rattle.take.specs.Take.{Take, size_of, bytes_of, units_of, words_of, frames}
use Rattle.take.specs.Reading.{listed}
use Rattle.take.specs.Host.{Host, Call, Runs, served, Gets}
use Rattle.take.proofs.Host.{host-round_trip}
use Rattle.take.specs.Numbers.{Sames, after, after_same}

-- Any calls over an accepted take, from its first byte with nothing held, of which one for each of its units was served: behind the first two of these, which
-- answer the parameter sets, each leaves in the planes the numbers of the next picture, at each visible row and column.
pub host-numbers : (H : Host) (T : Take) (cs : List (Call H)) → Runs H (bytes_of T) H.fresh cs
    → length (served H cs) ≡ length (units_of T) → Sames (T.first ∷ T.others) (map after (drop 2 (served H cs)))
unfolding listed
host-numbers H T cs g m = go (served H cs) (rw (append-nil (listed 0 (units_of T) (words_of T))) at (host-round_trip H T cs 0 g (m ∙ sym (add-zero (length (units_of T))))))
  where
    go : (cs : List (Call H)) → Gets H cs (listed 0 (units_of T) (words_of T)) → Sames (T.first ∷ T.others) (map after (drop 2 cs))
    go [] h = absurd h
    go (a ∷ []) h = absurd h.1
    go (a ∷ b ∷ cs) h = after_same H (size_of T) _ (T.first ∷ T.others) cs (frames T) h.1.1
