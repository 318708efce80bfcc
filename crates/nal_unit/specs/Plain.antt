-- The frame law without a judge's meaning.
--     codes p s        the places of all start codes in s, where s begins at p
--     starts p us      where the start codes of the units us stand, each behind one more zero, where the first zero is at p
--     codes-joined     the start codes of joined bytes are those of the units, and then those of what follows them
--     plain            the judge that answers a unit's bytes and holds nothing
--     plain-reads      a walk over joined bytes answers each unit's bytes with its offset, and then End
-- Assumes nothing.
use Rattle.std.specs.Prelude.{◌≡◌, refl, List, [], ◌∷◌, ◌++◌, Bool, true, false, cond, ℕ, suc, ◌+◌, length, drop, replicate}
use Rattle.std.proofs.Common.{sym, ap, ◌∙◌, add-zero, add_assoc, arith}
use Rattle.std.proofs.Math.Seq.{drop-append-add}
use Rattle.nal_unit.specs.StartCode.{start_code, code, next, code_start, code_first, code-second, next_code, next_past}
use Rattle.nal_unit.specs.Walk.{Whole, whole_next}
use Rattle.nal_unit.specs.Calls.{Verdict, Say, ended, said, answers, Full}
use Rattle.nal_unit.specs.Frame.{joined, place_by, Wholes, says, goes-full, reads}

unfoldable pub codes : ℕ → List ℕ → List ℕ
codes p [] = []
codes p (x ∷ t) = cond (code (x ∷ t)) (p ∷ codes (p + 1) t) (codes (p + 1) t)

unfoldable pub starts : ℕ → List (List ℕ) → List ℕ
starts p [] = []
starts p (u ∷ us) = (p + 1) ∷ starts (p + 4 + length u) us

-- none stands before the next
codes_next : (p : ℕ) (s : List ℕ) → codes p s ≡ codes (p + next s) (drop (next s) s)
unfolding codes next
codes_next p [] = refl
codes_next p (x ∷ t) = by (code (x ∷ t)) refl (codes_next (p + 1) t)
  where
    by : (b : Bool) → code (x ∷ t) ≡ b → codes (p + 1) t ≡ codes (p + 1 + next t) (drop (next t) t)
        → codes p (x ∷ t) ≡ codes (p + next (x ∷ t)) (drop (next (x ∷ t)) (x ∷ t))
    by true e ih = rw (next_code (x ∷ t) e, add-zero p) refl
    by false e ih =
        let q : p + suc (next t) ≡ p + 1 + next t = omega arith in
        rw (next_past x t e, q) (rw e ih)

-- none begins inside another
codes_start : (p : ℕ) (t : List ℕ) → codes p (start_code t) ≡ p ∷ codes (p + 3) t
unfolding codes
codes_start p t =
    rw (code_start t, code-second 0 1 t (omega arith), code_first 1 t (omega arith)) (ap (λ (q : ℕ). p ∷ codes q t) (omega arith))

-- none stands in a whole unit, and none is made at its end
codes_whole : (p : ℕ) (u t : List ℕ) → Whole u → codes p (u ++ t) ≡ codes (p + length u) t
codes_whole p u t w =
    rw (codes_next p (u ++ t), whole_next u t w, drop-append-add u t (next t), ← add_assoc p (length u) (next t)) (sym (codes_next (p + length u) t))

-- The start codes of joined bytes stand where the units' do, and nowhere else; behind the units, where those of what follows them do.
pub codes-joined : (p : ℕ) (us : List (List ℕ)) (t : List ℕ) → Wholes us → codes p (joined us t) ≡ starts p us ++ codes (place_by p us) t
unfolding joined starts place_by codes code
codes-joined p [] t w = refl
codes-joined p (u ∷ us) t w =
    let q : p + 1 + 3 ≡ p + 4 = omega arith in
    codes_start (p + 1) (u ++ joined us t)
    ∙ ap (λ (l : List ℕ). (p + 1) ∷ l) (rw q (codes_whole (p + 4) u (joined us t) w.0 ∙ codes-joined (p + 4 + length u) us t w.1))

unfoldable pub plain : Unit {0} → List ℕ → Verdict (Unit {0}) (List ℕ)
plain h u = record { word = u; held = tt; stay = false }

-- the units with their offsets, where the first zero is at p
unfoldable pub listed : ℕ → List (List ℕ) → List (Say (List ℕ))
listed p [] = []
listed p (u ∷ us) = said (p + 4) u ∷ listed (p + 4 + length u) us

-- it changes nothing, and never keeps the place
pub plain-full : Full plain tt
unfolding plain
plain-full = record { keeps = λ u. refl; moves = λ u. refl }

says_plain : (p : ℕ) (us : List (List ℕ)) → says plain tt p us ≡ listed p us
unfolding plain says listed
says_plain p [] = refl
says_plain p (u ∷ us) = ap (λ (l : List (Say (List ℕ))). said (p + 4) u ∷ l) (says_plain (p + 4 + length u) us)

-- A walk over joined bytes answers each unit's bytes with its offset, in order, and then End, however often it is asked for.
pub plain-reads : (n : ℕ) (us : List (List ℕ)) → Wholes us → answers plain (joined us []) (length us + n) tt 0 ≡ listed 0 us ++ replicate n ended
plain-reads n us w = reads plain n tt us (goes-full plain tt us plain-full w) ∙ ap (λ (l : List (Say (List ℕ))). l ++ replicate n ended) (says_plain 0 us)
