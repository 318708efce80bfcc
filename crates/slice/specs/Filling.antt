-- A lent plane that is being filled with the visible samples out of a payload, in the payload's order.
--     Filled d X pos m out n   the plane held d and is to begin with m bytes of the payload X, byte j of them that at the place pos j. It holds `out` now,
--                              and n bytes of the payload are passed: what stands before n is in its place, all else is as it was
--     Clear pos m n n'         no byte of the plane stands in the payload from n to n'
--     Takes pos m n n' a w     of the bytes from n to n' the plane has the first w, from its place a on, and no other
-- Assumes nothing.
use Rattle.std.specs.Prelude.{◌≡◌, refl, List, ◌++◌, ℕ, ◌+◌, ◌-◌, ◌*◌, ◌≤◌, ◌<◌, length, drop, get_or}
use Rattle.std.proofs.Common.{sym, ap, ◌∙◌, zero-add, arith, length-append, length-drop, ext_get_or}
use Rattle.std.proofs.Math.ListN.{get_or-append}
use Rattle.lists.specs.Part.{part, part_at, part_length}
use Rattle.lists.specs.Fill.{splice, splice-length, front_behind, splice_at, splice_before, splice_behind}
use Rattle.lists.specs.Test.{either}
use Rattle.slice.specs.Cat.{tab, tab_at, tab-length}

pub record Filled (d X : List ℕ) (pos : ℕ → ℕ) (m : ℕ) (out : List ℕ) (n : ℕ) : Type 0 where
  pub long : length out ≡ length d
  pub room : m ≤ length d
  pub new : (j : ℕ) → j < m → pos j < n → get_or out j 0 ≡ get_or X (pos j) 0
  pub old : (j : ℕ) → j < m → n ≤ pos j → get_or out j 0 ≡ get_or d j 0
  pub behind : (j : ℕ) → m ≤ j → get_or out j 0 ≡ get_or d j 0

pub record Clear (pos : ℕ → ℕ) (m n n' : ℕ) : Type 0 where
  pub on : n ≤ n'
  pub none : (j : ℕ) → j < m → n ≤ pos j → pos j < n' → ⊥

pub record Takes (pos : ℕ → ℕ) (m n n' a w : ℕ) : Type 0 where
  pub on : n + w ≤ n'
  pub inside : a + w ≤ m
  pub here : (k : ℕ) → k < w → pos (a + k) ≡ n + k
  pub only : (j : ℕ) → j < m → n ≤ pos j → pos j < n' → (a ≤ j) × (j < a + w)

-- nothing is passed yet
pub fill_start : (d X : List ℕ) (pos : ℕ → ℕ) (m : ℕ) → m ≤ length d → Filled d X pos m d 0
fill_start d X pos m h = record { long = refl; room = h; new = λ j l k. absurd (omega arith); old = λ j l k. refl; behind = λ j l. refl }

-- bytes of which the plane has none are passed
pub fill-skip : {d X : List ℕ} {pos : ℕ → ℕ} {m : ℕ} {out : List ℕ} {n n' : ℕ} → Clear pos m n n' → Filled d X pos m out n → Filled d X pos m out n'
fill-skip {d} {X} {pos} {m} {out} {n} {n'} c f = record { long = f.long; room = f.room; new = new; old = old; behind = f.behind }
  where
    new : (j : ℕ) → j < m → pos j < n' → get_or out j 0 ≡ get_or X (pos j) 0
    new j l k = either n (pos j) (λ g. absurd (c.none j l g k)) (λ g. f.new j l g)

    old : (j : ℕ) → j < m → n' ≤ pos j → get_or out j 0 ≡ get_or d j 0
    old j l k = f.old j l (omega arith)

-- w bytes of the payload are stored from a on
pub fill-put : {d X : List ℕ} {pos : ℕ → ℕ} {m : ℕ} {out : List ℕ} {n n' a w : ℕ} → Takes pos m n n' a w → n + w ≤ length X → Filled d X pos m out n
    → Filled d X pos m (splice out a (part X n w)) n'
fill-put {d} {X} {pos} {m} {out} {n} {n'} {a} {w} t h f =
    record { long = splice-length out a (part X n w) (omega (arith, v)) ∙ f.long; room = f.room; new = new; old = old; behind = behind }
  where
    v : length (part X n w) ≡ w
    v = part_length X n w h

    fits : a ≤ length out
    fits = omega arith

    there : (j : ℕ) → a ≤ j → j < a + w → pos j ≡ n + (j - a)
    there j g k = let e : j ≡ a + (j - a) = omega arith in ap pos e ∙ t.here (j - a) (omega arith)

    kept : (j : ℕ) → (a ≤ j → j < a + w → ⊥) → get_or (splice out a (part X n w)) j 0 ≡ get_or out j 0
    kept j off =
        either
        a
        j
        (λ g. either (a + w) j (λ k. splice_behind out a (part X n w) j fits (omega (arith, v))) (λ k. absurd (off g k)))
        (λ g. splice_before out a (part X n w) j fits g)

    stored : (j : ℕ) → a ≤ j → j < a + w → get_or (splice out a (part X n w)) j 0 ≡ get_or X (pos j) 0
    stored j g k =
        let e : j ≡ a + (j - a) = omega arith in
        ap (λ (i : ℕ). get_or (splice out a (part X n w)) i 0) e
        ∙ (splice_at out a (part X n w) (j - a) fits (omega (arith, v))
        ∙ (part_at X n w (j - a) (omega arith) ∙ ap (λ (i : ℕ). get_or X i 0) (sym (there j g k))))

    new : (j : ℕ) → j < m → pos j < n' → get_or (splice out a (part X n w)) j 0 ≡ get_or X (pos j) 0
    new j l k =
        either
        n
        (pos j)
        (λ g. let i = t.only j l g k in stored j i.0 i.1)
        (λ g. kept j (λ p q. omega (arith, there j p q)) ∙ f.new j l g)

    old : (j : ℕ) → j < m → n' ≤ pos j → get_or (splice out a (part X n w)) j 0 ≡ get_or d j 0
    old j l k = kept j (λ p q. omega (arith, there j p q)) ∙ f.old j l (omega arith)

    behind : (j : ℕ) → m ≤ j → get_or (splice out a (part X n w)) j 0 ≡ get_or d j 0
    behind j l = kept j (λ p q. omega arith) ∙ f.behind j l

-- all is passed: the plane begins with its bytes of the payload, and is what it was behind them
pub fill_done : {d X : List ℕ} {pos : ℕ → ℕ} {m : ℕ} {out : List ℕ} {n : ℕ} → Filled d X pos m out n → ((j : ℕ) → j < m → pos j < n)
    → out ≡ tab (λ j. get_or X (pos j) 0) 0 m ++ drop m d
fill_done {d} {X} {pos} {m} {out} {n} f h = ext_get_or 0 out (T ++ drop m d) (omega (arith, g, length-append T (drop m d), length-drop m d)) go
  where
    T : List ℕ
    T = tab (λ j. get_or X (pos j) 0) 0 m

    g : length T ≡ m
    g = tab-length (λ j. get_or X (pos j) 0) 0 m

    go : (j : ℕ) → j < length out → get_or out j 0 ≡ get_or (T ++ drop m d) j 0
    go j l =
        either
        m
        j
        (λ k. f.behind j k ∙ sym (front_behind T d m j g k))
        (λ k. f.new j k (h j k) ∙ sym (get_or-append T (drop m d) 0 j (omega (arith, g)) ∙ (tab_at (λ j. get_or X (pos j) 0) 0 m j k ∙ ap (λ (i : ℕ). get_or X (pos i) 0) (zero-add j))))

-- of h rows of bw bytes that stand in the payload side by side from n on the plane has the first w bytes each, the rows from its place a on, `step` apart
pub record RowsAt (pos : ℕ → ℕ) (m n a w bw step h : ℕ) : Type 0 where
  pub each : (y : ℕ) → y < h → Takes pos m (n + y * bw) (n + (y + 1) * bw) (a + y * step) w

-- what a function that stores such rows promises: `out` is d with the rows stored, for whatever plane they are the rows of
pub record Fills (X d out : List ℕ) (n a w bw step h : ℕ) : Type 0 where
  pub long : length out ≡ length d
  pub fills : {e : List ℕ} {pos : ℕ → ℕ} {m : ℕ} → RowsAt pos m n a w bw step h → Filled e X pos m d n → Filled e X pos m out (n + h * bw)

-- no row is stored yet
pub fills_none : (X d : List ℕ) (n a w bw step : ℕ) → Fills X d d n a w bw step 0
fills_none X d n a w bw step = record { long = refl; fills = λ r f. let e : n + 0 * bw ≡ n = omega arith in rw e f }

-- the row h is stored
pub fills_more : {X d out : List ℕ} {n a w bw step h : ℕ} → n + h * bw + w ≤ length X → a + h * step + w ≤ length out → Fills X d out n a w bw step h
    → Fills X d (splice out (a + h * step) (part X (n + h * bw) w)) n a w bw step (h + 1)
fills_more {X} {d} {out} {n} {a} {w} {bw} {step} {h} l k g =
    record { long = splice-length out (a + h * step) (part X (n + h * bw) w) (omega (arith, part_length X (n + h * bw) w l)) ∙ g.long; fills = go }
  where
    go : {e : List ℕ} {pos : ℕ → ℕ} {m : ℕ} → RowsAt pos m n a w bw step (h + 1) → Filled e X pos m d n
        → Filled e X pos m (splice out (a + h * step) (part X (n + h * bw) w)) (n + (h + 1) * bw)
    go r f = fill-put (r.each h (omega arith)) l (g.fills (record { each = λ y i. r.each y (omega arith) }) f)
