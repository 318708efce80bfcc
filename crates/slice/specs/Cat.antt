-- Lists made piece by piece, and element by element.
--     cat f i n           n pieces side by side, the first that of i: f i ++ f (i + 1) ++ ..
--     tab f i n           n elements, the first that of i
--     rows_of s step p w  the rows of w elements that stand in s from the place p on, `step` apart
--     Even f m i n        each of the n pieces from that of i on has m elements
-- A loop whose counter is k and whose end is e has `cat f k (e - k)` still to come.
-- Assumes nothing.
use Rattle.std.specs.Prelude.{◌≡◌, refl, List, [], ◌∷◌, ◌++◌, ℕ, zero, suc, ◌+◌, ◌-◌, ◌*◌, ◌/◌, ◌%◌, ◌≤◌, ◌<◌, length, get_or}
use Rattle.std.proofs.Common.{sym, ap, ◌∙◌, append_assoc, append-nil, add-zero, zero-add, zero-mul, suc-mul, mul-le-mul_right, div-add-mod', add-one, arith, length-append, ext_get_or}
use Rattle.slice.specs.Digits.{high_below, low_below}
use Rattle.lists.specs.Part.{part, part_length, part_at, part_none, part-append, part_left, part_right}

unfoldable pub cat : (ℕ → List ℕ) → ℕ → ℕ → List ℕ
cat f i zero = []
cat f i (suc n) = f i ++ cat f (i + 1) n

-- no piece
pub cat_none : (f : ℕ → List ℕ) (i : ℕ) → cat f i 0 ≡ []
unfolding cat
cat_none f i = refl

-- the first piece, then the others
pub cat_more : (f : ℕ → List ℕ) (i n : ℕ) → cat f i (n + 1) ≡ f i ++ cat f (i + 1) n
unfolding cat
cat_more f i n = rw (add-one n) refl

-- of what holds at i and at each of the n places behind it: that it holds behind i
each_later : (P : ℕ → ℕ → Type 0) (i j n : ℕ) → ((k : ℕ) → k < suc n → P (i + k) (j + k)) → (k : ℕ) → k < n → P (i + 1 + k) (j + 1 + k)
each_later P i j n h k l =
    let e : i + 1 + k ≡ i + suc k = omega arith in
    let d : j + 1 + k ≡ j + suc k = omega arith in
    rw (e, d) (h (suc k) (omega arith))

-- and that it holds at i
each_first : (P : ℕ → ℕ → Type 0) (i j n : ℕ) → ((k : ℕ) → k < suc n → P (i + k) (j + k)) → P i j
each_first P i j n h = rw (add-zero i, add-zero j) at (h 0 (omega arith))

-- the same pieces, under whatever numbers, make the same list
pub cat_same : (f g : ℕ → List ℕ) (i j n : ℕ) → ((k : ℕ) → k < n → f (i + k) ≡ g (j + k)) → cat f i n ≡ cat g j n
unfolding cat
cat_same f g i j zero h = refl
cat_same f g i j (suc n) h =
    rw (each_first (λ (a b : ℕ). f a ≡ g b) i j n h, cat_same f g (i + 1) (j + 1) n (each_later (λ (a b : ℕ). f a ≡ g b) i j n h)) refl

-- the first m pieces, then the n behind them
pub cat-append : (f : ℕ → List ℕ) (i m n : ℕ) → cat f i (m + n) ≡ cat f i m ++ cat f (i + m) n
unfolding cat
cat-append f i zero n = rw (zero-add n, add-zero i) refl
cat-append f i (suc m) n =
    let e : suc m + n ≡ suc (m + n) = omega arith in
    let d : i + suc m ≡ i + 1 + m = omega arith in
    rw (e, d, cat-append f (i + 1) m n) (sym (append_assoc (f i) (cat f (i + 1) m) (cat f (i + 1 + m) n)))

-- the last piece stands behind the others
pub cat_last : (f : ℕ → List ℕ) (i n : ℕ) → cat f i (n + 1) ≡ cat f i n ++ f (i + n)
cat_last f i n =
    cat-append f i n 1 ∙ ap (λ (t : List ℕ). cat f i n ++ t) (cat_more f (i + n) 0 ∙ (rw (cat_none f (i + n + 1)) (append-nil (f (i + n)))))

pub record Even (f : ℕ → List ℕ) (m i n : ℕ) : Type 0 where
  pub each : (k : ℕ) → k < n → length (f (i + k)) ≡ m

even_first : {f : ℕ → List ℕ} {m i n : ℕ} → Even f m i (suc n) → length (f i) ≡ m
even_first {f} {m} {i} {n} e = each_first (λ (a b : ℕ). length (f a) ≡ m) i i n e.each

even_later : {f : ℕ → List ℕ} {m i n : ℕ} → Even f m i (suc n) → Even f m (i + 1) n
even_later {f} {m} {i} {n} e = record { each = each_later (λ (a b : ℕ). length (f a) ≡ m) i i n e.each }

-- n pieces of m elements have n * m elements
pub cat-length : {f : ℕ → List ℕ} {m i n : ℕ} → Even f m i n → length (cat f i n) ≡ n * m
unfolding cat
cat-length {f} {m} {i} {n = zero} e = sym (zero-mul m)
cat-length {f} {m} {i} {n = suc n} e =
    rw (length-append (f i) (cat f (i + 1) n), even_first e, cat-length {f = f} {m = m} {i = i + 1} {n = n} (even_later e)) (omega (arith, suc-mul n m))

-- the first k of them
even_take : {f : ℕ → List ℕ} {m i n : ℕ} (k : ℕ) → k ≤ n → Even f m i n → Even f m i k
even_take k h e = record { each = λ j l. e.each j (omega arith) }

-- the pieces before k, the piece k, and the others
pub cat-split : (f : ℕ → List ℕ) (i n k : ℕ) → k < n → cat f i n ≡ cat f i k ++ (f (i + k) ++ cat f (i + k + 1) (n - (k + 1)))
cat-split f i n k h =
    let d : n ≡ k + (n - (k + 1) + 1) = omega arith in
    ap (λ (t : ℕ). cat f i t) d ∙ (cat-append f i k (n - (k + 1) + 1) ∙ ap (λ (t : List ℕ). cat f i k ++ t) (cat_more f (i + k) (n - (k + 1))))

-- l elements from a on of the piece k
pub cat-part : {f : ℕ → List ℕ} {m i n : ℕ} → Even f m i n → (k a l : ℕ) → k < n → a + l ≤ m → part (cat f i n) (k * m + a) l ≡ part (f (i + k)) a l
cat-part {f} {m} {i} {n} e k a l h r =
    let g : length (cat f i k) ≡ k * m = cat-length (even_take k (omega arith) e) in
    rw (cat-split f i n k h, ← g, part_right (cat f i k) (f (i + k) ++ cat f (i + k + 1) (n - (k + 1))) a l)
    (part_left (f (i + k)) (cat f (i + k + 1) (n - (k + 1))) a l (omega (arith, e.each k h)))

-- its element a
cat_at : {f : ℕ → List ℕ} {m i n : ℕ} → Even f m i n → (k a : ℕ) → k < n → a < m → get_or (cat f i n) (k * m + a) 0 ≡ get_or (f (i + k)) a 0
cat_at {f} {m} {i} {n} e k a h l =
    let one : (s : List ℕ) (p : ℕ) → get_or (part s p 1) 0 0 ≡ get_or s p 0 = λ s p. part_at s p 1 0 (omega arith) ∙ ap (λ (q : ℕ). get_or s q 0) (add-zero p) in
    sym (one (cat f i n) (k * m + a)) ∙ (ap (λ (t : List ℕ). get_or t 0 0) (cat-part e k a 1 h (omega arith)) ∙ one (f (i + k)) a)

unfoldable pub rows_of : List ℕ → ℕ → ℕ → ℕ → ℕ → List ℕ
rows_of s step p w y = part s (p + y * step) w

-- the row y
pub rows_at : (s : List ℕ) (step p w y : ℕ) → rows_of s step p w y ≡ part s (p + y * step) w
unfolding rows_of
rows_at s step p w y = refl

-- the first h rows lie in s, each of w elements
pub rows_even : (s : List ℕ) (step p w h : ℕ) → p + h * step + w ≤ length s + step → Even (rows_of s step p w) w 0 h
rows_even s step p w h l = record { each = go }
  where
    go : (k : ℕ) → k < h → length (rows_of s step p w (0 + k)) ≡ w
    go k b = rw (zero-add k, rows_at s step p w k) (part_length s (p + k * step) w (omega (arith, mul-le-mul_right step b)))

-- rows without a gap are one part
pub cat-parts : (s : List ℕ) (p w n : ℕ) → cat (rows_of s w p w) 0 n ≡ part s p (n * w)
cat-parts s p w n = go n 0 ∙ ap (λ (q : ℕ). part s q (n * w)) (rw (zero-mul w) (add-zero p))
  where
    go : (n i : ℕ) → cat (rows_of s w p w) i n ≡ part s (p + i * w) (n * w)
    go zero i = rw (cat_none (rows_of s w p w) i, zero-mul w, part_none s (p + i * w)) refl
    go (suc n) i =
        let e : (n + 1) * w ≡ w + n * w = omega arith in
        let d : p + (i + 1) * w ≡ p + i * w + w = omega arith in
        rw (← add-one n, cat_more (rows_of s w p w) i n, rows_at s w p w i, go n (i + 1), d, e) (sym (part-append s (p + i * w) w (n * w)))

unfoldable pub tab : (ℕ → ℕ) → ℕ → ℕ → List ℕ
tab f i zero = []
tab f i (suc n) = f i ∷ tab f (i + 1) n

-- a tab has the length that it is given
pub tab-length : (f : ℕ → ℕ) (i n : ℕ) → length (tab f i n) ≡ n
unfolding tab
tab-length f i zero = refl
tab-length f i (suc n) = ap suc (tab-length f (i + 1) n)

-- and the element that is its function's
pub tab_at : (f : ℕ → ℕ) (i n j : ℕ) → j < n → get_or (tab f i n) j 0 ≡ f (i + j)
unfolding tab
tab_at f i zero j h = absurd (omega arith)
tab_at f i (suc n) zero h = rw (add-zero i) refl
tab_at f i (suc n) (suc j) h = let e : i + suc j ≡ i + 1 + j = omega arith in rw e (tab_at f (i + 1) n j (omega arith))

-- the same elements, under whatever numbers, make the same list
pub tab_same : (f g : ℕ → ℕ) (i j n : ℕ) → ((k : ℕ) → k < n → f (i + k) ≡ g (j + k)) → tab f i n ≡ tab g j n
unfolding tab
tab_same f g i j zero h = refl
tab_same f g i j (suc n) h =
    rw (each_first (λ (a b : ℕ). f a ≡ g b) i j n h, tab_same f g (i + 1) (j + 1) n (each_later (λ (a b : ℕ). f a ≡ g b) i j n h)) refl

-- pieces of m elements, element by element
pub cat-tab : {f : ℕ → List ℕ} {m n : ℕ} → Even f m 0 n → cat f 0 n ≡ tab (λ j. get_or (f (j / m)) (j % m) 0) 0 (n * m)
cat-tab {f} {m} {n} e = ext_get_or 0 (cat f 0 n) (tab g 0 (n * m)) (rw (cat-length e, tab-length g 0 (n * m)) refl) go
  where
    g : ℕ → ℕ
    g j = get_or (f (j / m)) (j % m) 0

    go : (j : ℕ) → j < length (cat f 0 n) → get_or (cat f 0 n) j 0 ≡ get_or (tab g 0 (n * m)) j 0
    go j h =
        let l : j < n * m = rw (cat-length e) at h in
        let c : get_or (cat f 0 n) (j / m * m + j % m) 0 ≡ get_or (f (0 + j / m)) (j % m) 0 = cat_at e (j / m) (j % m) (high_below n m j l) (low_below n m j l) in
        rw (tab_at g 0 (n * m) j l, zero-add j) (rw (div-add-mod' j m, zero-add (j / m)) at c)
