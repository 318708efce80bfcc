-- Damage: a stretch of the bytes is replaced by any bytes, more or fewer. Whatever they are, a walk that stands at a start code before them arrives at
-- each start code that stands wholly behind them, since two start codes never overlap; from there on it answers what it would have.
--     Arrives P bytes h p q     some calls lead from the place p, with h held, to the place q with something held in P
--     damage                    from a start code in a, the walk over a ++ (m ++ b) arrives at each start code in b, for every m
--     damage_first              so does the walk from the first byte, if a is whole units, a start code, and anything
--     front                     so are the first bytes of units in a row, if they reach behind a start code
--     before                    the units before that start code are answered as always
--     onward                    from there on, the answers with one stretch are those with another, with their offsets moved
--     damage_reads              the whole reading
-- Assumes nothing.
use Rattle.std.specs.Prelude.{◌≡◌, true, false, ◌⊎◌}
use Rattle.std.proofs.Math.Path.{refl}
use Rattle.std.proofs.Common.{sym, ap, ◌∙◌, inl, inr, add-zero, add_assoc, length-append, take-append-drop, length-take-le}
use mathlib.Core.List.{List, [], ◌∷◌, ◌++◌, map, append-nil, append_assoc}
use Prim.Native.Nat.{ℕ, zero, suc, ◌+◌, ◌-◌, ◌≤◌, ◌<◌}
use native.Mathlib.Omega.{arith}
use Rattle.std.proofs.Math.ListN.{length, take, drop, length-drop}
use Rattle.std.proofs.lemmas.List.{drop-append-le}
use Rattle.std.proofs.Math.Seq.{drop-append-add, drop-drop, take-append-add}
use Rattle.nal_unit.specs.StartCode.{start_code, code, next, code_is, code_start, code_fits, next_code, next_start, next_there, next_most, apart}
use Rattle.nal_unit.specs.Walk.{blank, trim, Calm, calm_code, calm_start, meet-unit, Whole, whole_next, whole_unit}
use Rattle.nal_unit.specs.Calls.{Verdict, Say, ended, astray, said, at, State, answers, after, ans, aft, turn_unit, answers-ans, after_aft, answers-add, suffix, Steady, Full, steady}
use Rattle.nal_unit.specs.Frame.{joined, joined_more, joined-tail, place_by, place-joined, held_by, says, Goes, frame}

-- an answer behind a stretch of m bytes, where the stretch has m' bytes instead
unfoldable pub moved : {A : Type 0} → ℕ → ℕ → Say A → Say A
moved m m' ended = ended
moved m m' (astray o n) = astray (o + m' - m) n
moved m m' (said o w) = said (o + m' - m) w

moved_at : {A : Type 0} (a m m' : ℕ) (x : Say A) → moved m m' (at (a + m) x) ≡ at (a + m') x
unfolding moved at
moved_at a m m' ended = refl
moved_at a m m' (astray o n) = ap (λ (k : ℕ). astray k n) (omega arith)
moved_at a m m' (said o w) = ap (λ (k : ℕ). said k w) (omega arith)

map-moved : {A : Type 0} (a m m' : ℕ) (l : List (Say A)) → map (moved m m') (map (at (a + m)) l) ≡ map (at (a + m')) l
map-moved a m m' [] = refl
map-moved a m m' (x ∷ l) = rw (moved_at a m m' x, map-moved a m m' l) refl

-- units in a row and then a start code with the bytes t behind it, less the zero that all begins with
lead : List (List ℕ) → List ℕ → List ℕ
lead [] t = start_code t
lead (u ∷ us) t = start_code (u ++ (0 ∷ lead us t))

joined-lead : (us : List (List ℕ)) (t : List ℕ) → joined us (0 ∷ start_code t) ≡ 0 ∷ lead us t
unfolding joined lead
joined-lead [] t = refl
joined-lead (u ∷ us) t = rw (joined-lead us t) refl

-- the first i bytes of units in a row, where the start code of the unit behind us stands before i
pub front : (us : List (List ℕ)) (y : List ℕ) (i : ℕ) → place_by 0 us + 4 ≤ i
    → (x : List ℕ) × (take i (joined us (0 ∷ start_code y)) ≡ joined us (0 ∷ start_code x))
front us y i l =
    let r = i - (place_by 0 us + 4) in
    let n : i ≡ length (joined us []) + suc (suc (suc (suc r))) = omega (arith, place-joined 0 us) in (
      take r y,
      ap (λ (k : ℕ). take k (joined us (0 ∷ start_code y))) n
          ∙ (ap (λ (s : List ℕ). take (length (joined us []) + suc (suc (suc (suc r)))) s) (joined-tail us (0 ∷ start_code y))
          ∙ (take-append-add (joined us []) (0 ∷ start_code y) (suc (suc (suc (suc r))))
          ∙ sym (joined-tail us (0 ∷ start_code (take r y))))),
    )

-- it begins with a start code
record Lead (s : List ℕ) : Type 0 where
  stands : code s ≡ true
  near : next (0 ∷ s) ≡ 1
  calm : Calm (0 ∷ s)

leads : (us : List (List ℕ)) (t : List ℕ) → Lead (lead us t)
unfolding lead code next blank
leads [] t = record { stands = refl; near = refl; calm = refl }
leads (u ∷ us) t = record { stands = refl; near = refl; calm = refl }

-- the bytes up to a start code in b, and that start code
seam : (x m b : List ℕ) (k : ℕ) → code (drop k b) ≡ true → x ++ (m ++ b) ≡ (x ++ (m ++ take k b)) ++ start_code (drop 3 (drop k b))
seam x m b k e =
    let c = start_code (drop 3 (drop k b)) in
    rw (append_assoc x (m ++ take k b) c, append_assoc m (take k b) c, ← code_is (drop k b) e, take-append-drop k b) refl

-- how many they are
seam-length : (x m b : List ℕ) (k : ℕ) → code (drop k b) ≡ true → length (x ++ (m ++ take k b)) ≡ length x + (length m + k)
seam-length x m b k e = rw (length-append x (m ++ take k b), length-append m (take k b), length-take-le k b (omega (arith, code_fits b k e))) refl

-- and goes on as t does
lead-append : (us : List (List ℕ)) (t r : List ℕ) → lead us (t ++ r) ≡ lead us t ++ r
unfolding lead
lead-append [] t r = refl
lead-append (u ∷ us) t r = rw (lead-append us t r, append_assoc u (0 ∷ lead us t) r) refl

module _ {H A : Type 0} (judge : H → List ℕ → Verdict H A) where
  pub record Arrives (P : H → Type 0) (bytes : List ℕ) (h : H) (p q : ℕ) : Type 0 where
    pub calls : ℕ
    pub holds : P (after judge bytes calls h p).held
    pub there : (after judge bytes calls h p).place ≡ q

  -- the same over what is left of the bytes
  record Gets (P : H → Type 0) (s : List ℕ) (h : H) (p q : ℕ) : Type 0 where
    calls : ℕ
    holds : P (aft judge calls h p s).held
    there : (aft judge calls h p s).place ≡ q

  -- by place, and by what is left
  arrives : {P : H → Type 0} (bytes : List ℕ) {h : H} {p q : ℕ} → Gets P (drop p bytes) h p q → Arrives P bytes h p q
  arrives bytes {h} {p} {q} g =
      let e = after_aft judge bytes g.calls h p in
      record { calls = g.calls; holds = rw e g.holds; there = rw e g.there }

  -- the call at a start code, or at zeros before it, leads to the next one or the end
  aft-call : (n : ℕ) (h : H) (p : ℕ) (s r : List ℕ) → Calm s → drop (next s) s ≡ start_code r → (judge h (trim (take (next r) r))).stay ≡ false
      → aft judge (suc n) h p s ≡ aft judge n (judge h (trim (take (next r) r))).held (p + (next s + suc (suc (suc (next r))))) (drop (next r) r)
  unfolding aft
  aft-call n h p s r c e m =
      let t = turn_unit judge h s (next s + 3) (trim (take (next r) r)) (next s + suc (suc (suc (next r)))) (meet-unit s r c e) in
      rw (t, m, ← drop-drop (suc (suc (suc (next r)))) (next s) s, e) refl

  -- so that it is enough to go on from there
  past : {P : H → Type 0} → Steady judge P → (h : H) (p : ℕ) (s r : List ℕ) {q : ℕ} (o : ℕ) → Calm s → drop (next s) s ≡ start_code r → P h
      → p + (next s + suc (suc (suc (next r)))) ≡ o → ((i : H) → P i → Gets P (drop (next r) r) i o q) → Gets P s h p q
  past st h p s r o c e i f k =
      let u = trim (take (next r) r) in
      let g = k (judge h u).held (st.keeps h i u) in
      let a = rw f at (aft-call g.calls h p s r c e (st.moves h i u)) in
      record { calls = suc g.calls; holds = rw a g.holds; there = rw a g.there }

  -- from start code to start code: none is beyond the one that stands behind y, and none overlaps it
  reach : {P : H → Type 0} → Steady judge P → (f : ℕ) (h : H) (p : ℕ) (y t : List ℕ) → length y ≤ f → P h
      → Gets P (drop (next (y ++ start_code t)) (y ++ start_code t)) h (p + next (y ++ start_code t)) (p + length y)
  unfolding aft
  reach {P} st zero h p y t l i = record { calls = 0; holds = i; there = omega (arith, next_most y t) }
  reach {P} st (suc f) h p y t l i =
      rw c (by (apart w t (rw c at (next_there (y ++ start_code t) there))) (λ j q k. reach st f j q x t (omega (arith, length-drop n y, length-drop 3 w)) k))
    where
      n : ℕ
      n = next (y ++ start_code t)

      w : List ℕ
      w = drop n y

      x : List ℕ
      x = drop 3 w

      c : drop n (y ++ start_code t) ≡ w ++ start_code t
      c = drop-append-le n y (start_code t) (next_most y t)

      there : n < length (y ++ start_code t)
      there = omega (arith, next_most y t, length-append y (start_code t))

      by : (w ≡ []) ⊎ (w ≡ start_code x)
          → ((j : H) (q : ℕ) → P j → Gets P (drop (next (x ++ start_code t)) (x ++ start_code t)) j (q + next (x ++ start_code t)) (q + length x))
          → Gets P (w ++ start_code t) h (p + n) (p + length y)
      by (inl z) ih = record { calls = 0; holds = i; there = omega (arith, ap length z, length-drop n y, next_most y t) }
      by (inr z) ih =
          let o = p + n + 3 in
          rw (z, e) (past st h (p + n) (start_code r) r (o + next r) (calm_code (start_code r) (code_start r)) (rw (next_start r) refl) i (omega (arith, next_start r)) (λ j k. ih j o k))
        where
          r : List ℕ
          r = x ++ start_code t

          e : p + length y ≡ p + n + 3 + length x
          e = omega (arith, next_most y t, length-drop n y, ap length z)

  -- the call at a whole unit
  pub aft_whole : (n : ℕ) (h : H) (p : ℕ) (s u r : List ℕ) → Calm s → drop (next s) s ≡ start_code (u ++ r) → Whole u → Calm r → (judge h u).stay ≡ false
      → aft judge (suc n) h p s ≡ aft judge n (judge h u).held (p + (next s + suc (suc (suc (length u + next r))))) (drop (next r) r)
  aft_whole n h p s u r c e w d m =
      rw (whole_unit u r w d, whole_next u r w, drop-append-add u r (next r)) at (aft-call n h p s (u ++ r) c e (rw (whole_unit u r w d) m))

  -- over whole units to a start code, and from there as above
  along : {P : H → Type 0} → Steady judge P → (us : List (List ℕ)) (h : H) (p : ℕ) (s y t : List ℕ) → Calm s → drop (next s) s ≡ lead us (y ++ start_code t)
      → Goes judge h us → P (held_by judge h us) → Gets P s h p (p + (next s + length (lead us y)))
  unfolding lead held_by
  along st [] h p s y t c e g i =
      let n = next (y ++ start_code t) in
      let q : p + (next s + suc (suc (suc (length y)))) ≡ p + next s + 3 + length y = omega arith in
      rw q (past st h p s (y ++ start_code t) (p + next s + 3 + n) c e i (omega arith) (λ j k. reach st (length y) j (p + next s + 3) y t (omega arith) k))
  along {P} st (u ∷ us) h p s y t c e g i = by (along st us (judge h u).held o l y t (calm_code l d.stands) (rw z refl) g.2 i)
    where
      l : List ℕ
      l = lead us (y ++ start_code t)

      d : Lead l
      d = leads us (y ++ start_code t)

      z : next l ≡ 0
      z = next_code l d.stands

      o : ℕ
      o = p + (next s + suc (suc (suc (length u + 1))))

      by : Gets P l (judge h u).held o (o + (next l + length (lead us y))) → Gets P s h p (p + (next s + length (lead (u ∷ us) y)))
      by r =
          let q : p + (next s + suc (suc (suc (length (u ++ (0 ∷ lead us y)))))) ≡ o + (next l + length (lead us y)) = omega (arith, z, length-append u (0 ∷ lead us y)) in
          let f = rw d.near at (aft_whole r.calls h p s u (0 ∷ l) c e g.0 d.calm g.1) in
          rw q (record { calls = suc r.calls; holds = rw f r.holds; there = rw f r.there })

  -- From any place in a at which a start code stands, for every stretch m: the walk arrives at each start code that stands in b, whatever m is.
  pub damage : {P : H → Type 0} → Steady judge P → (a m b : List ℕ) (h : H) (p k : ℕ) → P h → code (drop p a) ≡ true → code (drop k b) ≡ true
      → Arrives P (a ++ (m ++ b)) h p (length a + (length m + k))
  unfolding lead held_by
  damage st a m b h p k i e f =
      let w = drop 3 (drop p a) in
      let y = w ++ (m ++ take k b) in
      let t = drop 3 (drop k b) in
      let c = start_code (y ++ start_code t) in
      let s : drop p (a ++ (m ++ b)) ≡ c =
      rw (drop-append-le p a (m ++ b) (omega (arith, code_fits a p e)), code_is (drop p a) e) (ap (λ (l : List ℕ). start_code l) (seam w m b k f)) in
      let q : length a + (length m + k) ≡ p + (next c + length (start_code y)) =
      omega (arith, code_fits a p e, next_start (y ++ start_code t), seam-length w m b k f, length-drop 3 (drop p a), length-drop p a) in
      arrives (a ++ (m ++ b)) (rw (s, q) (along st [] h p c y t (calm_code c (code_start (y ++ start_code t))) (rw (next_start (y ++ start_code t)) refl) tt i))

  -- From the first byte: a is whole units, behind which what is held is in P, then a start code, then anything.
  pub damage_first : {P : H → Type 0} → Steady judge P → (us : List (List ℕ)) (a x m b : List ℕ) (h : H) (k : ℕ) → a ≡ joined us (0 ∷ start_code x)
      → Goes judge h us → P (held_by judge h us) → code (drop k b) ≡ true → Arrives P (a ++ (m ++ b)) h 0 (length a + (length m + k))
  damage_first st us a x m b h k v g i f =
      let y = x ++ (m ++ take k b) in
      let t = drop 3 (drop k b) in
      let l = lead us (y ++ start_code t) in
      let d = leads us (y ++ start_code t) in
      let s : a ++ (m ++ b) ≡ 0 ∷ l = rw (v, joined_more us (0 ∷ start_code x) (m ++ b), joined-lead us (x ++ (m ++ b)), seam x m b k f) refl in
      let q : length a + (length m + k) ≡ 0 + (next (0 ∷ l) + length (lead us y)) =
      omega (arith, d.near, ap length (v ∙ joined-lead us x), ap length (lead-append us x (m ++ take k b)), seam-length (lead us x) m b k f) in
      rw (q, s) (arrives (0 ∷ l) (along st us h 0 (0 ∷ l) y t d.calm (rw d.near refl) g i))

  -- The units before that start code are answered as always, whatever follows.
  pub before : (us : List (List ℕ)) (a x r : List ℕ) (h : H) → a ≡ joined us (0 ∷ start_code x) → Goes judge h us
      → answers judge (a ++ r) (length us) h 0 ≡ says judge h 0 us
  unfolding ans
  before us a x r h v g =
      let f = frame judge 0 h 0 us (0 ∷ start_code (x ++ r)) g (calm_start (x ++ r)) in
      rw (v, joined_more us (0 ∷ start_code x) r, answers-ans judge (joined us (0 ∷ start_code (x ++ r))) (length us) h 0) (rw (add-zero (length us), append-nil) at f)

  -- what is answered behind a stretch does not turn on it
  later : (a m b : List ℕ) (n : ℕ) (h : H) (k : ℕ)
      → answers judge (a ++ (m ++ b)) n h (length a + (length m + k)) ≡ map (at (length a + length m)) (answers judge b n h k)
  later a m b n h k = rw (← append_assoc a m b, ← add_assoc (length a) (length m) k, ← length-append a m) (suffix judge (a ++ m) b n h k)

  -- From there on: a stretch of m' in place of m moves the offsets by the difference in length, and changes nothing else.
  pub onward : (a m m' b : List ℕ) (n : ℕ) (h : H) (k : ℕ)
      → answers judge (a ++ (m' ++ b)) n h (length a + (length m' + k)) ≡ map (moved (length m) (length m')) (answers judge (a ++ (m ++ b)) n h (length a + (length m + k)))
  onward a m m' b n h k = rw (later a m' b n h k, later a m b n h k) (sym (map-moved (length a) (length m) (length m') (answers judge b n h k)))

  -- Where nothing changes what is held, arriving is one equation.
  pub arrived : {bytes : List ℕ} {h g : H} {p q : ℕ} (r : Arrives (λ i. i ≡ g) bytes h p q) → after judge bytes r.calls h p ≡ record { held = g; place = q }
  arrived {bytes} {h} {g} {p} {q} r = by (after judge bytes r.calls h p) r.holds r.there
    where
      by : (s : State H) → s.held ≡ g → s.place ≡ q → s ≡ record { held = g; place = q }
      by s e f = rw (← e, ← f) refl

  -- From any start code in a, with h held that no unit changes, for every m: some calls lead to each start code in b, with h held.
  pub damage_full : (a m b : List ℕ) (h : H) (p k : ℕ) → Full judge h → code (drop p a) ≡ true → code (drop k b) ≡ true
      → (n : ℕ) × (after judge (a ++ (m ++ b)) n h p ≡ record { held = h; place = length a + (length m + k) })
  damage_full a m b h p k f e d =
      let r = damage (steady judge f) a m b h p k refl e d in
      (r.calls, arrived r)

  -- The calls before arriving and those after it make one reading.
  pub resumes : {bytes : List ℕ} {h g : H} {p q : ℕ} (r : Arrives (λ i. i ≡ g) bytes h p q) (j : ℕ)
      → answers judge bytes (r.calls + j) h p ≡ answers judge bytes r.calls h p ++ answers judge bytes j g q
  resumes {bytes} {h} {g} {p} {q} r j =
      answers-add judge bytes r.calls j h p
      ∙ ap (λ (s : State H). answers judge bytes r.calls h p ++ answers judge bytes j s.held s.place) (arrived r)

  -- The whole reading of damaged bytes, m' in place of m, from the first byte: some answers, and then those that the undamaged bytes give from the
  -- start code at k in b on, with their offsets moved. (a as above: whole units, then a start code, then anything.)
  pub damage_reads : (us : List (List ℕ)) (a x m m' b : List ℕ) (h : H) (k : ℕ) → a ≡ joined us (0 ∷ start_code x) → Goes judge h us
      → Full judge (held_by judge h us) → code (drop k b) ≡ true
      → (n : ℕ) × ((j : ℕ) → answers judge (a ++ (m' ++ b)) (n + j) h 0
      ≡ answers judge (a ++ (m' ++ b)) n h 0 ++ map (moved (length m) (length m')) (answers judge (a ++ (m ++ b)) j (held_by judge h us) (length a + (length m + k))))
  damage_reads us a x m m' b h k v g f e =
      let r = damage_first (steady judge f) us a x m' b h k v g refl e in
      (r.calls, λ j. resumes r j ∙ ap (λ (l : List (Say A)). answers judge (a ++ (m' ++ b)) r.calls h 0 ++ l) (onward a m m' b j (held_by judge h us) k))
