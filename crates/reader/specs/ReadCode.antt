-- Laws of the reader's call that its code cites.
--     Judged v p o n r      the answer r is the verdict v about a unit that begins at o, in a call at p; the next start code or the end is at n
--     Shown                 the same, and the planes are what the verdict makes of them
--     spared h q            h where q is a possible size and kind, else nothing
-- Assumes nothing.
use Rattle.std.specs.Prelude.{◌≡◌, Some, None, is_none, List, [], ◌∷◌, Bool, not, ◌||◌, ℕ, ◌+◌, ◌-◌, ◌≤◌, ◌<◌, ltb, length, take, drop, get_or}
use Rattle.std.specs.Prelude as Prelude
use Rattle.std.proofs.Math.Path.{refl, sym}
use Rattle.std.proofs.Common.{ap, ◌∙◌, true≢false, length-drop, drop_of_length-le}
use Rattle.std.proofs.Math.Bool.{true, false, cond, and-eq-true_iff}
use Rattle.std.proofs.Math.Option.{Option, none, some, some-injective}
use Rattle.std.proofs.Math.Nat.{add-zero}
use native.Mathlib.Omega.{arith}
use borrow.Author.Tests.{ltb-false, le-ltb, lt-ltb, ne_eqb}
use Rattle.lists.specs.Part.{part, part_step}
use Rattle.lists.specs.Test.{same, either, or_left, or_right}
use Rattle.nal_unit.specs.Calls.{Verdict, at, turn_end, turn_stray, turn_unit}
use Rattle.nal_unit.specs.declared.scan.UnitScan.{UnitScan}
use Rattle.nal_unit.specs.ScanCode.{unit_of, unit_is, Scanned}
use Rattle.nal_unit.specs.StartCode.{next, code_is, next_there, next_le}
use Rattle.nal_unit.specs.Unescape.{fault}
use Rattle.nal_unit.specs.Walk.{blank, end, meet, meet-nil, meet-stray, meet_end}
use Rattle.nal_unit.specs.Scan.{meet_at}
use Rattle.parameter_sets.specs.Sps.{base_level}
use Rattle.parameter_sets.specs.Pps.{pps_payload}
use Rattle.parameter_sets.specs.Read.{read_sps}
use Rattle.slice.specs.Grid.{tight-length}
use Rattle.slice.specs.Header.{header_of}
use Rattle.slice.specs.Formed.{right}
use Rattle.slice.specs.Picture.{mbs_in, picture_length, grid_in, samples_in}
use Rattle.ycbcr_image.specs.declared.Session.{Session}
use Rattle.ycbcr_image.specs.Form.{mb_bytes}
use Rattle.ycbcr_image.specs.Sizes.{Sequence, sequence_of, visible_height, visible_row_bytes, tight_length}
use Rattle.ycbcr_image.specs.Refusals.{accepted, session_bad}
use Rattle.reader.specs.declared.HeldSets.{HeldSets}
use Rattle.reader.specs.declared.Reader.{Reader}
use Rattle.reader.specs.declared.Refusal.TheVariants.{Stray}
use Rattle.reader.specs.declared.Answer.TheVariants.{End, Refused}
use Rattle.reader.specs.declared.Step.{Step}
use Rattle.reader.specs.Judge.{Held, nothing, Samples, Word, sps, pps, picture, refused, possible, session-possible, counted, keep, sps_verdict, pps_verdict, short, samples_of, formless, picture_verdict, held_verdict, unit_verdict, judge}
use Rattle.reader.specs.Heads.{payload_at}
use Rattle.reader.specs.Samples.{Rooms, PlanesTook}
use Rattle.reader.specs.Read.{told_of, word_at, sps_of, held_of, room_of, rooms, plane_length, handed_by, laid, Reads}

pub record Judged (v : Verdict Held Word) (p o n : ℕ) (r : Step) : Type 0 where
  pub answer : told_of r.answer ≡ word_at o v.word
  pub place : r.reader.place ≡ cond v.stay p n
  pub held : held_of r.reader.sets ≡ v.held

pub record Shown (v : Verdict Held Word) (p o n : ℕ) (r : Step) (y y' cb cb' cr cr' : List ℕ) : Type 0 where
  pub judged : Judged v p o n r
  pub in_y : y' ≡ laid (handed_by v.word).y y
  pub in_cb : cb' ≡ laid (handed_by v.word).cb cb
  pub in_cr : cr' ≡ laid (handed_by v.word).cr cr

unfoldable pub spared : Held → Sequence → Held
spared h q = cond (possible q) h nothing

-- one verdict, one answer
pub judged_as : {v w : Verdict Held Word} {p o n : ℕ} {r : Step} → v ≡ w → Judged v p o n r → Judged w p o n r
judged_as e j = rw (← e) j

pub shown_as : {v w : Verdict Held Word} {p o n : ℕ} {r : Step} {y y' cb cb' cr cr' : List ℕ} → v ≡ w → Shown v p o n r y y' cb cb' cr cr' → Shown w p o n r y y' cb cb' cr cr'
shown_as e j = rw (← e) j

-- the place it moves to, by another name
pub shown-moved : {v : Verdict Held Word} {p o n m : ℕ} {r : Step} {y y' cb cb' cr cr' : List ℕ} → n ≡ m → Shown v p o n r y y' cb cb' cr cr' → Shown v p o m r y y' cb cb' cr cr'
shown-moved e j = rw (← e) j

-- ---- what the held sets count as

pub spared_yes : (h : Held) (q : Session) {b : Bool} → b ≡ accepted (sequence_of q) → b ≡ true → h ≡ spared h (sequence_of q)
unfolding spared
spared_yes h q e t = rw (session-possible q (sym e ∙ t)) refl

pub spared_no : (h : Held) (q : Session) {b : Bool} → b ≡ accepted (sequence_of q) → b ≡ false → nothing ≡ spared h (sequence_of q)
unfolding spared possible
spared_no h q e t = rw (sym e ∙ t) refl

pub counted_none : (h : HeldSets) → h.sps ≡ None → held_of h ≡ counted (held_of h)
unfolding counted
counted_none h e = rw e refl

pub counted-size : (h : HeldSets) {q : Session} {r : Held} → h.sps ≡ Some q → r ≡ spared (held_of h) (sequence_of q) → r ≡ counted (held_of h)
unfolding counted spared
counted-size h e f = rw e (rw e at f)

-- what counts is possible
pub counted-fit : (h : Held) (c : HeldSets) {q : Session} → held_of c ≡ counted h → c.sps ≡ Some q → accepted (sequence_of q) ≡ true
unfolding counted possible
counted-fit h c {q} e f = go h.sps refl
  where
    held : some (sequence_of q) ≡ (counted h).sps
    held = rw f at (ap (λ (k : Held). k.sps) e)

    by : (p : Sequence) (b : Bool) → possible p ≡ b → h.sps ≡ some p → some (sequence_of q) ≡ (cond b h nothing).sps → accepted (sequence_of q) ≡ true
    by p true t i k =
        let z : sequence_of q ≡ p = some-injective _ _ (k ∙ i) in
        rw z ((and-eq-true_iff (accepted p) _).0 t).0
    by p false t i k = cc

    go : (m : Option Sequence) → h.sps ≡ m → accepted (sequence_of q) ≡ true
    go none i =
        let k : some (sequence_of q) ≡ none = rw i at held in
        cc
    go (some p) i =
        let k : counted h ≡ cond (possible p) h nothing = rw i refl in
        by p (possible p) refl i (rw k at held)

-- ---- parameter sets

pub compare-other : (held q : Sequence) (h : Held) {b : Bool} → b ≡ session_bad held q → b ≡ true → keep h (refused 15) ≡ cond (session_bad held q) (keep h (refused 15)) (keep h (sps q))
compare-other held q h e t = rw (sym e ∙ t) refl

pub compare_same : (held q : Sequence) (h : Held) {b : Bool} → b ≡ session_bad held q → b ≡ false → keep h (sps q) ≡ cond (session_bad held q) (keep h (refused 15)) (keep h (sps q))
compare_same held q h e t = rw (sym e ∙ t) refl

pub sps-new : (h : Held) (q : Sequence) (c : HeldSets) → held_of c ≡ counted h → c.sps ≡ None
    → record { word = sps q; held = record { sps = some q; pps = c.pps }; stay = false } ≡ sps_verdict h (counted h) (some q)
unfolding sps_verdict
sps-new h q c e f = rw (← e, f) refl

pub sps-held : (h : Held) (q : Sequence) (c : HeldSets) {s : Session} → held_of c ≡ counted h → c.sps ≡ Some s
    → cond (session_bad (sequence_of s) q) (keep h (refused 15)) (keep h (sps q)) ≡ sps_verdict h (counted h) (some q)
unfolding sps_verdict
sps-held h q c e f = rw (← e, f) refl

pub sps_not : (h c : Held) {r : Prelude.Option Session} {m : Option Sequence} → sps_of r ≡ m → r ≡ None → keep h (refused 14) ≡ sps_verdict h c m
unfolding sps_verdict
sps_not h c e f = rw (← e, f) refl

pub sps-form : (h c : Held) {r : Prelude.Option Session} {m : Option Sequence} {q : Session} → sps_of r ≡ m → r ≡ Some q → sps_verdict h c (some (sequence_of q)) ≡ sps_verdict h c m
sps-form h c e f = rw (← e, f) refl

pub pps_not : (h c : Held) (X : List ℕ) {b : Bool} → b ≡ same X pps_payload → b ≡ false → keep h (refused 14) ≡ pps_verdict h c X
unfolding pps_verdict
pps_not h c X e t = rw (sym e ∙ t) refl

pub pps_form : (h c : Held) (X : List ℕ) {b : Bool} → b ≡ same X pps_payload → b ≡ true → record { word = pps; held = record { sps = c.sps; pps = true }; stay = false } ≡ pps_verdict h c X
unfolding pps_verdict
pps_form h c X e t = rw (sym e ∙ t) refl

-- ---- pictures

pub short_as : (q : Sequence) (y cb cr : List ℕ) {a b c : ℕ} → a ≡ tight_length q 0 → b ≡ tight_length q 1 → c ≡ tight_length q 2
    → ltb (length y) a || (ltb (length cb) b || ltb (length cr) c) ≡ short (rooms y cb cr) q
unfolding short room_of
short_as q y cb cr e f g = rw (e, f, g) refl

pub formless-long : (q : Sequence) (X : List ℕ) → picture_length q < length X → true ≡ formless q X
unfolding formless
formless-long q X l = rw (lt-ltb (picture_length q) (length X) l) refl

pub formless_right : (q : Sequence) (X : List ℕ) {b : Bool} → length X ≡ picture_length q → b ≡ right (header_of 0 0) (mb_bytes q.form) (mbs_in q) X → not b ≡ formless q X
unfolding formless
formless_right q X l e = rw (le-ltb (picture_length q) (length X) (omega arith), ← e) refl

-- a payload of the length n, where a picture's is m
pub record Measured (q : Sequence) (X : List ℕ) (n m : ℕ) : Type 0 where
  pub has : n ≡ length X
  pub wants : m ≡ picture_length q

module _ (room : ℕ → ℕ) (h : Held) (q : Sequence) (X : List ℕ) {n m : ℕ} (g : Measured q X n m) where
  pub picture_17 : n < m → keep h (refused 17) ≡ picture_verdict room h q X
  unfolding picture_verdict
  picture_17 l = rw (lt-ltb (length X) (picture_length q) (omega (arith, g.has, g.wants))) refl

  pub picture_18 : m ≤ n → {b : Bool} → b ≡ formless q X → b ≡ true → keep h (refused 18) ≡ picture_verdict room h q X
  unfolding picture_verdict
  picture_18 l e t = rw (le-ltb (length X) (picture_length q) (omega (arith, g.has, g.wants)), sym e ∙ t) refl

  pub picture_19 : m ≤ n → {b c : Bool} → b ≡ formless q X → b ≡ false → c ≡ short room q → c ≡ true → record { word = refused 19; held = h; stay = true } ≡ picture_verdict room h q X
  unfolding picture_verdict
  picture_19 l e t f u = rw (le-ltb (length X) (picture_length q) (omega (arith, g.has, g.wants)), sym e ∙ t, sym f ∙ u) refl

  pub picture_shown : m ≤ n → {b c : Bool} → b ≡ formless q X → b ≡ false → c ≡ short room q → c ≡ false → keep h (picture (samples_of q X)) ≡ picture_verdict room h q X
  unfolding picture_verdict
  picture_shown l e t f u = rw (le-ltb (length X) (picture_length q) (omega (arith, g.has, g.wants)), sym e ∙ t, sym f ∙ u) refl

  -- what is not formless has the exact length
  pub picture_exact : m ≤ n → {b : Bool} → b ≡ formless q X → b ≡ false → length X ≡ picture_length q
  picture_exact l e t =
      either (length X) (picture_length q) (λ k. omega (arith, g.has, g.wants)) (λ k. absurd (true≢false (formless-long q X k ∙ (sym e ∙ t))))

-- planes that are not short have room
pub rooms-enough : (q : Sequence) (y cb cr : List ℕ) {b : Bool} → b ≡ short (rooms y cb cr) q → b ≡ false → Rooms q y cb cr
unfolding short room_of
rooms-enough q y cb cr e t =
    let a = or_right (ltb (length y) (tight_length q 0)) _ (sym e ∙ t) in
    record {
      in_y = ltb-false _ _ (or_left (ltb (length y) (tight_length q 0)) _ (sym e ∙ t));
      in_cb = ltb-false _ _ (or_left (ltb (length cb) (tight_length q 1)) _ a);
      in_cr = ltb-false _ _ (or_right (ltb (length cb) (tight_length q 1)) _ a);
    }

samples_length : (q : Sequence) (k : ℕ) (X : List ℕ) → length (samples_in q k X) ≡ tight_length q k
unfolding samples_in tight_length
samples_length q k X = tight-length (grid_in q k) X (visible_row_bytes q k) (visible_height q k)

-- ---- planes

-- nothing
abbrev nobody : Samples
nobody = record { y = []; cb = []; cr = [] }

-- what hands out nothing leaves the planes
shown-idle : {v : Verdict Held Word} {p o n : ℕ} {r : Step} (y cb cr : List ℕ) → handed_by v.word ≡ nobody → Judged v p o n r → Shown v p o n r y y cb cb cr cr
shown-idle y cb cr i j = record { judged = j; in_y = rw i refl; in_cb = rw i refl; in_cr = rw i refl }

pub shown-refused : {v : Verdict Held Word} {h : Held} {b : Bool} {k p o n : ℕ} {r : Step} (y cb cr : List ℕ) → record { word = refused k; held = h; stay = b } ≡ v
    → Judged (record { word = refused k; held = h; stay = b }) p o n r → Shown v p o n r y y cb cb cr cr
shown-refused y cb cr e j = shown_as e (shown-idle y cb cr refl j)

pub shown-sps : {p o n : ℕ} {r : Step} (y cb cr : List ℕ) (h c : Held) (m : Option Sequence) → Judged (sps_verdict h c m) p o n r → Shown (sps_verdict h c m) p o n r y y cb cb cr cr
unfolding sps_verdict
shown-sps y cb cr h c m j = shown-idle y cb cr (go m) j
  where
    compared : (q : Sequence) (b : Bool) → handed_by (cond b (keep h (refused 15)) (keep h (sps q))).word ≡ nobody
    compared q true = refl
    compared q false = refl

    new : (q : Sequence) (s : Option Sequence) → c.sps ≡ s → handed_by (sps_verdict h c (some q)).word ≡ nobody
    new q none e = rw e refl
    new q (some held) e = rw e (compared q (session_bad held q))

    go : (m : Option Sequence) → handed_by (sps_verdict h c m).word ≡ nobody
    go none = refl
    go (some q) = new q c.sps refl

pub shown_pps : {p o n : ℕ} {r : Step} (y cb cr : List ℕ) (h c : Held) (X : List ℕ) → Judged (pps_verdict h c X) p o n r → Shown (pps_verdict h c X) p o n r y y cb cb cr cr
unfolding pps_verdict
shown_pps y cb cr h c X j = shown-idle y cb cr (go (same X pps_payload)) j
  where
    go : (b : Bool) → handed_by (cond b (record { word = pps; held = record { sps = c.sps; pps = true }; stay = false }) (keep h (refused 14))).word ≡ nobody
    go true = refl
    go false = refl

-- a picture fills them
pub shown_picture : {v : Verdict Held Word} {h : Held} {p o n : ℕ} {r : Step} (q : Sequence) (X : List ℕ) {y y' cb cb' cr cr' : List ℕ} → keep h (picture (samples_of q X)) ≡ v
    → Judged (keep h (picture (samples_of q X))) p o n r → PlanesTook q X y y' cb cb' cr cr' → Shown v p o n r y y' cb cb' cr cr'
shown_picture q X e j t =
    shown_as e
    record {
      judged = j;
      in_y = rw (samples_length q 0 X) t.in_y;
      in_cb = rw (samples_length q 1 X) t.in_cb;
      in_cr = rw (samples_length q 2 X) t.in_cr;
    }

-- the length of a plane
pub plane_none : (h : Held) (k : ℕ) → 2 < k → 0 ≡ plane_length h k
unfolding plane_length
plane_none h k l = rw (lt-ltb 2 k l) refl

pub plane-missing : (h : Held) (c : HeldSets) (k : ℕ) → held_of c ≡ counted h → c.sps ≡ None → 0 ≡ plane_length h k
unfolding plane_length
plane-missing h c k e f = either k 2 (λ l. rw (le-ltb 2 k l, ← e, f) refl) (λ l. rw (lt-ltb 2 k l) refl)

pub plane-sized : (h : Held) (c : HeldSets) (k : ℕ) {q : Session} → k ≤ 2 → held_of c ≡ counted h → c.sps ≡ Some q → tight_length (sequence_of q) k ≡ plane_length h k
unfolding plane_length
plane-sized h c k l e f = rw (le-ltb 2 k l, ← e, f) refl

-- 16, and both sets
pub held-missing : (room : ℕ → ℕ) (h : Held) (c : HeldSets) (X : List ℕ) → held_of c ≡ counted h → c.sps ≡ None → keep h (refused 16) ≡ held_verdict room h (counted h) X
unfolding held_verdict
held-missing room h c X e f = rw (← e, f) refl

pub held-sized : (room : ℕ → ℕ) (h : Held) (c : HeldSets) (X : List ℕ) {q : Session} → held_of c ≡ counted h → c.sps ≡ Some q
    → held_verdict room h (record { sps = some (sequence_of q); pps = c.pps }) X ≡ held_verdict room h (counted h) X
held-sized room h c X e f = rw (← e, f) refl

pub sized-missing : (room : ℕ → ℕ) (h : Held) (q : Sequence) (X : List ℕ) {b : Bool} → b ≡ false → keep h (refused 16) ≡ held_verdict room h (record { sps = some q; pps = b }) X
unfolding held_verdict
sized-missing room h q X e = rw e refl

pub sized_both : (room : ℕ → ℕ) (h : Held) (q : Sequence) (X : List ℕ) {b : Bool} → b ≡ true → picture_verdict room h q X ≡ held_verdict room h (record { sps = some q; pps = b }) X
unfolding held_verdict
sized_both room h q X e = rw e refl

-- ---- units

module _ (room : ℕ → ℕ) (h : Held) {x : ℕ} (X : List ℕ) where
  pub header-sps : x ≡ 0x67 → sps_verdict h (counted h) (read_sps base_level X) ≡ unit_verdict room h x X
  unfolding unit_verdict
  header-sps e = rw e refl

  pub header_pps : x ≡ 0x68 → pps_verdict h (counted h) X ≡ unit_verdict room h x X
  unfolding unit_verdict
  header_pps e = rw e refl

  pub header_picture : x ≡ 0x25 → held_verdict room h (counted h) X ≡ unit_verdict room h x X
  unfolding unit_verdict
  header_picture e = rw e refl

  pub header-other : (x ≡ 0x67 → ⊥) → (x ≡ 0x68 → ⊥) → (x ≡ 0x25 → ⊥) → keep h (refused 13) ≡ unit_verdict room h x X
  unfolding unit_verdict
  header-other a b c = rw (ne_eqb x 0x67 a, ne_eqb x 0x68 b, ne_eqb x 0x25 c) refl

module _ (room : ℕ → ℕ) (h : Held) {s : List ℕ} {o : ℕ} {r : UnitScan} (g : Scanned s o r) where
  none_left : (u : List ℕ) → length u ≤ 0 → u ≡ []
  none_left [] l = refl
  none_left (x ∷ u) l = absurd (omega arith)

  pub unit-empty : r.stop ≤ o → keep h (refused 11) ≡ judge room h (unit_of (drop o s))
  unfolding judge
  unit-empty l = rw (none_left (unit_of (drop o s)) (omega (arith, g.stop))) refl

  -- its first byte, and the others
  opens : o < r.stop → o ≤ length s → unit_of (drop o s) ≡ get_or s o 0 ∷ drop 1 (part s o (r.stop - o))
  opens l i =
      let k : o + (r.stop - o) ≤ length s = omega (arith, g.most, g.inside i) in
      let p = part_step s o (r.stop - o) 0 k (omega arith) in
      g.unit ∙ rw (add-zero o) at p

  pub unit_bad : o < r.stop → o ≤ length s → r.calm ≡ None → keep h (refused 12) ≡ judge room h (unit_of (drop o s))
  unfolding judge
  unit_bad l i e =
      let f : fault (unit_of (drop o s)) ≡ true = sym g.bad ∙ ap (λ (m : Prelude.Option ℕ). is_none m) e in
      rw (opens l i) (rw (rw (opens l i) at f) refl)

  pub unit_good : o < r.stop → o ≤ length s → {k : ℕ} → r.calm ≡ Some k → unit_verdict room h (get_or s o 0) (payload_at s o r.stop) ≡ judge room h (unit_of (drop o s))
  unfolding judge payload_at
  unit_good l i e =
      let f : fault (unit_of (drop o s)) ≡ false = sym g.bad ∙ ap (λ (m : Prelude.Option ℕ). is_none m) e in
      rw (opens l i) (rw (rw (opens l i) at f) refl)

-- ---- the call

-- the next start code, or the end, from the place p on is in the take, and a start code has three bytes
pub next_inside : (s : List ℕ) (p : ℕ) {k : ℕ} → p ≤ length s → k ≡ p + next (drop p s) → k ≤ length s
next_inside s p l e = omega (arith, e, next_le (drop p s), length-drop p s)

pub next_three : (s : List ℕ) (p : ℕ) {k : ℕ} → k ≡ p + next (drop p s) → k < length s → k + 3 ≤ length s
next_three s p e l =
    let n = next (drop p s) in
    let c = code_is (drop n (drop p s)) (next_there (drop p s) (omega (arith, e, length-drop p s))) in
    omega (arith, e, ap length c, length-drop n (drop p s), length-drop p s)

module _ (s : List ℕ) (b : Reader) (y cb cr : List ℕ) where
  pub reads_end : meet (drop b.place s) ≡ end → Reads s b y cb cr (record { answer = End; reader = b }) y cb cr
  unfolding at
  reads_end e =
      let t = turn_end (judge (rooms y cb cr)) (held_of b.sets) (drop b.place s) e in
      record { answer = rw t refl; place = rw t (omega arith); held = rw t refl; in_y = rw t refl; in_cb = rw t refl; in_cr = rw t refl }

  pub reads-beyond : length s ≤ b.place → Reads s b y cb cr (record { answer = End; reader = b }) y cb cr
  reads-beyond l = reads_end (rw (drop_of_length-le s l) meet-nil)

  pub reads-stray : {k : ℕ} {t : Bool} → k ≡ b.place + next (drop b.place s) → t ≡ blank (take (k - b.place) (drop b.place s)) → t ≡ false
      → Reads s b y cb cr (record { answer = Refused Stray b.place; reader = record { place = k; sets = b.sets } }) y cb cr
  unfolding at
  reads-stray {k} e f z =
      let n : k - b.place ≡ next (drop b.place s) = omega (arith, e) in
      let m = meet-stray (drop b.place s) (rw n at (sym f ∙ z)) in
      let t = turn_stray (judge (rooms y cb cr)) (held_of b.sets) (drop b.place s) (next (drop b.place s)) m in
      record { answer = rw (t, add-zero b.place) refl; place = rw t e; held = rw t refl; in_y = rw t refl; in_cb = rw t refl; in_cr = rw t refl }

  pub reads_over : {k : ℕ} {t : Bool} → k ≡ b.place + next (drop b.place s) → t ≡ blank (take (k - b.place) (drop b.place s)) → t ≡ true → length s ≤ k
      → Reads s b y cb cr (record { answer = End; reader = b }) y cb cr
  reads_over {k} e f z l =
      let n : k - b.place ≡ next (drop b.place s) = omega (arith, e) in
      reads_end (meet_end (drop b.place s) (rw n at (sym f ∙ z)) (omega (arith, e, length-drop b.place s)))

  pub reads-unit : {k : ℕ} {t : Bool} {r : Step} {y' cb' cr' : List ℕ} → k ≡ b.place + next (drop b.place s) → t ≡ blank (take (k - b.place) (drop b.place s)) → t ≡ true → k < length s
      → Shown (judge (rooms y cb cr) (held_of b.sets) (unit_of (drop (k + 3) s))) b.place (k + 3) (k + 3 + next (drop (k + 3) s)) r y y' cb cb' cr cr'
      → Reads s b y cb cr r y' cb' cr'
  unfolding at
  reads-unit {k} e f z l w =
      let n : k - b.place ≡ next (drop b.place s) = omega (arith, e) in
      let m = meet_at s b.place (k + 3) (rw n at (sym f ∙ z)) (omega (arith, e)) (omega (arith, e)) in
      let v = judge (rooms y cb cr) (held_of b.sets) (unit_of (drop (k + 3) s)) in
      let t = turn_unit (judge (rooms y cb cr)) (held_of b.sets) (drop b.place s) _ _ _ (rw (← unit_is (drop (k + 3) s)) at m) in
      let o : b.place + (next (drop b.place s) + 3) ≡ k + 3 = omega (arith, e) in
      record {
        answer = rw (t, o) w.judged.answer;
        place = rw t (w.judged.place ∙ moved v.stay _ _ _ (omega (arith, e)));
        held = rw t w.judged.held;
        in_y = rw t w.in_y;
        in_cb = rw t w.in_cb;
        in_cr = rw t w.in_cr;
      }
    where
      moved : (c : Bool) (p n m : ℕ) → n ≡ p + m → cond c p n ≡ p + cond c 0 m
      moved true p n m e = omega arith
      moved false p n m e = e
