-- Theorems over specs/Host.antt that rest on a definition which a must-fail edit of this crate changes. They stand here, so that the edit is read and refused.
use Rattle.std.specs.Prelude.{◌≡◌, true, ℕ, ◌+◌, ◌-◌, ◌≤◌, eqb, length, take, drop, replicate}
use Rattle.std.proofs.Math.Path.{refl, ap}
use Rattle.std.proofs.Common.{sym, ◌∙◌, true≢false, eq-eqb}
use mathlib.Core.List.{List, [], ◌∷◌, ◌++◌, map}
use Rattle.std.proofs.Math.Logic.{inl, inr}
use Rattle.std.proofs.Math.Nat.{add-zero}
use Rattle.nal_unit.specs.StartCode.{code}
use Rattle.nal_unit.specs.Calls.{ended, at, Turn, answers}
use Rattle.nal_unit.specs.Cut.{kept}
use Rattle.nal_unit.specs.Damage.{moved}
use Rattle.reader.specs.Judge.{Held, nothing, Samples, Word}
use Rattle.reader.specs.Read.{told, number_told, rooms, laid}
use Rattle.reader.specs.Counted.{turn_leaves}
use Rattle.reader.specs.Enough.{plain, turn_plain, turn_other, turn_or}
use Rattle.take.specs.Judged.{having}
use Rattle.take.specs.Take.{Take, size_of, bytes_of, units_of, words_of}
use Rattle.take.specs.Reading.{listed}
use Rattle.take.specs.Promises.{round_trip, cut_says, picture_code, replaced}
use Rattle.take.proofs.Promises.{cut}
use Rattle.take.specs.Promises.{damage}
use Rattle.take.specs.Host.{Planes, turn_over, Host, Call, Runs, served, Lends, Gets, handed_at, plain_of, served-plain, Unchanged, refusal, Got}

module _ (H : Host) where
  -- one call, and those behind it
  one_more : (s : List ℕ) (b : H.State) (c : Call H) (cs : List (Call H)) → H.Reads s b c.lent c.answer c.left c.planes
      → Gets H (served H cs) (answers plain s (length (served H cs)) (H.held c.left) (H.place c.left))
      → Gets H (served H (c ∷ cs)) (answers plain s (length (served H (c ∷ cs))) (H.held b) (H.place b))
  unfolding answers served at
  one_more s b c cs r g =
      let p = H.place b in
      let x = (plain_of H) s b in
      let f = H.turns s b c.lent c.answer c.left c.planes r in
      elim (turn_or (rooms c.lent.y c.lent.cb c.lent.cr) (H.held b) (drop p s)) [
        | inl e ↦
            let got : Got H c (at p x.say) =
            record {
              answer = rw e at f.answer;
              in_y = rw (handed_at p x.say) (rw e at f.in_y);
              in_cb = rw (handed_at p x.say) (rw e at f.in_cb);
              in_cr = rw (handed_at p x.say) (rw e at f.in_cr);
            } in
            let t : H.held c.left ≡ x.held = rw e at f.holds in
            let m : H.place c.left ≡ p + x.moved = rw e at f.moves in
            rw ((served-plain H) s b c r e) (got, rw (t, m) at g)
        | inr e ↦
            let n : H.number c.answer ≡ 19 = H.numbered c.answer _ f.answer ∙ ap (λ (t : Turn Held Word). number_told (told (at p t.say))) e.1 in
            let t : H.held c.left ≡ H.held b = f.holds ∙ ap (λ (t : Turn Held Word). t.held) e.1 in
            let m : H.place c.left ≡ p = f.moves ∙ (ap (λ (t : Turn Held Word). p + t.moved) e.1 ∙ add-zero p) in
            rw (eq-eqb (H.number c.answer) 19 n) (rw (t, m) at g)
      ]

  -- Any calls over any bytes, from any state, with planes of any lengths: those that were not answered with 19 answer, and leave in the planes, what the walk says
  -- of as many calls with planes that are long enough.
  pub runs-get : (s : List ℕ) (b : H.State) (cs : List (Call H)) → Runs H s b cs → Gets H (served H cs) (answers plain s (length (served H cs)) (H.held b) (H.place b))
  unfolding answers served
  runs-get s b [] g = tt
  runs-get s b (c ∷ cs) g = one_more s b c cs g.0 (runs-get s c.left cs g.1)

  -- from a state that has not begun
  pub fresh-get : (s : List ℕ) (cs : List (Call H)) → Runs H s H.fresh cs → Gets H (served H cs) (answers plain s (length (served H cs)) nothing 0)
  fresh-get s cs g = rw (H.begins.0, H.begins.1) at (runs-get s H.fresh cs g)

  pub lends-served : (s : List ℕ) (b : H.State) (cs : List (Call H)) → Lends H b cs → Runs H s b cs → served H cs ≡ cs
  unfolding served
  lends-served s b [] l g = refl
  lends-served s b (c ∷ cs) l g =
      rw ((served-plain H) s b c g.0 (turn_plain (rooms c.lent.y c.lent.cb c.lent.cr) (H.held b) l.0 (drop (H.place b) s)), lends-served s c.left cs l.1 g.1) refl

  -- Any calls over an accepted take, from its first byte with nothing held: those that were served answer its size and kind, its picture parameter set and each
  -- picture, in order and at their offsets, and each picture's call leaves its visible samples in the planes, stored tight; then End, however often it is
  -- asked for.
  pub host-round_trip : (T : Take) (cs : List (Call H)) (n : ℕ) → Runs H (bytes_of T) H.fresh cs
      → length (served H cs) ≡ length (units_of T) + n → Gets H (served H cs) (listed 0 (units_of T) (words_of T) ++ replicate n ended)
  host-round_trip T cs n g m = rw (m, round_trip T n) at (fresh-get (bytes_of T) cs g)

  -- The same over the first n bytes of a take: the units that are whole within n, then at most one refusal, then End.
  pub host-cut : (T : Take) (n : ℕ) (cs : List (Call H)) (m : ℕ) → Runs H (take n (bytes_of T)) H.fresh cs
      → length (served H cs) ≡ length (kept n (units_of T)) + (length (cut_says n T) + m)
      → Gets H (served H cs) (listed 0 (kept n (units_of T)) (words_of T) ++ (cut_says n T ++ replicate m ended))
  host-cut T n cs m g z = rw (z, cut T n m) at (fresh-get (take n (bytes_of T)) cs g)

  -- The same over a take of which any stretch behind the first picture's start code, from u up to v, is replaced by anything, m: after some number of calls,
  -- which the damage alone decides, the calls answer and leave what they do in the undamaged take from the start code at o on, any that stands wholly behind
  -- the stretch, with the offsets moved.
  pub host_damage : (T : Take) (u v o : ℕ) (m : List ℕ) → picture_code T ≤ u → u ≤ v → v ≤ o → code (drop o (bytes_of T)) ≡ true
      → (n : ℕ) × ((cs : List (Call H)) (c : ℕ) → Runs H (replaced (bytes_of T) u v m) H.fresh cs → length (served H cs) ≡ n + c
      → Gets H (served H cs) (answers plain (replaced (bytes_of T) u v m) n nothing 0
      ++ map (moved (v - u) (length m)) (answers plain (bytes_of T) c (having (size_of T) true) o)))
  host_damage T u v o m a b d f =
      let p = damage T u v o m a b d f in
      (p.0, λ cs c g z. rw (z, p.1 c) at (fresh-get (replaced (bytes_of T) u v m) cs g))

pub host-refused : (H : Host) (s : List ℕ) (b : H.State) (P : Planes) (a : H.Answer) (b' : H.State) (Q : Planes) → H.Reads s b P a b' Q → (H.number a ≡ 0 → ⊥) → Unchanged H b P a b' Q
host-refused H s b P a b' Q r z =
    let p = H.place b in
    let h = H.held b in
    let t = turn_over s p h P in
    let f = H.turns s b P a b' Q r in
    let n : H.number a ≡ number_told (told (at p t.say)) = H.numbered a _ f.answer in
    let k = refusal p t.say (λ e. z (n ∙ e)) in
    let place : H.number a ≡ 19 → H.place b' ≡ p = λ i.
    elim (turn_or (rooms P.y P.cb P.cr) h (drop p s)) [
      | inl e ↦ absurd (true≢false (sym (eq-eqb _ 19 (sym n ∙ i)) ∙ (ap (λ (x : Turn Held Word). eqb (number_told (told (at p x.say))) 19) e ∙ turn_other h p (drop p s))))
      | inr e ↦ f.moves ∙ (ap (λ (x : Turn Held Word). p + x.moved) e.1 ∙ add-zero p)
    ] in
    record {
      in_y = f.in_y ∙ ap (λ (X : Samples). laid X.y P.y) k.1;
      in_cb = f.in_cb ∙ ap (λ (X : Samples). laid X.cb P.cb) k.1;
      in_cr = f.in_cr ∙ ap (λ (X : Samples). laid X.cr P.cr) k.1;
      holds = f.holds ∙ turn_leaves (rooms P.y P.cb P.cr) h (drop p s) k.0;
      nineteen = place;
    }
