-- Theorems over specs/InC.antt, and the definitions that hold such proofs, that rest on a definition which a must-fail edit of this crate changes. They stand here, so that the edit is read and refused.
use Rattle.std.specs.Prelude.{◌≡◌, refl, List, [], ◌∷◌, ◌++◌, map, Bool, true, false, ℕ, ◌+◌, eqb, length, drop, replicate}
use Rattle.std.proofs.Common.{ap, ◌∙◌, eqb-true}
use Rattle.nal_unit.specs.Calls.{ended}
use Rattle.ycbcr_image.specs.declared.Session.{Session}
use Rattle.ycbcr_image.specs.Refusals.{session_of}
use Rattle.encoder.specs.Shot.{image_of}
use Rattle.reelpony.specs.Numbers.{shot_in, held_of}
use Rattle.take.specs.Take.{Take, units_of, words_of, bytes_of}
use Rattle.take.specs.Reading.{listed}
use Rattle.take.specs.Host.{Call, Runs, served, Gets}
use Rattle.take.proofs.Host.{host-round_trip}
use Rattle.take.specs.Numbers.{Sames, after}
use Rattle.take.proofs.Numbers.{host-numbers}
use Rattle.take.specs.Written.{Nexts, Shoot, nexts_file, file_of, take_of, take_shots, file_is}
use Rattle.take.specs.InC.{zeros, c, CallIn, NextsBehind, ShootIn, nexts_in, file_in, shots_in, wrote, wrotes, went_in, began, nexts_shots}

-- the next calls that were accepted
nexts_in_lem : (s : Session) (ws : List ℕ) (ks : List CallIn) → held_of ws ≡ s → NextsBehind ws ks → Nexts s (wrotes s ks) × (nexts_in ks ≡ nexts_file s (wrotes s ks))
unfolding wrotes nexts_in nexts_file
nexts_in_lem s ws [] e f = (tt, refl)
nexts_in_lem s ws (k ∷ ks) e f = go (eqb k.number 0) refl (nexts_in_lem s k.session ks (ap held_of f.0.session ∙ e) f.1)
  where
    go : (b : Bool) → eqb k.number 0 ≡ b → Nexts s (wrotes s ks) × (nexts_in ks ≡ nexts_file s (wrotes s ks))
        → Nexts s (wrotes s (k ∷ ks)) × (nexts_in (k ∷ ks) ≡ nexts_file s (wrotes s (k ∷ ks)))
    go true i g =
        let w = went_in s k.picture k.out ws e (rw (eqb-true k.number 0 i) at f.0) in
        rw i ((w.writes, g.0), rw (w.bytes, g.1) refl)
    go false i g = rw i g

shoot_of : ShootIn → Shoot
shoot_of S =
    let s = session_of (image_of (shot_in S.first.picture)) in
    let b = began S in
    record { first = wrote s S.first; others = wrotes s S.others; begun = b.writes; went = (nexts_in_lem s S.first.session S.others b.holds S.went).0 }

pub take_in : ShootIn → Take
take_in S = take_of (shoot_of S)

pub take_in_lem : (S : ShootIn) → (take_in S).first ∷ (take_in S).others ≡ shots_in S
unfolding take_in shoot_of
take_in_lem S = rw ((take_shots (shoot_of S)).0, (take_shots (shoot_of S)).1, nexts_shots (session_of (image_of (shot_in S.first.picture))) S.others) refl

-- What the C calls wrote is a take's bytes: whatever the promises say of a take, they say of this file.
pub file_in_lem : (S : ShootIn) → file_in S ≡ bytes_of (take_in S)
unfolding file_in take_in shoot_of file_of
file_in_lem S =
    let s = session_of (image_of (shot_in S.first.picture)) in
    let b = began S in
    let n = nexts_in_lem s S.first.session S.others b.holds S.went in
    let e : file_in S ≡ file_of (shoot_of S) = rw (b.bytes, n.1) refl in
    e ∙ file_is (shoot_of S)

-- Files written by the C calls, read by the C calls: they answer the size and kind, the picture parameter set and each picture that was accepted, in order and at
-- their offsets, with its visible samples in the planes, stored tight; then End.
pub whole_way : (S : ShootIn) (cs : List (Call c)) (n : ℕ) → Runs c (file_in S) zeros cs → length (served c cs) ≡ length (units_of (take_in S)) + n
    → Gets c (served c cs) (listed 0 (units_of (take_in S)) (words_of (take_in S)) ++ replicate n ended)
whole_way S cs n g = host-round_trip c (take_in S) cs n (rw (file_in_lem S) at g)

-- And the planes have the numbers that were lent, at each visible row and column.
pub numbers-way : (S : ShootIn) (cs : List (Call c)) → Runs c (file_in S) zeros cs → length (served c cs) ≡ length (units_of (take_in S))
    → Sames (shots_in S) (map after (drop 2 (served c cs)))
numbers-way S cs g m = rw (← take_in_lem S) (host-numbers c (take_in S) cs (rw (file_in_lem S) at g) m)
