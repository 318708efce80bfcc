-- What a host has written that calls the proved functions `start` and `next`, every next call with the session that the call before it left: a take.
--     Wrote            an accepted call: the picture, the output lent, the session that it left, the length written
--     Shoot, file_of   the calls, and the bytes that they wrote, one behind the other
--     take_of, file_is  they are a take, of the pictures given (take_shots), and the file is its bytes
-- Assumes nothing.
use Rattle.std.specs.Prelude.{◌≡◌, refl, List, [], ◌∷◌, ◌++◌, ℕ, length, take, drop}
use Rattle.std.proofs.Common.{sym, ap, ◌∙◌, arith, take_at}
use Rattle.ycbcr_image.specs.declared.Session.{Session}
use Rattle.ycbcr_image.specs.Sizes.{Sequence, sequence_of}
use Rattle.ycbcr_image.specs.Refusals.{session_of, refusal_of, refusal_next}
use Rattle.ycbcr_image.proofs.Passed.{passed_next}
use Rattle.encoder.specs.Shot.{Shot, image_of, lends_of, sequence_in}
use Rattle.encoder.specs.Units.{start_bytes, next_bytes}
use Rattle.ycbcr_image.specs.Numbers.{number, number_low, named}
use Rattle.encoder.specs.Answers.{Encoded, wrote, number_of, length_of, session_after, answer_of, out_of, Outcome, accepted, lacking, refused, outcome, start_of, start_out, next_of, next_out}
use Rattle.take.specs.Take.{Follows, Take, nexts_bytes, bytes_of}

pub record Wrote : Type 0 where
  pub shot : Shot
  pub out : List ℕ
  pub session : Session
  pub len : ℕ

-- accepted next calls behind one that left the session s
abbrev pub Nexts : Session → List Wrote → Type 0
Nexts s [] = Unit {0}
Nexts s (c ∷ cs) = (next_of s c.shot c.out ≡ wrote c.session c.len) × Nexts c.session cs

pub record Shoot : Type 0 where
  pub first : Wrote
  pub others : List Wrote
  pub begun : start_of first.shot first.out ≡ wrote first.session first.len
  pub went : Nexts first.session others

unfoldable pub nexts_file : Session → List Wrote → List ℕ
nexts_file s [] = []
nexts_file s (c ∷ cs) = take c.len (next_out s c.shot c.out) ++ nexts_file c.session cs

unfoldable pub file_of : Shoot → List ℕ
file_of S = take S.first.len (start_out S.first.shot S.first.out) ++ nexts_file S.first.session S.others

-- their pictures
abbrev pub shots_in : List Wrote → List Shot
shots_in [] = []
shots_in (c ∷ cs) = c.shot ∷ shots_in cs

-- what an accepted call says of its refusal r, its session s and its bytes w
record Accepted (r : ℕ) (s : Session) (w d : List ℕ) (t : Session) (n : ℕ) : Type 0 where
  none : r ≡ 0
  same : t ≡ s
  bytes : take n (out_of r w d) ≡ w

written : (r : ℕ) (s : Session) (w d : List ℕ) {t : Session} {n : ℕ} → answer_of r s w (length d) ≡ wrote t n → Accepted r s w d t n
written r s w d {t} {n} e = go (outcome r s w d)
  where
    z : number_of (answer_of r s w (length d)) ≡ 0
    z = ap number_of e

    go : Outcome r s w d → Accepted r s w d t n
    go (accepted i l a o) =
        let k : wrote s (length w) ≡ wrote t n = sym a ∙ e in
        let m : length w ≡ n = ap length_of k in
        record { none = i; same = sym (ap (λ (x : Encoded). session_after x s) k); bytes = rw o (take_at w (drop (length w) d) n m) }
    go (lacking i l a o) =
        let k : ◌≡◌ {A = ℕ} 9 0 = sym (ap number_of a) ∙ z in
        absurd (omega arith)
    go (refused i a o) = let k : number (named r) ≡ 0 = sym (ap number_of a) ∙ z in absurd (omega (arith, number_low (named r)))

next_written : (s : Session) (c : Wrote) → next_of s c.shot c.out ≡ wrote c.session c.len
    → Accepted (refusal_next (sequence_of s) (image_of c.shot)) s (next_bytes (sequence_in c.shot) (lends_of c.shot)) c.out c.session c.len
unfolding next_of
next_written s c e = written _ s _ c.out e

start_written : (S : Shoot) → Accepted (refusal_of (image_of S.first.shot)) (session_of (image_of S.first.shot)) (start_bytes (sequence_in S.first.shot) (lends_of S.first.shot)) S.first.out S.first.session S.first.len
unfolding start_of
start_written S = written _ _ _ S.first.out S.begun

nexts_follow : (s : Session) (q : Sequence) (cs : List Wrote) → sequence_of s ≡ q → Nexts s cs → Follows q (shots_in cs)
nexts_follow s q [] e f = tt
nexts_follow s q (c ∷ cs) e f =
    let w = next_written s c f.0 in
    let z : refusal_next q (image_of c.shot) ≡ 0 = rw e at w.none in
    let p = (passed_next q (image_of c.shot) z).0 in
    (z, nexts_follow c.session (sequence_in c.shot) cs (ap sequence_of w.same ∙ (e ∙ p)) f.1)

nexts-file : (s : Session) (cs : List Wrote) → Nexts s cs → nexts_file s cs ≡ nexts_bytes (shots_in cs)
unfolding nexts_file nexts_bytes next_out
nexts-file s [] f = refl
nexts-file s (c ∷ cs) f = rw ((next_written s c f.0).bytes, nexts-file c.session cs f.1) refl

pub take_of : Shoot → Take
take_of S =
    let w = start_written S in
    record { first = S.first.shot; others = shots_in S.others; starts = w.none; follows = nexts_follow S.first.session (sequence_in S.first.shot) S.others (ap sequence_of w.same) S.went }

-- its pictures are those that the calls were given
pub take_shots : (S : Shoot) → ((take_of S).first ≡ S.first.shot) × ((take_of S).others ≡ shots_in S.others)
unfolding take_of
take_shots S = (refl, refl)

-- What was written is a take's bytes: whatever the promises say of a take, they say of this file.
pub file_is : (S : Shoot) → file_of S ≡ bytes_of (take_of S)
unfolding file_of take_of bytes_of start_out
file_is S = rw ((start_written S).bytes, nexts-file S.first.session S.others S.went) refl
