-- One answer (paper 01, "How answers are held to account"): two answers, and two buffers, that meet a public contract are equal. docs/ANSWERS.md names for each
-- public function which of these says so.
--     one_answer     the writer's calls and the reader's, whole: answer, session or state, every lent byte
--     one_answer_in  the same of the C calls
--     one_value      a contract that is an equation in the inputs
-- Assumes nothing.
use Rattle.std.specs.Prelude.{◌≡◌, List, ℕ}
use Rattle.std.proofs.Common.{sym, ◌∙◌}
use Rattle.ycbcr_image.specs.declared.Session.{Session}
use Rattle.encoder.specs.Shot.{Shot}
use Rattle.encoder.specs.Answers.{Encoded, start_of, start_out, next_of, next_out}
use Rattle.reader.specs.declared.Reader.{Reader}
use Rattle.reader.specs.declared.Step.{Step}
use Rattle.reader.specs.Read.{Reads, reads_one}
use Rattle.reelpony.specs.Numbers.{PictureIn, StartsIn, NextsIn}
use Rattle.reelpony.specs.Reading.{ReadsIn}

pub one_value : {A : Type 0} {c a b : A} → a ≡ c → b ≡ c → a ≡ b
one_value f g = f ∙ sym g

-- Whatever two programs answer to one start call, to one next call in one session, or to one call of the reader, and leave in the bytes lent to them: where both
-- meet the contract, it is the same.
pub one_answer :
    ((p : Shot) (d : List ℕ) (r t : Encoded) (o u : List ℕ) → r ≡ start_of p d → o ≡ start_out p d → t ≡ start_of p d → u ≡ start_out p d → (r ≡ t) × (o ≡ u))
    × ((s : Session) (p : Shot) (d : List ℕ) (r t : Encoded) (o u : List ℕ) → r ≡ next_of s p d → o ≡ next_out s p d → t ≡ next_of s p d → u ≡ next_out s p d → (r ≡ t) × (o ≡ u))
    × ((s : List ℕ) (b : Reader) (y cb cr : List ℕ) (r t : Step) (y' cb' cr' y'' cb'' cr'' : List ℕ) → Reads s b y cb cr r y' cb' cr' → Reads s b y cb cr t y'' cb'' cr''
    → (r ≡ t) × ((y' ≡ y'') × ((cb' ≡ cb'') × (cr' ≡ cr''))))
one_answer = (
  λ p d r t o u a b c e. (one_value a c, one_value b e),
  λ s p d r t o u a b c e. (one_value a c, one_value b e),
  λ s b y cb cr r t y' cb' cr' y'' cb'' cr'' f g. reads_one f g,
)

-- Of the C calls: the result, the numbers and every lent byte.
pub one_answer_in :
    ((p : PictureIn) (d ws : List ℕ) (n m l k : ℕ) (o u v w : List ℕ) → StartsIn p d ws n l o v → StartsIn p d ws m k u w → (n ≡ m) × (l ≡ k) × (o ≡ u) × (v ≡ w))
    × ((p : PictureIn) (d ws : List ℕ) (n m l k : ℕ) (o u v w : List ℕ) → NextsIn p d ws n l o v → NextsIn p d ws m k u w → (n ≡ m) × (l ≡ k) × (o ≡ u) × (v ≡ w))
    × ((s ws y cb cr : List ℕ) (n m : ℕ) (v w a b y' y'' cb' cb'' cr' cr'' : List ℕ) → ReadsIn s ws y cb cr n v a y' cb' cr' → ReadsIn s ws y cb cr m w b y'' cb'' cr''
    → (n ≡ m) × (v ≡ w) × (a ≡ b) × (y' ≡ y'') × (cb' ≡ cb'') × (cr' ≡ cr''))
one_answer_in = (
  λ p d ws n m l k o u v w f g. (one_value f.number g.number, one_value f.len g.len, one_value f.bytes g.bytes, one_value f.session g.session),
  λ p d ws n m l k o u v w f g. (one_value f.number g.number, one_value f.len g.len, one_value f.bytes g.bytes, one_value f.session g.session),
  λ s ws y cb cr n m v w a b y' y'' cb' cb'' cr' cr'' f g. (
    one_value f.number g.number,
    one_value f.reader g.reader,
    one_value f.answer g.answer,
    one_value f.in_y g.in_y,
    one_value f.in_cb g.in_cb,
    one_value f.in_cr g.in_cr,
  ),
)
