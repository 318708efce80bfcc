-- Theorems over specs/Laws.antt that rest on a definition which a must-fail edit of this crate changes. They stand here, so that the edit is read and refused.
use Rattle.std.specs.Prelude.{◌≡◌, refl, Some, Ok, List, Bool, true, false, ℕ, ◌+◌, ◌-◌, ◌^◌, ℤ, nat_abs, length}
use Rattle.std.proofs.Common.{arith, leb-true}
use Rattle.lists.specs.Fill.{splice}
use Rattle.lists.specs.Test.{either}
use Rattle.bits.specs.Bits.{bits_of, bit_count}
use Rattle.bits.specs.Pack.{packed}
use Rattle.golomb.specs.Code.{ue, ue_below}
use Rattle.golomb.specs.Signed.{se, se_below}
use Rattle.golomb.specs.Answers.{write_of, buffer_of, has_ue, has_se, read_ue, read_se, write_short, write_fits}
use Rattle.golomb.proofs.Answers.{write_none}
use Rattle.golomb.specs.Laws.{stands, ue-stands, se-stands, Accepted}

accepted : (has : Bool) (code s : List ℕ) (place p : ℕ) → write_of has code s place ≡ Ok p → Accepted has code s place p
accepted true code s place p e =
    either (place + length code) (bit_count s)
    (λ h. record { domain = refl; room = h; behind = cc (write_fits code s place h) })
    (λ h. let z : ◌≡◌ {A = ℕ} 0 1 = cc (write_short code s place h) in absurd (omega arith))
accepted false code s place p e = let z : ◌≡◌ {A = ℕ} 0 1 = cc (write_none code s place) in absurd (omega arith)

pub ue-written-read : (s : List ℕ) (place x p : ℕ) → write_of (has_ue x) (ue x) s place ≡ Ok p → read_ue (buffer_of (Ok p) (ue x) s place) place ≡ Some (x, p)
unfolding has_ue
ue-written-read s place x p e =
    let a = accepted (has_ue x) (ue x) s place p e in
    rw a.behind (ue-stands (packed (splice (bits_of s) place (ue x))) place x _ (leb-true x (2 ^ 32 - 2) a.domain) (stands s place (ue x) (ue_below x) a.room))

pub se-written-read : (s : List ℕ) (place : ℕ) (x : ℤ) (p : ℕ) → write_of (has_se x) (se x) s place ≡ Ok p → read_se (buffer_of (Ok p) (se x) s place) place ≡ Some (x, p)
unfolding has_se
se-written-read s place x p e =
    let a = accepted (has_se x) (se x) s place p e in
    rw a.behind (se-stands (packed (splice (bits_of s) place (se x))) place x _ (leb-true (nat_abs x) (2 ^ 31 - 1) a.domain) (stands s place (se x) (se_below x) a.room))
