-- `parameter_sets::read_sps` meets its contract, test by test. Assumes nothing.
use Rattle.std.proofs.Common.{◌≡◌, refl, sym, ap, ap₂, ◌∙◌, List, ℕ, Bool, true, false, arith, cond, rules}
use Rattle.std.specs.Bool.{then_some}
use Rattle.std.proofs.Math.Option.{some, none}
use Rattle.lists.specs.Test.{same}
use Rattle.ycbcr_image.specs.declared.Session.{Session}
use Rattle.ycbcr_image.specs.Sizes.{Sequence, sequence_of}
use Rattle.parameter_sets.specs.Answers.{sps_read}
use Rattle.parameter_sets.specs.Read.{form_in, guessed}
use Rattle.parameter_sets.specs.Code.{sized, read-refused, read-tested}
use Rattle.parameter_sets.proofs.Equal.{pointwise_same}
use Rattle.parameter_sets.proofs.read_sps.Goals as goal

-- the session says what is guessed
says : (p : List ℕ) (w h : ℕ) (q : Sequence) → w ≡ (guessed p).width → h ≡ (guessed p).height → q ≡ sized w h (form_in p) → q ≡ guessed p
unfolding guessed
says p w h q d e s = s ∙ ap₂ (λ (x y : ℕ). sized x y (form_in p)) d e

-- a test chooses what is read
chosen : (b : Bool) (s : Session) → sps_read (then_some b s) ≡ cond b (some (sequence_of s)) none
chosen true s = refl
chosen false s = refl

pub returns-then-not-is_accepted : goal.returns-then-not-is_accepted
returns-then-not-is_accepted c =
    let p = c.args.payload.now in
    let w : c.in_ok-width.width ≡ (guessed p).width = grind arith in
    let h : c.in_ok-height.height ≡ (guessed p).height = grind arith in
    sym (read-refused _ _ _ (says p _ _ _ w h c.form_in-s.ensures) (sym c.if-not-is_accepted.ensures))

pub returns : goal.returns
returns c =
    let p = c.args.payload.now in
    let w : c.in_ok-width.width ≡ (guessed p).width = grind arith in
    let h : c.in_ok-height.height ≡ (guessed p).height = grind arith in
    let e : c.eq.result ≡ same p _ = c.eq.ensures ∙ pointwise_same _ _ ∙ ap₂ same (search rules) c.sps-form.ensures.bytes in
    ap sps_read c.then_some.ensures ∙ chosen c.eq.result c.form_in-s.result
    ∙ sym (read-tested _ _ _ (says p _ _ _ w h c.form_in-s.ensures) (sym c.if-not-is_accepted.ensures) ∙ rw (← e) refl)
