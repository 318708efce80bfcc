-- `parameter_sets::Writer::cropping` meets its contract, field by field. Assumes nothing.
use Rattle.std.proofs.Common.{◌≡◌, Some, None, refl, sym, ap, ◌∙◌, Bool, true, false, ◌++◌, arith, length}
use Rattle.std.proofs.lemmas.Option.{same_Some, none-some}
use Rattle.golomb.specs.Code.{ue}
use Rattle.ycbcr_image.specs.Sizes.{Sequence, sequence_of}
use Rattle.ycbcr_image.proofs.Accepted.{fine}
use Rattle.parameter_sets.specs.declared.FrameCropping.{FrameCropping}
use Rattle.parameter_sets.specs.Sps.{u, crop_right, crop_bottom, cropped, crop_fields}
use Rattle.parameter_sets.specs.Split.{right_most, bottom_most}
use Rattle.parameter_sets.specs.Code.{cropping_of, putting, put_as, put_next, put_last}
use Rattle.parameter_sets.proofs.Fields.{cropped_length, code_zero, low_length}
use Rattle.parameter_sets.proofs.Writer.cropping.Goals as goal

-- what is cropped, and that nothing is
some : (q : Sequence) (r : FrameCropping) → cropping_of q ≡ Some r → (cropped q ≡ true) × (record { left = 0; right = crop_right q; top = 0; bottom = crop_bottom q } ≡ r)
unfolding cropping_of
some q r = go (cropped q) refl
  where
    go : (b : Bool) → cropped q ≡ b → cropping_of q ≡ Some r → (cropped q ≡ true) × (record { left = 0; right = crop_right q; top = 0; bottom = crop_bottom q } ≡ r)
    go true w e = (w, same_Some _ _ (rw w at e))
    go false w e = absurd (none-some _ (rw w at e))

none : (q : Sequence) → cropping_of q ≡ None → cropped q ≡ false
unfolding cropping_of
none q = go (cropped q) refl
  where
    go : (b : Bool) → cropped q ≡ b → cropping_of q ≡ None → cropped q ≡ false
    go true w e = absurd (none-some _ (sym (rw w at e)))
    go false w e = w

pub returns-in-None : goal.returns-in-None
unfolding crop_fields
returns-in-None c =
    rw (none (sequence_of c.args.s) (sym c.frame_cropping.ensures ∙ c.in-None.is)) c.bits.ensures

pub ue-requires-in-Some : goal.ue-requires-in-Some
ue-requires-in-Some c =
    let q = sequence_of c.args.s in
    let is = some q c.in-Some.crop (sym c.frame_cropping.ensures ∙ c.in-Some.is) in
    let x : crop_right q ≡ c.in-Some.crop.right = ap (λ (r : FrameCropping). r.right) is.1 in
    rw (← x) (omega (arith, right_most q (fine c.args.s c.requires.0), cropped_length q is.0, code_zero, low_length 1 1, ap (λ (r : FrameCropping). length (ue r.left)) is.1))

pub ue-requires-in-Some-3 : goal.ue-requires-in-Some-3
ue-requires-in-Some-3 c =
    let q = sequence_of c.args.s in
    let is = some q c.in-Some.crop (sym c.frame_cropping.ensures ∙ c.in-Some.is) in
    let x : crop_bottom q ≡ c.in-Some.crop.bottom = ap (λ (r : FrameCropping). r.bottom) is.1 in
    rw (← x) (omega (arith, bottom_most q (fine c.args.s c.requires.0), cropped_length q is.0, code_zero, low_length 1 1, ap (λ (r : FrameCropping). length (ue r.left)) is.1, ap (λ (r : FrameCropping). length (ue r.right)) is.1, ap (λ (r : FrameCropping). length (ue r.top)) is.1))

pub returns-in-Some : goal.returns-in-Some
unfolding crop_fields
returns-in-Some c =
    let q = sequence_of c.args.s in
    let is = some q c.in-Some.crop (sym c.frame_cropping.ensures ∙ c.in-Some.is) in
    let begun = putting {rest = u 1 1 ++ (ue 0 ++ (ue (crop_right q) ++ (ue 0 ++ ue (crop_bottom q))))} (rw is.0 refl) (omega arith) c.requires.1 in
    let flag = put_next (u 1 1) _ begun c.bits-in-Some.ensures in
    let left = put_next (ue 0) _ flag (put_as (ap (λ (r : FrameCropping). ue r.left) (sym is.1)) c.ue.ensures) in
    let right = put_next (ue (crop_right q)) _ left (put_as (ap (λ (r : FrameCropping). ue r.right) (sym is.1)) c.ue-in-Some.ensures) in
    let top = put_next (ue 0) _ right (put_as (ap (λ (r : FrameCropping). ue r.top) (sym is.1)) c.ue-in-Some-2.ensures) in
    put_last top (put_as (ap (λ (r : FrameCropping). ue r.bottom) (sym is.1)) c.ue-in-Some-3.ensures)
