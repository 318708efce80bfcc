-- `parameter_sets::guess` meets its contract. Assumes nothing.
use Rattle.std.proofs.Common.{◌≡◌, Option, refl, ap, ◌∙◌, Bool, true, false, List, ℕ, rules, ◌+◌, ◌-◌, ◌*◌}
use Rattle.std.specs.Option.{UnwrapsOrElse}
use Rattle.ycbcr_image.specs.Form.{crop_unit_x, crop_unit_y}
use Rattle.ycbcr_image.specs.Sizes.{Sequence}
use Rattle.parameter_sets.specs.declared.FrameCropping.{FrameCropping}
use Rattle.parameter_sets.specs.Read.{guessed, crop_in, right_in, bottom_in}
use Rattle.parameter_sets.specs.Code.{cropping_in}
use Rattle.parameter_sets.proofs.guess.Goals as goal

-- offsets that are not present are 0
crop : (p : List ℕ) (D : FrameCropping → Type 0) → ((r : FrameCropping) → D r → (r.right ≡ 0) × (r.bottom ≡ 0))
    → (o : Option FrameCropping) (r : FrameCropping) → o ≡ cropping_in p → UnwrapsOrElse o D r → (r.right ≡ right_in p) × (r.bottom ≡ bottom_in p)
unfolding cropping_in right_in bottom_in
crop p D z o r = go (crop_in p) refl
  where
    go : (b : Bool) → crop_in p ≡ b → o ≡ cropping_in p → UnwrapsOrElse o D r → (r.right ≡ right_in p) × (r.bottom ≡ bottom_in p)
    go true w e h = let f = rw (rw w at e) at h in rw w (ap (λ (q : FrameCropping). q.right) f, ap (λ (q : FrameCropping). q.bottom) f)
    go false w e h = rw w (z r (rw (rw w at e) at h))

-- a size is known by its parts
part : {m m' v v' n n' : ℕ} → m ≡ m' → v ≡ v' → n ≡ n' → 16 * (m + 1) - v * n ≡ 16 * (m' + 1) - v' * n'
part e f g = rw (e, f, g) refl

pub returns : goal.returns
unfolding guessed
returns c =
    let crop = crop c.args.payload.now _ (λ r z. (search rules, search rules)) c.cropping_in.result c.unwrap_or_default-crop.result c.cropping_in.ensures c.unwrap_or_default-crop.ensures in (
      c.visible.ensures ∙ part c.sizes_in-sizes.ensures.across (c.crop_unit_x.ensures ∙ ap (λ (q : Sequence). crop_unit_x q.form) c.form_in-form.ensures) crop.0,
      c.visible-2.ensures ∙ part c.sizes_in-sizes.ensures.down (c.crop_unit_y.ensures ∙ ap (λ (q : Sequence). crop_unit_y q.form) c.form_in-form.ensures) crop.1,
    )
