-- Theorems over specs/Passed.antt that rest on a definition which a must-fail edit of this crate changes. They stand here, so that the edit is read and refused.
use Rattle.std.specs.Prelude.{◌≡◌, true, ℕ, zero, suc, ◌/◌, ◌≤◌, ◌<◌}
use Rattle.std.proofs.Common.{mul-le-mul_right, div-mul-le_self, arith, ltb-false}
use Rattle.ycbcr_image.specs.declared.DataPlane.{DataPlane}
use Rattle.ycbcr_image.specs.declared.YCbCrImage.{YCbCrImage}
use Rattle.ycbcr_image.specs.Form.{mono, planes}
use Rattle.ycbcr_image.specs.Sizes.{Sequence, padded_height}
use Rattle.ycbcr_image.specs.Refusals.{plane_of, session_of, of_picture, session_bad, accepted, stride_bad, rows_bad, shape_refusal, plane_refusal, chroma_refusal, planes_refusal, refusal_of, refusal_next}
use Rattle.ycbcr_image.proofs.Accepted.{fine}
use Rattle.ycbcr_image.specs.Passed.{neither, row_none, shape-accepted, Lent, Passed, in_colour, same}

lent : (q : Sequence) (p : ℕ) (a : DataPlane) → plane_refusal q p a ≡ 0 → Lent q p a
unfolding plane_refusal stride_bad rows_bad
lent q p a e =
    let s = row_none (stride_bad q p a) _ _ e in
    let r = row_none (rows_bad q p a) _ _ s.1 in
    let fewer : padded_height q p ≤ a.len / a.stride = ltb-false _ _ r.0 in
    record {
      row = ltb-false _ _ s.0;
      rows = omega (arith, mul-le-mul_right a.stride fewer, div-mul-le_self a.len a.stride);
    }

pass : (i : YCbCrImage) → shape_refusal i ≡ 0 → planes_refusal i ≡ 0 → Passed i
unfolding planes_refusal chroma_refusal planes
pass i s l =
    let t : accepted (of_picture i) ≡ true = shape-accepted i s in
    record { sizes = t; fine = fine (session_of i) t; lent = each }
  where
    chroma : (p : ℕ) → suc p < planes (of_picture i).form → chroma_refusal i ≡ 0
    chroma p h = rw (in_colour (mono (of_picture i).form) p h).0 at (neither _ _ l).1

    each : (p : ℕ) → p < planes (of_picture i).form → Lent (of_picture i) p (plane_of i p)
    each zero h = lent _ 0 _ (neither _ _ l).0
    each (suc zero) h = lent _ 1 _ (neither _ _ (chroma 0 h)).0
    each (suc (suc zero)) h = lent _ 2 _ (neither _ _ (chroma 1 h)).1
    each (suc (suc (suc p))) h = absurd (omega (arith, (in_colour (mono (of_picture i).form) (suc (suc p)) h).1))

pub passed : (i : YCbCrImage) → refusal_of i ≡ 0 → Passed i
unfolding refusal_of
passed i e = let n = neither _ _ e in pass i n.0 n.1

pub passed_next : (s : Sequence) (i : YCbCrImage) → refusal_next s i ≡ 0 → (s ≡ of_picture i) × (Passed i)
unfolding refusal_next session_bad
passed_next s i e =
    let n = neither _ _ e in
    let m = row_none (session_bad s (of_picture i)) _ _ n.1 in
    (same s (of_picture i) m.0, pass i n.0 m.1)

-- what the proofs of `check_start` and `check_next` need
pub ruleset passing = (shape-accepted)
