-- `parameter_sets::sps` meets its contract: the pieces are written one behind the other into zeros. Assumes nothing.
use Rattle.std.proofs.Common.{◌≡◌, refl, true, List, ℕ, ◌+◌, ◌/◌, ◌≤◌, arith, length, replicate}
use Rattle.bits.specs.Bits.{BitsPut}
use Rattle.ycbcr_image.specs.declared.Session.{Session}
use Rattle.ycbcr_image.specs.Sizes.{sequence_of}
use Rattle.ycbcr_image.specs.Refusals.{accepted}
use Rattle.ycbcr_image.proofs.Accepted.{fine}
use Rattle.parameter_sets.specs.Sps.{chroma_fields, crop_fields, sps_bits, sps_payload}
use Rattle.parameter_sets.specs.Split.{sps_tail, sps_below, sps_short}
use Rattle.parameter_sets.specs.Code.{head_fields, size_fields, sps-pieces, Putting, putting, put-bytes, put_room, put_next, put_last, packed_in}
use Rattle.parameter_sets.proofs.Fields.{head_length, room}
use Rattle.parameter_sets.proofs.sps.Goals as goal

few : (level : ℕ) (s : Session) → accepted (sequence_of s) ≡ true → length (sps_bits level (sequence_of s)) ≤ 256
few level s h = sps_short level s.kind s.depth s.width s.height (fine s h)

-- all pieces but the last
four : (level : ℕ) (s : Session) {t₁ t₂ t₃ t₄ : List ℕ} {p₁ p₂ p₃ p₄ : ℕ} → accepted (sequence_of s) ≡ true
    → BitsPut (replicate 32 0) 0 (head_fields level (sequence_of s).form) t₁ p₁ → BitsPut t₁ p₁ (chroma_fields (sequence_of s).form) t₂ p₂
    → BitsPut t₂ p₂ (size_fields (sequence_of s)) t₃ p₃ → BitsPut t₃ p₃ (crop_fields (sequence_of s)) t₄ p₄
    → Putting (replicate 32 0) 0 (sps_bits level (sequence_of s)) t₄ p₄ sps_tail
four level s h head chroma sizes cropping =
    let begun = putting (sps-pieces level (sequence_of s)) refl (omega (arith, few level s h)) in
    put_next _ _ (put_next _ _ (put_next _ _ (put_next _ _ begun head) chroma) sizes) cropping

pub head-requires : goal.head-requires
head-requires c = omega (arith, head_length c.args.level (sequence_of c.args.s).form)

pub chroma-requires : goal.chroma-requires
chroma-requires c = omega (arith, head_length c.args.level (sequence_of c.args.s).form, room c.args.level c.args.s c.requires)

pub sizes-requires : goal.sizes-requires
sizes-requires c = (c.requires, omega (arith, head_length c.args.level (sequence_of c.args.s).form, room c.args.level c.args.s c.requires))

pub cropping-requires : goal.cropping-requires
cropping-requires c = (c.requires, omega (arith, head_length c.args.level (sequence_of c.args.s).form, room c.args.level c.args.s c.requires))

pub slice_bounds-put_vui-end : goal.slice_bounds-put_vui-end
slice_bounds-put_vui-end c =
    omega (arith, put-bytes (four c.args.level c.args.s c.requires c.head.ensures c.chroma.ensures c.sizes.ensures c.cropping.ensures))

pub put_vui-end-requires : goal.put_vui-end-requires
put_vui-end-requires c =
    put_room (length sps_tail) (four c.args.level c.args.s c.requires c.head.ensures c.chroma.ensures c.sizes.ensures c.cropping.ensures) (omega arith)

pub returns : goal.returns
unfolding sps_payload
returns c =
    let level = c.args.level in
    let s = c.args.s in
    let all = put_last (four level s c.requires c.head.ensures c.chroma.ensures c.sizes.ensures c.cropping.ensures) c.put_vui-end.ensures.bits in
    let e : c.div_ceil.result ≡ (c.put_vui-end.result + 7) / 8 = omega (arith, c.div_ceil.ensures) in
    rw e (packed_in (sps_bits level (sequence_of s)) (sps_below level (sequence_of s)) (few level s c.requires) c.put_vui-end.ensures.bytes all)
