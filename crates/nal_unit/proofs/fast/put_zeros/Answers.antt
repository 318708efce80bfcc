-- `nal_unit::fast::put_zeros` meets its contract: what is copied is the escape of 64 zeros. Assumes nothing.
use Rattle.std.proofs.Common.{◌≡◌, refl, sym, ap, ◌∙◌, List, ℕ, length, rules}
use Rattle.lists.specs.Fill.{splice}
use Rattle.lists.specs.Part.{part_all}
use Rattle.nal_unit.specs.EscapeCode.{counted}
use Rattle.nal_unit.specs.PutCode.{put-blanks}
use Rattle.nal_unit.proofs.fast.put_zeros.Goals as goal

pub returns : goal.returns
returns c =
    let a = c.args in
    let l : length a.pairs.now ≡ 96 = search rules in
    put-blanks a.out.now a.at (counted a.out.now a.at) refl (sym c.requires.pairs_value) l
    (c.copy_fixed.ensures ∙ ap (λ (v : List ℕ). splice a.out.now a.at v) (part_all a.pairs.now 96 l))
