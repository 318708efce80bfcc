-- `nal_unit::taking::write_zeros` meets its contract. Assumes nothing.
use Rattle.std.proofs.Common.{◌≡◌, ℕ, ◌+◌, length, replicate, slice_range}
use Rattle.std.proofs.lemmas.List.{length-replicate}
use Rattle.lists.specs.Part.{part_length}
use Rattle.nal_unit.proofs.Copying.{range-part, mid-splice}
use Rattle.nal_unit.proofs.taking.write_zeros.Goals as goal

pub returns : goal.returns
returns c =
    let a = c.args in
    let l : length (slice_range a.out.now a.at (a.at + a.n)) ≡ a.n = rw (range-part a.out.now a.at a.n) (part_length a.out.now a.at a.n c.requires) in
    let e : c.fill.new.self ≡ replicate {A = ℕ} a.n 0 = rw l at (c.fill.ensures.after (λ y i. i)) in
    rw e (mid-splice a.out.now (replicate {A = ℕ} a.n 0) a.n a.at (length-replicate {A = ℕ} a.n 0))
