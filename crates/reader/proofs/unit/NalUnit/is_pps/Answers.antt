-- `reader::unit::NalUnit::is_pps` meets its contract: a payload of another length is another. Assumes nothing.
use Rattle.std.proofs.Common.{refl, sym, ap, ◌∙◌, List, ℕ, length}
use Rattle.lists.specs.Test.{same}
use Rattle.parameter_sets.specs.Pps.{pps_payload, pps_is}
use Rattle.parameter_sets.specs.Lists.{same_lengths}
use Rattle.reader.specs.Heads.{small-length, small-kept, small_whole}
use Rattle.reader.proofs.unit.NalUnit.is_pps.Goals as goal

pub returns-then-payload_len-ne3 : goal.returns-then-payload_len-ne3
returns-then-payload_len-ne3 c =
    let n = small-length c.args.self.take.now c.args.self.begin c.args.self.end c.payload_len.ensures in
    sym (same_lengths _ _ (λ f. c.if-payload_len-ne3.true (n ∙ (f ∙ ap length pps_is))))

pub take_slow-requires-clause-n_in_bounds : goal.take_slow-requires-clause-n_in_bounds
take_slow-requires-clause-n_in_bounds c =
    let n = small-length c.args.self.take.now c.args.self.begin c.args.self.end c.payload_len.ensures in
    small-kept c.requires (sym c.if-payload_len-ne3.false ∙ n)

pub returns : goal.returns
returns c =
    let n = small-length c.args.self.take.now c.args.self.begin c.args.self.end c.payload_len.ensures in
    c.is_pps.ensures ∙ ap (λ (p : List ℕ). same p pps_payload) (small_whole c.requires (sym c.if-payload_len-ne3.false ∙ n) refl c.take_slow.ensures)
