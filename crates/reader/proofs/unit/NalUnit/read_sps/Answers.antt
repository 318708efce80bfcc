-- `reader::unit::NalUnit::read_sps` meets its contract: a payload of more bytes than the longest form has is none. Assumes nothing.
use Rattle.std.proofs.Common.{sym, ap, ◌∙◌, List, ℕ, arith}
use Rattle.parameter_sets.specs.Sps.{base_level}
use Rattle.parameter_sets.specs.Read.{read_sps}
use Rattle.parameter_sets.specs.Code.{read_none}
use Rattle.reader.specs.Heads.{small-length, small-kept, small-took}
use Rattle.reader.proofs.unit.NalUnit.read_sps.Goals as goal

pub returns-then-n-gt32 : goal.returns-then-n-gt32
returns-then-n-gt32 c =
    let n = small-length c.args.self.take.now c.args.self.begin c.args.self.end c.payload_len-n.ensures in
    sym (read_none _ _ (λ f. omega (arith, f.most, c.if-n-gt32.true, n)))

pub take_slow-requires-clause-n_in_bounds : goal.take_slow-requires-clause-n_in_bounds
take_slow-requires-clause-n_in_bounds c = small-kept c.requires (small-length c.args.self.take.now c.args.self.begin c.args.self.end c.payload_len-n.ensures)

pub returns : goal.returns
returns c =
    let n = small-length c.args.self.take.now c.args.self.begin c.args.self.end c.payload_len-n.ensures in
    c.read_sps.ensures ∙ ap (λ (p : List ℕ). read_sps base_level p) (small-took c.requires n (omega (arith, c.if-n-gt32.false)) c.take_slow.ensures)
