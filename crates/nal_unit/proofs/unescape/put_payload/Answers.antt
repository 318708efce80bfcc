-- `nal_unit::unescape::put_payload` meets its contract: the first two bytes, then what is kept behind them. Assumes nothing.
use Rattle.std.proofs.Common.{ap, arith, length}
use Rattle.nal_unit.specs.Kept.{un_few}
use Rattle.nal_unit.specs.UnescapeCode.{payload_few, payload-length, payload_all}
use Rattle.nal_unit.proofs.unescape.put_payload.Goals as goal

pub copy-requires-clause-n_in_bounds_2 : goal.copy-requires-clause-n_in_bounds_2
copy-requires-clause-n_in_bounds_2 c = omega (arith, ap length (un_few c.args.s.now c.if-s-lt2.true))

pub returns-then-s-lt2 : goal.returns-then-s-lt2
returns-then-s-lt2 c =
    let a = c.args in
    payload_few a.s.now a.out.now c.if-s-lt2.true c.copy.ensures

pub copy-requires-2-clause-n_in_bounds_2 : goal.copy-requires-2-clause-n_in_bounds_2
copy-requires-2-clause-n_in_bounds_2 c = omega (arith, payload-length c.args.s.now c.if-s-lt2.false)

pub put_rest-requires-clause-s_in_bounds : goal.put_rest-requires-clause-s_in_bounds
put_rest-requires-clause-s_in_bounds c = omega (arith, payload-length c.args.s.now (omega arith), c.copy-2.auto.out)

pub returns : goal.returns
returns c =
    payload_all c.args.s.now c.args.out.now c.if-s-lt2.false c.requires c.copy-2.ensures c.put_rest.ensures
