-- `bits::set_bit` meets its contract: what `with_bit` ensures of the byte is what the law `set-bit` asks. Assumes nothing.
use Rattle.bits.specs.Bits.{set-bit}
use Rattle.bits.proofs.set_bit.Goals as goal

pub returns : goal.returns
returns c =
    set-bit c.args.s.now c.args.place c.args.v c.with_bit.result c.requires.0 c.with_bit.ensures
