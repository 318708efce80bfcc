use Rattle.std.proofs.Common.{◌≡◌, ◌+◌}
use Rattle.bits.specs.Bits.{bits_from}
use Rattle.golomb.specs.Read.{leading_zero_bits}
use Rattle.golomb.proofs.leading_zero_bits.Given as goal

abbrev pub invariant-loop-zeros : goal.invariant-loop-zeros
invariant-loop-zeros l =
    l.zeros + leading_zero_bits (bits_from l.payload (l.place + l.zeros)) ≡ leading_zero_bits (bits_from l.payload l.place)
