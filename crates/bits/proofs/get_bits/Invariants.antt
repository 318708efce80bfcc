use Rattle.std.proofs.Common.{◌≡◌, ◌+◌, ◌-◌, ◌^◌, ◌<◌}
use Rattle.lists.specs.Part.{part}
use Rattle.bits.specs.Bits.{bits_of, value, value_from}
use Rattle.bits.proofs.get_bits.Given as goal

abbrev pub invariant-loop-i : goal.invariant-loop-i
invariant-loop-i l =
    (l.v < 2 ^ l.i) × (value_from l.v (part (bits_of l.s) (l.place + l.i) (l.n - l.i)) ≡ value (part (bits_of l.s) l.place l.n))
