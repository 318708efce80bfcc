use Rattle.std.proofs.Common.{◌≡◌, ◌++◌, ◌+◌, ◌-◌, length, take}
use Rattle.lists.specs.Fill.{Writing}
use Rattle.bits.specs.Bits.{low_bits, bits_of}
use Rattle.bits.proofs.put_bits.Given as goal

abbrev pub invariant-loop-i : goal.invariant-loop-i
invariant-loop-i l =
    (length l.s ≡ length l.initial.s) × Writing (bits_of l.initial.s) (take l.place (bits_of l.initial.s) ++ low_bits l.n l.v) (bits_of l.s) (l.place + l.i) (low_bits (l.n - l.i) l.v)
