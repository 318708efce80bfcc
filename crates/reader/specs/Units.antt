-- A unit of a take, as the code has it.
--     IsUnit u             its header byte is one, and it ends in the take
--     payload_of u         its payload
--     StandsIn u n p       the payload's byte n stands at the place p
-- Assumes nothing.
use Rattle.std.specs.Prelude.{List, ℕ}
use Rattle.nal_unit.specs.Taking.{Stands}
use Rattle.reader.specs.declared.unit.NalUnit.{NalUnit}
use Rattle.reader.specs.Heads.{UnitAt, payload_at}

abbrev pub IsUnit : NalUnit → Type 0
IsUnit u = UnitAt u.take.now u.begin u.end

abbrev pub payload_of : NalUnit → List ℕ
payload_of u = payload_at u.take.now u.begin u.end

abbrev pub StandsIn : NalUnit → ℕ → ℕ → Type 0
StandsIn u n p = Stands u.take.now u.end (payload_of u) n p
