use Rattle.std.proofs.Common.{map, take}
use Rattle.f2c_outside.specs.Memory.{IsNewest}
use Rattle.f2c_outside.specs.Entries.{named}
use Rattle.f2c_outside.proofs.memory_shelf.newest.Given as goal

-- the last entry of the name among those that were looked at
abbrev pub invariant-loop-number : goal.invariant-loop-number
invariant-loop-number l = IsNewest l.found (map named (take l.number l.entries)) l.name
