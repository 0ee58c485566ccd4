use Rattle.std.proofs.Common.{take}
use Rattle.placed_numbers.specs.Owned.{AreOwners}
use Rattle.placed_numbers.proofs.owners.own_all.Given as goal

abbrev pub invariant-loop-first : goal.invariant-loop-first
invariant-loop-first l = AreOwners l.places (take l.first-index l.firsts) l.owners
