use Rattle.std.proofs.Common.{◌≡◌, map, take}
use Rattle.source_reader.proofs.trees.references.Given as goal

abbrev pub invariant-loop-one : goal.invariant-loop-one
invariant-loop-one l = map (λ c. c.now) l.list.items ≡ take l.one-index l.cards
