use Rattle.std.proofs.Common.{take}
use Rattle.source_reader.specs.Trees.{HaveParts}
use Rattle.source_reader.proofs.trees.check_parts.Given as goal

abbrev pub invariant-loop-place : goal.invariant-loop-place
invariant-loop-place l = HaveParts (take l.place l.names) (take l.place l.parts)
