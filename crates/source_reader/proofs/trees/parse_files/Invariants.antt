use Rattle.std.proofs.Common.{take}
use Rattle.source_reader.specs.Along.{Along}
use Rattle.source_reader.specs.Trees.{IsTreeOf}
use Rattle.source_reader.proofs.trees.parse_files.Given as goal

abbrev pub invariant-loop-cards : goal.invariant-loop-cards
invariant-loop-cards l = Along IsTreeOf 0 (take l.cards-index l.files) l.trees
