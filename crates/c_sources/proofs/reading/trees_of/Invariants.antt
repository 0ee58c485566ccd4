use Rattle.std.proofs.Common.{take}
use Rattle.c_sources.specs.CFiles.{AreSpelled}
use Rattle.c_sources.proofs.reading.trees_of.Given as goal

-- the texts up to here spell these trees
abbrev pub invariant-loop-number : goal.invariant-loop-number
invariant-loop-number l = AreSpelled (take l.number l.texts) l.files
