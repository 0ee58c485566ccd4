use Rattle.std.proofs.Common.{drop}
use Rattle.file_parse.proofs.NestLemmas.{DeepSoFar}
use Rattle.file_parse.proofs.nests.first_deep.Given as goal

abbrev pub invariant-loop-statement : goal.invariant-loop-statement
invariant-loop-statement l = DeepSoFar l.statement-items (drop l.statement-index l.statement-items) l.statement-index l.blocks l.found
