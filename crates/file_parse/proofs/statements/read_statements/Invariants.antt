use Rattle.std.proofs.Common.{drop}
use Rattle.file_parse.proofs.StatementLemmas.{Going}
use Rattle.file_parse.proofs.statements.read_statements.Given as goal

abbrev pub invariant-loop-source : goal.invariant-loop-source
invariant-loop-source l = Going l.first l.begins l.sources (drop l.source-index l.sources) l.trees
