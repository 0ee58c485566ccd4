use Rattle.std.proofs.Common.{◌≡◌, ◌++◌, drop}
use Rattle.fortran_grammar.specs.IncludedFiles.{mentioned_in}
use Rattle.file_parse.proofs.mentions.mentioned_in.Given as goal

abbrev pub invariant-loop-statement : goal.invariant-loop-statement
invariant-loop-statement l = mentioned_in l.statements ≡ l.names ++ mentioned_in (drop l.statement-index l.statements)
