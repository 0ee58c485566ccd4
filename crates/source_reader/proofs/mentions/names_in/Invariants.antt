use Rattle.std.proofs.Common.{◌≡◌, ◌++◌, drop}
use Rattle.source_acceptance.specs.SourceFiles.{names_in}
use Rattle.source_reader.proofs.mentions.names_in.Given as goal

abbrev pub invariant-loop-statement : goal.invariant-loop-statement
invariant-loop-statement l = names_in l.statements ≡ l.names ++ names_in (drop l.statement-index l.statements)
