use Rattle.std.proofs.Common.{◌≡◌, drop}
use Rattle.source_reader.specs.PartReading.{first_ending}
use Rattle.source_reader.proofs.included.end_or_include.Given as goal

abbrev pub invariant-loop-statement : goal.invariant-loop-statement
invariant-loop-statement l = first_ending l.file l.statements ≡ first_ending l.file (drop l.statement-index l.statements)
