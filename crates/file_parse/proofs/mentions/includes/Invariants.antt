use Rattle.std.proofs.Common.{◌≡◌, ◌++◌, drop}
use Rattle.fortran_grammar.specs.IncludedFiles.{mentions_of}
use Rattle.file_parse.proofs.mentions.includes.Given as goal

abbrev pub invariant-loop-unit : goal.invariant-loop-unit
invariant-loop-unit l = mentions_of l.unit-items ≡ l.names ++ mentions_of (drop l.unit-index l.unit-items)
