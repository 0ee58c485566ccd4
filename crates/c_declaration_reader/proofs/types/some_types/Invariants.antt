-- The list from its start on is the list from here on, with what was found.
use Rattle.std.proofs.Common.{◌≡◌, [], codes}
use Rattle.c_readers.specs.ListReader.{separated}
use Rattle.c_readers.specs.TypeReader.{argument_type}
use Rattle.c_expression_reader.specs.Readings.{shown}
use Rattle.c_declaration_reader.proofs.types.some_types.Given as goal

abbrev pub invariant-loop-left : goal.invariant-loop-left
invariant-loop-left l = separated argument_type (codes ")") l.count [] (shown l.tokens) ≡ separated argument_type (codes ")") l.left l.found (shown l.rest)

abbrev pub decreases-loop-left : goal.decreases-loop-left
decreases-loop-left l = l.left
