-- The list from its start on is the list from here on, with what was found.
use Rattle.std.proofs.Common.{◌≡◌, [], codes}
use Rattle.c_readers.specs.ExpressionReader.{expression}
use Rattle.c_readers.specs.ListReader.{separated}
use Rattle.c_scope.specs.ScopeSeen.{scope_of}
use Rattle.c_expression_reader.specs.Readings.{shown}
use Rattle.c_expression_reader.proofs.calls.some_arguments.Given as goal

abbrev pub invariant-loop-left : goal.invariant-loop-left
invariant-loop-left l =
    separated (expression (scope_of l.scope) l.nests 0) (codes ")") l.count [] (shown l.tokens)
    ≡ separated (expression (scope_of l.scope) l.nests 0) (codes ")") l.left l.found (shown l.rest)

abbrev pub decreases-loop-left : goal.decreases-loop-left
decreases-loop-left l = l.left
