-- The list from its start on is the list from here on, with what was found and declared.
use Rattle.std.proofs.Common.{◌≡◌, []}
use Rattle.c_readers.specs.HeadReader.{parameters}
use Rattle.c_scope.specs.ScopeSeen.{scope_of, here_of, file_scope_of, file_here_of}
use Rattle.c_expression_reader.specs.Readings.{shown}
use Rattle.c_declaration_reader.proofs.parameters.some_parameters.Given as goal

abbrev pub invariant-loop-left : goal.invariant-loop-left
invariant-loop-left l =
    (parameters l.count (scope_of l.fn.scope) (here_of l.fn.scope) [] (shown l.tokens)
    ≡ parameters l.left (scope_of l.scope) (here_of l.scope) l.found (shown l.rest))
    × (file_scope_of l.scope ≡ file_scope_of l.fn.scope)
    × (file_here_of l.scope ≡ file_here_of l.fn.scope)

abbrev pub decreases-loop-left : goal.decreases-loop-left
decreases-loop-left l = l.left
