-- The list from its start on is the list from here on, with what was found.
use Rattle.std.proofs.Common.{◌≡◌, [], codes}
use Rattle.c_readers.specs.ValueReader.{bounded}
use Rattle.c_readers.specs.DeclarationReader.{a_field}
use Rattle.c_scope.specs.ScopeSeen.{scope_of}
use Rattle.c_expression_reader.specs.Readings.{shown}
use Rattle.c_declaration_reader.proofs.fields.some_fields.Given as goal

abbrev pub invariant-loop-left : goal.invariant-loop-left
invariant-loop-left l =
    bounded (a_field (scope_of l.scope)) (codes "}") l.most [] (shown l.tokens) ≡ bounded (a_field (scope_of l.scope)) (codes "}") l.left l.found (shown l.rest)

abbrev pub decreases-loop-left : goal.decreases-loop-left
decreases-loop-left l = l.left
