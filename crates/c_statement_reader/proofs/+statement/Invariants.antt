-- Each call takes fewer nests, or as many and is nearer to a reading of a statement.
use Rattle.std.proofs.Common.{◌≡◌, ◌+◌, ◌*◌, []}
use Rattle.c_tree.specs.CLabels.{both, labels_of_all}
use Rattle.c_scope.specs.ScopeSeen.{scope_of}
use Rattle.c_expression_reader.specs.Readings.{shown}
use Rattle.c_statement_readers.specs.StatementReader.{statement, statements}
use Rattle.c_statement_reader.specs.Endings.{closes_by}
use Rattle.c_statement_reader.specs.LabelLists.{labels_seen}
use Rattle.c_statement_reader.proofs.+statement.Given as goal

abbrev pub decreases-statements::read_statement : goal.decreases-statements::read_statement
decreases-statements::read_statement l = 8 * l.nests + 0

abbrev pub decreases-blocks::some_statements : goal.decreases-blocks::some_statements
decreases-blocks::some_statements l = 8 * l.nests + 1

abbrev pub decreases-statements::labelled : goal.decreases-statements::labelled
decreases-statements::labelled l = 8 * l.nests + 1

abbrev pub decreases-blocks::read_statements : goal.decreases-blocks::read_statements
decreases-blocks::read_statements l = 8 * l.nests + 2

abbrev pub decreases-blocks::braced : goal.decreases-blocks::braced
decreases-blocks::braced l = 8 * l.nests + 3

abbrev pub decreases-statements::a_block : goal.decreases-statements::a_block
decreases-statements::a_block l = 8 * l.nests + 3

abbrev pub decreases-flows::second_block : goal.decreases-flows::second_block
decreases-flows::second_block l = 8 * l.nests + 4

abbrev pub decreases-flows::conditional : goal.decreases-flows::conditional
decreases-flows::conditional l = 8 * l.nests + 5

abbrev pub decreases-flows::counted : goal.decreases-flows::counted
decreases-flows::counted l = 8 * l.nests + 5

abbrev pub decreases-flows::repeated : goal.decreases-flows::repeated
decreases-flows::repeated l = 8 * l.nests + 5

abbrev pub decreases-statements::led : goal.decreases-statements::led
decreases-statements::led l = 8 * l.nests + 6

abbrev pub decreases-statements::a_statement : goal.decreases-statements::a_statement
decreases-statements::a_statement l = 8 * l.nests + 7

abbrev pub invariant-blocks::some_statements-loop-left : goal.invariant-blocks::some_statements-loop-left
invariant-blocks::some_statements-loop-left l =
    (statements (statement (scope_of l.scope) l.count l.nests) (closes_by l.whole) l.count (labels_seen l.fn.labels) [] (shown l.tokens)
    ≡ statements (statement (scope_of l.scope) l.count l.nests) (closes_by l.whole) l.left (labels_seen l.labels) l.found (shown l.rest))
    × (labels_seen l.labels ≡ both (labels_seen l.fn.labels) (labels_of_all l.found))

abbrev pub decreases-blocks::some_statements-loop-left : goal.decreases-blocks::some_statements-loop-left
decreases-blocks::some_statements-loop-left l = l.left
