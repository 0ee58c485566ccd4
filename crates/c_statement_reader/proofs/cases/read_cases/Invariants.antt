-- The cases from their start on are those from here on, with what was found; and the labels are those before with those of the cases.
use Rattle.std.proofs.Common.{◌≡◌, []}
use Rattle.c_tree.specs.CLabels.{both}
use Rattle.c_expression_reader.specs.Readings.{shown}
use Rattle.c_statement_readers.specs.CaseReader.{cases}
use Rattle.c_statement_reader.specs.CaseLists.{cases_in}
use Rattle.c_statement_reader.specs.LabelCounts.{naming, case_labels}
use Rattle.c_statement_reader.specs.LabelLists.{labels_seen}
use Rattle.c_statement_reader.proofs.cases.read_cases.Given as goal

abbrev pub invariant-loop-left : goal.invariant-loop-left
invariant-loop-left l =
    (cases l.count (labels_seen l.fn.labels).stand [] (shown l.tokens) ≡ cases l.left (labels_seen l.labels).stand (cases_in l.found) (shown l.rest))
    × (labels_seen l.labels ≡ both (labels_seen l.fn.labels) (naming (case_labels (cases_in l.found))))

abbrev pub decreases-loop-left : goal.decreases-loop-left
decreases-loop-left l = l.left
