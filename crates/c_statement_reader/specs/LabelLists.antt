-- The labels that stand and are named so far in a function (C89, 3.1.2.1 and 3.6.1).
use Rattle.std.specs.Prelude.{ℕ, List}
use Rattle.c_tree.specs.CLabels.{LabelsOf}
use Rattle.c_statement_reader.specs.declared.label_list.LabelList.{LabelList}
use Rattle.c_statement_reader.specs.declared.labels.LabelsSeen.{LabelsSeen}
use Rattle.c_statement_reader.specs.LabelCounts.{texts}

unfoldable pub labels_in : LabelList → List (List ℕ)
labels_in list = texts list.labels.items

unfoldable pub labels_seen : LabelsSeen → LabelsOf
labels_seen seen = record { stand = labels_in seen.stand; named = labels_in seen.named }
