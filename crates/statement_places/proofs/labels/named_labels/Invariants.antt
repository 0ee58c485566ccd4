use Rattle.std.proofs.Common.{◌≡◌, ◌++◌, drop}
use Rattle.f_tree.specs.Attributes.{from_all}
use Rattle.statement_places.specs.NamedLabels.{labels_of}
use Rattle.statement_places.proofs.labels.named_labels.Given as goal

abbrev pub invariant-loop-statement : goal.invariant-loop-statement
invariant-loop-statement l = from_all (labels_of l.table) l.statements ≡ l.labels.items ++ from_all (labels_of l.table) (drop l.statement-index l.statements)
