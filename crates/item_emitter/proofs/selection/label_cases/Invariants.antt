use Rattle.std.proofs.Common.{◌≡◌, ◌++◌, suc}
use Rattle.item_emission.specs.NamedEmission.{label_cases}
use Rattle.item_emitter.proofs.SelectionWalks.{labels_behind}
use Rattle.item_emitter.proofs.selection.label_cases.Given as goal

abbrev pub invariant-loop-passed : goal.invariant-loop-passed
invariant-loop-passed l = label_cases (suc l.position) l.labels ≡ l.row.items ++ labels_behind l.position l.labels l.passed
