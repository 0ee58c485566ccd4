use Rattle.std.proofs.Common.{◌≡◌, ◌++◌, suc}
use Rattle.item_emission.specs.NamedEmission.{cases_from}
use Rattle.item_emitter.proofs.SelectionWalks.{cases_behind}
use Rattle.item_emitter.proofs.selection.cases.Given as goal

abbrev pub invariant-loop-passed : goal.invariant-loop-passed
invariant-loop-passed l = cases_from 1 (suc l.position) l.count ≡ l.row.items ++ cases_behind l.position l.count l.passed
