use Rattle.std.proofs.Common.{◌≡◌, true, drop}
use Rattle.f_tree.specs.Terms.{terms}
use Rattle.f_tree.specs.Lines.{Naming, way_of}
use Rattle.lowered_tree.specs.l_core.Pures as core
use Rattle.lowering.specs.Expressions as low
use Rattle.expression_lowering.specs.TableNames.{AreFactsOf}
use Rattle.expression_lowering.proofs.Walks.{IsOnward}
use Rattle.statement_lowering.specs.TransferForms.{operands_in}
use Rattle.statement_lowering.specs.LoweredTransfers.{controls_lower}
use Rattle.statement_lowering.proofs.controls.lower_controls.Given as goal

abbrev pub invariant-loop-at : goal.invariant-loop-at
invariant-loop-at l = record {
  covered : controls_lower l.table (drop l.at l.controls) ≡ true;
  onward :
      (names : Naming) → AreFactsOf names l.table →
      IsOnward (low.lower_all core.NoPure low.ForUse l.first (terms (operands_in (way_of l.way) l.controls names)))
      (low.lower_all core.NoPure low.ForUse l.free (terms (operands_in (way_of l.way) (drop l.at l.controls) names))) l.initial.steps.items l.steps.items l.values;
}
