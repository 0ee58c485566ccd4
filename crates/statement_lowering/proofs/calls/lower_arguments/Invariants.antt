use Rattle.std.proofs.Common.{◌≡◌, true, drop}
use Rattle.f_tree.specs.Terms.{terms}
use Rattle.f_tree.specs.Lines.{Naming}
use Rattle.lowered_tree.specs.l_core.Pures as core
use Rattle.lowering.specs.Expressions as low
use Rattle.expression_lowering.specs.TableNames.{AreFactsOf}
use Rattle.expression_lowering.proofs.Walks.{IsOnward}
use Rattle.statement_lowering.specs.TransferForms.{arguments_in}
use Rattle.statement_lowering.specs.LoweredTransfers.{call_lowers}
use Rattle.statement_lowering.proofs.calls.lower_arguments.Given as goal

abbrev pub invariant-loop-at : goal.invariant-loop-at
invariant-loop-at l = record {
  covered : call_lowers l.table (drop l.at l.es) ≡ true;
  onward :
      (names : Naming) → AreFactsOf names l.table →
      IsOnward (low.lower_all core.NoPure low.ForCall l.first (terms (arguments_in l.es names)))
      (low.lower_all core.NoPure low.ForCall l.free (terms (arguments_in (drop l.at l.es) names))) l.initial.steps.items l.steps.items l.values;
}
