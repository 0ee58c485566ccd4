use Rattle.std.proofs.Common.{◌≡◌, true, map, drop}
use Rattle.expression_lowering.specs.Purposes.{purpose_of}
use Rattle.expression_lowering.specs.TableNames.{all_lower, is_lowered_value}
use Rattle.expression_lowering.specs.LoweredForms.{lowered_list}
use Rattle.expression_lowering.proofs.Walks.{IsOnward}
use Rattle.expression_lowering.proofs.expressions.+lower.Given as goal

abbrev pub invariant-lower_list-loop-at : goal.invariant-lower_list-loop-at
invariant-lower_list-loop-at l = record {
  covered : all_lower (map (is_lowered_value l.table) (drop l.at l.es)) ≡ true;
  onward :
      IsOnward (lowered_list l.table l.aspect (purpose_of l.purpose) l.first l.es) (lowered_list l.table l.aspect (purpose_of l.purpose) l.free (drop l.at l.es))
      l.initial.steps.items l.steps.items l.values;
}
