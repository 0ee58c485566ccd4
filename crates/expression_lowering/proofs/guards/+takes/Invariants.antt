use Rattle.std.proofs.Common.{◌≡◌, true, map, drop}
use Rattle.expression_lowering.specs.TableNames.{all_lower, is_lowered_value}
use Rattle.expression_lowering.specs.LoweredForms.{any_takes_step}
use Rattle.expression_lowering.proofs.guards.+takes.Given as goal

abbrev pub invariant-any_takes_step-loop-e : goal.invariant-any_takes_step-loop-e
invariant-any_takes_step-loop-e l =
    record { covered : all_lower (map (is_lowered_value l.table) (drop l.e-index l.es)) ≡ true; same : any_takes_step l.table (drop l.e-index l.es) ≡ any_takes_step l.table l.es }
