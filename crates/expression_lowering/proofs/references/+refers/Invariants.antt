use Rattle.std.proofs.Common.{◌≡◌, true, map, drop}
use Rattle.expression_lowering.specs.TableNames.{all_lower, is_lowered_value}
use Rattle.expression_lowering.specs.LoweredForms.{any_reference}
use Rattle.expression_lowering.proofs.references.+refers.Given as goal

abbrev pub invariant-any_refers-loop-e : goal.invariant-any_refers-loop-e
invariant-any_refers-loop-e l =
    record { covered : all_lower (map (is_lowered_value l.table) (drop l.e-index l.es)) ≡ true; same : any_reference l.table (drop l.e-index l.es) ≡ any_reference l.table l.es }
