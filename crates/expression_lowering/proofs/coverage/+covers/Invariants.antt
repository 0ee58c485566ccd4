use Rattle.std.proofs.Common.{◌≡◌, map, drop}
use Rattle.expression_lowering.specs.TableNames.{all_lower, is_lowered_value}
use Rattle.expression_lowering.proofs.coverage.+covers.Given as goal

abbrev pub invariant-covers_all-loop-e : goal.invariant-covers_all-loop-e
invariant-covers_all-loop-e l = all_lower (map (is_lowered_value l.table) (drop l.e-index l.es)) ≡ all_lower (map (is_lowered_value l.table) l.es)
