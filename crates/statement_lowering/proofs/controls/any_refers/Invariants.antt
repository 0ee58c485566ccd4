use Rattle.std.proofs.Common.{◌≡◌, true, drop}
use Rattle.f_tree.specs.declared.statements.Direction.{Direction}
use Rattle.f_tree.specs.Terms.{terms, any_refers}
use Rattle.f_tree.specs.Lines.{Naming, way_of}
use Rattle.expression_lowering.specs.TableNames.{AreFactsOf}
use Rattle.statement_lowering.specs.TransferForms.{operands_in}
use Rattle.statement_lowering.specs.LoweredTransfers.{controls_lower}
use Rattle.statement_lowering.proofs.controls.any_refers.Given as goal

abbrev pub invariant-loop-control : goal.invariant-loop-control
invariant-loop-control l = record {
  covered : controls_lower l.table (drop l.control-index l.controls) ≡ true;
  same :
      (way : Direction) (names : Naming) → AreFactsOf names l.table →
      any_refers (terms (operands_in (way_of way) (drop l.control-index l.controls) names)) ≡ any_refers (terms (operands_in (way_of way) l.controls names));
}
