use Rattle.c_structure_laws.proofs.DrawnExpressions.{expr_drawn}
use Rattle.c_structure_laws.proofs.FittingStatements.{statements_are_theirs}
use Rattle.c_structure_laws.proofs.trees.trees_have_their_items.Goals as goal

pub returns : goal.returns
returns c = record { expressions = expr_drawn; statements = statements_are_theirs }
