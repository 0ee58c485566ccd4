-- Whether parts of a function mention one of some names.
use Rattle.std.specs.Prelude.{Bool, false, List, Option, Some, None}
use Rattle.c_tree.specs.declared.expression.CExpr.{CExpr}
use Rattle.c_tree.specs.declared.expression.CCall.{CCall}
use Rattle.c_tree.specs.declared.statement.CNext.{CNext}
use Rattle.c_tree.specs.declared.statement.CStmt.{CStmt}
use Rattle.c_tree.specs.LinkedExpressions.{linked, linked_call}
use Rattle.c_tree.specs.FlatForm.{body, body_of_all, next_item, returned}
use Rattle.c_tree.specs.Linking.{any_of}
use Rattle.first_names.specs.declared.FirstNames.{FirstNames}
use Rattle.expression_linker.specs.Mentions.{has}

unfoldable pub in_expression : FirstNames (Unit {0}) → CExpr → Bool
in_expression names e = any_of (has names) (linked e).names

unfoldable pub in_call : FirstNames (Unit {0}) → CCall → Bool
in_call names call = any_of (has names) (linked_call call).names

unfoldable pub in_next : FirstNames (Unit {0}) → CNext → Bool
in_next names next = any_of (has names) (next_item next).names

unfoldable pub in_returned : FirstNames (Unit {0}) → Option CExpr → Bool
in_returned names value = any_of (has names) (returned value).names

unfoldable pub in_statement : FirstNames (Unit {0}) → CStmt → Bool
in_statement names statement = any_of (has names) (body statement).items.names

unfoldable pub in_statements : FirstNames (Unit {0}) → List CStmt → Bool
in_statements names statements = any_of (has names) (body_of_all statements).items.names

-- whether the statements behind `else` do
unfoldable pub in_other : FirstNames (Unit {0}) → Option (List CStmt) → Bool
in_other names None = false
in_other names (Some statements) = in_statements names statements
