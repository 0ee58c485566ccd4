-- The strings of the parts of a function, in the order in which they stand.
use Rattle.std.specs.Prelude.{ℕ, List, [], Option, Some, None}
use Rattle.c_tree.specs.declared.expression.CExpr.{CExpr}
use Rattle.c_tree.specs.declared.expression.CCall.{CCall}
use Rattle.c_tree.specs.declared.statement.CNext.{CNext}
use Rattle.c_tree.specs.declared.statement.CStmt.{CStmt}
use Rattle.c_tree.specs.LinkedExpressions.{linked, linked_call}
use Rattle.c_tree.specs.FlatForm.{body, body_of_all, next_item, returned}

unfoldable pub of_expression : CExpr → List (List ℕ)
of_expression e = (linked e).strings

unfoldable pub of_call : CCall → List (List ℕ)
of_call call = (linked_call call).strings

unfoldable pub of_next : CNext → List (List ℕ)
of_next next = (next_item next).strings

unfoldable pub of_returned : Option CExpr → List (List ℕ)
of_returned value = (returned value).strings

unfoldable pub of_statement : CStmt → List (List ℕ)
of_statement statement = (body statement).items.strings

unfoldable pub of_statements : List CStmt → List (List ℕ)
of_statements statements = (body_of_all statements).items.strings

-- those of the statements behind `else`
unfoldable pub of_other : Option (List CStmt) → List (List ℕ)
of_other None = []
of_other (Some statements) = of_statements statements
