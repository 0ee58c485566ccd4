-- The strings of a tree are of bytes where those are that its flat form has.
use Rattle.std.specs.List.{list_all}
use Rattle.std.specs.Prelude.{◌≡◌, ℕ, Bool, true, false, ◌&&◌, List, [], ◌∷◌, ◌++◌, Option, Some, None}
use Rattle.std.proofs.Common.{refl, sym, ◌∙◌}
use Rattle.std.proofs.Math.Bool.{and-true, and_assoc}
use Rattle.std.proofs.lemmas.List.Folds.{list_all-append}
use Rattle.c_spelling.specs.c_tree.declared.expression.CExpr.{CExpr, Number, Str, Name, Unary', Cast', Binary', Choose', Index', Field', SizeInt, MaxMin', Abs', end_of-CExpr, more_of-CExpr}
use Rattle.c_spelling.specs.c_tree.declared.statement.CNext.{CNext}
use Rattle.c_spelling.specs.c_tree.declared.statement.CNext.TheVariants as next
use Rattle.c_spelling.specs.c_tree.declared.statement.CStmt as stmt
use Rattle.c_spelling.specs.c_tree.FlatForm.{returned, next_item, body, bodies, body_of_all, ends, with_return, whole_body}
use Rattle.c_spelling.specs.c_tree.LinkedExpressions.{linked, linked_all}
use Rattle.c_spelling.specs.Spelled.{of_bytes, expression_of_bytes, call_of_bytes, next_of_bytes, value_of_bytes, statement_of_bytes, row_of_bytes, statements_of_bytes}

abbrev pub all_of_bytes : List (List ℕ) → Bool
all_of_bytes strings = list_all of_bytes strings

-- ## Truth of all

-- in a `for` what is done behind each turn stands before the turn
turned : (a b c d e : Bool) → ((a && b) && (c && (e && d))) ≡ (a && (b && (c && (d && e))))
turned false b c d e = refl
turned true false c d e = refl
turned true true false d e = refl
turned true true true false false = refl
turned true true true false true = refl
turned true true true true false = refl
turned true true true true true = refl

-- ## Strings in order

two : (xs ys : List (List ℕ)) (a b : Bool) → all_of_bytes xs ≡ a → all_of_bytes ys ≡ b → all_of_bytes (xs ++ ys) ≡ (a && b)
two xs ys a b one other = list_all-append of_bytes xs ys ∙ (λ i. one i && other i)

three : (xs ys zs : List (List ℕ)) (a b c : Bool) → all_of_bytes xs ≡ a → all_of_bytes ys ≡ b → all_of_bytes zs ≡ c → all_of_bytes ((xs ++ ys) ++ zs) ≡ (a && (b && c))
three xs ys zs a b c one other third = two (xs ++ ys) zs (a && b) c (two xs ys a b one other) third ∙ and_assoc a b c

-- ## Expressions

in_expression : (e : CExpr) → all_of_bytes (linked e).strings ≡ expression_of_bytes e
in_expression (Number n) = refl
in_expression (Str bytes) = and-true (of_bytes bytes)
in_expression (Name name) = refl
in_expression (Unary' operator s (more_of-CExpr e end_of-CExpr)) = in_expression e
in_expression (Cast' of s (more_of-CExpr e end_of-CExpr)) = in_expression e
in_expression (Binary' operator s (more_of-CExpr a end_of-CExpr) t (more_of-CExpr b end_of-CExpr)) =
    two (linked a).strings (linked b).strings (expression_of_bytes a) (expression_of_bytes b) (in_expression a) (in_expression b)
in_expression (Choose' s (more_of-CExpr e end_of-CExpr) t (more_of-CExpr a end_of-CExpr) u (more_of-CExpr b end_of-CExpr)) =
    three (linked e).strings (linked a).strings (linked b).strings (expression_of_bytes e) (expression_of_bytes a) (expression_of_bytes b) (in_expression e) (in_expression a) (in_expression b)
in_expression (Index' s (more_of-CExpr a end_of-CExpr) t (more_of-CExpr i end_of-CExpr)) =
    two (linked a).strings (linked i).strings (expression_of_bytes a) (expression_of_bytes i) (in_expression a) (in_expression i)
in_expression (Field' s (more_of-CExpr e end_of-CExpr) name) = in_expression e
in_expression SizeInt = refl
in_expression (MaxMin' which s (more_of-CExpr a end_of-CExpr) t (more_of-CExpr b end_of-CExpr)) =
    two (linked a).strings (linked b).strings (expression_of_bytes a) (expression_of_bytes b) (in_expression a) (in_expression b)
in_expression (Abs' s (more_of-CExpr e end_of-CExpr)) = in_expression e

in_arguments : (es : List CExpr) → all_of_bytes (linked_all es).strings ≡ list_all expression_of_bytes es
in_arguments [] = refl
in_arguments (e ∷ es) = two (linked e).strings (linked_all es).strings (expression_of_bytes e) (list_all expression_of_bytes es) (in_expression e) (in_arguments es)

in_value : (value : Option CExpr) → all_of_bytes (returned value).strings ≡ value_of_bytes value
in_value None = refl
in_value (Some e) = in_expression e

in_next : (turn : CNext) → all_of_bytes (next_item turn).strings ≡ next_of_bytes turn
in_next (next.Up target) = in_expression target
in_next (next.Down target) = in_expression target
in_next (next.Add target e) = two (linked target).strings (linked e).strings (expression_of_bytes target) (expression_of_bytes e) (in_expression target) (in_expression e)

-- ## Statements

mutual
  in_statement : (s : stmt.CStmt) → all_of_bytes (body s).items.strings ≡ statement_of_bytes s
  in_statement (stmt.Set target e) = two (linked target).strings (linked e).strings (expression_of_bytes target) (expression_of_bytes e) (in_expression target) (in_expression e)
  in_statement (stmt.SetCall target call) =
      two (linked target).strings (linked_all call.arguments).strings (expression_of_bytes target) (call_of_bytes call) (in_expression target) (in_arguments call.arguments)
  in_statement (stmt.Call call) = in_arguments call.arguments
  in_statement stmt.Empty = refl
  in_statement (stmt.Block' shape inner) = in_row inner
  in_statement (stmt.Label' name shape (stmt.more_of-CStmt inner stmt.end_of-CStmt)) = in_statement inner
  in_statement (stmt.Goto label) = refl
  in_statement (stmt.Return value) = in_value value
  in_statement (stmt.ReturnCall call) = two (linked_all call.arguments).strings [] (call_of_bytes call) true (in_arguments call.arguments) refl ∙ and-true (call_of_bytes call)
  in_statement (stmt.If' test shape first stmt.None') =
      two (linked test).strings (bodies first).items.strings (expression_of_bytes test) (row_of_bytes first && true) (in_expression test) (in_row first ∙ sym (and-true (row_of_bytes first)))
  in_statement (stmt.If' test shape first (stmt.Some' shape' second)) =
      three (linked test).strings (bodies first).items.strings (bodies second).items.strings (expression_of_bytes test) (row_of_bytes first) (row_of_bytes second) (in_expression test) (in_row first) (in_row second)
  in_statement (stmt.Switch value cases) = in_expression value
  in_statement (stmt.For' target first test turn shape inner) =
      two ((linked target).strings ++ (linked first).strings) (((linked test).strings ++ (bodies inner).items.strings) ++ (next_item turn).strings) (expression_of_bytes target && expression_of_bytes first)
      (expression_of_bytes test && (row_of_bytes inner && next_of_bytes turn))
      (two (linked target).strings (linked first).strings (expression_of_bytes target) (expression_of_bytes first) (in_expression target) (in_expression first))
      (three (linked test).strings (bodies inner).items.strings (next_item turn).strings (expression_of_bytes test) (row_of_bytes inner) (next_of_bytes turn) (in_expression test) (in_row inner) (in_next turn))
      ∙ turned (expression_of_bytes target) (expression_of_bytes first) (expression_of_bytes test) (next_of_bytes turn) (row_of_bytes inner)
  in_statement (stmt.DoWhile' shape inner test) = two (bodies inner).items.strings (linked test).strings (row_of_bytes inner) (expression_of_bytes test) (in_row inner) (in_expression test)

  in_row : {count : _} (row : stmt.Row_of-CStmt count) → all_of_bytes (bodies row).items.strings ≡ row_of_bytes row
  in_row stmt.end_of-CStmt = refl
  in_row (stmt.more_of-CStmt first later) = two (body first).items.strings (bodies later).items.strings (statement_of_bytes first) (row_of_bytes later) (in_statement first) (in_row later)

in_statements : (ss : List stmt.CStmt) → all_of_bytes (body_of_all ss).items.strings ≡ statements_of_bytes ss
in_statements [] = refl
in_statements (s ∷ ss) = two (body s).items.strings (body_of_all ss).items.strings (statement_of_bytes s) (statements_of_bytes ss) (in_statement s) (in_statements ss)

pub in_whole : (ss : List stmt.CStmt) → all_of_bytes (whole_body ss).items.strings ≡ statements_of_bytes ss
in_whole ss = by (ends ss)
  where
    by : (b : Bool) → all_of_bytes (with_return b (body_of_all ss)).items.strings ≡ statements_of_bytes ss
    by true = in_statements ss
    by false = two (body_of_all ss).items.strings [] (statements_of_bytes ss) true (in_statements ss) refl ∙ and-true (statements_of_bytes ss)
