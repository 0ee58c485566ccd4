-- That a printed tree is spelled by its text (C89, 3.1.4 and 3.7). A string is printed byte by byte, so its numbers are
-- bytes.
use Rattle.std.specs.Prelude.{◌≡◌, ℕ, nat_lt, Bool, true, ◌&&◌, List, [], ◌++◌, codes, Option, Some, None}
use Rattle.std.specs.List.{list_all}
use Rattle.c_laws.specs.c_tree.declared.expression.CExpr.{CExpr, Number, Str, Name, Unary', Cast', Binary', Choose', Index', Field', SizeInt, MaxMin', Abs', end_of-CExpr, more_of-CExpr}
use Rattle.c_laws.specs.c_tree.declared.expression.CCall.{CCall}
use Rattle.c_laws.specs.c_tree.declared.statement.CNext.{CNext}
use Rattle.c_laws.specs.c_tree.declared.statement.CNext.TheVariants as next
use Rattle.c_laws.specs.c_tree.declared.statement.CStmt as stmt
use Rattle.c_laws.specs.c_tree.declared.declaration.CField.{CField}
use Rattle.c_laws.specs.c_tree.declared.declaration.CField.TheVariants as field
use Rattle.c_laws.specs.c_tree.declared.declaration.CLocal.{CLocal}
use Rattle.c_laws.specs.c_tree.declared.declaration.CLocal.TheVariants as local
use Rattle.c_laws.specs.c_tree.declared.file.CObject.{CObject}
use Rattle.c_laws.specs.c_tree.declared.file.CObject.TheVariants as object
use Rattle.c_laws.specs.c_tree.declared.file.CFunction.{CFunction}
use Rattle.c_laws.specs.c_tree.declared.file.CFile.{CFile}
use Rattle.c_laws.specs.c_tree.Tokens.{Token, Placed, AreTokensOf}
use Rattle.c_laws.specs.c_tree.CWords.{is_name}
use Rattle.c_laws.specs.c_tree.CLabels.{labels_of}
use Rattle.c_laws.specs.c_tree.CExpressionText.{Scope, ReadsExpr, ReadsCall}
use Rattle.c_laws.specs.c_tree.CStatementText.{ReadsStmt}
use Rattle.c_laws.specs.c_tree.CText.{kinds, CText, WellFormed}
use Rattle.c_text.specs.Expressions.{bare, printed_call}
use Rattle.c_text.specs.Printed.{printed_stmt, printed}

-- a number of eight bits
abbrev pub is_byte : ℕ → Bool
is_byte number = nat_lt number 256

-- a string of bytes
abbrev pub of_bytes : List ℕ → Bool
of_bytes text = list_all is_byte text

-- an expression whose strings are of bytes
abbrev pub expression_of_bytes : CExpr → Bool
expression_of_bytes (Number n) = true
expression_of_bytes (Str bytes) = of_bytes bytes
expression_of_bytes (Name name) = true
expression_of_bytes (Unary' operator s (more_of-CExpr e end_of-CExpr)) = expression_of_bytes e
expression_of_bytes (Cast' of s (more_of-CExpr e end_of-CExpr)) = expression_of_bytes e
expression_of_bytes (Binary' operator s (more_of-CExpr a end_of-CExpr) t (more_of-CExpr b end_of-CExpr)) = expression_of_bytes a && expression_of_bytes b
expression_of_bytes (Choose' s (more_of-CExpr e end_of-CExpr) t (more_of-CExpr a end_of-CExpr) u (more_of-CExpr b end_of-CExpr)) =
    expression_of_bytes e && (expression_of_bytes a && expression_of_bytes b)
expression_of_bytes (Index' s (more_of-CExpr e end_of-CExpr) t (more_of-CExpr i end_of-CExpr)) = expression_of_bytes e && expression_of_bytes i
expression_of_bytes (Field' s (more_of-CExpr e end_of-CExpr) name) = expression_of_bytes e
expression_of_bytes SizeInt = true
expression_of_bytes (MaxMin' which s (more_of-CExpr a end_of-CExpr) t (more_of-CExpr b end_of-CExpr)) = expression_of_bytes a && expression_of_bytes b
expression_of_bytes (Abs' s (more_of-CExpr e end_of-CExpr)) = expression_of_bytes e

abbrev pub call_of_bytes : CCall → Bool
call_of_bytes call = list_all expression_of_bytes call.arguments

abbrev pub next_of_bytes : CNext → Bool
next_of_bytes (next.Up target) = expression_of_bytes target
next_of_bytes (next.Down target) = expression_of_bytes target
next_of_bytes (next.Add target e) = expression_of_bytes target && expression_of_bytes e

abbrev pub value_of_bytes : Option CExpr → Bool
value_of_bytes None = true
value_of_bytes (Some e) = expression_of_bytes e

abbrev mutual
  -- a statement whose strings are of bytes
  pub statement_of_bytes : stmt.CStmt → Bool
  statement_of_bytes (stmt.Set target e) = expression_of_bytes target && expression_of_bytes e
  statement_of_bytes (stmt.SetCall target call) = expression_of_bytes target && call_of_bytes call
  statement_of_bytes (stmt.Call call) = call_of_bytes call
  statement_of_bytes stmt.Empty = true
  statement_of_bytes (stmt.Block' shape inner) = row_of_bytes inner
  statement_of_bytes (stmt.Label' name shape (stmt.more_of-CStmt inner stmt.end_of-CStmt)) = statement_of_bytes inner
  statement_of_bytes (stmt.Goto label) = true
  statement_of_bytes (stmt.Return value) = value_of_bytes value
  statement_of_bytes (stmt.ReturnCall call) = call_of_bytes call
  statement_of_bytes (stmt.If' test shape first other) = expression_of_bytes test && (row_of_bytes first && other_of_bytes other)
  statement_of_bytes (stmt.Switch value cases) = expression_of_bytes value
  statement_of_bytes (stmt.For' target first test turn shape inner) =
      expression_of_bytes target && (expression_of_bytes first && (expression_of_bytes test && (next_of_bytes turn && row_of_bytes inner)))
  statement_of_bytes (stmt.DoWhile' shape inner test) = row_of_bytes inner && expression_of_bytes test

  -- statements in order
  pub row_of_bytes : {count : _} → stmt.Row_of-CStmt count → Bool
  row_of_bytes stmt.end_of-CStmt = true
  row_of_bytes (stmt.more_of-CStmt first later) = statement_of_bytes first && row_of_bytes later

  -- the other arm of an `if`
  pub other_of_bytes : stmt.Held-CStmt-If-2 → Bool
  other_of_bytes stmt.None' = true
  other_of_bytes (stmt.Some' shape second) = row_of_bytes second

-- statements in order, as a list
abbrev pub statements_of_bytes : List stmt.CStmt → Bool
statements_of_bytes list = list_all statement_of_bytes list

abbrev pub field_of_bytes : CField → Bool
field_of_bytes (field.Str bytes) = of_bytes bytes
field_of_bytes other = true

abbrev pub text_of_bytes : Option (List ℕ) → Bool
text_of_bytes None = true
text_of_bytes (Some bytes) = of_bytes bytes

abbrev pub local_of_bytes : CLocal → Bool
local_of_bytes (local.StaticChars name length text) = text_of_bytes text
local_of_bytes (local.StaticList of name fields) = list_all field_of_bytes fields
local_of_bytes other = true

abbrev pub object_of_bytes : CObject → Bool
object_of_bytes (object.Chars name length text) = text_of_bytes text
object_of_bytes other = true

abbrev pub function_of_bytes : CFunction → Bool
function_of_bytes function = list_all local_of_bytes function.locals && statements_of_bytes function.body

-- a file whose strings are of bytes
abbrev pub file_of_bytes : CFile → Bool
file_of_bytes file = list_all object_of_bytes file.objects && list_all function_of_bytes file.functions

-- a text whose tokens, up to its end, a production spells
pub record TextOf (bytes : List ℕ) (Spells : List Token → List Token → Type 0) : Type 0 where
  pub tokens : List Placed
  pub lexed : AreTokensOf bytes tokens
  pub reads : Spells (kinds tokens) []

-- each name that is declared is a name of C
abbrev pub scope_is_named : Scope → Bool
scope_is_named scope = (list_all is_name scope.objects && list_all is_name scope.arrays) && (list_all is_name scope.functions && list_all is_name scope.pointers)

-- an expression that some tokens spell is spelled by its text, without parentheses round it, in a line of its own
abbrev pub EachPrintedExpressionIsRead : Type 0
EachPrintedExpressionIsRead = (scope : Scope) (place : ℕ) (e : CExpr) (p q : List Token) → scope_is_named scope ≡ true → expression_of_bytes e ≡ true → ReadsExpr scope place e p q →
    TextOf (bare e ++ codes "\n") (ReadsExpr scope 0 e)

-- a call that some tokens spell is spelled by its text
abbrev pub EachPrintedCallIsRead : Type 0
EachPrintedCallIsRead = (scope : Scope) (call : CCall) (p q : List Token) → scope_is_named scope ≡ true → call_of_bytes call ≡ true → ReadsCall scope call p q →
    TextOf (printed_call call) (ReadsCall scope call)

-- a statement that some tokens spell and that names labels by names of C is spelled by its lines, at whatever level
abbrev pub EachPrintedStatementIsRead : Type 0
EachPrintedStatementIsRead = (scope : Scope) (one : stmt.CStmt) (depth : ℕ) (p q : List Token) → scope_is_named scope ≡ true → statement_of_bytes one ≡ true →
    list_all is_name (labels_of one).named ≡ true → ReadsStmt scope one p q → TextOf (printed_stmt one depth) (ReadsStmt scope one)

-- the printed text of each well-formed file whose strings are of bytes spells the file
abbrev pub EachPrintedFileIsSpelled : Type 0
EachPrintedFileIsSpelled = (file : CFile) → file_of_bytes file ≡ true → WellFormed file → CText (printed file) file

-- such files whose printed texts are one text are one file
abbrev pub PrintedTextsTellFilesApart : Type 0
PrintedTextsTellFilesApart = (one other : CFile) → file_of_bytes one ≡ true → file_of_bytes other ≡ true → WellFormed one → WellFormed other → printed one ≡ printed other → one ≡ other

-- the printed text of the file that a text spells spells it too
abbrev pub EachSpelledFileIsPrintedAgain : Type 0
EachSpelledFileIsPrintedAgain = (bytes : List ℕ) (file : CFile) → CText bytes file → CText (printed file) file

-- the strings of a file that a text spells are of bytes, so that no other file has a text
abbrev pub EachTextIsOfByteStrings : Type 0
EachTextIsOfByteStrings = (bytes : List ℕ) (file : CFile) → CText bytes file → file_of_bytes file ≡ true
