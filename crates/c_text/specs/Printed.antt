-- The text of a C file in the house form (C89, 3.6 to 3.8): one statement on a line, four blanks for each
-- level, labels in column 1, braces round every arm.
use Rattle.std.specs.Prelude.{ℕ, zero, suc, ◌+◌, List, [], ◌∷◌, ◌++◌, codes, Option, Some, None, bytes_eq, if◌then◌else◌}
use Rattle.std.specs.List.{flat_map}
use Rattle.std.specs.Fmt.{signed_decimal}
use Rattle.c_tree.specs.declared.expression.CExpr.{CExpr}
use Rattle.c_tree.specs.declared.expression.CCall.{CCall}
use Rattle.c_tree.specs.declared.statement.CCase.{CCase}
use Rattle.c_tree.specs.declared.statement.CNext.{CNext}
use Rattle.c_tree.specs.declared.statement.CNext.TheVariants as next
use Rattle.c_tree.specs.declared.statement.CStmt as stmt
use Rattle.c_tree.specs.declared.types.ResultType.{ResultType}
use Rattle.c_tree.specs.declared.types.ResultType.TheVariants as gives
use Rattle.c_tree.specs.declared.file.CFunction.{CFunction}
use Rattle.c_tree.specs.declared.file.CFile.{CFile}
use Rattle.c_text.specs.declared.level.Level.TheVariants as level
use Rattle.c_text.specs.declared.phrase.Phrase.TheVariants as is
use Rattle.c_text.specs.Phrases.{letters}
use Rattle.c_text.specs.Types.{result_word}
use Rattle.c_text.specs.Expressions.{bare, printed_at, printed_call}
use Rattle.c_text.specs.Declarations.{printed_params, locals_after, printed_objects, printed_constants}

-- four blanks for each level
unfoldable pub indent : ℕ → List ℕ
indent zero = []
indent (suc level) = indent level ++ codes "    "

-- what is assigned
abbrev pub target : CExpr → List ℕ
target e = printed_at level.Unary e

-- a statement in one line at a level
unfoldable pub line : ℕ → List ℕ → List ℕ
line depth text = indent depth ++ (text ++ codes "\n")

unfoldable pub assignment : CExpr → List ℕ → List ℕ
assignment to text = target to ++ (codes " = " ++ (text ++ codes ";"))

unfoldable pub printed_return : Option CExpr → List ℕ
printed_return None = codes "return;"
printed_return (Some e) = letters is.Return ++ (bare e ++ codes ";")

-- a return of what a call gives
unfoldable pub returned_call : CCall → List ℕ
returned_call call = letters is.Return ++ (printed_call call ++ codes ";")

-- a case of a switch
unfoldable pub case_line : ℕ → CCase → List ℕ
case_line depth one =
    indent depth ++ (codes "case " ++ (signed_decimal one.number ++ (letters is.CaseGoto ++ (one.label ++ codes ";\n"))))

-- what a `for` does after each turn
unfoldable pub printed_next : CNext → List ℕ
printed_next (next.Up to) = codes "++" ++ target to
printed_next (next.Down to) = codes "--" ++ target to
printed_next (next.Add to e) = target to ++ (codes " += " ++ bare e)

unfoldable pub if_head : CExpr → List ℕ
if_head test = codes "if (" ++ (bare test ++ codes ") {")

unfoldable pub switch_head : CExpr → List ℕ
switch_head value = letters is.Switch ++ (bare value ++ codes ") {")

-- a `for` up to its test
unfoldable pub for_start : CExpr → CExpr → List ℕ
for_start to first = codes "for (" ++ (target to ++ (codes " = " ++ (bare first ++ codes "; ")))

unfoldable pub for_head : CExpr → CExpr → CExpr → CNext → List ℕ
for_head to first test turn =
    for_start to first ++ (bare test ++ (codes "; " ++ (printed_next turn ++ codes ") {")))

unfoldable pub while_end : CExpr → List ℕ
while_end test = letters is.While ++ (bare test ++ codes ");")

unfoldable pub printed_switch : CExpr → List CCase → ℕ → List ℕ
printed_switch value cases depth =
    line depth (switch_head value) ++ (flat_map (case_line (depth + 1)) cases ++ line depth (codes "}"))

unfoldable mutual
  -- a statement at a level
  pub printed_stmt : stmt.CStmt → ℕ → List ℕ
  printed_stmt (stmt.Set to e) depth = line depth (assignment to (bare e))
  printed_stmt (stmt.SetCall to call) depth = line depth (assignment to (printed_call call))
  printed_stmt (stmt.Call call) depth = line depth (printed_call call ++ codes ";")
  printed_stmt stmt.Empty depth = line depth (codes ";")
  printed_stmt (stmt.Block' shape inner) depth = line depth (codes "{") ++ (printed_row inner (depth + 1) ++ line depth (codes "}"))
  printed_stmt (stmt.Label' name shape (stmt.more_of-CStmt inner stmt.end_of-CStmt)) depth = name ++ (codes ":\n" ++ printed_stmt inner depth)
  printed_stmt (stmt.Goto label) depth = line depth (codes "goto " ++ (label ++ codes ";"))
  printed_stmt (stmt.Return value) depth = line depth (printed_return value)
  printed_stmt (stmt.ReturnCall call) depth = line depth (returned_call call)
  printed_stmt (stmt.If' test shape first other) depth = line depth (if_head test) ++ (printed_row first (depth + 1) ++ printed_other other depth)
  printed_stmt (stmt.Switch value cases) depth = printed_switch value cases depth
  printed_stmt (stmt.For' to first test turn shape inner) depth =
      line depth (for_head to first test turn) ++ (printed_row inner (depth + 1) ++ line depth (codes "}"))
  printed_stmt (stmt.DoWhile' shape inner test) depth = line depth (codes "do {") ++ (printed_row inner (depth + 1) ++ line depth (while_end test))

  -- statements in order
  pub printed_row : {m : _} → stmt.Row_of-CStmt m → ℕ → List ℕ
  printed_row stmt.end_of-CStmt depth = []
  printed_row (stmt.more_of-CStmt first later) depth = printed_stmt first depth ++ printed_row later depth

  -- the other arm of an `if`, and its end
  pub printed_other : stmt.Held-CStmt-If-2 → ℕ → List ℕ
  printed_other stmt.None' depth = line depth (codes "}")
  printed_other (stmt.Some' shape second) depth = line depth (letters is.Else) ++ (printed_row second (depth + 1) ++ line depth (codes "}"))

-- statements in order
abbrev pub printed_stmts : List stmt.CStmt → ℕ → List ℕ
printed_stmts list depth = flat_map (λ one. printed_stmt one depth) list

-- the other arm of an `if`, where there is one, and its end
unfoldable pub printed_second : Option (List stmt.CStmt) → ℕ → List ℕ
printed_second None depth = line depth (codes "}")
printed_second (Some second) depth =
    line depth (letters is.Else) ++ (printed_stmts second (depth + 1) ++ line depth (codes "}"))

-- what a function is of, where the house form says it
unfoldable pub kind_of_result : ResultType → List ℕ
kind_of_result gives.Int = codes "/* Subroutine */ "
kind_of_result gives.Integer = []
kind_of_result gives.Logical = []
kind_of_result gives.Void = codes "/* Character */ "

unfoldable pub function_kind : List ℕ → ResultType → List ℕ
function_kind name of = if bytes_eq name (codes "MAIN__") then codes "/* Main program */ " else kind_of_result of

-- the first line of a function up to its name, and whole without its end
unfoldable pub function_front : CFunction → List ℕ
function_front function = function_kind function.name function.result ++ (result_word function.result ++ 32 ∷ [])

unfoldable pub function_head : CFunction → List ℕ
function_head function = function_front function ++ (function.name ++ (40 ∷ (printed_params function.params ++ 41 ∷ [])))

-- the last line of a function
unfoldable pub function_end : CFunction → List ℕ
function_end function = codes "} /* " ++ (function.name ++ codes " */\n")

-- a function, with the empty line before it
unfoldable pub printed_function : CFunction → List ℕ
printed_function function =
    codes "\n"
    ++ (function_head function
    ++ (codes "\n{\n" ++ (locals_after None function.locals ++ (printed_stmts function.body 1 ++ function_end function))))

-- the functions in order
abbrev pub printed_functions : List CFunction → List ℕ
printed_functions functions = flat_map printed_function functions

-- a file
abbrev pub printed : CFile → List ℕ
printed file =
    letters is.Head
    ++ (printed_objects file.objects ++ (printed_constants file.constants ++ printed_functions file.functions))
