-- The reader of statements: the word that begins the pieces says which form is read, up to the last piece.
use Rattle.std.specs.Prelude.{[], ◌∷◌, Option, Some, None, option_map, if◌then◌else◌}
use Rattle.fortran_grammar.specs.f_tree.declared.expressions.Expr.{Expr}
use Rattle.fortran_grammar.specs.f_tree.declared.statements.AuxiliaryKind.TheVariants as auxiliary
use Rattle.fortran_grammar.specs.f_tree.declared.statements.Body.{Body}
use Rattle.fortran_grammar.specs.f_tree.declared.statements.Body as body
use Rattle.fortran_grammar.specs.fortran_lexemes.Lexemes.{Lexemes, Word}
use Rattle.fortran_grammar.specs.fortran_lexemes.declared.kinds.StmtKind.{StmtKind}
use Rattle.fortran_grammar.specs.fortran_lexemes.declared.kinds.StmtKind.TheVariants as kind
use Rattle.fortran_grammar.specs.Forms.{sort, behind, NumberPiece, ThenWord}
use Rattle.fortran_grammar.specs.StatementForms.{if_sign}
use Rattle.grammar_laws.specs.Exactness.{Reader}
use Rattle.grammar_laws.specs.FormReading.{same, going_on, said}
use Rattle.grammar_laws.specs.StatementReading.{assignment_form, assign_form, goto_form, test_form, sign_labels_form, arithmetic_if_form, else_if_form, do_form, do_while_form, call_form, return_form, stop_form, entry_form, format_form, include_form}
use Rattle.grammar_laws.specs.ListReading.{data_form}
use Rattle.grammar_laws.specs.DeclarationReading.{dimension_statement_form, type_statement_form, function_form, common_form, equivalence_form, implicit_form, parameter_form, external_form, intrinsic_form, save_form, program_form, subroutine_form, block_data_form}
use Rattle.grammar_laws.specs.ControlReading.{read_form, write_form, print_form, open_form, close_form, position_form}

-- What was read up to the last piece.
unfoldable pub ended : {A : Type 0} → A → Lexemes → Option A
ended x [] = Some x
ended x (piece ∷ more) = None

unfoldable pub whole : {A : Type 0} → Reader A → Lexemes → Option A
whole read pieces = going_on (read pieces) ended

-- The statements that may stand in a logical IF, by the words that begin them.
unfoldable pub action_by_word : StmtKind → Option (Reader Body)
action_by_word kind.Assign = Some assign_form
action_by_word kind.Goto = Some goto_form
action_by_word kind.If = Some arithmetic_if_form
action_by_word kind.Continue = Some (said body.Continue)
action_by_word kind.Call = Some call_form
action_by_word kind.Return = Some return_form
action_by_word kind.Stop = Some stop_form
action_by_word kind.Read = Some read_form
action_by_word kind.Write = Some write_form
action_by_word kind.Print = Some print_form
action_by_word kind.OpenUnit = Some open_form
action_by_word kind.Close = Some close_form
action_by_word kind.Backspace = Some (position_form auxiliary.Backspace)
action_by_word kind.EndFile = Some (position_form auxiliary.EndFile)
action_by_word kind.Rewind = Some (position_form auxiliary.Rewind)
action_by_word k = None

unfoldable pub read_by : Option (Reader Body) → Lexemes → Option Body
read_by None pieces = None
read_by (Some read) pieces = whole read pieces

unfoldable pub read_action : Lexemes → Option Body
read_action (Word k ∷ more) = read_by (action_by_word k) more
read_action pieces = whole assignment_form pieces

-- What stands behind the condition of an IF: THEN, labels or a statement.
unfoldable pub behind_condition : Expr → Lexemes → Option Body
behind_condition e pieces =
    if same ThenWord (sort pieces) then ended (body.IfThen e) (behind pieces)
    else (if same NumberPiece (sort pieces) then option_map (λ labels. if_sign (e, labels)) (whole sign_labels_form pieces)
    else option_map (body.IfOne e) (read_action pieces))

-- The other statements, by the words that begin them.
unfoldable pub other_by_word : StmtKind → Option (Reader Body)
other_by_word kind.ElseIf = Some else_if_form
other_by_word kind.Else = Some (said body.Else)
other_by_word kind.EndIf = Some (said body.EndIf)
other_by_word kind.Do = Some do_form
other_by_word kind.DoWhile = Some do_while_form
other_by_word kind.EndDo = Some (said body.EndDo)
other_by_word kind.End = Some (said body.End)
other_by_word kind.Function = Some function_form
other_by_word kind.Program = Some program_form
other_by_word kind.Subroutine = Some subroutine_form
other_by_word kind.BlockData = Some block_data_form
other_by_word kind.Entry = Some entry_form
other_by_word kind.Dimension = Some dimension_statement_form
other_by_word kind.Common = Some common_form
other_by_word kind.Equivalence = Some equivalence_form
other_by_word kind.Implicit = Some implicit_form
other_by_word kind.Parameter = Some parameter_form
other_by_word kind.External = Some external_form
other_by_word kind.Intrinsic = Some intrinsic_form
other_by_word kind.Save = Some save_form
other_by_word kind.Init = Some data_form
other_by_word kind.Format = Some format_form
other_by_word kind.Include = Some include_form
other_by_word k = None

unfoldable pub read_other : StmtKind → Option (Reader Body) → Lexemes → Option Body
read_other k None more = read_by (action_by_word k) more
read_other k (Some read) more = whole read more

unfoldable pub read_by_word : StmtKind → Lexemes → Option Body
read_by_word kind.If more = going_on (test_form more) behind_condition
read_by_word kind.Integer more = whole type_statement_form (Word kind.Integer ∷ more)
read_by_word kind.Logical more = whole type_statement_form (Word kind.Logical ∷ more)
read_by_word kind.Character more = whole type_statement_form (Word kind.Character ∷ more)
read_by_word k more = read_other k (other_by_word k) more

-- A statement.
unfoldable pub read_statement : Lexemes → Option Body
read_statement (Word k ∷ more) = read_by_word k more
read_statement pieces = whole assignment_form pieces
