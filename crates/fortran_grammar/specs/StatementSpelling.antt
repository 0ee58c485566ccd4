-- Which statement pieces spell: the word that begins them says which form stands behind it, up to the last piece. ANSI X3.9-1978, sections 7 to
-- 16; MIL-STD-1753: DO WHILE, END DO and INCLUDE.
use Rattle.std.specs.Prelude.{[], ◌∷◌}
use Rattle.fortran_lexemes.specs.f_tree.declared.expressions.Expr.{Expr}
use Rattle.fortran_lexemes.specs.f_tree.declared.statements.AuxiliaryKind.TheVariants as auxiliary
use Rattle.fortran_lexemes.specs.f_tree.declared.statements.Body.{Body}
use Rattle.fortran_lexemes.specs.f_tree.declared.statements.Body as body
use Rattle.fortran_lexemes.specs.Lexemes.{Lexemes, Word}
use Rattle.fortran_lexemes.specs.declared.kinds.StmtKind.TheVariants as kind
use Rattle.fortran_grammar.specs.StatementForms.{AssignmentForm, AssignForm, GotoForm, TestForm, ArithmeticIfForm, BlockIfForm, ElseIfForm, DoForm, DoWhileForm, CallForm, ReturnForm, StopForm, EntryForm, FormatForm, IncludeForm}
use Rattle.fortran_grammar.specs.ListForms.{DataForm}
use Rattle.fortran_grammar.specs.DeclarationForms.{DimensionStatementForm, TypeStatementForm, FunctionForm, CommonForm, EquivalenceForm, ImplicitForm, ParameterForm, ExternalForm, IntrinsicForm, SaveForm, ProgramForm, SubroutineForm, BlockDataForm}
use Rattle.fortran_grammar.specs.ControlForms.{ReadForm, WriteForm, PrintForm, OpenForm, CloseForm, PositionForm}

-- A statement that may stand behind the condition of a logical IF: an executable one, but no DO, no IF block and no part of one, no END and no
-- logical IF. Section 11.5.
pub data SpellsAction : Lexemes → Body → Type 0 where
  assignment : (b : Body) (pieces : Lexemes) → AssignmentForm b pieces [] → SpellsAction pieces b
  assign : (b : Body) (pieces : Lexemes) → AssignForm b pieces [] → SpellsAction (Word kind.Assign ∷ pieces) b
  go_to : (b : Body) (pieces : Lexemes) → GotoForm b pieces [] → SpellsAction (Word kind.Goto ∷ pieces) b
  arithmetic_if : (b : Body) (pieces : Lexemes) → ArithmeticIfForm b pieces [] → SpellsAction (Word kind.If ∷ pieces) b
  continue_ : SpellsAction (Word kind.Continue ∷ []) body.Continue
  call : (b : Body) (pieces : Lexemes) → CallForm b pieces [] → SpellsAction (Word kind.Call ∷ pieces) b
  return : (b : Body) (pieces : Lexemes) → ReturnForm b pieces [] → SpellsAction (Word kind.Return ∷ pieces) b
  stop : (b : Body) (pieces : Lexemes) → StopForm b pieces [] → SpellsAction (Word kind.Stop ∷ pieces) b
  read : (b : Body) (pieces : Lexemes) → ReadForm b pieces [] → SpellsAction (Word kind.Read ∷ pieces) b
  write : (b : Body) (pieces : Lexemes) → WriteForm b pieces [] → SpellsAction (Word kind.Write ∷ pieces) b
  print : (b : Body) (pieces : Lexemes) → PrintForm b pieces [] → SpellsAction (Word kind.Print ∷ pieces) b
  open_ : (b : Body) (pieces : Lexemes) → OpenForm b pieces [] → SpellsAction (Word kind.OpenUnit ∷ pieces) b
  close : (b : Body) (pieces : Lexemes) → CloseForm b pieces [] → SpellsAction (Word kind.Close ∷ pieces) b
  backspace : (b : Body) (pieces : Lexemes) → PositionForm auxiliary.Backspace b pieces [] → SpellsAction (Word kind.Backspace ∷ pieces) b
  end_file : (b : Body) (pieces : Lexemes) → PositionForm auxiliary.EndFile b pieces [] → SpellsAction (Word kind.EndFile ∷ pieces) b
  rewind : (b : Body) (pieces : Lexemes) → PositionForm auxiliary.Rewind b pieces [] → SpellsAction (Word kind.Rewind ∷ pieces) b

-- A statement.
pub data SpellsBody : Lexemes → Body → Type 0 where
  action : (b : Body) (pieces : Lexemes) → SpellsAction pieces b → SpellsBody pieces b
  logical_if : (e : Expr) (b : Body) (pieces rest : Lexemes) → TestForm e pieces rest → SpellsAction rest b
      → SpellsBody (Word kind.If ∷ pieces) (body.IfOne e b)
  block_if : (b : Body) (pieces : Lexemes) → BlockIfForm b pieces [] → SpellsBody (Word kind.If ∷ pieces) b
  else_if : (b : Body) (pieces : Lexemes) → ElseIfForm b pieces [] → SpellsBody (Word kind.ElseIf ∷ pieces) b
  else : SpellsBody (Word kind.Else ∷ []) body.Else
  end_if : SpellsBody (Word kind.EndIf ∷ []) body.EndIf
  do_loop : (b : Body) (pieces : Lexemes) → DoForm b pieces [] → SpellsBody (Word kind.Do ∷ pieces) b
  do_while : (b : Body) (pieces : Lexemes) → DoWhileForm b pieces [] → SpellsBody (Word kind.DoWhile ∷ pieces) b
  end_do : SpellsBody (Word kind.EndDo ∷ []) body.EndDo
  end : SpellsBody (Word kind.End ∷ []) body.End
  type_statement : (b : Body) (pieces : Lexemes) → TypeStatementForm b pieces [] → SpellsBody pieces b
  function : (b : Body) (pieces : Lexemes) → FunctionForm b pieces [] → SpellsBody (Word kind.Function ∷ pieces) b
  program : (b : Body) (pieces : Lexemes) → ProgramForm b pieces [] → SpellsBody (Word kind.Program ∷ pieces) b
  subroutine : (b : Body) (pieces : Lexemes) → SubroutineForm b pieces [] → SpellsBody (Word kind.Subroutine ∷ pieces) b
  block_data : (b : Body) (pieces : Lexemes) → BlockDataForm b pieces [] → SpellsBody (Word kind.BlockData ∷ pieces) b
  entry : (b : Body) (pieces : Lexemes) → EntryForm b pieces [] → SpellsBody (Word kind.Entry ∷ pieces) b
  dimension : (b : Body) (pieces : Lexemes) → DimensionStatementForm b pieces [] → SpellsBody (Word kind.Dimension ∷ pieces) b
  common : (b : Body) (pieces : Lexemes) → CommonForm b pieces [] → SpellsBody (Word kind.Common ∷ pieces) b
  equivalence : (b : Body) (pieces : Lexemes) → EquivalenceForm b pieces [] → SpellsBody (Word kind.Equivalence ∷ pieces) b
  implicit : (b : Body) (pieces : Lexemes) → ImplicitForm b pieces [] → SpellsBody (Word kind.Implicit ∷ pieces) b
  parameter : (b : Body) (pieces : Lexemes) → ParameterForm b pieces [] → SpellsBody (Word kind.Parameter ∷ pieces) b
  external : (b : Body) (pieces : Lexemes) → ExternalForm b pieces [] → SpellsBody (Word kind.External ∷ pieces) b
  intrinsic : (b : Body) (pieces : Lexemes) → IntrinsicForm b pieces [] → SpellsBody (Word kind.Intrinsic ∷ pieces) b
  save : (b : Body) (pieces : Lexemes) → SaveForm b pieces [] → SpellsBody (Word kind.Save ∷ pieces) b
  data_statement : (b : Body) (pieces : Lexemes) → DataForm b pieces [] → SpellsBody (Word kind.Init ∷ pieces) b
  format : (b : Body) (pieces : Lexemes) → FormatForm b pieces [] → SpellsBody (Word kind.Format ∷ pieces) b
  include : (b : Body) (pieces : Lexemes) → IncludeForm b pieces [] → SpellsBody (Word kind.Include ∷ pieces) b
