-- The forms of statements that assign, branch, loop, call and end, behind the word that begins each. ANSI X3.9-1978, sections 10, 11 and 15;
-- MIL-STD-1753: DO WHILE, and DO without a label. INCLUDE, FORMAT and ENTRY stand here too.
use Rattle.std.specs.Prelude.{ℕ, nat_le, List, [], length, Option, Some, None, if◌then◌else◌}
use Rattle.fortran_lexemes.specs.f_tree.declared.expressions.Expr.{Expr}
use Rattle.fortran_lexemes.specs.f_tree.declared.expressions.Expr as expr
use Rattle.fortran_lexemes.specs.f_tree.declared.statements.Body.{Body}
use Rattle.fortran_lexemes.specs.f_tree.declared.statements.Body as body
use Rattle.fortran_lexemes.specs.f_tree.declared.statements.DummyArgument.{DummyArgument}
use Rattle.fortran_lexemes.specs.f_tree.declared.statements.DummyArgument.TheVariants as dummy
use Rattle.fortran_lexemes.specs.f_tree.declared.statements.LoopControl.{LoopControl}
use Rattle.fortran_lexemes.specs.Lexemes.{Lexeme, Number, Quoted, FormatText}
use Rattle.fortran_grammar.specs.ExpressionSpelling.{SpellsExpression, SpellsPlace}
use Rattle.fortran_grammar.specs.Forms.{Form, Said, Piece, After, UpTo, Both, Either, Maybe, Meant, Separated, Enclosed, WithComma, listed, AName, ALabel, AQuoted, Open, Close, Comma, Equals, Star, ToWord, ThenWord}

-- What is assigned to: a place, or a statement function without arguments. Sections 10 and 15.4.
abbrev pub TargetForm : Form Expr
TargetForm = Either (Meant (λ name. expr.Apply name []) (UpTo (UpTo AName Open) Close)) SpellsPlace

-- An assignment, or the definition of a statement function. Sections 10.1 to 10.4 and 15.4.
abbrev pub AssignmentForm : Form Body
AssignmentForm = Meant (λ p. body.Assign p.0 p.1) (Both TargetForm (After Equals SpellsExpression))

-- ASSIGN. Section 10.3.
abbrev pub AssignForm : Form Body
AssignForm = Meant (λ p. body.AssignLabel p.0 p.1) (Both ALabel (After ToWord AName))

-- Labels in parentheses. Sections 11.2 and 11.3.
abbrev pub LabelsForm : Form (List ℕ)
LabelsForm = Enclosed (Separated ALabel)

-- GO TO a label. Section 11.1.
abbrev pub PlainGotoForm : Form Body
PlainGotoForm = Meant body.Goto ALabel

-- GO TO one of some labels. Section 11.2.
abbrev pub ComputedGotoForm : Form Body
ComputedGotoForm = Meant (λ p. body.GotoList p.0 p.1) (Both LabelsForm (WithComma SpellsExpression))

-- GO TO an assigned label. Section 11.3.
abbrev pub AssignedGotoForm : Form Body
AssignedGotoForm = Meant (λ p. body.GotoName p.0 (listed p.1)) (Both AName (Maybe (WithComma LabelsForm)))

abbrev pub GotoForm : Form Body
GotoForm = Either PlainGotoForm (Either ComputedGotoForm AssignedGotoForm)

-- A condition, in parentheses.
abbrev pub TestForm : Form Expr
TestForm = Enclosed SpellsExpression

-- The labels for a negative value, for zero and for a positive one. Section 11.4.
abbrev pub SignLabelsForm : Form (ℕ × (ℕ × ℕ))
SignLabelsForm = Both ALabel (After Comma (Both ALabel (After Comma ALabel)))

-- The arithmetic IF. Section 11.4.
unfoldable pub if_sign : Expr × (ℕ × (ℕ × ℕ)) → Body
if_sign p = body.IfSign p.0 p.1.0 p.1.1.0 p.1.1.1

abbrev pub ArithmeticIfForm : Form Body
ArithmeticIfForm = Meant if_sign (Both TestForm SignLabelsForm)

-- IF .. THEN. Section 11.6.
abbrev pub BlockIfForm : Form Body
BlockIfForm = Meant body.IfThen (UpTo TestForm ThenWord)

-- ELSE IF .. THEN. Section 11.7.
abbrev pub ElseIfForm : Form Body
ElseIfForm = Meant body.ElseIf (UpTo TestForm ThenWord)

-- The variable of a loop with its first value, its limit and its step. Section 11.10.
unfoldable pub loop_of : List ℕ × (Expr × (Expr × Option Expr)) → LoopControl
loop_of p = record { variable = p.0; first = p.1.0; limit = p.1.1.0; step = p.1.1.1 }

abbrev pub LoopForm : Form LoopControl
LoopForm =
    Meant loop_of
    (Both AName (After Equals (Both SpellsExpression (After Comma (Both SpellsExpression (Maybe (After Comma SpellsExpression)))))))

-- DO with the label of its last statement, or without one. Section 11.10 and MIL-STD-1753.
abbrev pub DoForm : Form Body
DoForm = Either (Meant (λ p. body.Do (Some p.0) p.1) (Both ALabel (WithComma LoopForm))) (Meant (body.Do None) LoopForm)

-- DO WHILE. MIL-STD-1753.
abbrev pub DoWhileForm : Form Body
DoWhileForm = Either (Meant (λ p. body.DoWhile (Some p.0) p.1) (Both ALabel (WithComma TestForm))) (Meant (body.DoWhile None) TestForm)

-- An actual argument of a subroutine: an expression, or `*` and the label of an alternate return. Section 15.9.3.
abbrev pub ArgumentForm : Form Expr
ArgumentForm = Either SpellsExpression (Meant expr.AltReturn (After Star ALabel))

-- A list in parentheses, which may be empty or left out.
unfoldable pub arguments_of : {A : Type 0} → Option (Option (List A)) → List A
arguments_of None = []
arguments_of (Some inside) = listed inside

-- CALL. Section 15.6.2.
abbrev pub CallForm : Form Body
CallForm = Meant (λ p. body.Call p.0 (arguments_of p.1)) (Both AName (Maybe (Enclosed (Maybe (Separated ArgumentForm)))))

-- RETURN. Section 15.8.
abbrev pub ReturnForm : Form Body
ReturnForm = Meant body.Return (Maybe SpellsExpression)

-- Up to five digits, or a character constant. Section 11.12.
unfoldable pub stop_text : Lexeme → Option (List ℕ)
stop_text (Number digits value) = if nat_le (length digits) 5 then Some digits else None
stop_text (Quoted text) = Some text
stop_text piece = None

-- STOP. Section 11.12.
abbrev pub StopForm : Form Body
StopForm = Meant (λ text. body.Stop (listed text)) (Maybe (Piece stop_text))

-- A dummy argument of a subroutine: a name, or `*`, the place of an alternate return. Section 15.9.2.
abbrev pub DummyForm : Form DummyArgument
DummyForm = Either (Meant dummy.Named AName) (After Star (Said dummy.AlternateReturn))

-- ENTRY. Section 15.7.1.
abbrev pub EntryForm : Form Body
EntryForm = Meant (λ p. body.Entry p.0 (arguments_of p.1)) (Both AName (Maybe (Enclosed (Maybe (Separated DummyForm)))))

-- FORMAT. Section 13.1.1.
unfoldable pub format_text : Lexeme → Option (List ℕ)
format_text (FormatText text) = Some text
format_text piece = None

abbrev pub FormatForm : Form Body
FormatForm = Meant body.Format (Piece format_text)

-- INCLUDE. MIL-STD-1753.
abbrev pub IncludeForm : Form Body
IncludeForm = Meant body.Include AQuoted
