-- The lists of READ, WRITE, PRINT and DATA, with their implied DO loops. ANSI X3.9-1978, sections 9.1 to 9.3 and 12.8.2.
use Rattle.std.specs.Prelude.{ℕ, zero, suc, Bool, pos, List, ◌∷◌, Option, Some, None}
use Rattle.fortran_lexemes.specs.f_tree.declared.expressions.Expr.{Expr}
use Rattle.fortran_lexemes.specs.f_tree.declared.expressions.Expr as expr
use Rattle.fortran_lexemes.specs.f_tree.declared.statements.Body.{Body}
use Rattle.fortran_lexemes.specs.f_tree.declared.statements.Body as body
use Rattle.fortran_lexemes.specs.f_tree.declared.statements.DataGroup.{DataGroup}
use Rattle.fortran_lexemes.specs.f_tree.declared.statements.DataValue.{DataValue}
use Rattle.fortran_lexemes.specs.f_tree.declared.statements.ListItem.{ListItem}
use Rattle.fortran_lexemes.specs.f_tree.declared.statements.ListItem as item
use Rattle.fortran_lexemes.specs.Lexemes.{Lexeme, Truth}
use Rattle.fortran_grammar.specs.ExpressionSpelling.{SpellsExpression, SpellsPlace}
use Rattle.fortran_grammar.specs.Forms.{Form, Piece, After, UpTo, Both, Either, Maybe, Meant, Separated, Many, Enclosed, WithComma, AName, ANumber, AQuoted, Comma, Star, Slash, Plus, Minus}
use Rattle.fortran_grammar.specs.StatementForms.{LoopForm}

-- An item of a form, or an implied DO of such items, with so many loops in one another at most.
unfoldable pub DeepItem : ℕ → Form Expr → Form ListItem
DeepItem zero f = Meant item.Item f
DeepItem (suc n) f = Either (Meant item.Item f) (Meant (λ p. item.Loop p.0 p.1)
    (Enclosed (Both (UpTo (Separated (DeepItem n f)) Comma) LoopForm)))

-- An implied DO: items and a loop, in parentheses. Section 12.8.2.3.
unfoldable pub ImpliedDo : Form Expr → Form ListItem
ImpliedDo f i before after = (n : ℕ) × Meant (λ p. item.Loop p.0 p.1) (Enclosed (Both (UpTo (Separated (DeepItem n f)) Comma) LoopForm)) i
    before after

-- An item of a list of READ, WRITE or PRINT. Section 12.8.2.
abbrev pub ItemForm : Form ListItem
ItemForm = Either (Meant item.Item SpellsExpression) (ImpliedDo SpellsExpression)

abbrev pub ItemsForm : Form (List ListItem)
ItemsForm = Separated ItemForm

-- An array element. Section 5.3.
abbrev pub ElementForm : Form Expr
ElementForm = Meant (λ p. expr.Apply p.0 p.1) (Both AName (Enclosed (Separated SpellsExpression)))

-- What DATA gives a value to: a variable, array, element or substring, or an implied DO of elements. Sections 9.1 and 9.3.
abbrev pub DataPlaceForm : Form ListItem
DataPlaceForm = Either (Meant item.Item SpellsPlace) (ImpliedDo ElementForm)

-- `.TRUE.` or `.FALSE.`. Section 4.7.
unfoldable pub truth_of : Lexeme → Option Bool
truth_of (Truth value) = Some value
truth_of piece = None

abbrev pub IntegerForm : Form Expr
IntegerForm = Meant (λ n. expr.Int (pos n)) ANumber

-- A constant that is no integer without a sign and no name.
abbrev pub OtherConstantForm : Form Expr
OtherConstantForm =
    Either (Meant expr.Minus (After Minus IntegerForm))
    (Either (Meant expr.Plus (After Plus IntegerForm)) (Either (Meant expr.Text AQuoted) (Meant expr.Logical (Piece truth_of))))

-- An integer without a sign, or a constant by its name: a value, or how often one stands.
abbrev pub CountForm : Form Expr
CountForm = Either IntegerForm (Meant expr.Name AName)

unfoldable pub value_of : Expr × Option Expr → DataValue
value_of (first, None) = record { count = None; value = first }
value_of (first, Some value) = record { count = Some first; value = value }

unfoldable pub single : Expr → DataValue
single value = record { count = None; value = value }

-- A value of DATA, with how often it stands. Section 9.1.
abbrev pub DataValueForm : Form DataValue
DataValueForm =
    Either (Meant value_of (Both CountForm (Maybe (After Star (Either CountForm OtherConstantForm))))) (Meant single OtherConstantForm)

unfoldable pub data_group : List ListItem × List DataValue → DataGroup
data_group p = record { places = p.0; values = p.1 }

abbrev pub DataGroupForm : Form DataGroup
DataGroupForm = Meant data_group (Both (Separated DataPlaceForm) (After Slash (UpTo (Separated DataValueForm) Slash)))

unfoldable pub chained : {A : Type 0} → A × List A → List A
chained p = p.0 ∷ p.1

-- DATA. Section 9.1.
abbrev pub DataForm : Form Body
DataForm = Meant (λ p. body.Init (chained p)) (Both DataGroupForm (Many (WithComma DataGroupForm)))
