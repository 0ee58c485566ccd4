-- READ, WRITE, PRINT, OPEN, CLOSE, BACKSPACE, ENDFILE and REWIND with their lists of control information. ANSI X3.9-1978, sections 12.3.3,
-- 12.4, 12.8 and 12.10.
use Rattle.std.specs.Prelude.{ℕ, Bool, true, false, not, ◌&&◌, List, [], ◌∷◌, codes, Option, Some, None, if◌then◌else◌}
use Rattle.std.specs.List.{list_any, list_all}
use Rattle.std.specs.Str.{bytes_eq}
use Rattle.fortran_lexemes.specs.f_tree.declared.expressions.Expr.{Expr}
use Rattle.fortran_lexemes.specs.f_tree.declared.expressions.Expr as expr
use Rattle.fortran_lexemes.specs.f_tree.declared.statements.AuxiliaryKind.{AuxiliaryKind}
use Rattle.fortran_lexemes.specs.f_tree.declared.statements.AuxiliaryKind.TheVariants as auxiliary
use Rattle.fortran_lexemes.specs.f_tree.declared.statements.Body.{Body}
use Rattle.fortran_lexemes.specs.f_tree.declared.statements.Body as body
use Rattle.fortran_lexemes.specs.f_tree.declared.statements.Control.{Control}
use Rattle.fortran_lexemes.specs.f_tree.declared.statements.ControlValue.{ControlValue}
use Rattle.fortran_lexemes.specs.f_tree.declared.statements.ControlValue.TheVariants as value
use Rattle.fortran_lexemes.specs.f_tree.declared.statements.ControlWord.{ControlWord}
use Rattle.fortran_lexemes.specs.f_tree.declared.statements.ControlWord.TheVariants as word
use Rattle.fortran_lexemes.specs.f_tree.declared.statements.Direction.TheVariants as way
use Rattle.fortran_lexemes.specs.f_tree.declared.statements.ListItem.{ListItem}
use Rattle.fortran_lexemes.specs.Lexemes.{Lexeme, Lexemes, Name, Number, Mark}
use Rattle.fortran_lexemes.specs.declared.signs.Sign.TheVariants as sign
use Rattle.fortran_grammar.specs.ExpressionSpelling.{SpellsExpression}
use Rattle.fortran_grammar.specs.Forms.{Form, Said, Piece, After, UpTo, Both, Led, Either, Maybe, Meant, Where, Separated, Choice, Enclosed, listed, AName, ALabel, AQuoted, Comma, Equals, Star}
use Rattle.fortran_grammar.specs.ListForms.{ItemsForm}

-- A number stands alone where the value of a control or a format ends.
unfoldable pub is_number_alone : Lexemes → Bool
is_number_alone (Number digits n ∷ []) = true
is_number_alone (Number digits n ∷ Mark sign.Comma ∷ more) = true
is_number_alone (Number digits n ∷ Mark sign.Close ∷ more) = true
is_number_alone pieces = false

-- The unit: `*`, or an expression. Section 12.3.3.
abbrev pub UnitForm : Form ControlValue
UnitForm = Either (After Star (Said value.Star)) (Meant value.Value SpellsExpression)

-- A format: `*`, the label of a FORMAT statement, or an expression. Section 12.4.
abbrev pub FormatOfForm : Form ControlValue
FormatOfForm =
    Either (After Star (Said value.Star)) (Choice is_number_alone (Meant value.Label ALabel) (Meant value.Value SpellsExpression))

unfoldable pub variable_or_element : List ℕ × Option (List Expr) → ControlValue
variable_or_element (name, None) = value.Value (expr.Name name)
variable_or_element (name, Some subscripts) = value.Value (expr.Apply name subscripts)

-- The constants that a control word takes in a statement.
abbrev pub Constants : Type 0
Constants = ControlWord → List (List ℕ)

unfoldable pub is_constant : List (List ℕ) → List ℕ → Bool
is_constant constants text = list_any (bytes_eq text) constants

-- What stands behind a control word and `=`. Sections 12.8.1 and 12.10.
unfoldable pub ValueForm : Constants → ControlWord → Form ControlValue
ValueForm constants word.Unit = UnitForm
ValueForm constants word.Format = FormatOfForm
ValueForm constants word.Status = Meant variable_or_element (Both AName (Maybe (Enclosed (Separated SpellsExpression))))
ValueForm constants word.OnError = Meant value.Label ALabel
ValueForm constants word.OnEnd = Meant value.Label ALabel
ValueForm constants word.File = Meant value.Value SpellsExpression
ValueForm constants w = Meant (λ text. value.Value (expr.Text text)) (Where (is_constant (constants w)) AQuoted)

unfoldable pub first_word : List ℕ → List (List ℕ × ControlWord) → Option ControlWord
first_word name [] = None
first_word name (entry ∷ more) = if bytes_eq name entry.0 then Some entry.1 else first_word name more

abbrev pub control_words : List (List ℕ × ControlWord)
control_words =
    (codes "unit", word.Unit) ∷ (codes "fmt", word.Format) ∷ (codes "iostat", word.Status) ∷ (codes "err", word.OnError)
    ∷ (codes "end", word.OnEnd) ∷ (codes "file", word.File) ∷ (codes "status", word.FileStatus) ∷ (codes "access", word.Access)
    ∷ (codes "form", word.Form) ∷ (codes "blank", word.Blank) ∷ []

unfoldable pub control_word : Lexeme → Option ControlWord
control_word (Name name) = first_word name control_words
control_word piece = None

unfoldable pub control : ControlWord → ControlValue → Control
control w v = record { word = w; value = v }

unfoldable pub control_of : ControlWord × ControlValue → Control
control_of p = control p.0 p.1

-- A control word with `=` and its value.
abbrev pub KeyedForm : Constants → Form Control
KeyedForm constants = Meant control_of (Led (UpTo (Piece control_word) Equals) (ValueForm constants))

abbrev pub KeyedListForm : Constants → Form (List Control)
KeyedListForm constants = Separated (KeyedForm constants)

unfoldable pub before_others : Control × Option (List Control) → List Control
before_others p = p.0 ∷ listed p.1

-- The format behind the unit, each without its word, or controls with their words. Section 12.8.1.
abbrev pub BehindUnitForm : Constants → Form (List Control)
BehindUnitForm constants =
    Either (KeyedListForm constants)
    (Meant before_others (Both (Meant (control word.Format) FormatOfForm) (Maybe (After Comma (KeyedListForm constants)))))

-- A list of controls: the first may be the unit without its word. Sections 12.8.1 and 12.10.
abbrev pub ControlListForm : Constants → Form (List Control)
ControlListForm constants =
    Either (KeyedListForm constants)
    (Meant before_others (Both (Meant (control word.Unit) UnitForm) (Maybe (After Comma (BehindUnitForm constants)))))

unfoldable pub same_word : ControlWord → ControlWord → Bool
same_word word.Unit word.Unit = true
same_word word.Format word.Format = true
same_word word.Status word.Status = true
same_word word.OnError word.OnError = true
same_word word.OnEnd word.OnEnd = true
same_word word.File word.File = true
same_word word.FileStatus word.FileStatus = true
same_word word.Access word.Access = true
same_word word.Form word.Form = true
same_word word.Blank word.Blank = true
same_word w v = false

unfoldable pub has_word : ControlWord → List Control → Bool
has_word w controls = list_any (λ (c : Control). same_word w c.word) controls

unfoldable pub no_word_twice : List Control → Bool
no_word_twice [] = true
no_word_twice (c ∷ more) = not (has_word c.word more) && no_word_twice more

unfoldable pub has_only : List ControlWord → List Control → Bool
has_only words controls = list_all (λ (c : Control). list_any (same_word c.word) words) controls

-- A list of controls as a whole: words of the statement, each once at most, and the unit.
unfoldable pub fits : List ControlWord → List Control → Bool
fits words controls = has_only words controls && (no_word_twice controls && has_word word.Unit controls)

-- A unit that is `*`.
unfoldable pub is_star_unit : Control → Bool
is_star_unit c = is_star_for c.word c.value
  where
    is_star_for : ControlWord → ControlValue → Bool
    is_star_for word.Unit value.Star = true
    is_star_for w v = false

-- READ and WRITE have a format; END stands in READ alone. Section 12.8.1.
unfoldable pub fits_read : List Control → Bool
fits_read controls =
    fits (word.Unit ∷ word.Format ∷ word.Status ∷ word.OnError ∷ word.OnEnd ∷ []) controls && has_word word.Format controls

unfoldable pub fits_write : List Control → Bool
fits_write controls = fits (word.Unit ∷ word.Format ∷ word.Status ∷ word.OnError ∷ []) controls && has_word word.Format controls

-- The other statements take no `*` as their unit. Section 12.10.
unfoldable pub fits_auxiliary : List ControlWord → List Control → Bool
fits_auxiliary words controls = fits words controls && not (list_any is_star_unit controls)

abbrev pub words_of_open : List ControlWord
words_of_open =
    word.Unit ∷ word.Status ∷ word.OnError ∷ word.File ∷ word.FileStatus ∷ word.Access ∷ word.Form ∷ word.Blank ∷ []

abbrev pub words_of_close : List ControlWord
words_of_close = word.Unit ∷ word.Status ∷ word.OnError ∷ word.FileStatus ∷ []

abbrev pub words_of_position : List ControlWord
words_of_position = word.Unit ∷ word.Status ∷ word.OnError ∷ []

unfoldable pub no_constants : Constants
no_constants w = []

-- Section 12.10.1.
unfoldable pub constants_of_open : Constants
constants_of_open word.FileStatus = codes "OLD" ∷ codes "NEW" ∷ codes "UNKNOWN" ∷ []
constants_of_open word.Access = codes "SEQUENTIAL" ∷ []
constants_of_open word.Form = codes "FORMATTED" ∷ []
constants_of_open word.Blank = codes "NULL" ∷ codes "ZERO" ∷ []
constants_of_open w = []

-- Section 12.10.2.
unfoldable pub constants_of_close : Constants
constants_of_close word.FileStatus = codes "KEEP" ∷ []
constants_of_close w = []

unfoldable pub is_opened : Lexemes → Bool
is_opened (Mark sign.Open ∷ more) = true
is_opened pieces = false

-- Controls in parentheses, and a list.
abbrev pub ReadControlsForm : Form Body
ReadControlsForm =
    Meant (λ p. body.Transfer way.Read p.0 (listed p.1))
    (Both (Enclosed (Where fits_read (ControlListForm no_constants))) (Maybe ItemsForm))

-- The unit `*` and a format.
unfoldable pub standard_unit : ControlValue → List Control
standard_unit format = control word.Unit value.Star ∷ control word.Format format ∷ []

-- A format, and a list behind a comma. Section 12.8.
abbrev pub FormatAndListForm : Form (ControlValue × Option (List ListItem))
FormatAndListForm = Both FormatOfForm (Maybe (After Comma ItemsForm))

-- READ. Section 12.8.
abbrev pub ReadForm : Form Body
ReadForm = Choice is_opened ReadControlsForm (Meant (λ p. body.Transfer way.Read (standard_unit p.0) (listed p.1)) FormatAndListForm)

-- WRITE. Section 12.8.
abbrev pub WriteForm : Form Body
WriteForm =
    Meant (λ p. body.Transfer way.Write p.0 (listed p.1))
    (Both (Enclosed (Where fits_write (ControlListForm no_constants))) (Maybe ItemsForm))

-- PRINT. Section 12.8.
abbrev pub PrintForm : Form Body
PrintForm = Meant (λ p. body.Transfer way.Write (standard_unit p.0) (listed p.1)) FormatAndListForm

-- OPEN. Section 12.10.1.
abbrev pub OpenForm : Form Body
OpenForm = Meant (body.Auxiliary auxiliary.OpenUnit) (Enclosed (Where (fits_auxiliary words_of_open) (ControlListForm constants_of_open)))

-- CLOSE. Section 12.10.2.
abbrev pub CloseForm : Form Body
CloseForm = Meant (body.Auxiliary auxiliary.CloseUnit) (Enclosed
    (Where (fits_auxiliary words_of_close) (ControlListForm constants_of_close)))

unfoldable pub unit_alone : Expr → List Control
unit_alone e = control word.Unit (value.Value e) ∷ []

-- BACKSPACE, ENDFILE and REWIND: controls in parentheses, or the unit alone. Section 12.10.4.
abbrev pub PositionForm : AuxiliaryKind → Form Body
PositionForm which =
    Meant (body.Auxiliary which)
    (Choice is_opened (Enclosed (Where (fits_auxiliary words_of_position) (ControlListForm no_constants)))
    (Meant unit_alone SpellsExpression))
