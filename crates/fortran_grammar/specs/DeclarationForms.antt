-- The forms of specification statements and of the statements that begin a unit. ANSI X3.9-1978, sections 8, 14, 15 and 16; MIL-STD-1753:
-- IMPLICIT NONE. A type is INTEGER, LOGICAL or CHARACTER; the first two may have the length 4 written.
use Rattle.std.specs.Prelude.{ℕ, Bool, ◌==◌, nat_le, List, [], ◌∷◌, ◌++◌, map, codes, Option, Some, None, if◌then◌else◌}
use Rattle.std.specs.Str.{bytes_eq}
use Rattle.fortran_lexemes.specs.f_tree.declared.expressions.Expr.{Expr}
use Rattle.fortran_lexemes.specs.f_tree.declared.names.Basic.{Basic}
use Rattle.fortran_lexemes.specs.f_tree.declared.names.Basic.TheVariants as basic
use Rattle.fortran_lexemes.specs.f_tree.declared.statements.ArrayDeclarator.{ArrayDeclarator}
use Rattle.fortran_lexemes.specs.f_tree.declared.statements.Body.{Body}
use Rattle.fortran_lexemes.specs.f_tree.declared.statements.Body as body
use Rattle.fortran_lexemes.specs.f_tree.declared.statements.CommonGroup.{CommonGroup}
use Rattle.fortran_lexemes.specs.f_tree.declared.statements.ConstantDefinition.{ConstantDefinition}
use Rattle.fortran_lexemes.specs.f_tree.declared.statements.Declarator.{Declarator}
use Rattle.fortran_lexemes.specs.f_tree.declared.statements.Dimension.{Dimension}
use Rattle.fortran_lexemes.specs.f_tree.declared.statements.DummyArgument.TheVariants as dummy
use Rattle.fortran_lexemes.specs.f_tree.declared.statements.EquivalenceGroup.{EquivalenceGroup}
use Rattle.fortran_lexemes.specs.f_tree.declared.statements.ImplicitGroup.{ImplicitGroup}
use Rattle.fortran_lexemes.specs.f_tree.declared.statements.LengthSpec.{LengthSpec}
use Rattle.fortran_lexemes.specs.f_tree.declared.statements.LengthSpec.TheVariants as length'
use Rattle.fortran_lexemes.specs.f_tree.declared.statements.LetterRange.{LetterRange}
use Rattle.fortran_lexemes.specs.f_tree.declared.statements.SavedItem.TheVariants as saved
use Rattle.fortran_lexemes.specs.f_tree.declared.statements.SavedItem.{SavedItem}
use Rattle.fortran_lexemes.specs.f_tree.declared.statements.TypeSpec.{TypeSpec}
use Rattle.fortran_lexemes.specs.f_tree.declared.statements.UnitKind.TheVariants as unit
use Rattle.fortran_lexemes.specs.f_tree.declared.statements.UpperBound.{UpperBound}
use Rattle.fortran_lexemes.specs.f_tree.declared.statements.UpperBound.TheVariants as upper
use Rattle.fortran_lexemes.specs.Lexemes.{Lexeme, Name, Number, Word}
use Rattle.fortran_lexemes.specs.declared.kinds.StmtKind.TheVariants as kind
use Rattle.fortran_grammar.specs.ExpressionSpelling.{SpellsExpression, SpellsPlace}
use Rattle.fortran_grammar.specs.Forms.{Form, Said, Piece, After, UpTo, Both, Led, Either, Maybe, Meant, Where, Separated, Many, Enclosed, WithComma, listed, AName, Comma, Equals, Colon, Star, Slash, TwoSlashes, Minus}
use Rattle.fortran_grammar.specs.StatementForms.{DummyForm, arguments_of}
use Rattle.fortran_grammar.specs.ListForms.{IntegerForm, chained}

-- An upper bound: an expression, or `*`. Section 5.1.1.1.
abbrev pub BoundForm : Form UpperBound
BoundForm = Either (Meant upper.Value SpellsExpression) (After Star (Said upper.Star))

unfoldable pub dimension_of : Expr × Option UpperBound → Dimension
dimension_of (bound, None) = record { lower = None; upper = upper.Value bound }
dimension_of (bound, Some above) = record { lower = Some bound; upper = above }

unfoldable pub without_lower : UpperBound → Dimension
without_lower above = record { lower = None; upper = above }

-- A dimension: an upper bound, or a lower bound and an upper one. Section 5.1.1.1.
abbrev pub DimensionForm : Form Dimension
DimensionForm =
    Either (Meant dimension_of (Both SpellsExpression (Maybe (After Colon BoundForm))))
    (Meant without_lower (After Star (Said upper.Star)))

abbrev pub DimensionsForm : Form (List Dimension)
DimensionsForm = Enclosed (Separated DimensionForm)

unfoldable pub array_of : List ℕ × List Dimension → ArrayDeclarator
array_of p = record { name = p.0; dimensions = p.1 }

unfoldable pub name_or_array : List ℕ × Option (List Dimension) → ArrayDeclarator
name_or_array p = record { name = p.0; dimensions = listed p.1 }

-- DIMENSION. Section 8.1.
abbrev pub DimensionStatementForm : Form Body
DimensionStatementForm = Meant body.Dimension (Separated (Meant array_of (Both AName DimensionsForm)))

-- A length of character items: a number, an expression in parentheses or `(*)`. Section 8.4.2.
abbrev pub LengthForm : Form LengthSpec
LengthForm =
    After Star (Either (Meant length'.Value IntegerForm) (Enclosed
    (Either (Meant length'.Value SpellsExpression) (After Star (Said length'.Star)))))

-- The length 4 behind INTEGER or LOGICAL.
unfoldable pub four_of : Lexeme → Option (Option LengthSpec)
four_of (Number digits value) = if value == 4 then Some None else None
four_of piece = None

unfoldable pub no_length : Option (Option LengthSpec) → Option LengthSpec
no_length written = None

unfoldable pub type_of : Lexeme → Option Basic
type_of (Word kind.Integer) = Some basic.Integer
type_of (Word kind.Logical) = Some basic.Logical
type_of (Word kind.Character) = Some basic.Character
type_of piece = None

unfoldable pub LengthOf : Basic → Form (Option LengthSpec)
LengthOf basic.Character = Maybe LengthForm
LengthOf other = Meant no_length (Maybe (After Star (Piece four_of)))

unfoldable pub spec_of : Basic × Option LengthSpec → TypeSpec
spec_of p = record { basic = p.0; length = p.1 }

-- A type with its length. Section 8.4.
abbrev pub TypeForm : Form TypeSpec
TypeForm = Meant spec_of (Led (Piece type_of) LengthOf)

unfoldable pub declarator_of : List ℕ × (Option (List Dimension) × Option LengthSpec) → Declarator
declarator_of p = record { name = p.0; dimensions = listed p.1.0; length = p.1.1 }

unfoldable pub without_length : List ℕ × Option (List Dimension) → Declarator
without_length p = record { name = p.0; dimensions = listed p.1; length = None }

-- A name in a type statement, with its dimensions and, for CHARACTER, with its length. Sections 8.4.1 and 8.4.2.
abbrev pub CharacterForm : Form Declarator
CharacterForm = Meant declarator_of (Both AName (Both (Maybe DimensionsForm) (Maybe LengthForm)))

abbrev pub NameForm : Form Declarator
NameForm = Meant without_length (Both AName (Maybe DimensionsForm))

-- The names behind a type; a comma may stand behind the length of CHARACTER. Section 8.4.2.
unfoldable pub DeclaredBy : Basic → Option LengthSpec → Form (List Declarator)
DeclaredBy basic.Character None = Separated CharacterForm
DeclaredBy basic.Character (Some long) = WithComma (Separated CharacterForm)
DeclaredBy other long = Separated NameForm

-- The word FUNCTION behind a type.
unfoldable pub function_word : Lexeme → Option (Unit {0})
function_word (Word kind.Function) = Some tt
function_word piece = None

-- The name of a function and its dummy arguments. Section 15.5.1.
abbrev pub FunctionNameForm : Form (List ℕ × Option (List (List ℕ)))
FunctionNameForm = Both AName (Enclosed (Maybe (Separated AName)))

unfoldable pub function_header : TypeSpec → List ℕ × Option (List (List ℕ)) → Body
function_header spec p = body.Header (unit.Function spec) (Some p.0) (map dummy.Named (listed p.1))

unfoldable pub untyped : TypeSpec
untyped = record { basic = basic.Untyped; length = None }

-- FUNCTION without a type. Section 15.5.1.
abbrev pub FunctionForm : Form Body
FunctionForm = Meant (function_header untyped) FunctionNameForm

-- A type statement, or FUNCTION with a type: what stands behind the type. Sections 8.4 and 15.5.1.
unfoldable pub TypedForm : TypeSpec → Form Body
TypedForm spec =
    Either (Meant (λ p. function_header spec p.1) (Both (Piece function_word) FunctionNameForm))
    (Meant (body.Declare spec) (DeclaredBy spec.basic spec.length))

abbrev pub TypeStatementForm : Form Body
TypeStatementForm = Meant (λ p. p.1) (Led TypeForm TypedForm)

-- The name of a common block in slashes; none for blank common. Section 8.3.1.
abbrev pub BlockForm : Form (Option (List ℕ))
BlockForm = Either (Meant Some (After Slash (UpTo AName Slash))) (After TwoSlashes (Said None))

abbrev pub CommonNameForm : Form ArrayDeclarator
CommonNameForm = Meant name_or_array (Both AName (Maybe DimensionsForm))

-- A name in COMMON with the block that is written before it, if one is.
abbrev pub Placed : Type 0
Placed = Option (Option (List ℕ)) × ArrayDeclarator

abbrev pub in_block : Option (List ℕ) × ArrayDeclarator → Placed
in_block p = (Some p.0, p.1)

abbrev pub in_same_block : ArrayDeclarator → Placed
in_same_block a = (None, a)

abbrev pub BlockNameForm : Form Placed
BlockNameForm = Meant in_block (Both BlockForm CommonNameForm)

-- The next name: behind a comma, in the same block or with another; another block needs no comma. Section 8.3.1.
abbrev pub NextNameForm : Form Placed
NextNameForm = Either (After Comma (Either (Meant in_same_block CommonNameForm) BlockNameForm)) BlockNameForm

-- The blocks with their names: those in one block, and then those that follow.
unfoldable pub common_groups : Option (List ℕ) → List ArrayDeclarator → List Placed → List CommonGroup
common_groups block names [] = record { block = block; items = names } ∷ []
common_groups block names ((None, name) ∷ more) = common_groups block (names ++ name ∷ []) more
common_groups block names ((Some other, name) ∷ more) = record { block = block; items = names } ∷ common_groups other (name ∷ []) more

unfoldable pub block_of : Option (Option (List ℕ)) → Option (List ℕ)
block_of None = None
block_of (Some block) = block

unfoldable pub common_of : Placed × List Placed → List CommonGroup
common_of p = common_groups (block_of p.0.0) (p.0.1 ∷ []) p.1

-- COMMON: names without a block before them are in blank common. Section 8.3.
abbrev pub CommonForm : Form Body
CommonForm = Meant (λ p. body.Common (common_of p)) (Both (Both (Maybe BlockForm) CommonNameForm) (Many NextNameForm))

unfoldable pub equivalence_of : Expr × List Expr → EquivalenceGroup
equivalence_of p = record { places = chained p }

-- EQUIVALENCE: at least two places in each list. Section 8.2.1.
abbrev pub EquivalenceForm : Form Body
EquivalenceForm = Meant body.Equivalence (Separated (Meant equivalence_of
    (Enclosed (Both SpellsPlace (After Comma (Separated SpellsPlace))))))

unfoldable pub letter_of : Lexeme → Option ℕ
letter_of (Name (letter ∷ [])) = Some letter
letter_of piece = None

unfoldable pub range_of : ℕ × Option ℕ → LetterRange
range_of (first, None) = record { first = first; last = first }
range_of (first, Some last) = record { first = first; last = last }

unfoldable pub in_order : LetterRange → Bool
in_order range = nat_le range.first range.last

-- A letter, or letters in alphabetical order. Section 8.5.
abbrev pub LettersForm : Form LetterRange
LettersForm = Where in_order (Meant range_of (Both (Piece letter_of) (Maybe (After Minus (Piece letter_of)))))

unfoldable pub implicit_of : TypeSpec × List LetterRange → ImplicitGroup
implicit_of p = record { spec = p.0; letters = p.1 }

unfoldable pub none_word : Lexeme → Option (Unit {0})
none_word (Name text) = if bytes_eq text (codes "none") then Some tt else None
none_word piece = None

-- IMPLICIT, section 8.5; IMPLICIT NONE, MIL-STD-1753.
abbrev pub ImplicitForm : Form Body
ImplicitForm =
    Either (Meant (λ word. body.ImplicitNone) (Piece none_word))
    (Meant body.Implicit (Separated (Meant implicit_of (Both TypeForm (Enclosed (Separated LettersForm))))))

unfoldable pub constant_of : List ℕ × Expr → ConstantDefinition
constant_of p = record { name = p.0; value = p.1 }

-- PARAMETER. Section 8.6.
abbrev pub ParameterForm : Form Body
ParameterForm = Meant body.Parameter (Enclosed (Separated (Meant constant_of (Both AName (After Equals SpellsExpression)))))

-- EXTERNAL. Section 8.7.
abbrev pub ExternalForm : Form Body
ExternalForm = Meant body.External (Separated AName)

-- INTRINSIC. Section 8.8.
abbrev pub IntrinsicForm : Form Body
IntrinsicForm = Meant body.Intrinsic (Separated AName)

-- SAVE. Section 8.9.
abbrev pub SavedForm : Form SavedItem
SavedForm = Either (Meant saved.Named AName) (Meant saved.Block (After Slash (UpTo AName Slash)))

abbrev pub SaveForm : Form Body
SaveForm = Meant (λ items. body.Save (listed items)) (Maybe (Separated SavedForm))

unfoldable pub program_header : List ℕ → Body
program_header name = body.Header unit.Main (Some name) []

unfoldable pub block_data_header : Option (List ℕ) → Body
block_data_header name = body.Header unit.BlockData name []

-- PROGRAM. Section 14.1.
abbrev pub ProgramForm : Form Body
ProgramForm = Meant program_header AName

-- SUBROUTINE. Section 15.6.1.
abbrev pub SubroutineForm : Form Body
SubroutineForm =
    Meant (λ p. body.Header unit.Subroutine (Some p.0) (arguments_of p.1)) (Both AName (Maybe (Enclosed (Maybe (Separated DummyForm)))))

-- BLOCK DATA. Section 16.1.
abbrev pub BlockDataForm : Form Body
BlockDataForm = Meant block_data_header (Maybe AName)
