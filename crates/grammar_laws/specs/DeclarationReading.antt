-- The readers of specification statements and of the statements that begin a unit.
use Rattle.std.specs.Prelude.{ℕ, List, Option, Some, None}
use Rattle.fortran_grammar.specs.f_tree.declared.names.Basic.{Basic}
use Rattle.fortran_grammar.specs.f_tree.declared.names.Basic.TheVariants as basic
use Rattle.fortran_grammar.specs.f_tree.declared.statements.ArrayDeclarator.{ArrayDeclarator}
use Rattle.fortran_grammar.specs.f_tree.declared.statements.Body.{Body}
use Rattle.fortran_grammar.specs.f_tree.declared.statements.Body as body
use Rattle.fortran_grammar.specs.f_tree.declared.statements.Declarator.{Declarator}
use Rattle.fortran_grammar.specs.f_tree.declared.statements.Dimension.{Dimension}
use Rattle.fortran_grammar.specs.f_tree.declared.statements.LengthSpec.{LengthSpec}
use Rattle.fortran_grammar.specs.f_tree.declared.statements.LengthSpec.TheVariants as length'
use Rattle.fortran_grammar.specs.f_tree.declared.statements.LetterRange.{LetterRange}
use Rattle.fortran_grammar.specs.f_tree.declared.statements.SavedItem.TheVariants as saved
use Rattle.fortran_grammar.specs.f_tree.declared.statements.SavedItem.{SavedItem}
use Rattle.fortran_grammar.specs.f_tree.declared.statements.TypeSpec.{TypeSpec}
use Rattle.fortran_grammar.specs.f_tree.declared.statements.UnitKind.TheVariants as unit
use Rattle.fortran_grammar.specs.f_tree.declared.statements.UpperBound.{UpperBound}
use Rattle.fortran_grammar.specs.f_tree.declared.statements.UpperBound.TheVariants as upper
use Rattle.fortran_grammar.specs.Forms.{listed, Comma, Equals, Colon, Star, Slash, TwoSlashes, Minus}
use Rattle.fortran_grammar.specs.StatementForms.{arguments_of}
use Rattle.fortran_grammar.specs.DeclarationForms.{dimension_of, without_lower, array_of, name_or_array, four_of, no_length, type_of, spec_of, declarator_of, without_length, function_word, function_header, untyped, Placed, in_block, in_same_block, common_of, equivalence_of, letter_of, range_of, in_order, implicit_of, none_word, constant_of, program_header, block_data_header}
use Rattle.grammar_laws.specs.Exactness.{Reader}
use Rattle.grammar_laws.specs.ExpressionReading.{read_expression, read_place}
use Rattle.grammar_laws.specs.FormReading.{said, piece, after, up_to, both, led, either, maybe, meant, where', separated, many, enclosed, with_comma, a_name}
use Rattle.grammar_laws.specs.StatementReading.{dummy_form}
use Rattle.grammar_laws.specs.ListReading.{integer_form}

abbrev pub bound_form : Reader UpperBound
bound_form = either (meant upper.Value read_expression) (after Star (said upper.Star))

abbrev pub dimension_form : Reader Dimension
dimension_form =
    either (meant dimension_of (both read_expression (maybe (after Colon bound_form))))
    (meant without_lower (after Star (said upper.Star)))

abbrev pub dimensions_form : Reader (List Dimension)
dimensions_form = enclosed (separated dimension_form)

abbrev pub dimension_statement_form : Reader Body
dimension_statement_form = meant body.Dimension (separated (meant array_of (both a_name dimensions_form)))

abbrev pub length_form : Reader LengthSpec
length_form =
    after Star (either (meant length'.Value integer_form) (enclosed
    (either (meant length'.Value read_expression) (after Star (said length'.Star)))))

-- The length that may stand behind a type.
unfoldable pub length_of : Basic → Reader (Option LengthSpec)
length_of basic.Character = maybe length_form
length_of other = meant no_length (maybe (after Star (piece four_of)))

abbrev pub type_form : Reader TypeSpec
type_form = meant spec_of (led (piece type_of) length_of)

abbrev pub character_form : Reader Declarator
character_form = meant declarator_of (both a_name (both (maybe dimensions_form) (maybe length_form)))

abbrev pub name_form : Reader Declarator
name_form = meant without_length (both a_name (maybe dimensions_form))

-- The names behind a type.
unfoldable pub declared_by : Basic → Option LengthSpec → Reader (List Declarator)
declared_by basic.Character None = separated character_form
declared_by basic.Character (Some long) = with_comma (separated character_form)
declared_by other long = separated name_form

abbrev pub function_name_form : Reader (List ℕ × Option (List (List ℕ)))
function_name_form = both a_name (enclosed (maybe (separated a_name)))

abbrev pub function_form : Reader Body
function_form = meant (function_header untyped) function_name_form

-- What stands behind a type.
unfoldable pub typed_form : TypeSpec → Reader Body
typed_form spec =
    either (meant (λ p. function_header spec p.1) (both (piece function_word) function_name_form))
    (meant (body.Declare spec) (declared_by spec.basic spec.length))

abbrev pub type_statement_form : Reader Body
type_statement_form = meant (λ p. p.1) (led type_form typed_form)

abbrev pub block_form : Reader (Option (List ℕ))
block_form = either (meant Some (after Slash (up_to a_name Slash))) (after TwoSlashes (said None))

abbrev pub common_name_form : Reader ArrayDeclarator
common_name_form = meant name_or_array (both a_name (maybe dimensions_form))

abbrev pub block_name_form : Reader Placed
block_name_form = meant in_block (both block_form common_name_form)

abbrev pub next_name_form : Reader Placed
next_name_form = either (after Comma (either (meant in_same_block common_name_form) block_name_form)) block_name_form

abbrev pub common_form : Reader Body
common_form = meant (λ p. body.Common (common_of p)) (both (both (maybe block_form) common_name_form) (many next_name_form))

abbrev pub equivalence_form : Reader Body
equivalence_form = meant body.Equivalence (separated (meant equivalence_of
    (enclosed (both read_place (after Comma (separated read_place))))))

abbrev pub letters_form : Reader LetterRange
letters_form = where' in_order (meant range_of (both (piece letter_of) (maybe (after Minus (piece letter_of)))))

abbrev pub implicit_form : Reader Body
implicit_form =
    either (meant (λ word. body.ImplicitNone) (piece none_word))
    (meant body.Implicit (separated (meant implicit_of (both type_form (enclosed (separated letters_form))))))

abbrev pub parameter_form : Reader Body
parameter_form = meant body.Parameter (enclosed (separated (meant constant_of (both a_name (after Equals read_expression)))))

abbrev pub external_form : Reader Body
external_form = meant body.External (separated a_name)

abbrev pub intrinsic_form : Reader Body
intrinsic_form = meant body.Intrinsic (separated a_name)

abbrev pub saved_form : Reader SavedItem
saved_form = either (meant saved.Named a_name) (meant saved.Block (after Slash (up_to a_name Slash)))

abbrev pub save_form : Reader Body
save_form = meant (λ items. body.Save (listed items)) (maybe (separated saved_form))

abbrev pub program_form : Reader Body
program_form = meant program_header a_name

abbrev pub subroutine_form : Reader Body
subroutine_form =
    meant (λ p. body.Header unit.Subroutine (Some p.0) (arguments_of p.1)) (both a_name (maybe (enclosed (maybe (separated dummy_form)))))

abbrev pub block_data_form : Reader Body
block_data_form = meant block_data_header (maybe a_name)
