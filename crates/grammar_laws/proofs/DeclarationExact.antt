-- The readers of specification statements and of the statements that begin a unit are exact.
use Rattle.std.proofs.Common.{◌≡◌, ℕ, suc, ◌≤◌, inl, inr, true, false, List, ◌∷◌, length, Option, Some, None, refl, arith}
use Rattle.fortran_grammar.specs.f_tree.declared.names.Basic.{Basic}
use Rattle.fortran_grammar.specs.f_tree.declared.names.Basic.TheVariants as basic
use Rattle.fortran_grammar.specs.f_tree.declared.statements.Body.{Body}
use Rattle.fortran_grammar.specs.f_tree.declared.statements.Body as body
use Rattle.fortran_grammar.specs.f_tree.declared.statements.LengthSpec.{LengthSpec}
use Rattle.fortran_grammar.specs.f_tree.declared.statements.LengthSpec.TheVariants as length'
use Rattle.fortran_grammar.specs.f_tree.declared.statements.SavedItem.TheVariants as saved
use Rattle.fortran_grammar.specs.f_tree.declared.statements.TypeSpec.{TypeSpec}
use Rattle.fortran_grammar.specs.f_tree.declared.statements.UnitKind.TheVariants as unit
use Rattle.fortran_grammar.specs.f_tree.declared.statements.UpperBound.TheVariants as upper
use Rattle.fortran_grammar.specs.fortran_lexemes.Lexemes.{Lexeme, Lexemes, Name, Number, Word}
use Rattle.fortran_grammar.specs.Forms.{sort, behind, Said, Piece, After, Both, Either, Meant, listed, NamePiece, NumberPiece, WordPiece, Open, Comma, Equals, Colon, Star, Slash, TwoSlashes, Minus}
use Rattle.fortran_grammar.specs.StatementForms.{arguments_of}
use Rattle.fortran_grammar.specs.DeclarationForms.{dimension_of, without_lower, array_of, name_or_array, four_of, no_length, type_of, spec_of, declarator_of, without_length, function_word, function_header, untyped, Placed, in_block, in_same_block, common_of, equivalence_of, letter_of, range_of, in_order, implicit_of, none_word, constant_of, program_header, block_data_header, LengthOf, DeclaredBy, TypedForm, BoundForm, DimensionForm, DimensionsForm, DimensionStatementForm, LengthForm, TypeForm, CharacterForm, NameForm, FunctionNameForm, FunctionForm, TypeStatementForm, BlockForm, CommonNameForm, BlockNameForm, NextNameForm, CommonForm, EquivalenceForm, LettersForm, ImplicitForm, ParameterForm, ExternalForm, IntrinsicForm, SavedForm, SaveForm, ProgramForm, SubroutineForm, BlockDataForm}
use Rattle.grammar_laws.specs.FormReading.{piece}
use Rattle.grammar_laws.specs.DeclarationReading.{length_of, declared_by, typed_form, bound_form, dimension_form, dimensions_form, dimension_statement_form, length_form, type_form, character_form, name_form, function_name_form, function_form, type_statement_form, block_form, common_name_form, block_name_form, next_name_form, common_form, equivalence_form, letters_form, implicit_form, parameter_form, external_form, intrinsic_form, saved_form, save_form, program_form, subroutine_form, block_data_form}
use Rattle.grammar_laws.proofs.FormTests.{Test, all, or_else, is}
use Rattle.grammar_laws.proofs.FormExact.{Told}
use Rattle.grammar_laws.proofs.FormKnown.{Known, known_after, known_up_to, known_enclosed, known_with_comma, known_maybe, known_maybe_before, known_where, known_separated, known_many, known_meant, known_both, known_led, known_either, known_said, known_piece, known_widened, known_name, known_expression, known_place}
use Rattle.grammar_laws.proofs.StatementExact.{dummy_form_known}
use Rattle.grammar_laws.proofs.ListExact.{integer_form_known, marked_shortens}

abbrev pub bound_form_known : Known bound_form BoundForm
bound_form_known = known_either (known_meant upper.Value known_expression) (known_after (known_said upper.Star) Star) refl

abbrev pub dimension_form_known : Known dimension_form DimensionForm
dimension_form_known = known_either (known_meant dimension_of
    (known_both known_expression (known_maybe (known_after bound_form_known Colon)) refl))
    (known_meant without_lower (known_after (known_said upper.Star) Star)) refl

abbrev pub dimensions_form_known : Known dimensions_form DimensionsForm
dimensions_form_known = known_enclosed (known_separated dimension_form_known refl) refl

abbrev pub dimension_statement_form_known : Known dimension_statement_form DimensionStatementForm
dimension_statement_form_known = known_meant body.Dimension (known_separated
    (known_meant array_of (known_both known_name dimensions_form_known refl)) refl)

abbrev pub length_form_known : Known length_form LengthForm
length_form_known = known_after (known_either (known_meant length'.Value integer_form_known)
    (known_enclosed (known_either (known_meant length'.Value known_expression) (known_after (known_said length'.Star) Star) refl) refl)
    refl) Star

pub four_of_first : (p : Lexeme) (more : Lexemes) (x : Option LengthSpec) → four_of p ≡ Some x → is NumberPiece (sort (p ∷ more)) ≡ true
unfolding four_of sort
four_of_first (Number digits value) more x h = refl
four_of_first other more x h = absurd (cc)

abbrev pub four_of_known : Known (piece four_of) (Piece four_of)
four_of_known = known_piece four_of (is NumberPiece) four_of_first

pub type_of_first : (p : Lexeme) (more : Lexemes) (x : Basic) → type_of p ≡ Some x → is WordPiece (sort (p ∷ more)) ≡ true
unfolding type_of sort
type_of_first (Word k) more x h = refl
type_of_first other more x h = absurd (cc)

abbrev pub type_of_known : Known (piece type_of) (Piece type_of)
type_of_known = known_piece type_of (is WordPiece) type_of_first

-- what stands behind a type may not be a length
abbrev pub no_star : Test
no_star Star = false
no_star other = true

pub length_told : (b : Basic) → Told (length_of b) (LengthOf b) no_star all all
unfolding length_of LengthOf
length_told basic.Character = known_widened no_star all all (known_maybe length_form_known) refl refl refl
length_told basic.Integer = known_widened no_star all all (known_meant no_length (known_maybe (known_after four_of_known Star))) refl refl
    refl
length_told basic.Logical = known_widened no_star all all (known_meant no_length (known_maybe (known_after four_of_known Star))) refl refl
    refl
length_told basic.Untyped = known_widened no_star all all (known_meant no_length (known_maybe (known_after four_of_known Star))) refl refl
    refl

abbrev pub type_form_known : Known type_form TypeForm
type_form_known = known_meant spec_of (known_led type_of_known length_told refl)

-- behind a name with its dimensions and its length
abbrev pub behind_name : Test
behind_name Star = false
behind_name Open = false
behind_name other = true

abbrev pub character_form_known : Known character_form CharacterForm
character_form_known = known_meant declarator_of (known_both known_name
    (known_both (known_maybe dimensions_form_known) (known_maybe_before length_form_known behind_name refl) refl) refl)

abbrev pub name_form_known : Known name_form NameForm
name_form_known = known_meant without_length (known_both known_name (known_maybe dimensions_form_known) refl)

pub function_word_first : (p : Lexeme) (more : Lexemes) (x : Unit {0}) → function_word p ≡ Some x → is WordPiece (sort (p ∷ more)) ≡ true
unfolding function_word sort
function_word_first (Word k) more x h = refl
function_word_first other more x h = absurd (cc)

abbrev pub function_word_known : Known (piece function_word) (Piece function_word)
function_word_known = known_piece function_word (is WordPiece) function_word_first

abbrev pub function_name_form_known : Known function_name_form FunctionNameForm
function_name_form_known = known_both known_name (known_enclosed (known_maybe (known_separated known_name refl)) refl) refl

abbrev pub function_form_known : Known function_form FunctionForm
function_form_known = known_meant (function_header untyped) function_name_form_known

-- behind the names of a type statement
abbrev pub behind_names : Test
behind_names Star = false
behind_names Open = false
behind_names Comma = false
behind_names other = true

abbrev pub comma_or_name : Test
comma_or_name = or_else (is Comma) (is NamePiece)

pub declared_told : (b : Basic) (length : Option LengthSpec)
    → Told (declared_by b length) (DeclaredBy b length) behind_names comma_or_name comma_or_name
unfolding declared_by DeclaredBy
declared_told basic.Character None = known_widened behind_names comma_or_name comma_or_name (known_separated character_form_known refl)
    refl refl refl
declared_told basic.Character (Some length) =
    known_widened behind_names comma_or_name comma_or_name (known_with_comma (known_separated character_form_known refl) refl) refl refl
    refl
declared_told basic.Integer length = known_widened behind_names comma_or_name comma_or_name (known_separated name_form_known refl) refl
    refl refl
declared_told basic.Logical length = known_widened behind_names comma_or_name comma_or_name (known_separated name_form_known refl) refl
    refl refl
declared_told basic.Untyped length = known_widened behind_names comma_or_name comma_or_name (known_separated name_form_known refl) refl
    refl refl

abbrev declared_known : (spec : TypeSpec) → Known (declared_by spec.basic spec.length) (DeclaredBy spec.basic spec.length)
declared_known spec = record {
  follows = behind_names;
  starts = comma_or_name;
  leads = comma_or_name;
  told = declared_told spec.basic
      spec.length;
}

pub typed_told : (spec : TypeSpec) → Told (typed_form spec) (TypedForm spec) behind_names (or_else (is WordPiece) comma_or_name)
    (or_else (is WordPiece) comma_or_name)
unfolding typed_form TypedForm
typed_told spec =
    known_widened behind_names (or_else (is WordPiece) comma_or_name) (or_else (is WordPiece) comma_or_name)
    (known_either (known_meant (λ p. function_header spec p.1) (known_both function_word_known function_name_form_known refl))
    (known_meant (body.Declare spec) (declared_known spec)) refl)
    refl refl refl

abbrev pub type_statement_form_known : Known type_statement_form TypeStatementForm
type_statement_form_known = known_meant (λ p. p.1) (known_led type_form_known typed_told refl)

abbrev pub block_form_known : Known block_form BlockForm
block_form_known = known_either (known_meant Some (known_after (known_up_to known_name Slash refl) Slash))
    (known_after (known_said None) TwoSlashes) refl

abbrev pub common_name_form_known : Known common_name_form CommonNameForm
common_name_form_known = known_meant name_or_array (known_both known_name (known_maybe dimensions_form_known) refl)

abbrev pub block_name_form_known : Known block_name_form BlockNameForm
block_name_form_known = known_meant in_block (known_both block_form_known common_name_form_known refl)

abbrev pub next_name_form_known : Known next_name_form NextNameForm
next_name_form_known = known_either (known_after (known_either (known_meant in_same_block common_name_form_known) block_name_form_known
    refl) Comma) block_name_form_known refl

-- a common block and a name take a piece at least
block_shortens : (x : Option (List ℕ)) (before end : Lexemes) → BlockForm x before end → suc (length end) ≤ length before
unfolding Either Meant After Said
block_shortens x before end (inl h) = marked_shortens before end Slash refl h.2.0
    ((known_up_to known_name Slash refl).told.exact.no_longer h.0 (behind before) end h.2.1)
block_shortens x before end (inr h) = marked_shortens before end TwoSlashes refl h.0
    ((known_said None).told.exact.no_longer x (behind before) end h.1)

block_name_shortens : (x : Placed) (before end : Lexemes) → BlockNameForm x before end → suc (length end) ≤ length before
unfolding Meant Both
block_name_shortens x before end h =
    let block = block_shortens h.0.0 before h.2.0 h.2.1 in
    let name = common_name_form_known.told.exact.no_longer h.0.1 h.2.0 end h.2.2 in
    omega arith

pub next_name_shortens : (x : Placed) (before end : Lexemes) → NextNameForm x before end → suc (length end) ≤ length before
unfolding Either After
next_name_shortens x before end (inl h) =
    marked_shortens before end Comma refl h.0
    ((known_either (known_meant in_same_block common_name_form_known) block_name_form_known refl).told.exact.no_longer x (behind before)
    end h.1)
next_name_shortens x before end (inr h) = block_name_shortens x before end h

abbrev pub common_form_known : Known common_form CommonForm
common_form_known = known_meant (λ p. body.Common (common_of p))
    (known_both (known_both (known_maybe block_form_known) common_name_form_known refl)
    (known_many next_name_form_known next_name_shortens refl) refl)

abbrev pub equivalence_form_known : Known equivalence_form EquivalenceForm
equivalence_form_known = known_meant body.Equivalence (known_separated
    (known_meant equivalence_of (known_enclosed (known_both known_place (known_after (known_separated known_place refl) Comma) refl)
    refl)) refl)

pub letter_of_first : (p : Lexeme) (more : Lexemes) (x : ℕ) → letter_of p ≡ Some x → is NamePiece (sort (p ∷ more)) ≡ true
unfolding letter_of sort
letter_of_first (Name text) more x h = refl
letter_of_first other more x h = absurd (cc)

abbrev pub letter_of_known : Known (piece letter_of) (Piece letter_of)
letter_of_known = known_piece letter_of (is NamePiece) letter_of_first

abbrev pub letters_form_known : Known letters_form LettersForm
letters_form_known = known_where (known_meant range_of (known_both letter_of_known (known_maybe (known_after letter_of_known Minus))
    refl)) in_order

pub none_word_first : (p : Lexeme) (more : Lexemes) (x : Unit {0}) → none_word p ≡ Some x → is NamePiece (sort (p ∷ more)) ≡ true
unfolding none_word sort
none_word_first (Name text) more x h = refl
none_word_first other more x h = absurd (cc)

abbrev pub none_word_known : Known (piece none_word) (Piece none_word)
none_word_known = known_piece none_word (is NamePiece) none_word_first

abbrev pub implicit_form_known : Known implicit_form ImplicitForm
implicit_form_known = known_either (known_meant (λ word. body.ImplicitNone) none_word_known)
    (known_meant body.Implicit (known_separated (known_meant implicit_of
    (known_both type_form_known (known_enclosed (known_separated letters_form_known refl) refl) refl)) refl)) refl

abbrev pub parameter_form_known : Known parameter_form ParameterForm
parameter_form_known = known_meant body.Parameter (known_enclosed
    (known_separated (known_meant constant_of (known_both known_name (known_after known_expression Equals) refl)) refl) refl)

abbrev pub external_form_known : Known external_form ExternalForm
external_form_known = known_meant body.External (known_separated known_name refl)

abbrev pub intrinsic_form_known : Known intrinsic_form IntrinsicForm
intrinsic_form_known = known_meant body.Intrinsic (known_separated known_name refl)

abbrev pub saved_form_known : Known saved_form SavedForm
saved_form_known = known_either (known_meant saved.Named known_name)
    (known_meant saved.Block (known_after (known_up_to known_name Slash refl) Slash)) refl

abbrev pub save_form_known : Known save_form SaveForm
save_form_known = known_meant (λ items. body.Save (listed items)) (known_maybe (known_separated saved_form_known refl))

abbrev pub program_form_known : Known program_form ProgramForm
program_form_known = known_meant program_header known_name

abbrev pub subroutine_form_known : Known subroutine_form SubroutineForm
subroutine_form_known = known_meant (λ p. body.Header unit.Subroutine (Some p.0) (arguments_of p.1))
    (known_both known_name (known_maybe (known_enclosed (known_maybe (known_separated dummy_form_known refl)) refl)) refl)

abbrev pub block_data_form_known : Known block_data_form BlockDataForm
block_data_form_known = known_meant block_data_header (known_maybe known_name)
