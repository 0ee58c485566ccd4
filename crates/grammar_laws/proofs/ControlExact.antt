-- The readers of READ, WRITE, PRINT, OPEN, CLOSE, BACKSPACE, ENDFILE and REWIND are exact.
use Rattle.std.proofs.Common.{sym, subst, inl, inr, ◌≡◌, true, false, List, [], ◌∷◌, Some, refl}
use Rattle.fortran_grammar.specs.f_tree.declared.expressions.Expr.{Expr}
use Rattle.fortran_grammar.specs.f_tree.declared.expressions.Expr as expr
use Rattle.fortran_grammar.specs.f_tree.declared.statements.AuxiliaryKind.{AuxiliaryKind}
use Rattle.fortran_grammar.specs.f_tree.declared.statements.AuxiliaryKind.TheVariants as auxiliary
use Rattle.fortran_grammar.specs.f_tree.declared.statements.Body.{Body}
use Rattle.fortran_grammar.specs.f_tree.declared.statements.Body as body
use Rattle.fortran_grammar.specs.f_tree.declared.statements.ControlValue.TheVariants as value
use Rattle.fortran_grammar.specs.f_tree.declared.statements.Control.{Control}
use Rattle.fortran_grammar.specs.f_tree.declared.statements.ControlValue.{ControlValue}
use Rattle.fortran_grammar.specs.f_tree.declared.statements.ControlWord.{ControlWord}
use Rattle.fortran_grammar.specs.f_tree.declared.statements.ControlWord.TheVariants as word
use Rattle.fortran_grammar.specs.f_tree.declared.statements.Direction.TheVariants as way
use Rattle.fortran_grammar.specs.fortran_lexemes.Lexemes.{Lexeme, Lexemes, Name}
use Rattle.fortran_grammar.specs.Forms.{Sort, sort, Piece, After, UpTo, Both, Led, Either, Maybe, Meant, Choice, alone, with_more, listed, NamePiece, NumberPiece, Close, Comma, Equals, Star}
use Rattle.fortran_grammar.specs.ControlForms.{Constants, is_number_alone, variable_or_element, is_constant, control_word, control, control_of, before_others, fits_read, fits_write, fits_auxiliary, words_of_open, words_of_close, words_of_position, no_constants, constants_of_open, constants_of_close, is_opened, standard_unit, unit_alone, ValueForm, UnitForm, FormatOfForm, KeyedForm, KeyedListForm, BehindUnitForm, ControlListForm, ReadControlsForm, FormatAndListForm, ReadForm, WriteForm, PrintForm, OpenForm, CloseForm, PositionForm}
use Rattle.grammar_laws.specs.FormReading.{is_keyed, piece}
use Rattle.grammar_laws.specs.ControlReading.{value_form, unit_form, format_of_form, keyed_form, keyed_list_form, behind_unit_form, control_list_form, read_controls_form, format_and_list_form, read_form, write_form, print_form, open_form, close_form, position_form}
use Rattle.grammar_laws.proofs.FormTests.{all, or_else, is, kept_apart}
use Rattle.grammar_laws.proofs.FormExact.{Told}
use Rattle.grammar_laws.proofs.FormKnown.{Known, known_after, known_up_to, known_enclosed, known_maybe, known_maybe_before, known_decided, known_where, known_separated, known_meant, known_both, known_led, known_either, known_choice, known_said, known_piece, known_widened, known_name, known_label, known_quoted, known_expression, stopping}
use Rattle.grammar_laws.proofs.ListExact.{items_form_known, named_equals, expression_unkeyed}

abbrev pub unit_form_known : Known unit_form UnitForm
unit_form_known = known_either (known_after (known_said value.Star) Star) (known_meant value.Value known_expression) refl

abbrev pub format_of_form_known : Known format_of_form FormatOfForm
format_of_form_known = known_either (known_after (known_said value.Star) Star)
    (known_choice (known_meant value.Label known_label) (known_meant value.Value known_expression) is_number_alone) refl

-- the control words
pub control_word_first : (p : Lexeme) (more : Lexemes) (x : ControlWord) → control_word p ≡ Some x → is NamePiece (sort (p ∷ more)) ≡ true
unfolding control_word sort
control_word_first (Name text) more x h = refl
control_word_first other more x h = absurd (cc)

abbrev pub control_word_known : Known (piece control_word) (Piece control_word)
control_word_known = known_piece control_word (is NamePiece) control_word_first

pub value_told : (constants : Constants) (w : ControlWord) → Told (value_form constants w) (ValueForm constants w) stopping all all
unfolding value_form ValueForm
value_told constants word.Unit = known_widened stopping all all unit_form_known refl refl refl
value_told constants word.Format = known_widened stopping all all format_of_form_known refl refl refl
value_told constants word.Status =
    known_widened stopping all all
    (known_meant variable_or_element (known_both known_name (known_maybe (known_enclosed (known_separated known_expression refl) refl))
    refl)) refl refl refl
value_told constants word.OnError = known_widened stopping all all (known_meant value.Label known_label) refl refl refl
value_told constants word.OnEnd = known_widened stopping all all (known_meant value.Label known_label) refl refl refl
value_told constants word.File = known_widened stopping all all (known_meant value.Value known_expression) refl refl refl
value_told constants word.FileStatus =
    known_widened stopping all all (known_meant (λ text. value.Value (expr.Text text))
    (known_where known_quoted (is_constant (constants word.FileStatus)))) refl refl refl
value_told constants word.Access =
    known_widened stopping all all (known_meant (λ text. value.Value (expr.Text text))
    (known_where known_quoted (is_constant (constants word.Access)))) refl refl refl
value_told constants word.Form =
    known_widened stopping all all (known_meant (λ text. value.Value (expr.Text text))
    (known_where known_quoted (is_constant (constants word.Form)))) refl refl refl
value_told constants word.Blank =
    known_widened stopping all all (known_meant (λ text. value.Value (expr.Text text))
    (known_where known_quoted (is_constant (constants word.Blank)))) refl refl refl

abbrev pub keyed_form_known : (constants : Constants) → Known (keyed_form constants) (KeyedForm constants)
keyed_form_known constants = known_meant control_of (known_led (known_up_to control_word_known Equals refl) (value_told constants) refl)

abbrev pub keyed_list_form_known : (constants : Constants) → Known (keyed_list_form constants) (KeyedListForm constants)
keyed_list_form_known constants = known_separated (keyed_form_known constants) refl

-- a list of control words begins with a name and `=`
word_keyed : (constants : Constants) (c : Control) (before end : Lexemes) → KeyedForm constants c before end → is_keyed before ≡ true
unfolding Meant Led UpTo Piece
word_keyed constants c before end h =
    named_equals before ((keyed_form_known constants).told.begins c before end h)
    (subst (λ m. sort m ≡ Equals) h.2.1.1.1 h.2.1.2)

pub list_keyed : (constants : Constants) (cs : List Control) (before end : Lexemes) → KeyedListForm constants cs before end
    → is_keyed before ≡ true
list_keyed constants _ _ _ (alone c before end h) = word_keyed constants c before end h
list_keyed constants _ _ _ (with_more c cs before middle end h comma more) = word_keyed constants c before middle h

-- a value without its word does not
not_named : (before : Lexemes) → is NamePiece (sort before) ≡ false → is_keyed before ≡ false
unfolding sort is_keyed
not_named [] h = refl
not_named (Name x ∷ more) h = absurd (cc)
not_named (p ∷ more) h = refl

star_unkeyed : (before : Lexemes) → sort before ≡ Star → is_keyed before ≡ false
star_unkeyed before h = not_named before (subst (λ k. is NamePiece k ≡ false) (sym h) refl)

unit_unkeyed : (v : ControlValue) (before middle : Lexemes) → UnitForm v before middle → is Equals (sort middle) ≡ false
    → is_keyed before ≡ false
unfolding Either Meant After
unit_unkeyed v before middle (inl h) other = star_unkeyed before h.0
unit_unkeyed v before middle (inr h) other = expression_unkeyed h.0 before middle h.2 other

format_unkeyed : (v : ControlValue) (before middle : Lexemes) → FormatOfForm v before middle → is Equals (sort middle) ≡ false
    → is_keyed before ≡ false
unfolding Either Meant After Choice
format_unkeyed v before middle (inl h) other = star_unkeyed before h.0
format_unkeyed v before middle (inr (inl h)) other =
    not_named before (kept_apart (is NamePiece) (is NumberPiece) (sort before) refl (known_label.told.begins h.1.0 before middle h.1.2))
format_unkeyed v before middle (inr (inr h)) other = expression_unkeyed h.1.0 before middle h.1.2 other

no_equals : (s : Sort) → or_else (is Comma) (is Close) s ≡ true → is Equals s ≡ false
no_equals s h = kept_apart (is Equals) (or_else (is Comma) (is Close)) s refl h

pub behind_unit_unkeyed : (constants : Constants) (cs : List Control) (before end : Lexemes)
    → Meant before_others (Both (Meant (control word.Format) FormatOfForm) (Maybe (After Comma (KeyedListForm constants)))) cs before end
    → is Close (sort end) ≡ true → is_keyed before ≡ false
unfolding Meant Both
behind_unit_unkeyed constants cs before end h close =
    let more = (known_maybe_before (known_after (keyed_list_form_known constants) Comma) (is Close) refl).told.leads_on h.0.1 h.2.0 end
    h.2.2 close in
    format_unkeyed h.2.1.0 before h.2.0 h.2.1.2 (no_equals (sort h.2.0) more)

abbrev pub behind_unit_form_known : (constants : Constants) → Known (behind_unit_form constants) (BehindUnitForm constants)
behind_unit_form_known constants =
    known_decided (keyed_list_form_known constants)
    (known_meant before_others
    (known_both (known_meant (control word.Format) format_of_form_known)
    (known_maybe_before (known_after (keyed_list_form_known constants) Comma) (is Close) refl) refl))
    is_keyed (λ cs before end h ok. list_keyed constants cs before end h) (behind_unit_unkeyed constants)

pub control_list_unkeyed : (constants : Constants) (cs : List Control) (before end : Lexemes)
    → Meant before_others (Both (Meant (control word.Unit) UnitForm) (Maybe (After Comma (BehindUnitForm constants)))) cs before end
    → is Close (sort end) ≡ true → is_keyed before ≡ false
unfolding Meant Both
control_list_unkeyed constants cs before end h close =
    let more = (known_maybe_before (known_after (behind_unit_form_known constants) Comma) (is Close) refl).told.leads_on h.0.1 h.2.0 end
    h.2.2 close in
    unit_unkeyed h.2.1.0 before h.2.0 h.2.1.2 (no_equals (sort h.2.0) more)

abbrev pub control_list_form_known : (constants : Constants) → Known (control_list_form constants) (ControlListForm constants)
control_list_form_known constants =
    known_decided (keyed_list_form_known constants)
    (known_meant before_others
    (known_both (known_meant (control word.Unit) unit_form_known)
    (known_maybe_before (known_after (behind_unit_form_known constants) Comma) (is Close) refl) refl))
    is_keyed (λ cs before end h ok. list_keyed constants cs before end h) (control_list_unkeyed constants)

abbrev pub read_controls_form_known : Known read_controls_form ReadControlsForm
read_controls_form_known = known_meant (λ p. body.Transfer way.Read p.0 (listed p.1))
    (known_both (known_enclosed (known_where (control_list_form_known no_constants) fits_read) refl) (known_maybe items_form_known) refl)

abbrev pub format_and_list_form_known : Known format_and_list_form FormatAndListForm
format_and_list_form_known = known_both format_of_form_known (known_maybe (known_after items_form_known Comma)) refl

abbrev pub read_form_known : Known read_form ReadForm
read_form_known = known_choice read_controls_form_known (known_meant (λ p. body.Transfer way.Read (standard_unit p.0) (listed p.1))
    format_and_list_form_known) is_opened

abbrev pub write_form_known : Known write_form WriteForm
write_form_known = known_meant (λ p. body.Transfer way.Write p.0 (listed p.1))
    (known_both (known_enclosed (known_where (control_list_form_known no_constants) fits_write) refl) (known_maybe items_form_known) refl)

abbrev pub print_form_known : Known print_form PrintForm
print_form_known = known_meant (λ p. body.Transfer way.Write (standard_unit p.0) (listed p.1)) format_and_list_form_known

abbrev pub open_form_known : Known open_form OpenForm
open_form_known = known_meant (body.Auxiliary auxiliary.OpenUnit)
    (known_enclosed (known_where (control_list_form_known constants_of_open) (fits_auxiliary words_of_open)) refl)

abbrev pub close_form_known : Known close_form CloseForm
close_form_known = known_meant (body.Auxiliary auxiliary.CloseUnit)
    (known_enclosed (known_where (control_list_form_known constants_of_close) (fits_auxiliary words_of_close)) refl)

abbrev pub position_form_known : (which : AuxiliaryKind) → Known (position_form which) (PositionForm which)
position_form_known which = known_meant (body.Auxiliary which)
    (known_choice (known_enclosed (known_where (control_list_form_known no_constants) (fits_auxiliary words_of_position)) refl)
    (known_meant unit_alone known_expression) is_opened)
