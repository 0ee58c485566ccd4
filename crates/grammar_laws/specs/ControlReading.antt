-- The readers of READ, WRITE, PRINT, OPEN, CLOSE, BACKSPACE, ENDFILE and REWIND with their lists of control information.
use Rattle.std.specs.Prelude.{List, Option}
use Rattle.fortran_grammar.specs.f_tree.declared.expressions.Expr.{Expr}
use Rattle.fortran_grammar.specs.f_tree.declared.expressions.Expr as expr
use Rattle.fortran_grammar.specs.f_tree.declared.statements.AuxiliaryKind.{AuxiliaryKind}
use Rattle.fortran_grammar.specs.f_tree.declared.statements.AuxiliaryKind.TheVariants as auxiliary
use Rattle.fortran_grammar.specs.f_tree.declared.statements.Body.{Body}
use Rattle.fortran_grammar.specs.f_tree.declared.statements.Body as body
use Rattle.fortran_grammar.specs.f_tree.declared.statements.Control.{Control}
use Rattle.fortran_grammar.specs.f_tree.declared.statements.ControlValue.{ControlValue}
use Rattle.fortran_grammar.specs.f_tree.declared.statements.ControlValue.TheVariants as value
use Rattle.fortran_grammar.specs.f_tree.declared.statements.ControlWord.{ControlWord}
use Rattle.fortran_grammar.specs.f_tree.declared.statements.ControlWord.TheVariants as word
use Rattle.fortran_grammar.specs.f_tree.declared.statements.Direction.TheVariants as way
use Rattle.fortran_grammar.specs.f_tree.declared.statements.ListItem.{ListItem}
use Rattle.fortran_grammar.specs.Forms.{listed, Comma, Equals, Star}
use Rattle.fortran_grammar.specs.ControlForms.{Constants, is_number_alone, variable_or_element, is_constant, control_word, control, control_of, before_others, fits_read, fits_write, fits_auxiliary, words_of_open, words_of_close, words_of_position, no_constants, constants_of_open, constants_of_close, is_opened, standard_unit, unit_alone}
use Rattle.grammar_laws.specs.Exactness.{Reader}
use Rattle.grammar_laws.specs.ExpressionReading.{read_expression}
use Rattle.grammar_laws.specs.FormReading.{is_keyed, said, piece, after, up_to, both, led, either, maybe, meant, where', separated, choice, enclosed, a_name, a_label, a_quoted}
use Rattle.grammar_laws.specs.ListReading.{items_form}

abbrev pub unit_form : Reader ControlValue
unit_form = either (after Star (said value.Star)) (meant value.Value read_expression)

abbrev pub format_of_form : Reader ControlValue
format_of_form =
    either (after Star (said value.Star)) (choice is_number_alone (meant value.Label a_label) (meant value.Value read_expression))

-- What stands behind a control word and `=`.
unfoldable pub value_form : Constants → ControlWord → Reader ControlValue
value_form constants word.Unit = unit_form
value_form constants word.Format = format_of_form
value_form constants word.Status = meant variable_or_element (both a_name (maybe (enclosed (separated read_expression))))
value_form constants word.OnError = meant value.Label a_label
value_form constants word.OnEnd = meant value.Label a_label
value_form constants word.File = meant value.Value read_expression
value_form constants w = meant (λ text. value.Value (expr.Text text)) (where' (is_constant (constants w)) a_quoted)

abbrev pub keyed_form : Constants → Reader Control
keyed_form constants = meant control_of (led (up_to (piece control_word) Equals) (value_form constants))

abbrev pub keyed_list_form : Constants → Reader (List Control)
keyed_list_form constants = separated (keyed_form constants)

abbrev pub behind_unit_form : Constants → Reader (List Control)
behind_unit_form constants =
    choice is_keyed (keyed_list_form constants)
    (meant before_others (both (meant (control word.Format) format_of_form) (maybe (after Comma (keyed_list_form constants)))))

abbrev pub control_list_form : Constants → Reader (List Control)
control_list_form constants =
    choice is_keyed (keyed_list_form constants)
    (meant before_others (both (meant (control word.Unit) unit_form) (maybe (after Comma (behind_unit_form constants)))))

abbrev pub read_controls_form : Reader Body
read_controls_form =
    meant (λ p. body.Transfer way.Read p.0 (listed p.1))
    (both (enclosed (where' fits_read (control_list_form no_constants))) (maybe items_form))

abbrev pub format_and_list_form : Reader (ControlValue × Option (List ListItem))
format_and_list_form = both format_of_form (maybe (after Comma items_form))

abbrev pub read_form : Reader Body
read_form = choice is_opened read_controls_form (meant (λ p. body.Transfer way.Read (standard_unit p.0) (listed p.1))
    format_and_list_form)

abbrev pub write_form : Reader Body
write_form =
    meant (λ p. body.Transfer way.Write p.0 (listed p.1))
    (both (enclosed (where' fits_write (control_list_form no_constants))) (maybe items_form))

abbrev pub print_form : Reader Body
print_form = meant (λ p. body.Transfer way.Write (standard_unit p.0) (listed p.1)) format_and_list_form

abbrev pub open_form : Reader Body
open_form = meant (body.Auxiliary auxiliary.OpenUnit) (enclosed
    (where' (fits_auxiliary words_of_open) (control_list_form constants_of_open)))

abbrev pub close_form : Reader Body
close_form = meant (body.Auxiliary auxiliary.CloseUnit) (enclosed
    (where' (fits_auxiliary words_of_close) (control_list_form constants_of_close)))

abbrev pub position_form : AuxiliaryKind → Reader Body
position_form which =
    meant (body.Auxiliary which)
    (choice is_opened (enclosed (where' (fits_auxiliary words_of_position) (control_list_form no_constants)))
    (meant unit_alone read_expression))
