-- The rows of statements, computed by the reader.
use Rattle.std.proofs.Common.{◌≡◌, refl, sym, ◌∙◌, List, [], ◌∷◌, map, Option, Some, None}
use Rattle.fortran_grammar.specs.f_tree.declared.statements.Body.{Body}
use Rattle.fortran_grammar.specs.fortran_lexemes.Lexemes.{Lexemes}
use Rattle.grammar_laws.specs.FormReading as forms
use Rattle.grammar_laws.specs.ListReading as lists
use Rattle.grammar_laws.specs.DeclarationReading as declaration_reading
use Rattle.grammar_laws.specs.ControlReading as controls
use Rattle.grammar_laws.specs.StatementReader as reader
use Rattle.grammar_laws.specs.ExpressionReading as reading
use Rattle.fortran_grammar.specs.Forms as spelling
use Rattle.fortran_grammar.specs.StatementForms as flow_forms
use Rattle.fortran_grammar.specs.ListForms as list_forms
use Rattle.fortran_grammar.specs.DeclarationForms as declaration_forms
use Rattle.fortran_grammar.specs.ControlForms as control_forms
use Rattle.fortran_grammar.specs.ExpressionSpelling as expression_forms
use Rattle.grammar_laws.specs.StatementReader.{read_statement}
use Rattle.grammar_laws.specs.StatementRows.{Row, Says, AllSay, flow_rows, declaration_rows, transfer_rows}
use Rattle.grammar_laws.proofs.StatementLaws.{statement_sound, statement_complete}

says : (pieces : Lexemes) (tree : Option Body) → read_statement pieces ≡ tree → Says pieces tree
says pieces (Some b) h = statement_sound b pieces h
says pieces None h = λ b spelled. absurd (let e : None ≡ Some b = sym h ∙ statement_complete b pieces spelled in cc)

heads : {A : Type 0} (a b : A) (p q : List A) → (a ∷ p) ≡ (b ∷ q) → a ≡ b
heads a b p q e = cc

tails : {A : Type 0} (a b : A) (p q : List A) → (a ∷ p) ≡ (b ∷ q) → p ≡ q
tails a b p q e = cc

abbrev found : Row → Option Body
found row = read_statement row.pieces

all_say : (rows : List Row) → map found rows ≡ map (λ (row : Row). row.tree) rows → AllSay rows
all_say [] h = tt
all_say (row ∷ rows) h = (
  says row.pieces row.tree (heads (found row) row.tree (map found rows) (map (λ (r : Row). r.tree) rows) h),
  all_say rows (tails (found row) row.tree (map found rows) (map (λ (r : Row). r.tree) rows) h),
)

computed : Unit {0}
unfolding reading.number reading.read forms.going_on forms.otherwise forms.said forms.with_rest forms.piece forms.after forms.up_to_piece forms.up_to forms.paired forms.both forms.led forms.either forms.maybe_read forms.maybe forms.meant forms.where_passes forms.where' forms.items forms.separated forms.ended_by forms.looped_items forms.looped forms.choice forms.rounds_on forms.rounds forms.many forms.enclosed forms.with_comma lists.deep_item lists.implied_do declaration_reading.length_of declaration_reading.declared_by declaration_reading.typed_form controls.value_form reader.ended reader.whole reader.action_by_word reader.read_by reader.read_action reader.behind_condition reader.other_by_word reader.read_other reader.read_by_word reader.read_statement reading.behind_open reading.behind_close reading.behind_comma reading.behind_colon reading.operator_at reading.last_place reading.part_by reading.part reading.part_from reading.part_of_by reading.part_of reading.element_by reading.element reading.applied_by reading.applied reading.subscripted_by reading.subscripted reading.named_by reading.named reading.called_by reading.called reading.parenthesised reading.primary reading.signed reading.negated reading.operand reading.joined reading.onward reading.further reading.arguments_by reading.read_expression reading.place reading.read_place reading.not_applied spelling.sort spelling.behind spelling.says_first forms.is_keyed spelling.listed spelling.name_of spelling.label_of spelling.number_of spelling.quoted_of flow_forms.if_sign flow_forms.loop_of flow_forms.arguments_of flow_forms.stop_text flow_forms.format_text list_forms.truth_of list_forms.value_of list_forms.single list_forms.data_group list_forms.chained declaration_forms.dimension_of declaration_forms.without_lower declaration_forms.array_of declaration_forms.name_or_array declaration_forms.four_of declaration_forms.no_length declaration_forms.type_of declaration_forms.spec_of declaration_forms.declarator_of declaration_forms.without_length declaration_forms.function_word declaration_forms.function_header declaration_forms.untyped declaration_forms.common_groups declaration_forms.block_of declaration_forms.common_of declaration_forms.equivalence_of declaration_forms.letter_of declaration_forms.range_of declaration_forms.in_order declaration_forms.implicit_of declaration_forms.none_word declaration_forms.constant_of declaration_forms.program_header declaration_forms.block_data_header control_forms.is_number_alone control_forms.variable_or_element control_forms.is_constant control_forms.first_word control_forms.control_word control_forms.control control_forms.control_of control_forms.before_others control_forms.same_word control_forms.has_word control_forms.no_word_twice control_forms.has_only control_forms.fits control_forms.is_star_unit control_forms.fits_read control_forms.fits_write control_forms.fits_auxiliary control_forms.no_constants control_forms.constants_of_open control_forms.constants_of_close control_forms.is_opened control_forms.standard_unit control_forms.unit_alone expression_forms.level expression_forms.left expression_forms.right
computed = tt

pub flow : AllSay flow_rows
unfolding computed flow_rows
flow = all_say flow_rows refl

pub declarations : AllSay declaration_rows
unfolding computed declaration_rows
declarations = all_say declaration_rows refl

pub transfers : AllSay transfer_rows
unfolding computed transfer_rows
transfers = all_say transfer_rows refl
