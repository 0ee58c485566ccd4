-- The rows of texts, computed by the reader.
use Rattle.std.proofs.Common.{◌≡◌, ℕ, refl, ap, ◌∙◌, Bool, true, false, List, [], ◌∷◌, map, Option, Some, None}
use Rattle.fortran_grammar.specs.f_tree.declared.statements.Body.{Body}
use Rattle.fortran_grammar.specs.fortran_lexemes.Lexemes.{Lexemes}
use Rattle.fortran_grammar.specs.fortran_lexemes.declared.kinds.StmtKind.{StmtKind}
use Rattle.grammar_laws.specs.FormReading as forms
use Rattle.grammar_laws.specs.ListReading as lists
use Rattle.grammar_laws.specs.DeclarationReading as declaration_reading
use Rattle.grammar_laws.specs.ControlReading as controls
use Rattle.grammar_laws.specs.StatementReader as reader
use Rattle.grammar_laws.specs.ExpressionReading as reading
use Rattle.fortran_grammar.specs.Forms as spelling
use Rattle.fortran_grammar.specs.StatementForms as flow_forms
use Rattle.fortran_grammar.specs.ListForms as list_forms
use Rattle.fortran_grammar.specs.DeclarationForms as declaration_forms
use Rattle.fortran_grammar.specs.ControlForms as control_forms
use Rattle.fortran_grammar.specs.ExpressionSpelling as expression_forms
use Rattle.fortran_grammar.specs.fortran_lexemes.KindsOfStatements as kinds
use Rattle.fortran_grammar.specs.fortran_lexemes.PiecesOfStatements as cutting
use Rattle.fortran_grammar.specs.fortran_lexemes.PiecesOfText as cut
use Rattle.fortran_grammar.specs.fortran_text.CharactersOfText as text_of
use Rattle.grammar_laws.specs.StatementReader.{read_statement}
use Rattle.grammar_laws.specs.StatementTexts.{IsStatement, IsNone, AllAre, statement_texts, other_texts}
use Rattle.grammar_laws.proofs.StatementLaws.{statement_sound, statement_complete}

abbrev pieces_of : List ℕ → StmtKind → Lexemes
pieces_of text k = cutting.pieces k (text_of.characters false text)

abbrev is_read : Option Body → Bool
is_read None = false
is_read (Some b) = true

abbrev by_kind : List ℕ → Option StmtKind → Bool
by_kind text None = false
by_kind text (Some k) = is_read (read_statement (pieces_of text k))

abbrev found : List ℕ → Bool
found text = by_kind text (kinds.kind_of_statement true false text)

read_so : (text : List ℕ) (k : StmtKind) → kinds.kind_of_statement true false text ≡ Some k → (o : Option Body) → read_statement (pieces_of text k) ≡ o
    → is_read o ≡ true → IsStatement text
read_so text k is_kind None read h = absurd (cc)
read_so text k is_kind (Some b) read h = (k, b, is_kind, statement_sound b (pieces_of text k) read)

is_statement : (text : List ℕ) (o : Option StmtKind) → kinds.kind_of_statement true false text ≡ o → by_kind text o ≡ true → IsStatement text
is_statement text None is_kind h = absurd (cc)
is_statement text (Some k) is_kind h = read_so text k is_kind (read_statement (pieces_of text k)) refl h

is_none : (text : List ℕ) → found text ≡ false → IsNone text
is_none text h k b is_kind spelled =
    let read : found text ≡ true = ap (by_kind text) is_kind ∙ ap is_read (statement_complete b (pieces_of text k) spelled) in
    absurd (cc)

heads : {A : Type 0} (a b : A) (p q : List A) → (a ∷ p) ≡ (b ∷ q) → a ≡ b
heads a b p q e = cc

tails : {A : Type 0} (a b : A) (p q : List A) → (a ∷ p) ≡ (b ∷ q) → p ≡ q
tails a b p q e = cc

abbrev answers : Bool → List (List ℕ) → List Bool
answers b texts = map (λ (text : List ℕ). b) texts

all_statements : (texts : List (List ℕ)) → map found texts ≡ answers true texts → AllAre IsStatement texts
all_statements [] h = tt
all_statements (text ∷ texts) h = (
  is_statement text (kinds.kind_of_statement true false text) refl (heads (found text) true (map found texts) (answers true texts) h),
  all_statements texts (tails (found text) true (map found texts) (answers true texts) h),
)

all_none : (texts : List (List ℕ)) → map found texts ≡ answers false texts → AllAre IsNone texts
all_none [] h = tt
all_none (text ∷ texts) h = (
  is_none text (heads (found text) false (map found texts) (answers false texts) h),
  all_none texts (tails (found text) false (map found texts) (answers false texts) h),
)

computed : Unit {0}
unfolding reading.number reading.read forms.going_on forms.otherwise forms.said forms.with_rest forms.piece forms.after forms.up_to_piece forms.up_to forms.paired forms.both forms.led forms.either forms.maybe_read forms.maybe forms.meant forms.where_passes forms.where' forms.items forms.separated forms.ended_by forms.looped_items forms.looped forms.choice forms.rounds_on forms.rounds forms.many forms.enclosed forms.with_comma lists.deep_item lists.implied_do declaration_reading.length_of declaration_reading.declared_by declaration_reading.typed_form controls.value_form reader.ended reader.whole reader.action_by_word reader.read_by reader.read_action reader.behind_condition reader.other_by_word reader.read_other reader.read_by_word reader.read_statement reading.behind_open reading.behind_close reading.behind_comma reading.behind_colon reading.operator_at reading.last_place reading.part_by reading.part reading.part_from reading.part_of_by reading.part_of reading.element_by reading.element reading.applied_by reading.applied reading.subscripted_by reading.subscripted reading.named_by reading.named reading.called_by reading.called reading.parenthesised reading.primary reading.signed reading.negated reading.operand reading.joined reading.onward reading.further reading.arguments_by reading.read_expression reading.place reading.read_place reading.not_applied spelling.sort spelling.behind spelling.says_first forms.is_keyed spelling.listed spelling.name_of spelling.label_of spelling.number_of spelling.quoted_of flow_forms.if_sign flow_forms.loop_of flow_forms.arguments_of flow_forms.stop_text flow_forms.format_text list_forms.truth_of list_forms.value_of list_forms.single list_forms.data_group list_forms.chained declaration_forms.dimension_of declaration_forms.without_lower declaration_forms.array_of declaration_forms.name_or_array declaration_forms.four_of declaration_forms.no_length declaration_forms.type_of declaration_forms.spec_of declaration_forms.declarator_of declaration_forms.without_length declaration_forms.function_word declaration_forms.function_header declaration_forms.untyped declaration_forms.common_groups declaration_forms.block_of declaration_forms.common_of declaration_forms.equivalence_of declaration_forms.letter_of declaration_forms.range_of declaration_forms.in_order declaration_forms.implicit_of declaration_forms.none_word declaration_forms.constant_of declaration_forms.program_header declaration_forms.block_data_header control_forms.is_number_alone control_forms.variable_or_element control_forms.is_constant control_forms.first_word control_forms.control_word control_forms.control control_forms.control_of control_forms.before_others control_forms.same_word control_forms.has_word control_forms.no_word_twice control_forms.has_only control_forms.fits control_forms.is_star_unit control_forms.fits_read control_forms.fits_write control_forms.fits_auxiliary control_forms.no_constants control_forms.constants_of_open control_forms.constants_of_close control_forms.is_opened control_forms.standard_unit control_forms.unit_alone expression_forms.level expression_forms.left expression_forms.right kinds.word_of kinds.keywords kinds.longer kinds.longest_keyword kinds.outside_constants kinds.nesting_behind kinds.outside_parentheses kinds.after_parentheses kinds.begins_with kinds.closed_before kinds.is_empty kinds.is_while kinds.past_comma kinds.is_labelled_while kinds.is_do_while kinds.is_logical_if kinds.or_nothing kinds.after_amount kinds.after_length kinds.begins_function kinds.begins_typed_function kinds.types kinds.behind_equals kinds.kind_with_equals kinds.kind_of_marks kinds.kind_of_characters kinds.kind_of_statement cutting.depth_behind cutting.left_behind cutting.within cutting.opened_step cutting.behind_word cutting.type_at cutting.typed_step cutting.statement_step cutting.function_step cutting.begin_step cutting.inner_step cutting.is_then cutting.awaiting_step cutting.type_step cutting.behind_type_step cutting.then_step cutting.behind_if_step cutting.expected_step cutting.to_step cutting.while_step cutting.part_step cutting.behind_constant cutting.behind_part cutting.is_format cutting.format_step cutting.label_step cutting.condition_step cutting.within_step cutting.step cutting.step_past_blank cutting.pieces_from cutting.pieces cut.begins cut.named cut.numbered cut.run_of cut.constant_end cut.undoubled cut.quoted_to cut.order_words cut.equality_words cut.logical_words cut.dotted_at cut.pointed cut.once_or_twice cut.sign_of cut.cut_at text_of.counting text_of.behind text_of.after text_of.shown text_of.characters_from text_of.has_counted text_of.characters text_of.text_without_blanks text_of.is_end
computed = tt

pub statements : AllAre IsStatement statement_texts
unfolding computed statement_texts
statements = all_statements statement_texts refl

pub others : AllAre IsNone other_texts
unfolding computed other_texts
others = all_none other_texts refl
