-- What is counted in the example, and what its translation computes to.
use Rattle.std.specs.Fmt.{digits}
use Rattle.std.specs.Prelude.{◌≡◌, ℕ, ◌≤◌, true, false, ◌||◌, List, [], ◌∷◌, length, codes, Some}
use Rattle.std.proofs.Common.{refl, sym, ◌∙◌, arith}
use Rattle.statement_lowering.specs.LoweredStatements.{variable_is_text}
use Rattle.statement_lowering.specs.expression_lowering.TableNames.{name_lowers, operator_lowers}
use Rattle.translated_files.specs.f_tree.Attributes.{attributes_opened}
use Rattle.translated_files.specs.f_tree.CNames.{is_name_byte, is_name, has_underscore, external_name, main_name, c_keywords, built_in_names, field_names, single_letters, is_reserved, takes_underscores, variable_name, constant_name, made_name, is_among}
use Rattle.translated_files.specs.f_tree.Folds.{folds_opened}
use Rattle.translated_files.specs.f_tree.Meaning.{everything}
use Rattle.translated_files.specs.f_tree.Nests.{nests_opened}
use Rattle.translated_files.specs.f_tree.Places.{has_label}
use Rattle.translated_files.specs.declaration_rows.GlobalRows.{global_rows_opened}
use Rattle.translated_files.specs.declaration_rows.NameRows.{name_rows_opened}
use Rattle.translated_files.specs.c_tree.Opened.{trees_opened}
use Rattle.translated_files.specs.faithful.StorageImage.{function_name}
use Rattle.translated_files.specs.faithful.Signatures.{named_formals}
use Rattle.translated_files.specs.lowering.Expressions as lowered_expressions
use Rattle.translated_files.specs.lowering.Statements as lowered_statements
use Rattle.translated_files.specs.lowering.Units as lowered_units
use Rattle.translated_files.specs.main_translation.Contents.{contents_opened}
use Rattle.translated_files.specs.main_translation.Flow.{flow_opened}
use Rattle.translated_files.specs.main_translation.Outlined.{outlined_opened}
use Rattle.translated_files.specs.named_units.c_emit.Numbers.{numbers_opened}
use Rattle.translated_files.specs.named_units.c_emit.Types.{if_numeric}
use Rattle.translated_files.specs.named_units.c_structure.Expressions.{number_expr, with_two}
use Rattle.translated_files.specs.named_units.c_structure.Statements as structure
use Rattle.translated_files.specs.named_units.item_emission.NamedEmission.{named_emission_opened}
use Rattle.translated_files.specs.named_units.named_items.Items.{items_opened}
use Rattle.translated_files.specs.named_units.named_items.SamePlaces.{same_places_opened}
use Rattle.translated_files.specs.named_units.named_items.Structured.{structured_opened}
use Rattle.translated_files.specs.named_units.named_mains.NamedMains.{named_mains_opened}
use Rattle.translated_files.specs.named_units.NamedUnits.{named_units_opened}
use Rattle.translated_files.specs.named_units.unit_item_laws.AgreeingUnits.{agreeing_units_opened}
use Rattle.translated_files.specs.unit_file.UnitFile.{unit_file_opened}
use Rattle.translated_files.specs.unit_forms.kept_bounds.KeptBounds.{kept_bounds_opened}
use Rattle.translated_files.specs.unit_forms.PlainProcedures.{plain_procedures_opened}
use Rattle.translated_files.specs.unit_forms.SpellableUnits.{spellable_units_opened}
use Rattle.translated_files.specs.unit_forms.lowering_laws.Layout.{layout_opened}
use Rattle.translated_files.specs.unit_forms.plain_forms.PlainUnits.{plain_units_opened}
use Rattle.translated_files.specs.unit_forms.plain_forms.SpellableNames.{has_element, is_spellable_name, is_spellable}
use Rattle.translated_files.specs.unit_translation.UnitBodies.{unit_bodies_opened}
use Rattle.translated_files.specs.unit_translation.behind_bounds.BehindBounds.{behind_bounds_opened}
use Rattle.translated_files.specs.unit_translation.UnitBounds.{unit_bounds_opened}
use Rattle.translated_files.specs.unit_translation.UnitContents.{unit_contents_opened}
use Rattle.translated_files.specs.unit_translation.UnitFlow.{unit_flow_opened}
use Rattle.translated_files.specs.translated_forms.LoweredForms.{lowered_forms_opened}
use Rattle.translated_files.specs.translated_forms.TranslatedForms.{translated_forms_opened}
use Rattle.translated_files.specs.TranslatedFiles.{translated_files_opened}
use Rattle.loop_marks.specs.c_loops.Loops.{loops_opened}
use Rattle.kept_loops.specs.Examples.{translated, in_order, printing, jumping, passing, ExampleIsCounted, examples_opened}
use Rattle.kept_loops.specs.KeptFunctions.{ForwardJumps}
use Rattle.kept_loops.specs.NamedAhead.{mentions_of_all, named_ahead, named_ahead_opened}
use Rattle.kept_loops.specs.SourceLoops.{do_whiles, statement_labels, source_loops_opened}

-- the files of the example, and those where loops are run at least once
loops_translated : translated false ≡ Some (((record { fors = 2; dos = 0 }, codes "L__1" ∷ codes "L20" ∷ [], in_order) ∷ []) ∷ [])
unfolding digits everything nests_opened is_name_byte is_name has_underscore external_name main_name c_keywords built_in_names field_names single_letters is_reserved takes_underscores variable_name constant_name made_name global_rows_opened name_rows_opened trees_opened function_name lowered_expressions.expressions_opened lowered_statements.statements_opened lowered_units.units_opened contents_opened flow_opened outlined_opened numbers_opened structure.statements_opened named_emission_opened items_opened same_places_opened structured_opened named_mains_opened named_units_opened agreeing_units_opened unit_file_opened plain_procedures_opened spellable_units_opened layout_opened plain_units_opened has_element is_spellable_name is_spellable unit_bodies_opened unit_contents_opened unit_bounds_opened behind_bounds_opened kept_bounds_opened unit_flow_opened lowered_forms_opened translated_forms_opened translated_files_opened loops_opened named_ahead_opened examples_opened named_formals name_lowers operator_lowers variable_is_text if_numeric number_expr with_two
loops_translated = refl

once_translated : translated true ≡ Some (((record { fors = 0; dos = 2 }, codes "L__1" ∷ codes "L20" ∷ [], in_order) ∷ []) ∷ [])
unfolding digits everything nests_opened is_name_byte is_name has_underscore external_name main_name c_keywords built_in_names field_names single_letters is_reserved takes_underscores variable_name constant_name made_name global_rows_opened name_rows_opened trees_opened function_name lowered_expressions.expressions_opened lowered_statements.statements_opened lowered_units.units_opened contents_opened flow_opened outlined_opened numbers_opened structure.statements_opened named_emission_opened items_opened same_places_opened structured_opened named_mains_opened named_units_opened agreeing_units_opened unit_file_opened plain_procedures_opened spellable_units_opened layout_opened plain_units_opened has_element is_spellable_name is_spellable unit_bodies_opened unit_contents_opened unit_bounds_opened behind_bounds_opened kept_bounds_opened unit_flow_opened lowered_forms_opened translated_forms_opened translated_files_opened loops_opened named_ahead_opened examples_opened named_formals name_lowers operator_lowers variable_is_text if_numeric number_expr with_two
once_translated = refl

-- ## Jumps

-- the label of a `goto` behind it stands first
jumps_back : (label : List ℕ) → named_ahead (λ name. false) (mentions_of_all (jumping label)) ≡ false
unfolding trees_opened named_ahead_opened examples_opened
jumps_back label = refl

no_whiles : do_whiles printing ≡ 0
unfolding folds_opened trees_opened source_loops_opened examples_opened
no_whiles = refl

not_ahead : named_ahead (λ label. is_among (statement_labels printing) label || is_among [] label) (mentions_of_all (jumping (codes "L__1"))) ≡ false
unfolding has_label folds_opened trees_opened source_loops_opened named_ahead_opened examples_opened
not_ahead = refl

-- no label is excepted where there is no DO WHILE
jumping_refused : ForwardJumps printing (jumping (codes "L__1")) → ⊥
jumping_refused jumps = by jumps.behind jumps.few jumps.ahead
  where
    by : (behind : List (List ℕ)) → length behind ≤ do_whiles printing → named_ahead (λ label. is_among (statement_labels printing) label || is_among behind label) (mentions_of_all (jumping (codes "L__1"))) ≡ true → ⊥
    by [] few ahead = absurd (let clash : true ≡ false = sym ahead ∙ not_ahead in cc)
    by (label ∷ labels) few ahead = absurd (omega (arith, no_whiles, few))

passing_ahead : named_ahead (λ label. is_among (statement_labels printing) label || is_among [] label) (mentions_of_all (passing (codes "L__1"))) ≡ true
unfolding has_label folds_opened trees_opened source_loops_opened named_ahead_opened examples_opened
passing_ahead = refl

passing_accepted : ForwardJumps printing (passing (codes "L__1"))
passing_accepted = record { behind = []; made = refl; few = omega arith; ahead = passing_ahead }

pub example_is_counted : ExampleIsCounted
unfolding digits made_name has_label folds_opened attributes_opened trees_opened loops_opened named_ahead_opened source_loops_opened examples_opened
example_is_counted = record {
  dos = refl;
  whiles = refl;
  no_transfers = refl;
  no_implied = refl;
  labels = refl;
  allowed = refl;
  loops = loops_translated;
  once = once_translated;
  behind = refl;
  ahead = refl;
  no_loop = refl;
  other_label = refl;
  back = jumps_back;
  may_be_named = refl;
  refused = jumping_refused;
  accepted = passing_accepted;
}
