-- Functions of type CHARACTER that are passed or are dummy procedures, by what tables have of the names.
use Rattle.std.specs.Prelude.{Bool, true, false, not, ◌&&◌, List, [], ◌∷◌, ◌++◌}
use Rattle.std.specs.List.{list_any}
use Rattle.f_tree.specs.declared.names.Class.{Class}
use Rattle.f_tree.specs.declared.names.Class.TheVariants as class
use Rattle.f_tree.specs.declared.refusals.Kind.TheVariants.{CharacterFunctionAsArgument}
use Rattle.f_tree.specs.declared.refusals.Refusal.{Refusal}
use Rattle.f_tree.specs.declared.statements.Stmt.{Stmt}
use Rattle.f_tree.specs.declared.units.Unit.{Unit as WrittenUnit}
use Rattle.f_tree.specs.Values.{Bytes}
use Rattle.f_tree.specs.Lines.{is_character}
use Rattle.f_tree.specs.Uses.{Use, is_among, uses_of_body}
use Rattle.declaration_rows.specs.Judgement.{unless}
use Rattle.declaration_rows.specs.NameRows.{stood, given_names, at_first, mentions, first_statements}
use Rattle.declaration_rows.specs.ReferenceRows.{stands_alone, is_dummy_procedure, is_character_function}
use Rattle.expression_judge.specs.declared.names.Names.{Names}
use Rattle.expression_judge.specs.SeenNames.{fact_in}
use Rattle.name_classes.specs.declared.signs.Signs.{Signs}
use Rattle.name_table.specs.declared.name_set.NameSet.{NameSet}
use Rattle.name_table.specs.Named.{names_in}

-- given the names that CALL calls
unfoldable pub is_text_function : NameSet → Names → Bytes → Bool
is_text_function called names x = is_character (fact_in names x).basic && not (is_among x (names_in called))

unfoldable pub is_procedure_class : Class → Bool
is_procedure_class class.Procedure = true
is_procedure_class class.DummyProcedure = true
is_procedure_class _ = false

unfoldable pub is_dummy_class : Class → Bool
is_dummy_class class.DummyProcedure = true
is_dummy_class _ = false

unfoldable pub passes : NameSet → Names → Use → Bool
passes called names v = stands_alone v.manner && (is_procedure_class (fact_in names v.name).class && is_text_function called names v.name)

unfoldable pub passed_row : Signs → Names → Stmt → List Refusal
passed_row signs names s =
    stood s (unless (not (list_any (passes signs.used.called names) (uses_of_body (names_in signs.arrays) s.body))) CharacterFunctionAsArgument)

unfoldable pub passed_from : Signs → Names → List Stmt → List Refusal
passed_from signs names [] = []
passed_from signs names (s ∷ ss) = passed_row signs names s ++ passed_from signs names ss

unfoldable pub may_be_dummy : NameSet → Names → Bytes → Bool
may_be_dummy called names x = not (is_dummy_class (fact_in names x).class && is_text_function called names x)

-- the row of one name
unfoldable pub dummy_row : WrittenUnit → Bytes → List Refusal
dummy_row u x =
    at_first u (mentions u x) (first_statements u x)
    (unless (not (is_dummy_procedure (given_names u x) && is_character_function u x (given_names u x))) CharacterFunctionAsArgument)
