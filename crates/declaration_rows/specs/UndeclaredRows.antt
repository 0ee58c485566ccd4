-- Which names of a unit are not declared where each name has to be (F21): under `-u`, or in a unit with IMPLICIT NONE.
-- ANSI X3.9-1978, sections 4.1.2 (types by the first letter), 8.4 (type statements) and 15.5.1 (FUNCTION with a type); MIL-STD-1753.
use Rattle.std.specs.Prelude.{Bool, true, false, not, ◌||◌, List, [], ◌∷◌, ◌++◌, is_some, if◌then◌else◌}
use Rattle.std.specs.List.{list_any}
use Rattle.fortran_text.specs.f_tree.declared.names.Class.TheVariants as class
use Rattle.fortran_text.specs.f_tree.declared.names.Options.{Options}
use Rattle.fortran_text.specs.f_tree.declared.refusals.Kind.{Kind}
use Rattle.fortran_text.specs.f_tree.declared.refusals.Kind.TheVariants.{NameNotDeclared}
use Rattle.fortran_text.specs.f_tree.declared.refusals.Refusal.{Refusal}
use Rattle.fortran_text.specs.f_tree.declared.statements.Stmt.{Stmt}
use Rattle.fortran_text.specs.f_tree.declared.units.Unit.{Unit as WrittenUnit}
use Rattle.fortran_text.specs.f_tree.Values.{Bytes}
use Rattle.fortran_text.specs.f_tree.Facts.{Attribute}
use Rattle.fortran_text.specs.f_tree.Attributes.{Definition, from_all, typed_in, type_among, heading_type, definitions_in, arrays_of}
use Rattle.declaration_rows.specs.Judgement.{unless}
use Rattle.declaration_rows.specs.NameRows.{given_names, all_names, is_referenced, stood, at_first, mentions, first_statements}
use Rattle.declaration_rows.specs.OrderRows.{is_implicit_none}

-- a type statement, or the type before FUNCTION, gives the type of a name
unfoldable pub is_declared : WrittenUnit → Bytes → Bool
is_declared u x =
    is_some (type_among x (from_all typed_in u.statements)) || is_some (heading_type u x (type_among x (from_all typed_in u.statements)))

unfoldable pub declares_all : Options → WrittenUnit → Bool
declares_all options u = options.undeclared || list_any (λ (s : Stmt). is_implicit_none s.body) u.statements

-- a variable, an array, a result or a statement function, and a procedure that is referenced as a function
unfoldable pub has_type : Bool → Attribute → Bool
has_type referenced a = elim a.class [
  | class.Stored ↦ true
  | class.Dummy ↦ true
  | class.Result ↦ true
  | class.StatementFunction ↦ true
  | class.Procedure ↦ referenced
  | class.DummyProcedure ↦ referenced
  | _ ↦ false
]

unfoldable pub undeclared_name_rows : WrittenUnit → List Bytes → List Refusal
undeclared_name_rows u [] = []
undeclared_name_rows u (x ∷ xs) =
    at_first u (mentions u x) (first_statements u x)
    (unless (not (has_type (is_referenced u x) (given_names u x)) || is_declared u x) NameNotDeclared) ++ undeclared_name_rows u xs

-- the dummy arguments of the definition of a statement function, at the definition
unfoldable pub undeclared_dummies : WrittenUnit → List Bytes → List Kind
undeclared_dummies u [] = []
undeclared_dummies u (x ∷ xs) = unless (is_declared u x) NameNotDeclared ++ undeclared_dummies u xs

unfoldable pub undeclared_in_definitions : WrittenUnit → List Definition → List Kind
undeclared_in_definitions u [] = []
undeclared_in_definitions u (d ∷ ds) = undeclared_dummies u d.dummies ++ undeclared_in_definitions u ds

unfoldable pub undeclared_definition_rows : WrittenUnit → List Stmt → List Refusal
undeclared_definition_rows u [] = []
undeclared_definition_rows u (s ∷ ss) =
    stood s (undeclared_in_definitions u (definitions_in (arrays_of u) s.body)) ++ undeclared_definition_rows u ss

unfoldable pub unit_undeclared_rows : Options → WrittenUnit → List Refusal
unit_undeclared_rows options u =
    if declares_all options u then undeclared_name_rows u (all_names u) ++ undeclared_definition_rows u u.statements else []

unfoldable pub undeclared_rows_opened : Unit {0}
unfolding is_declared declares_all has_type undeclared_name_rows undeclared_dummies undeclared_in_definitions undeclared_definition_rows unit_undeclared_rows
undeclared_rows_opened = tt
