-- Which names of a unit are not declared, each told where it stands first.
use Rattle.std.specs.Prelude.{◌≡◌, Bool, true, false, not, ◌||◌, ◌&&◌, List, [], ◌∷◌, ◌++◌, map, bytes_eq, Option, Some, None, if◌then◌else◌}
use Rattle.f_tree.specs.declared.names.Class.{Class}
use Rattle.f_tree.specs.declared.names.Class.TheVariants as class
use Rattle.f_tree.specs.declared.refusals.Kind.{Kind}
use Rattle.f_tree.specs.declared.refusals.Kind.TheVariants.{NameNotDeclared}
use Rattle.f_tree.specs.declared.refusals.Refusal.{Refusal}
use Rattle.f_tree.specs.declared.statements.UnitKind.TheVariants as kind
use Rattle.f_tree.specs.declared.statements.Stmt.{Stmt}
use Rattle.f_tree.specs.declared.units.Unit.{Unit as WrittenUnit}
use Rattle.f_tree.specs.Values.{Bytes}
use Rattle.f_tree.specs.Uses.{Use, Heading, is_among, uses_of_body, defines_function}
use Rattle.f_tree.specs.Attributes.{arrays_of, class_of, own_names, all_dummies}
use Rattle.declaration_rows.specs.Judgement.{unless}
use Rattle.declaration_rows.specs.NameRows.{stood, is_referenced}
use Rattle.declaration_rows.specs.StatementRows.{is_typed}
use Rattle.declaration_rows.specs.UndeclaredRows.{is_declared, undeclared_dummies}
use Rattle.name_table.specs.declared.name_set.NameSet.{NameSet}
use Rattle.name_table.specs.Named.{names_in, IsNameSet}
use Rattle.name_classes.specs.KnownSigns.{unit_uses}

unfoldable pub is_name : Bytes → Option Bytes → Bool
is_name x None = false
is_name x (Some y) = bytes_eq x y

-- a function with a type before FUNCTION, by its name
unfoldable pub heads : WrittenUnit → Bytes → Bool
heads u x = elim u.kind [ kind.Function spec ↦ is_typed spec.basic && is_name x u.name | _ ↦ false ]

-- has a name of a class a type
unfoldable pub class_has_type : Bool → Class → Bool
class_has_type referenced class.Stored = true
class_has_type referenced class.Dummy = true
class_has_type referenced class.Result = true
class_has_type referenced class.StatementFunction = true
class_has_type referenced class.Procedure = referenced
class_has_type referenced class.DummyProcedure = referenced
class_has_type referenced class.Constant = false
class_has_type referenced class.Unit = false
class_has_type referenced class.Intrinsic = false

unfoldable pub stands : WrittenUnit → Bytes → Bool
stands u x = not (class_has_type (is_referenced u x) (class_of u (unit_uses u) x)) || is_declared u x

-- at the first statement of the unit
unfoldable pub head_row : WrittenUnit → Bytes → List Refusal
head_row u x = map (λ (k : Kind). record { file = u.file; card = u.card; kind = k }) (unless (stands u x) NameNotDeclared)

unfoldable pub own_rows : WrittenUnit → Option Bytes → List Refusal
own_rows u None = []
own_rows u (Some x) = head_row u x

-- at a statement, unless the name stands in the first of the unit
unfoldable pub row_at : WrittenUnit → Stmt → Bytes → List Refusal
row_at u s x = if is_among x (own_names u ++ all_dummies u) then head_row u x else stood s (unless (stands u x) NameNotDeclared)

-- rows of the names that have not stood before
unfoldable pub if_new : List Bytes → (Bytes → List Refusal) → Bytes → List Refusal
if_new seen row x = if is_among x seen then [] else row x

unfoldable pub new_rows : (Bytes → List Refusal) → List Bytes → List Bytes → List Refusal
new_rows row seen [] = []
new_rows row seen (x ∷ xs) = if_new seen row x ++ new_rows row (x ∷ seen) xs

unfoldable pub use_names : List Use → List Bytes
use_names us = map (λ (u : Use). u.name) us

unfoldable pub statement_names : WrittenUnit → Stmt → List Bytes
statement_names u s = use_names (uses_of_body (arrays_of u) s.body)

unfoldable pub statements_rows : WrittenUnit → List Bytes → List Stmt → List Refusal
statements_rows u seen [] = []
statements_rows u seen (s ∷ ss) = new_rows (row_at u s) seen (statement_names u s) ++ statements_rows u (statement_names u s ++ seen) ss

-- names are noted
pub record Sees (old new : NameSet) (names : List Bytes) : Type 0 where
  pub has : (q : Bytes) → is_among q (names_in new) ≡ (is_among q names || is_among q (names_in old))
  pub is_set : IsNameSet new

-- the dummy arguments of the statement function that an assignment defines
unfoldable pub definition_rows : WrittenUnit → Heading → List Kind
definition_rows u h = if defines_function (arrays_of u) h then undeclared_dummies u h.arguments else []
