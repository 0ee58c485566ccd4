-- That the function of a main program has the items that are emitted for its lowered text, where its statements are built for them. C89, 3.6.
use Rattle.std.specs.Prelude.{◌≡◌, ℕ, suc, ◌+◌, List, [], ◌∷◌, length, position, Option, Some, None, slice_get, bytes_eq, codes}
use Rattle.main_file.specs.f_tree.declared.names.Basic.{Basic}
use Rattle.main_file.specs.l_core.Steps.{Starts, Takes, Finishes, Step, Compute, Acts, Halt, Text}
use Rattle.linking_laws.specs.c_tree.declared.statement.CStmt.{CStmt}
use Rattle.linking_laws.specs.c_tree.Flat.{Flat}
use Rattle.linking_laws.specs.c_tree.Builtins.{builtin_names}
use Rattle.linking_laws.specs.c_tree.FlatForm.{whole_body}
use Rattle.linking_laws.specs.c_tree.Linking.{Routines, file_scope, linked_function}
use Rattle.linking_laws.specs.c_structure.Statements.{Outline}
use Rattle.main_file.specs.c_emit.LibraryFunctions.{LibraryFunction, library_function}
use Rattle.linking_laws.specs.Linked.{IsBuilt}
use Rattle.main_file.specs.MainFile.{Inventory, Bases, main_function, main_file, names_of, writing_of, called_names, place_of_list}
use Rattle.main_file.specs.MainItems.{flats_from, stops_from}
use Rattle.main_file_laws.specs.KnownFile.{NamesDiffer, VariablesAreListed}

-- what a step calls is declared, and its control list is listed
abbrev pub IsCalled : Inventory → List ℕ → Type 0
IsCalled v name = (i : ℕ) × (slice_get (called_names v) i ≡ Some name)

abbrev pub FunctionIsCalled : Inventory → Option LibraryFunction → Type 0
FunctionIsCalled v None = Unit {0}
FunctionIsCalled v (Some one) = IsCalled v one.name

abbrev pub IsListed : Inventory → ℕ → Step → Type 0
IsListed v n (Acts (Starts way layout controls) ps m) = IsCalled v (codes "s_wsle") × ((i : ℕ) × (place_of_list v n ≡ Some i))
IsListed v n (Acts Takes ps m) = IsCalled v (codes "do_lio")
IsListed v n (Acts Finishes ps m) = IsCalled v (codes "e_wsle")
IsListed v n (Halt text) = IsCalled v (codes "s_stop")
IsListed v n (Compute k f ps) = FunctionIsCalled v (library_function f)
IsListed v n st = Unit {0}

abbrev pub AreListed : Inventory → ℕ → List Step → Type 0
AreListed v n [] = Unit {0}
AreListed v n (st ∷ later) = IsListed v n st × AreListed v (suc n) later

-- a lowered text, its items, and the statements that are built for them
pub record IsMainBuilt (v : Inventory) (b : Bases) (u : Text) (kind : ℕ → ℕ → Option Basic) (o : Outline) (items : List Flat) (body : List CStmt) : Type 0 where
  pub differ : NamesDiffer v b
  pub variables : VariablesAreListed v u.facts b kind
  pub listed : AreListed v 0 u.steps
  pub stops : v.strings ≡ stops_from 0 u.steps
  pub names : o.names ≡ names_of v b
  pub emitted : flats_from (writing_of v b u.facts kind) u.position 0 u.steps ≡ Some items
  pub built : IsBuilt o items (main_function v body)
  pub as_many : length (whole_body body).items.strings ≡ length v.strings

-- what is called of the library has its number
abbrev pub AreNumberedBuiltins : Routines → Inventory → Bases → Type 0
AreNumberedBuiltins numbers v b = (name : List ℕ) (k : ℕ) → IsCalled v name → position (bytes_eq name) builtin_names ≡ Some k → numbers name ≡ Some (b.own + k)

-- LAW
abbrev pub MainsHaveTheirItems : Type 0
MainsHaveTheirItems = (numbers : Routines) (objects : List ℕ → Option ℕ) (own : ℕ) (v : Inventory) (b : Bases) (u : Text) (kind : ℕ → ℕ → Option Basic) (o : Outline) (items : List Flat) (body : List CStmt) →
    AreNumberedBuiltins numbers v b → IsMainBuilt v b u kind o items body → (linked_function numbers own (file_scope numbers objects b.file (main_file v body)) b.function (main_function v body)).function.code ≡ items
