-- That what the function of a main program goes by is known in it: its names stand for its objects. C89, 3.1.2.1.
use Rattle.std.specs.Prelude.{◌≡◌, ℕ, ◌+◌, ◌≤◌, true, List, length, position, Option, Some, None, slice_get, bytes_eq}
use Rattle.main_file.specs.f_tree.declared.names.Basic.{Basic}
use Rattle.main_file.specs.f_tree.Values.{Bytes}
use Rattle.main_file.specs.f_tree.Facts.{Facts}
use Rattle.linking_laws.specs.c_tree.declared.statement.CStmt.{CStmt}
use Rattle.linking_laws.specs.c_tree.declared.types.ListType.TheVariants as list_type
use Rattle.linking_laws.specs.c_tree.Access.{ToList}
use Rattle.linking_laws.specs.c_tree.Terms.{Variable}
use Rattle.linking_laws.specs.c_tree.Builtins.{builtin_names}
use Rattle.linking_laws.specs.c_tree.Drafts.{Scope}
use Rattle.linking_laws.specs.c_tree.FlatForm.{whole_body}
use Rattle.linking_laws.specs.c_tree.Linking.{Routines, file_scope}
use Rattle.main_file.specs.c_emit.Numbers.{is_scalar, is_array}
use Rattle.linking_laws.specs.Linked.{AreDistinct, IsNone, scope_of}
use Rattle.emitted_names.specs.KnownNames.{IsPlain, IsKnownBy, Calls}
use Rattle.main_file.specs.MainFile.{Inventory, Variable as Declared, Bases, main_function, main_file, names_of, writing_of, constant_names, lasting_names, temporary_names, called_names, place_of_variable, place_of_list}

-- all names are told apart, and the objects of the function stand behind those of its file
pub record NamesDiffer (v : Inventory) (b : Bases) : Type 0 where
  pub constants : AreDistinct (constant_names v)
  pub lasting : AreDistinct (lasting_names v)
  pub temporaries : AreDistinct (temporary_names 1 v.temporaries)
  pub not_lasting : (i : ℕ) (name : List ℕ) → slice_get (temporary_names 1 v.temporaries) i ≡ Some name → IsNone name (lasting_names v)
  pub not_own : (i : ℕ) (name : List ℕ) → slice_get (constant_names v) i ≡ Some name → IsNone name (lasting_names v) × IsNone name (temporary_names 1 v.temporaries) × IsNone name (called_names v)
  pub not_objects : (i : ℕ) (name : List ℕ) → slice_get (called_names v) i ≡ Some name → IsNone name (lasting_names v) × IsNone name (temporary_names 1 v.temporaries)
  pub behind : b.file + length v.constants ≤ b.function

-- each variable is listed as what it is
pub record VariablesAreListed (v : Inventory) (facts : Facts) (b : Bases) (kind : ℕ → ℕ → Option Basic) : Type 0 where
  pub scalars : (x : Bytes) → is_scalar (writing_of v b facts kind) x ≡ true → (i : ℕ) × (one : Declared) × (place_of_variable v x ≡ Some i) × (slice_get v.variables i ≡ Some one) × (one.count ≡ None)
  pub arrays : (x : Bytes) → is_array (writing_of v b facts kind) x ≡ true → (i : ℕ) × (one : Declared) × (count : ℕ) × (place_of_variable v x ≡ Some i) × (slice_get v.variables i ≡ Some one) × (one.count ≡ Some count)

-- where the scope of a function is that of a main program in its file
abbrev pub scope_in : Routines → (List ℕ → Option ℕ) → Inventory → Bases → List CStmt → Scope
scope_in numbers objects v b body = scope_of numbers (file_scope numbers objects b.file (main_file v body)) b.function (main_function v body)

-- what is known there
pub record FileIsKnown (numbers : Routines) (objects : List ℕ → Option ℕ) (v : Inventory) (b : Bases) (facts : Facts) (kind : ℕ → ℕ → Option Basic) (body : List CStmt) : Type 0 where
  pub names : IsKnownBy (scope_in numbers objects v b body) (names_of v b) (writing_of v b facts kind)
  -- the control lists, and the functions that are called
  pub lists : (n i : ℕ) → place_of_list v n ≡ Some i → IsPlain (scope_in numbers objects v b body) (names_of v b) (Variable ((writing_of v b facts kind).library.list n) (ToList list_type.Transfer))
  pub calls : (i k : ℕ) (name : List ℕ) → slice_get (called_names v) i ≡ Some name → position (bytes_eq name) builtin_names ≡ Some k → numbers name ≡ Some (b.own + k) →
      Calls (scope_in numbers objects v b body) (names_of v b) (writing_of v b facts kind) name

-- LAW
-- where the strings of its statements are as many as are listed
abbrev pub MainFilesAreKnown : Type 0
MainFilesAreKnown = (numbers : Routines) (objects : List ℕ → Option ℕ) (v : Inventory) (b : Bases) (facts : Facts) (kind : ℕ → ℕ → Option Basic) (body : List CStmt) → NamesDiffer v b → VariablesAreListed v facts b kind →
    length (whole_body body).items.strings ≡ length v.strings → FileIsKnown numbers objects v b facts kind body
