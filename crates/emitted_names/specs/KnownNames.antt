-- That each name in an emitted item is known where what the function goes by is: its variables, temporaries, constants, lists, texts and what it calls of
-- the library. C89, 3.1.2.1.
use Rattle.std.specs.Prelude.{◌≡◌, ℕ, ◌+◌, ℤ, true, List, [], position, Option, Some, None, unwrap_or, bytes_eq, codes}
use Rattle.c_emit.specs.f_tree.Values.{Bytes}
use Rattle.c_emit.specs.l_core.Steps.{Starts, Takes, Finishes, Step, Compute, Acts, Halt}
use Rattle.c_structure_laws.specs.c_tree.declared.types.ListType.TheVariants as list_type
use Rattle.c_structure_laws.specs.c_tree.Access.{ToNumber, ToChar, ToList, ToPointer}
use Rattle.c_structure_laws.specs.c_tree.Terms.{Term, Variable, Array, Routine}
use Rattle.c_structure_laws.specs.c_tree.Flat.{Flat}
use Rattle.c_structure_laws.specs.c_tree.Builtins.{builtin_names}
use Rattle.c_structure_laws.specs.c_tree.Drafts.{Scope}
use Rattle.c_emit.specs.c_image.Addresses.{Address, Alone, Inside, InTexts, Through, number_term}
use Rattle.c_emit.specs.c_image.Elements.{quantity_term}
use Rattle.c_structure_laws.specs.c_structure.Expressions.{Names, strings_in}
use Rattle.c_structure_laws.specs.c_structure.Statements.{strings_of_item}
use Rattle.c_structure_laws.specs.Fitting.{Knows, KnowsItem}
use Rattle.c_emit.specs.Numbers.{Writing, is_scalar, is_array}
use Rattle.c_emit.specs.LibraryFunctions.{LibraryFunction, library_function}
use Rattle.c_emit.specs.Flats.{flat_of}

-- a term whose names are known, and that has no strings
pub record IsPlain (scope : Scope) (names : Names) (t : Term) : Type 0 where
  pub knows : Knows scope names t
  pub no_strings : strings_in names t ≡ []

-- the start of an array of numbers; none stands among texts
abbrev pub array_of : Address → Option Term
array_of (Alone object) = Some (Array object ToNumber)
array_of (Inside object before) = Some (Array object ToNumber)
array_of (InTexts object before) = None
array_of (Through parameter) = Some (Variable parameter (ToPointer ToNumber))

abbrev pub StartIsPlain : Scope → Names → Option Term → Type 0
StartIsPlain scope names None = Unit {0}
StartIsPlain scope names (Some t) = IsPlain scope names t

-- what a function goes by is known
pub record IsKnownBy (scope : Scope) (names : Names) (w : Writing) : Type 0 where
  pub scalars : (x : Bytes) → is_scalar w x ≡ true → IsPlain scope names (number_term (w.naming.address x))
  pub arrays : (x : Bytes) → is_array w x ≡ true → StartIsPlain scope names (array_of (w.naming.address x))
  pub lowers : (x : Bytes) (k : ℕ) → is_array w x ≡ true → IsPlain scope names (quantity_term (w.naming.lower x k))
  pub sizes : (x : Bytes) (k : ℕ) → is_array w x ≡ true → IsPlain scope names (quantity_term (w.naming.size x k))
  pub temporaries : (k : ℕ) → w.is_number k ≡ true → IsPlain scope names (Variable (w.naming.temporary k) ToNumber)
  pub constants : (z : ℤ) → w.library.has z ≡ true → IsPlain scope names (Variable (w.library.constant z) ToNumber)

-- what a step calls, and what it passes there
abbrev pub number_of : Writing → List ℕ → ℕ
number_of w name = w.library.own + unwrap_or (position (bytes_eq name) builtin_names) 0

abbrev pub Calls : Scope → Names → Writing → List ℕ → Type 0
Calls scope names w name = scope (names.routine (number_of w name)) ≡ Routine (number_of w name)

-- a function of numbers
abbrev pub CallsFunction : Scope → Names → Writing → Option LibraryFunction → Type 0
CallsFunction scope names w None = Unit {0}
CallsFunction scope names w (Some one) = Calls scope names w one.name

abbrev pub KnowsStep : Scope → Names → Writing → ℕ → Step → Type 0
KnowsStep scope names w n (Acts (Starts way layout controls) ps m) = Calls scope names w (codes "s_wsle") × IsPlain scope names (Variable (w.library.list n) (ToList list_type.Transfer))
KnowsStep scope names w n (Acts Takes ps m) = Calls scope names w (codes "do_lio")
KnowsStep scope names w n (Acts Finishes ps m) = Calls scope names w (codes "e_wsle")
KnowsStep scope names w n (Halt text) = Calls scope names w (codes "s_stop") × Knows scope names (Array (w.library.text n) ToChar)
KnowsStep scope names w n (Compute k f ps) = CallsFunction scope names w (library_function f)
KnowsStep scope names w n st = Unit {0}

-- the strings that a step passes
abbrev pub strings_of_step : Names → Writing → ℕ → Step → List ℕ
strings_of_step names w n (Halt text) = strings_in names (Array (w.library.text n) ToChar)
strings_of_step names w n st = []

pub record ItemIsKnown (scope : Scope) (names : Names) (w : Writing) (n : ℕ) (st : Step) (item : Flat) : Type 0 where
  pub knows : KnowsItem scope names item
  pub strings : strings_of_item names item ≡ strings_of_step names w n st

-- LAW
abbrev pub EmittedNamesAreKnown : Type 0
EmittedNamesAreKnown = (scope : Scope) (names : Names) (w : Writing) (place : ℕ → ℕ) (label : ℕ → Option ℕ) (n : ℕ) (st : Step) (item : Flat) → IsKnownBy scope names w → KnowsStep scope names w n st →
    flat_of w place label n st ≡ Some item → ItemIsKnown scope names w n st item
