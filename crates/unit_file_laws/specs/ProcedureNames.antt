-- That each name in an item for a call or for a return is known where what the function goes by is, and the functions that it calls or passes.
-- C89, 3.1.2.1 and 3.3.2.2.
use Rattle.std.specs.Prelude.{◌≡◌, ℕ, List, [], Option, Some}
use Rattle.unit_places.specs.f_tree.Values.{Bytes}
use Rattle.unit_places.specs.l_core.Pures.{Pures}
use Rattle.unit_places.specs.l_core.Steps.{Step, CallFor, CallSub}
use Rattle.unit_places.specs.c_tree.Terms.{Term}
use Rattle.unit_places.specs.c_tree.Flat.{Flat, Callee}
use Rattle.unit_places.specs.c_tree.Drafts.{Scope}
use Rattle.unit_places.specs.c_structure.Expressions.{Names, strings_in_all}
use Rattle.unit_places.specs.c_structure_laws.Fitting.{KnowsAll, KnowsCallee}
use Rattle.unit_places.specs.c_emit.Numbers.{Writing}
use Rattle.unit_places.specs.emitted_names.KnownNames.{IsKnownBy, KnowsStep, ItemIsKnown}
use Rattle.unit_places.specs.procedure_emission.ProcedureItems.{Numbers, argument_terms, function_called, procedure_item}

-- arguments whose names are known, and that have no strings
pub record ArePlain (scope : Scope) (names : Names) (ts : List Term) : Type 0 where
  pub knows : KnowsAll scope names ts
  pub no_strings : strings_in_all names ts ≡ []

-- what a call calls, and what it passes
pub record KnowsCall (scope : Scope) (names : Names) (numbers : Numbers) (w : Writing) (x : Bytes) (ps : Pures) : Type 0 where
  pub callee : (callee : Callee) → function_called numbers w x ≡ Some callee → KnowsCallee scope names callee
  pub arguments : (ts : List Term) → argument_terms numbers w ps ≡ Some ts → ArePlain scope names ts

abbrev pub KnowsUnitStep : Scope → Names → Numbers → Writing → ℕ → Step → Type 0
KnowsUnitStep scope names numbers w n (CallFor k callee ps) = KnowsCall scope names numbers w callee.name ps
KnowsUnitStep scope names numbers w n (CallSub k x ps) = KnowsCall scope names numbers w x ps
KnowsUnitStep scope names numbers w n st = KnowsStep scope names w n st

-- LAW
abbrev pub ProcedureNamesAreKnown : Type 0
ProcedureNamesAreKnown = (scope : Scope) (names : Names) (numbers : Numbers) (w : Writing) (place : ℕ → ℕ) (label : ℕ → Option ℕ) (n : ℕ) (st : Step) (item : Flat) → IsKnownBy scope names w → KnowsUnitStep scope names numbers w n st →
    procedure_item numbers w place label n st ≡ Some item → ItemIsKnown scope names w n st item
