-- The flat C items for calls of procedures and for their returns; all other steps have those of `flat_of`. An actual argument goes by the address of
-- its place, or of the object that holds its value; a procedure by its function, and a dummy procedure by its parameter. Labels are not
-- passed. ANSI X3.9-1978, sections 15.5, 15.6, 15.8 and 15.9; C89, 3.3.2.2 and 3.6.6.4.
use Rattle.std.specs.Prelude.{ℕ, Bool, true, false, List, [], ◌∷◌, Option, Some, None, option_map}
use Rattle.emitted_texts.specs.f_tree.declared.names.Basic.{Basic}
use Rattle.emitted_texts.specs.f_tree.declared.names.Basic.TheVariants.{Integer, Logical}
use Rattle.emitted_texts.specs.f_tree.declared.names.Class.{Class}
use Rattle.emitted_texts.specs.f_tree.declared.names.Class.TheVariants as class
use Rattle.emitted_texts.specs.f_tree.Values.{Bytes, IsLabel}
use Rattle.emitted_texts.specs.f_tree.Terms.{Wanted, AsSubroutine, AsFunction, Callee}
use Rattle.emitted_texts.specs.f_tree.Facts.{UnitKind, SubroutineUnit, FunctionUnit, EntryPoint}
use Rattle.emitted_texts.specs.f_tree.World.{Called, Procedure}
use Rattle.emitted_texts.specs.l_core.Pures.{Pure, Constant, Temporary, Name, ElementOf, Pures, NoPure, AndPure}
use Rattle.emitted_texts.specs.l_core.Steps as step
use Rattle.emitted_texts.specs.l_core.Steps.{Step}
use Rattle.emitted_texts.specs.c_tree.declared.types.CastType.TheVariants as to
use Rattle.emitted_texts.specs.c_tree.declared.types.FunctionType.TheVariants as pointer
use Rattle.emitted_texts.specs.c_tree.Access.{ToNumber, ToPointer, ToFunction}
use Rattle.emitted_texts.specs.c_tree.Terms as c
use Rattle.emitted_texts.specs.c_tree.Terms.{Term}
use Rattle.emitted_texts.specs.c_tree.Flat as flat
use Rattle.emitted_texts.specs.c_tree.Flat.{Flat, Invoke, Return, Use, Ignored, Kept}
use Rattle.emitted_texts.specs.c_image.Addresses.{Address, Alone, Through, number_term}
use Rattle.emitted_texts.specs.c_emit.Numbers.{Writing, has_number, has_shape, one_more, if_number, value_term, place_term}
use Rattle.emitted_texts.specs.c_emit.Calls.{address_of, held_term}
use Rattle.emitted_texts.specs.c_emit.Flats.{returned_by, flat_of}

-- the number of the function for each name by which a unit is called
abbrev pub Numbers : Type 0
Numbers = Called → Option ℕ

-- ## Arguments

-- a pointer to a variable or to an array of numbers, given whether it is an array: a dummy is its parameter
abbrev pub pointer_term : Bool → Address → Term
pointer_term array (Through parameter) = c.Variable parameter (ToPointer ToNumber)
pointer_term true (Alone object) = c.Array object ToNumber
pointer_term array address = address_of (number_term address)

-- a function is passed as one whose result is not known
abbrev pub procedure_argument : Term → Term
procedure_argument = c.Cast (to.Function pointer.Unknown)

-- a procedure of the set, and one that is a dummy
unfoldable pub routine_term : Numbers → Bytes → Class → Address → Option Term
routine_term numbers x class.Procedure address = option_map (λ number. procedure_argument (c.Routine number)) (numbers (Procedure x))
routine_term numbers x class.DummyProcedure (Through parameter) = Some (procedure_argument (c.Variable parameter ToFunction))
routine_term numbers x other address = None

-- a name that stands alone: a variable or an array of numbers, or a procedure
unfoldable pub name_argument : Numbers → Writing → Bytes → Bool → Option Term
name_argument numbers w x true = Some (pointer_term (has_shape (w.facts.program.attribute x).dimensions) (w.naming.address x))
name_argument numbers w x false = routine_term numbers x (w.facts.program.attribute x).class (w.naming.address x)

unfoldable pub argument_term : Numbers → Writing → Pure → Option Term
argument_term numbers w (Constant d) = option_map address_of (held_term w (Constant d))
argument_term numbers w (Temporary k) = option_map address_of (held_term w (Temporary k))
argument_term numbers w (Name x) = name_argument numbers w x (has_number w x)
argument_term numbers w (ElementOf x ps) = option_map address_of (place_term w (ElementOf x ps))
argument_term numbers w p = None

-- a label is passed as nothing: what the subroutine gives back tells which one is taken
unfoldable pub argument_terms : Numbers → Writing → Pures → Option (List Term)
argument_terms numbers w NoPure = Some []
argument_terms numbers w (AndPure (Constant (IsLabel label)) ps) = argument_terms numbers w ps
argument_terms numbers w (AndPure p ps) = one_more (argument_term numbers w p) (argument_terms numbers w ps)

-- ## Calls

-- the function that is called: the one of a name as it is written, or the one that was passed
unfoldable pub callee_for : Numbers → Bytes → Class → Address → Option flat.Callee
callee_for numbers x class.Procedure address = option_map flat.Direct (numbers (Procedure x))
callee_for numbers x class.Result address = option_map flat.Direct (numbers (Procedure x))
callee_for numbers x class.Unit address = option_map flat.Direct (numbers (Procedure x))
callee_for numbers x class.DummyProcedure (Through parameter) = Some (flat.Through (c.Variable parameter ToFunction))
callee_for numbers x other address = None

unfoldable pub function_called : Numbers → Writing → Bytes → Option flat.Callee
function_called numbers w x = callee_for numbers x (w.facts.program.attribute x).class (w.naming.address x)

unfoldable pub call_item : Use → Option flat.Callee → Option (List Term) → Option Flat
call_item how (Some callee) (Some terms) = Some (Invoke how callee terms)
call_item how callee terms = None

-- the type of what a function of numbers gives; a subroutine gives the number of its alternate return
unfoldable pub basic_wanted : Wanted → Option Basic
basic_wanted AsSubroutine = Some Integer
basic_wanted (AsFunction Integer width) = Some Integer
basic_wanted (AsFunction Logical width) = Some Logical
basic_wanted want = None

-- what a function gives goes into a temporary, and so does the number of an alternate return
unfoldable pub kept_item : Option Basic → Option Term → Option flat.Callee → Option (List Term) → Option Flat
kept_item (Some basic) (Some target) callee terms = call_item (Kept target) callee terms
kept_item basic target callee terms = None

unfoldable pub call_for_item : Numbers → Writing → ℕ → Callee → Pures → Option Flat
call_for_item numbers w k callee ps =
    kept_item (basic_wanted callee.want) (if_number (w.is_number k) (Some (c.Variable (w.naming.temporary k) ToNumber))) (function_called numbers w callee.name) (argument_terms numbers w ps)

-- ## Returns

-- the variable for the result of a function that has one name
unfoldable pub result_term : Writing → List EntryPoint → Option Term
result_term w (entry ∷ []) = place_term w (Name entry.name)
result_term w entries = None

unfoldable pub back_item : Writing → UnitKind → Option Flat
back_item w FunctionUnit = option_map (λ term. Return (Some term)) (result_term w w.facts.program.entries)
back_item w kind = returned_by kind

-- the number of an alternate return
unfoldable pub back_by_item : Writing → Pure → UnitKind → Option Flat
back_by_item w p SubroutineUnit = option_map (λ term. Return (Some term)) (value_term w p)
back_by_item w p kind = None

-- ## Steps

-- given the numbers of functions, the position of the item for each step, and the step of each label
unfoldable pub procedure_item : Numbers → Writing → (ℕ → ℕ) → (ℕ → Option ℕ) → ℕ → Step → Option Flat
procedure_item numbers w place label n (step.CallFor k callee ps) = call_for_item numbers w k callee ps
procedure_item numbers w place label n (step.CallSub k name ps) = call_item Ignored (function_called numbers w name) (argument_terms numbers w ps)
procedure_item numbers w place label n step.Back = back_item w w.facts.program.kind
procedure_item numbers w place label n (step.BackBy p) = back_by_item w p w.facts.program.kind
procedure_item numbers w place label n st = flat_of w place label n st

unfoldable pub procedure_items_opened : Unit {0}
unfolding routine_term name_argument argument_term argument_terms callee_for function_called call_item basic_wanted kept_item call_for_item result_term back_item back_by_item procedure_item
procedure_items_opened = tt
