-- The items of a unit's steps by names are those of the flat items that it has for them, with its names for its objects and for the functions that it calls:
-- what a file of several units has and what is said of a unit, as what is known. ANSI X3.9-1978, sections 15.5, 15.6, 15.8 and 15.9; C89, 3.1.2, 3.3.2.2 and
-- 3.6.
use Rattle.std.specs.Prelude.{◌≡◌, ℕ, ◌+◌, ◌≤◌, ℤ, Bool, true, false, not, ◌&&◌, List, [], ◌∷◌, map, length, Option, Some, None, is_some, option_map, option_and_then, slice_get}
use Rattle.item_emission.specs.f_tree.declared.names.Basic.{Basic}
use Rattle.item_emission.specs.f_tree.declared.names.Class.{Class}
use Rattle.item_emission.specs.f_tree.declared.names.Class.TheVariants as class
use Rattle.item_emission.specs.f_tree.Values.{Bytes}
use Rattle.item_emission.specs.f_tree.Facts.{Facts, UnitKind, MainProgram, SubroutineUnit, FunctionUnit, BlockDataUnit, EntryPoint}
use Rattle.item_emission.specs.f_tree.World.{Procedure}
use Rattle.item_emission.specs.f_tree.CNames.{variable_name}
use Rattle.item_emission.specs.l_core.Steps.{Step, Starts, Acts, Halt}
use Rattle.item_emission.specs.c_emit.Numbers.{is_numeric, is_variable, has_shape}
use Rattle.item_emission.specs.c_tree.declared.expression.CExpr.TheVariants as expr
use Rattle.unit_file_laws.specs.procedure_emission.bound_items.BoundItems.{saving_item}
use Rattle.unit_file_laws.specs.procedure_emission.ProcedureItems.{Numbers, procedure_item}
use Rattle.unit_file_laws.specs.unit_file.UnitFile.{LowerOf, SizeOf, KeptBound, Inventory, bound_name, first_bound, place_of_bound, place_of_constant, place_of_list, place_of_string, writing_of}
use Rattle.unit_file_laws.specs.unit_file.UnitNames.{routine_name, names_of}
use Rattle.unit_file_laws.specs.unit_sites.UnitSites.{Site}
use Rattle.unit_file_laws.specs.KnownUnits.{NamesAreListed}
use Rattle.item_emission.specs.named_items.declared.item.Callee.{Callee}
use Rattle.item_emission.specs.named_items.declared.item.Item.{Item}
use Rattle.item_emission.specs.named_items.Items.{by_name, through, assign_by, item_for}
use Rattle.item_emission.specs.declared.known.Dimension.{Dimension}
use Rattle.item_emission.specs.declared.known.LowerBound.{LowerBound}
use Rattle.item_emission.specs.declared.known.LowerBound.TheVariants as low
use Rattle.item_emission.specs.declared.known.Size.{Size}
use Rattle.item_emission.specs.declared.known.Size.TheVariants as many
use Rattle.item_emission.specs.declared.known.Standing.{Standing}
use Rattle.item_emission.specs.declared.known.Standing.TheVariants.{Own, Parameter, Result}
use Rattle.item_emission.specs.declared.known.Giving.{Giving}
use Rattle.item_emission.specs.declared.known.Giving.TheVariants as giving
use Rattle.item_emission.specs.NamedEmission.{Knowledge, dimension_at, value_expr, item_step}
use Rattle.item_emission.specs.Agreeing.{dimension_of}

-- a dimension whose bounds are constant, but for those that the function keeps
unfoldable pub lower_in : Option ℕ → LowerBound → LowerBound
lower_in (Some i) written = low.Kept
lower_in None written = written

unfoldable pub size_in : Option ℕ → Size → Size
size_in (Some i) written = many.Kept
size_in None written = written

abbrev pub dimension_in : Inventory → Bytes → ℕ → Dimension → Dimension
dimension_in v x k d = record { lower = lower_in (place_of_bound v x k LowerOf) d.lower; size = size_in (place_of_bound v x k SizeOf) d.size }

-- a dummy argument stands by its parameter, the result by its variable, and all else by an object of its own
unfoldable pub standing_in : Class → Standing
standing_in class.Dummy = Parameter
standing_in class.Result = Result
standing_in other = Own

-- an external procedure or a dummy procedure may be passed
unfoldable pub is_procedure_in : Class → Bool
is_procedure_in class.Procedure = true
is_procedure_in class.DummyProcedure = true
is_procedure_in other = false

-- the function that a name calls: by its name in C, and that of a dummy procedure through its parameter
unfoldable pub routine_in : Numbers → List Inventory → Bytes → Class → Option Callee
routine_in numbers vs x class.Procedure = option_map (λ k. by_name (routine_name vs k)) (numbers (Procedure x))
routine_in numbers vs x class.Result = option_map (λ k. by_name (routine_name vs k)) (numbers (Procedure x))
routine_in numbers vs x class.Unit = option_map (λ k. by_name (routine_name vs k)) (numbers (Procedure x))
routine_in numbers vs x class.DummyProcedure = Some (through (variable_name x))
routine_in numbers vs x other = None

-- what END and RETURN give; a function has one name
unfoldable pub result_in : List EntryPoint → Giving
result_in (entry ∷ []) = giving.Value entry.name
result_in entries = giving.Nothing

unfoldable pub giving_of_unit : UnitKind → List EntryPoint → Giving
giving_of_unit MainProgram entries = giving.Zero
giving_of_unit SubroutineUnit entries = giving.Alternate
giving_of_unit FunctionUnit entries = result_in entries
giving_of_unit BlockDataUnit entries = giving.Nothing

-- given the constants of the file, the inventories of all units, that of one and what is said of it, the numbers of functions, and the step of each label
abbrev pub known_of_unit : List ℤ → List Inventory → Inventory → Facts → Numbers → (ℕ → Option ℕ) → Knowledge
known_of_unit constants vs v facts numbers label = record {
  is_scalar = λ x. is_variable (facts.program.attribute x).class && is_numeric (facts.program.attribute x).basic && not (has_shape (facts.program.attribute x).dimensions);
  is_array = λ x. is_variable (facts.program.attribute x).class && is_numeric (facts.program.attribute x).basic && has_shape (facts.program.attribute x).dimensions;
  basic = λ x. (facts.program.attribute x).basic;
  dimension = λ x k. dimension_in v x k (dimension_at (map dimension_of (facts.program.attribute x).bounds) k);
  standing = λ x. standing_in (facts.program.attribute x).class;
  is_procedure = λ x. is_procedure_in (facts.program.attribute x).class;
  routine = λ x. routine_in numbers vs x (facts.program.attribute x).class;
  temporaries = v.temporaries;
  has = λ z. is_some (place_of_constant constants z);
  list = place_of_list v;
  label = label;
  gives = giving_of_unit facts.program.kind facts.program.entries;
}

-- the item by which a bound is kept
unfoldable pub bound_step : Knowledge → KeptBound → Option Item
bound_step known one = assign_by (Some (expr.Name (bound_name one))) (value_expr known one.value)

-- the control list of an output, and the string of STOP
abbrev pub IsListed : Inventory → ℕ → Step → Type 0
IsListed v n (Acts (Starts way layout controls) ps m) = (i : ℕ) × (place_of_list v n ≡ Some i)
IsListed v n (Halt text) = (i : ℕ) × (place_of_string v n ≡ Some i) × (v.texts n ≡ text)
IsListed v n st = Unit {0}

-- LAW
-- for a unit by its site, in a program with a function for each unit, where the constants of its file stand before the objects of its function
abbrev pub UnitEmissionsAgree : Type 0
UnitEmissionsAgree = (vs : List Inventory) (s : Site) (v : Inventory) (facts : Facts) (numbers : Numbers) (kind : ℕ → ℕ → Option Basic) (label : ℕ → Option ℕ) (n : ℕ) (st : Step) →
    s.bases.own ≡ length vs → s.bases.file + length s.constants ≤ s.bases.function → NamesAreListed v facts → IsListed v n st →
    option_and_then (item_for (names_of s.constants vs v s.bases)) (procedure_item numbers (writing_of s.constants v s.bases facts kind) (λ m. m) label n st)
    ≡ item_step (known_of_unit s.constants vs v facts numbers label) (kind n) n st

-- LAW
-- so are the items by which bounds are kept
abbrev pub UnitBoundsAgree : Type 0
UnitBoundsAgree = (vs : List Inventory) (s : Site) (v : Inventory) (facts : Facts) (numbers : Numbers) (kind : ℕ → ℕ → Option Basic) (label : ℕ → Option ℕ) (i : ℕ) (one : KeptBound) →
    s.bases.own ≡ length vs → s.bases.file + length s.constants ≤ s.bases.function → NamesAreListed v facts → slice_get v.bounds i ≡ Some one →
    option_and_then (item_for (names_of s.constants vs v s.bases)) (saving_item (writing_of s.constants v s.bases facts kind) (record { object = first_bound v s.bases + i; value = one.value }))
    ≡ bound_step (known_of_unit s.constants vs v facts numbers label) one

unfoldable pub agreeing_units_opened : Unit {0}
unfolding lower_in size_in standing_in is_procedure_in routine_in result_in giving_of_unit bound_step
agreeing_units_opened = tt
