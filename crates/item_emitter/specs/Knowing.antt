-- What a table of the names of a program unit, its procedures, its temporaries, its constants, its outputs and its labels says. ANSI X3.9-1978, sections 4.1,
-- 5.1, 15 and 18.
use Rattle.std.specs.Prelude.{nat_eq, Bool, true, false, not, ◌&&◌, List, [], ◌∷◌, Option, Some, None, option_map, position, bytes_eq}
use Rattle.std.specs.List.{list_any}
use Rattle.std.specs.Ordering.{int_eq}
use Rattle.std.specs.HashMap.{get_by}
use Rattle.f_tree.specs.declared.names.Basic.{Basic}
use Rattle.f_tree.specs.declared.names.Basic.TheVariants.{Untyped}
use Rattle.f_tree.specs.Values.{Bytes}
use Rattle.c_emit.specs.Numbers.{is_numeric}
use Rattle.named_items.specs.declared.item.Callee.{Callee}
use Rattle.item_emission.specs.declared.known.Dimension.{Dimension}
use Rattle.item_emission.specs.declared.known.Standing.{Standing}
use Rattle.item_emission.specs.declared.known.Standing.TheVariants.{Own}
use Rattle.item_emitter.specs.declared.known.Variable.{Variable}
use Rattle.item_emitter.specs.declared.known.Routine.{Routine}
use Rattle.item_emitter.specs.declared.known.Known.{Known}
use Rattle.item_emission.specs.NamedEmission.{Knowledge, dimension_at}

unfoldable pub variable_in : Known → Bytes → Option Variable
variable_in table x = get_by (λ k. bytes_eq x k.now) table.variables

unfoldable pub routine_in : Known → Bytes → Option Routine
routine_in table x = get_by (λ k. bytes_eq x k.now) table.routines

unfoldable pub has_dimensions : List Dimension → Bool
has_dimensions [] = false
has_dimensions (d ∷ ds) = true

-- whether what was found is one number, or an array of numbers
unfoldable pub is_number : Option Variable → Bool
is_number None = false
is_number (Some v) = v.is_variable && (is_numeric v.basic && not (has_dimensions v.dimensions.items))

unfoldable pub is_numbers : Option Variable → Bool
is_numbers None = false
is_numbers (Some v) = v.is_variable && (is_numeric v.basic && has_dimensions v.dimensions.items)

unfoldable pub basic_of : Option Variable → Basic
basic_of None = Untyped
basic_of (Some v) = v.basic

unfoldable pub dimensions_of : Option Variable → List Dimension
dimensions_of None = []
dimensions_of (Some v) = v.dimensions.items

-- a name stands by an object of its own, if nothing else is known
unfoldable pub standing_of : Option Variable → Standing
standing_of None = Own
standing_of (Some v) = v.standing

-- whether what was found is a procedure that may be passed, and the function that is called by its name
unfoldable pub is_passed : Option Routine → Bool
is_passed None = false
is_passed (Some r) = r.is_passed

unfoldable pub callee_in : Option Routine → Option Callee
callee_in found = option_map (λ (r : Routine). r.callee) found

-- what a table says
abbrev pub known_of : Known → Knowledge
known_of table = record {
  is_scalar = λ x. is_number (variable_in table x);
  is_array = λ x. is_numbers (variable_in table x);
  basic = λ x. basic_of (variable_in table x);
  dimension = λ x. dimension_at (dimensions_of (variable_in table x));
  standing = λ x. standing_of (variable_in table x);
  is_procedure = λ x. is_passed (routine_in table x);
  routine = λ x. callee_in (routine_in table x);
  temporaries = table.temporaries;
  has = λ z. list_any (int_eq z) table.constants.items;
  list = λ n. position (nat_eq n) table.lists.items;
  label = λ l. get_by (nat_eq l) table.labels;
  gives = table.gives;
}

unfoldable pub knowing_opened : Unit {0}
unfolding variable_in routine_in has_dimensions is_number is_numbers basic_of dimensions_of standing_of is_passed callee_in
knowing_opened = tt
