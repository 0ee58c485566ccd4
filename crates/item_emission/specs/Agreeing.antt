-- The items of steps by names are those of the flat items that a main program has for them, with its names for its objects. C89, 3.1.2 and 3.6.
use Rattle.std.specs.Prelude.{◌≡◌, ℕ, ◌+◌, ◌≤◌, true, false, not, ◌&&◌, map, length, Option, Some, None, is_some, option_and_then}
use Rattle.main_file.specs.f_tree.declared.names.Basic.{Basic}
use Rattle.main_file.specs.f_tree.Values.{Bytes}
use Rattle.main_file.specs.f_tree.Facts.{Bounds, Facts, UnitKind, MainProgram, SubroutineUnit, FunctionUnit, BlockDataUnit}
use Rattle.main_file.specs.f_tree.Valuing.{size_of_dimension}
use Rattle.main_file.specs.l_core.Steps.{Step, Starts, Acts, Halt}
use Rattle.main_file.specs.c_emit.Numbers.{is_numeric, is_variable, has_shape}
use Rattle.main_file.specs.c_emit.Flats.{flat_of}
use Rattle.main_file.specs.MainFile.{Inventory, Bases, place_of_constant, place_of_variable, place_of_list, place_of_string, names_of, writing_of}
use Rattle.named_items.specs.Items.{item_for}
use Rattle.item_emission.specs.declared.known.Dimension.{Dimension}
use Rattle.item_emission.specs.declared.known.LowerBound.TheVariants as low
use Rattle.item_emission.specs.declared.known.Size.TheVariants as many
use Rattle.item_emission.specs.declared.known.Standing.TheVariants.{Own}
use Rattle.item_emission.specs.declared.known.Giving.{Giving}
use Rattle.item_emission.specs.declared.known.Giving.TheVariants as giving
use Rattle.item_emission.specs.NamedEmission.{Knowledge, dimension_at, item_step}

-- a dimension whose bounds are constant
abbrev pub dimension_of : Bounds → Dimension
dimension_of bounds = record { lower = low.Written bounds.lower; size = many.Written (size_of_dimension bounds) }

-- what END and RETURN give, but for the numbers of alternate returns and the results of functions
unfoldable pub giving_in : UnitKind → Giving
giving_in MainProgram = giving.Zero
giving_in SubroutineUnit = giving.Zero
giving_in FunctionUnit = giving.Nothing
giving_in BlockDataUnit = giving.Nothing

-- what a file has and what is said of a unit, as what is known: each name has an object of its own, and no procedure is known
abbrev pub known_in : Inventory → Facts → (ℕ → Option ℕ) → Knowledge
known_in v facts label = record {
  is_scalar = λ x. is_variable (facts.program.attribute x).class && is_numeric (facts.program.attribute x).basic && not (has_shape (facts.program.attribute x).dimensions);
  is_array = λ x. is_variable (facts.program.attribute x).class && is_numeric (facts.program.attribute x).basic && has_shape (facts.program.attribute x).dimensions;
  basic = λ x. (facts.program.attribute x).basic;
  dimension = λ x k. dimension_at (map dimension_of (facts.program.attribute x).bounds) k;
  standing = λ x. Own;
  is_procedure = λ x. false;
  routine = λ x. None;
  temporaries = v.temporaries;
  has = λ z. is_some (place_of_constant v z);
  list = place_of_list v;
  label = label;
  gives = giving_in facts.program.kind;
}

-- each variable and array of numbers is listed, and the objects of the function stand behind those of the file
pub record NumbersAreListed (v : Inventory) (b : Bases) (known : Knowledge) : Type 0 where
  pub scalars : (x : Bytes) → known.is_scalar x ≡ true → (i : ℕ) × (place_of_variable v x ≡ Some i)
  pub arrays : (x : Bytes) → known.is_array x ≡ true → (i : ℕ) × (place_of_variable v x ≡ Some i)
  pub behind : b.file + length v.constants ≤ b.function

-- the control list of an output, and the string of STOP
abbrev pub IsListed : Inventory → ℕ → Step → Type 0
IsListed v n (Acts (Starts way layout controls) ps m) = (i : ℕ) × (place_of_list v n ≡ Some i)
IsListed v n (Halt text) = (i : ℕ) × (place_of_string v n ≡ Some i) × (v.texts n ≡ text)
IsListed v n st = Unit {0}

-- LAW
abbrev pub EmissionsAgree : Type 0
EmissionsAgree = (v : Inventory) (b : Bases) (facts : Facts) (kind : ℕ → ℕ → Option Basic) (label : ℕ → Option ℕ) (n : ℕ) (st : Step) → NumbersAreListed v b (known_in v facts label) → IsListed v n st →
    option_and_then (item_for (names_of v b)) (flat_of (writing_of v b facts kind) (λ m. m) label n st) ≡ item_step (known_in v facts label) (kind n) n st

unfoldable pub agreeing_opened : Unit {0}
unfolding giving_in
agreeing_opened = tt
