-- Parts of what a text has, by its steps: the label that a step branches to, the unit of an output that begins, what is passed by a step before which a
-- temporary's type is known, whether the step is in its place, and the procedure that an operand passes. ANSI X3.9-1978, sections 4.1, 11, 12.8, 15.6.2.3,
-- 15.8 and 15.9.
use Rattle.std.specs.Prelude.{ℕ, ℤ, pos, Bool, true, false, List, [], ◌∷◌, ◌++◌, Option, Some, None, is_some, is_none, option_and_then, if◌then◌else◌}
use Rattle.f_tree.specs.declared.names.Basic.{Basic}
use Rattle.f_tree.specs.Values.{Bytes, Datum, IsInt, IsLog, in_range}
use Rattle.f_tree.specs.Facts.{Facts}
use Rattle.lowered_tree.specs.l_core.Pures.{Pure, Constant, Temporary, Name, Pures, NoPure, AndPure}
use Rattle.lowered_tree.specs.l_core.Steps.{Acting, Starts, Takes, Step, Keep, Compute, Jump, CallFor, CallSub, Way, Back, BackBy, Acts}
use Rattle.c_emit.specs.Calls.{unit_of, kind_number}
use Rattle.lowered_text.specs.declared.kept.Kept.{Kept}
use Rattle.lowered_text.specs.Texts.{kinds_of}
use Rattle.main_translation.specs.Flow.{kept_type, is_on}
use Rattle.main_translation.specs.Contents.{own_value, own_values, kind_value}
use Rattle.unit_file.specs.UnitItems.{procedure_passed}

-- the label that a step branches to, that of an alternate return among them
unfoldable pub label_in : Step → Option ℕ
label_in (Jump label) = Some label
label_in (Way label) = Some label
label_in st = None

-- an integer that is written
unfoldable pub integer_in : Datum → Option ℤ
integer_in (IsInt z) = Some z
integer_in d = None

unfoldable pub integer_of : Pure → Option ℤ
integer_of (Constant d) = integer_in d
integer_of p = None

-- the unit of an output that begins
unfoldable pub unit_by : Acting → Pures → Option ℤ
unit_by (Starts way layout controls) ps = unit_of ps
unit_by what ps = None

unfoldable pub begun_unit : Step → Option ℤ
begun_unit (Acts what ps m) = unit_by what ps
begun_unit st = None

-- the value of an item that is a literal
unfoldable pub literal_value : Datum → List ℤ
literal_value (IsInt z) = if in_range z then z ∷ [] else []
literal_value (IsLog true) = pos 1 ∷ []
literal_value (IsLog false) = pos 0 ∷ []
literal_value d = []

-- the type of an item, given what is known of the temporaries
unfoldable pub item_type_by : Facts → Option Kept → Pure → Option Basic
item_type_by c kept (Temporary k) = kinds_of kept k
item_type_by c kept p = kept_type c p

-- an output goes on where a step takes an item or ends one, and none where the unit returns; what is kept is of a type that is known
unfoldable pub is_in_place_by : Facts → Option Kept → Step → Option ℤ → Bool
is_in_place_by c kept Back stage = is_none stage
is_in_place_by c kept (BackBy p) stage = is_none stage
is_in_place_by c kept (Keep k p) stage = is_some (item_type_by c kept p)
is_in_place_by c kept st stage = is_on st stage

-- what is passed by the address of a constant
unfoldable pub item_values : Facts → Option Kept → Pure → List ℤ
item_values c kept p = kind_value (option_and_then kind_number (item_type_by c kept p)) ++ pos 1 ∷ own_value p

unfoldable pub list_values : Facts → Option Kept → Pures → List ℤ
list_values c kept (AndPure p NoPure) = item_values c kept p
list_values c kept ps = []

unfoldable pub acting_values : Facts → Option Kept → Acting → Pures → List ℤ
acting_values c kept Takes ps = list_values c kept ps
acting_values c kept what ps = []

unfoldable pub step_values : Facts → Option Kept → Step → List ℤ
step_values c kept (Acts what ps m) = acting_values c kept what ps
step_values c kept (Compute k f ps) = own_values ps
step_values c kept (CallFor k callee ps) = own_values ps
step_values c kept (CallSub k x ps) = own_values ps
step_values c kept st = []

-- the procedure that an operand passes by its name
unfoldable pub passed_by : Facts → Pure → List Bytes
passed_by c (Name x) = procedure_passed (c.program.attribute x).class x
passed_by c p = []
