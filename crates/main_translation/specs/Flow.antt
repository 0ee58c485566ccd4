-- What is known before each step of a lowered text: the type of what a temporary holds, and the unit of the output that is in progress. Where a step is
-- reached by a branch too, nothing is. ANSI X3.9-1978, sections 4.1, 11 and 12.9.
use Rattle.std.specs.List.{list_any}
use Rattle.std.specs.Prelude.{ℕ, zero, suc, ◌+◌, ◌-◌, nat_eq, ℤ, Bool, true, false, ◌&&◌, List, [], ◌∷◌, ◌++◌, length, Option, Some, None, is_some, slice_get, if◌then◌else◌}
use Rattle.main_file.specs.f_tree.declared.names.Basic.{Basic}
use Rattle.main_file.specs.f_tree.Facts.{Facts}
use Rattle.main_file.specs.l_core.Pures.{Pure, Constant, Load, Name, ElementOf, Prefixed, Operated, Applied}
use Rattle.main_file.specs.l_core.Steps.{Starts, Takes, Finishes, Step, Keep, Compute, Unless, AgainIf, Skip, Again, Jump, Select, JumpBy, Branch, Way, Acts, Text}
use Rattle.main_file.specs.c_emit.LibraryFunctions.{library_type}
use Rattle.main_file.specs.c_emit.Types.{type_of_datum, type_behind, type_between, type_by, if_numeric}
use Rattle.main_file.specs.c_emit.Calls.{unit_of}

-- where a step may lead but to the one behind it
unfoldable pub target_in : Option ℕ → List ℕ
target_in None = []
target_in (Some n) = n ∷ []

-- so many positions, from one on
unfoldable pub targets_on : ℕ → ℕ → List ℕ
targets_on n zero = []
targets_on n (suc count) = n ∷ targets_on (suc n) count

unfoldable pub targets_of : Text → ℕ → Step → List ℕ
targets_of u n (Unless p m) = (suc n + m) ∷ []
targets_of u n (AgainIf p m) = (n - m) ∷ []
targets_of u n (Skip m) = (suc n + m) ∷ []
targets_of u n (Again m) = (n - m) ∷ []
targets_of u n (Jump label) = target_in (u.position label)
targets_of u n (Select p count) = targets_on (suc (suc n)) count
targets_of u n (JumpBy p labels) = targets_on (suc (suc n)) (length labels)
targets_of u n (Branch k count) = targets_on (suc (suc n)) count
targets_of u n (Way label) = target_in (u.position label)
targets_of u n st = []

unfoldable pub targets_from : Text → ℕ → List Step → List ℕ
targets_from u n [] = []
targets_from u n (st ∷ later) = targets_of u n st ++ targets_from u (suc n) later

-- is a step reached by a branch
unfoldable pub is_target : Text → ℕ → Bool
is_target u m = list_any (nat_eq m) (targets_from u 0 u.steps)

-- ## Temporaries

-- the type of a value that is kept, which is no temporary
unfoldable pub kept_type : Facts → Pure → Option Basic
kept_type c (Constant d) = type_of_datum d
kept_type c (Load (Name x)) = if_numeric (c.program.attribute x).basic
kept_type c (Load (ElementOf x ps)) = if_numeric (c.program.attribute x).basic
kept_type c (Prefixed op p) = Some (type_behind op)
kept_type c (Operated op p q) = Some (type_between op)
kept_type c (Applied f ps) = type_by f
kept_type c p = None

unfoldable pub kept_at : Facts → Bool → ℕ → Option Step → Option Basic
kept_at c false k (Some (Keep j p)) = if nat_eq k j then kept_type c p else None
kept_at c false k (Some (Compute j f ps)) = if nat_eq k j then library_type f else None
kept_at c reached k st = None

-- a temporary that the step before keeps
unfoldable pub kind_at : Text → ℕ → ℕ → Option Basic
kind_at u zero k = None
kind_at u (suc n) k = kept_at u.facts (is_target u (suc n)) k (slice_get u.steps n)

-- ## Outputs

unfoldable pub stage_after : Option ℤ → Step → Option ℤ
stage_after now (Acts (Starts way layout controls) ps m) = unit_of ps
stage_after now (Acts Finishes ps m) = None
stage_after now st = now

unfoldable pub stage_behind : Bool → Option ℤ → Option Step → Option ℤ
stage_behind false now (Some st) = stage_after now st
stage_behind reached now st = None

unfoldable pub stage_at : Text → ℕ → Option ℤ
stage_at u zero = None
stage_at u (suc n) = stage_behind (is_target u (suc n)) (stage_at u n) (slice_get u.steps n)

-- does an output go on where a step takes an item, or ends one
unfoldable pub is_on : Step → Option ℤ → Bool
is_on (Acts Takes ps m) stage = is_some stage
is_on (Acts Finishes ps m) stage = is_some stage
is_on st stage = true

unfoldable pub are_on : Text → ℕ → List Step → Bool
are_on u n [] = true
are_on u n (st ∷ later) = is_on st (stage_at u n) && are_on u (suc n) later

unfoldable pub flow_opened : Unit {0}
unfolding target_in targets_on targets_of targets_from is_target kept_type kept_at kind_at stage_after stage_behind stage_at is_on are_on
flow_opened = tt
