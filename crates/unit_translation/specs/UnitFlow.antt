-- What is known before each step of the lowered text of a unit that calls others: the type of what a temporary holds, a function's value among them,
-- whether an output goes on where one must, and none where the unit returns, and whether the type of what is kept is known. ANSI X3.9-1978, sections 4.1,
-- 6.4, 11, 12.9, 15.5 and 15.8.
use Rattle.std.specs.Prelude.{ℕ, zero, suc, nat_eq, ℤ, Bool, true, false, ◌&&◌, List, [], ◌∷◌, Option, Some, None, is_some, is_none, slice_get, if◌then◌else◌}
use Rattle.main_translation.specs.f_tree.declared.names.Basic.{Basic}
use Rattle.main_translation.specs.f_tree.Facts.{Facts}
use Rattle.main_translation.specs.l_core.Pures.{Pure, Temporary}
use Rattle.main_translation.specs.l_core.Steps.{Step, Keep, CallFor, Back, BackBy, Text}
use Rattle.unit_sites.specs.procedure_emission.ProcedureItems.{basic_wanted}
use Rattle.main_translation.specs.Flow.{is_target, kept_type, kept_at, stage_at, is_on}

-- ## Temporaries

-- the type of a value that is kept by the step before, or of what a function gives; a subroutine gives the number of its alternate return
unfoldable pub kept_behind : Facts → Bool → ℕ → Option Step → Option Basic
kept_behind c false k (Some (CallFor j callee ps)) = if nat_eq k j then basic_wanted callee.want else None
kept_behind c reached k st = kept_at c reached k st

-- the type of what a temporary holds that the step before keeps
unfoldable pub kind_before : Text → ℕ → ℕ → Option Basic
kind_before u zero k = None
kind_before u (suc n) k = kept_behind u.facts (is_target u (suc n)) k (slice_get u.steps n)

-- the type of a value before a step
unfoldable pub item_kind : Text → ℕ → Pure → Option Basic
item_kind u n (Temporary k) = kind_before u n k
item_kind u n p = kept_type u.facts p

-- ## Steps in their places

-- an output goes on where a step takes an item or ends one, and none where the unit returns; what is kept is of a type that is known
unfoldable pub is_in_place : Text → ℕ → Step → Option ℤ → Bool
is_in_place u n Back stage = is_none stage
is_in_place u n (BackBy p) stage = is_none stage
is_in_place u n (Keep k p) stage = is_some (item_kind u n p)
is_in_place u n st stage = is_on st stage

unfoldable pub are_in_place : Text → ℕ → List Step → Bool
are_in_place u n [] = true
are_in_place u n (st ∷ later) = is_in_place u n st (stage_at u n) && are_in_place u (suc n) later

unfoldable pub unit_flow_opened : Unit {0}
unfolding kept_behind kind_before item_kind is_in_place are_in_place
unit_flow_opened = tt
