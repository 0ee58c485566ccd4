-- The first of some refusals.
use Rattle.std.specs.Prelude.{◌≡◌, List, [], Option, Some, None}
use Rattle.f_tree.specs.declared.refusals.Refusal.{Refusal}
use Rattle.f_tree.specs.RefusalRows.{IsNotAfter}
use Rattle.f_tree.specs.Setting.{IsIn}

-- The first of some refusals, or none.
abbrev pub IsFirstAmong : List Refusal → Option Refusal → Type 0
IsFirstAmong rows None = rows ≡ []
IsFirstAmong rows (Some r) = IsIn r rows × ((q : Refusal) → IsIn q rows → IsNotAfter r q)
