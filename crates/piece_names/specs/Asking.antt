-- A shelf that is asked for names.
use Rattle.std.specs.Prelude.{◌≡◌, ℕ, ◌<◌, ◌≤◌, Bool, List, Option, Some, None, is_some, if◌then◌else◌}
use Rattle.f2c_outside.specs.Shelf.{Contents, ShelfState, Rose}
use Rattle.split_pieces.specs.ChosenNames.{numbered}
use Rattle.piece_names.specs.declared.choosing.ChoiceFail.{ChoiceFail}
use Rattle.piece_names.specs.declared.choosing.ChoiceFail.TheVariants.{NoMemory, Failed}

-- Whether the files have a name.
abbrev pub has : Contents → List ℕ → Bool
has contents name = is_some (contents.files name)

-- A name, where it is free.
abbrev pub kept_if : Bool → List ℕ → Option (List ℕ)
kept_if free name = if free then Some name else None

-- A shelf before and after it was asked: it tells the same, and what is active stays so.
pub record OnlyAsked (before after : ShelfState) : Type 0 where
  pub told : after.told ≡ before.told
  pub active : after.active ≡ before.active
  pub left : after.left ≡ before.left
  pub faults : before.faults ≤ after.faults

-- Why a name was not chosen: want of memory, or the count of faults rose when the shelf was asked for a name that comes in question.
abbrev pub IsCause : (List ℕ → Type 0) → ℕ → ℕ → ChoiceFail → Type 0
IsCause InQuestion before after NoMemory = Unit {0}
IsCause InQuestion before after (Failed name) = InQuestion name × Rose before after

-- One of the names with a number.
abbrev pub IsNumbered : List ℕ → List ℕ → Type 0
IsNumbered prefix name = (n : ℕ) × (n < 1000) × (name ≡ numbered prefix n)
