-- Which units a call of the library leaves as they were (ANSI X3.9-1978, 12.2.1, 12.3 and 12.8).
use Rattle.std.specs.Prelude.{◌≡◌, ℤ, Option, Some, None}
use Rattle.c_tree.specs.run_state.Units.{Units, is_connected}
use Rattle.c_tree.specs.World as media
use Rattle.c_tree.specs.World.{Direction, Output, Input, Layout, Formatted, Listed, Medium, Transfer}

-- all units but one stand as they did, and the files that can be opened are the same; the one is connected exactly if it was: what it holds then, and
-- where it stands, is not said
pub record OthersStand (unit : ℤ) (before after : Units) : Type 0 where
  pub others : (other : ℤ) → (other ≡ unit → ⊥) → after.connected other ≡ before.connected other
  pub files : after.drawer ≡ before.drawer
  pub connected : is_connected unit after ≡ is_connected unit before

-- a call of a transfer that breaks: on an internal file, and in list-directed output, no unit has changed; else all units but that of the transfer stand as
-- they did
abbrev pub KeepsOn : Direction → Layout → Medium → Units → Units → Type 0
KeepsOn direction layout (media.Internal file) before after = after ≡ before
KeepsOn Output Listed (media.Unit unit) before after = after ≡ before
KeepsOn Output (Formatted format) (media.Unit unit) before after = OthersStand unit before after
KeepsOn Input layout (media.Unit unit) before after = OthersStand unit before after

-- and by a call of none no unit has changed
abbrev pub KeepsIn : Option Transfer → Units → Units → Type 0
KeepsIn None before after = after ≡ before
KeepsIn (Some transfer) before after = KeepsOn transfer.direction transfer.layout transfer.medium before after
