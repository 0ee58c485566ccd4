-- Units that are kept.
use Rattle.std.proofs.Common.{◌≡◌, ℤ, Option, Some, None, refl, subst}
use Rattle.c_tree.specs.run_state.Units.{Units}
use Rattle.c_tree.specs.World as media
use Rattle.c_tree.specs.World.{Direction, Output, Input, Layout, Formatted, Listed, Medium, Transfer}
use Rattle.run_library.specs.Kept.{OthersStand, KeepsOn, KeepsIn}

pub all-stand : (unit : ℤ) (units : Units) → OthersStand unit units units
all-stand unit units = record { others = λ other differs. refl; files = refl; connected = refl }

-- where none has changed
same-on : (direction : Direction) (layout : Layout) (medium : Medium) (units : Units) → KeepsOn direction layout medium units units
same-on Output Listed (media.Unit unit) units = refl
same-on Output (Formatted format) (media.Unit unit) units = all-stand unit units
same-on Input layout (media.Unit unit) units = all-stand unit units
same-on Output Listed (media.Internal file) units = refl
same-on Output (Formatted format) (media.Internal file) units = refl
same-on Input layout (media.Internal file) units = refl

pub same-kept : (transfer : Option Transfer) (before after : Units) → after ≡ before → KeepsIn transfer before after
same-kept transfer before after same = subst (λ (units : Units). KeepsIn transfer units after) same (by transfer)
  where
    by : (one : Option Transfer) → KeepsIn one after after
    by None = refl
    by (Some going) = same-on going.direction going.layout going.medium after
