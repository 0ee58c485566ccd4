-- What is left of the items once a builder has taken those that belong to what it built. C89, 3.6.
use Rattle.std.specs.Prelude.{◌≡◌, ℕ, ◌≤◌, List, drop, Option, Some, None}
use Rattle.named_items.specs.declared.item.Item.{Item}
use Rattle.named_items.specs.declared.part.Part.{Part}

-- so many items are taken, where something is built
abbrev pub Leaves : {A : Type 0} → List Item → List Item → ℕ → Option A → Type 0
Leaves old new count None = Unit {0}
Leaves old new count (Some x) = new ≡ drop count old

-- the items of a part are taken, and they are not more than so many
abbrev pub Takes : List Item → List Item → ℕ → Option Part → Type 0
Takes old new count None = Unit {0}
Takes old new count (Some p) = (p.taken ≤ count) × (new ≡ drop p.taken old)
