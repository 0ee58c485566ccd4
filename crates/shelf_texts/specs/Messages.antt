-- What a message does to a shelf: its line goes on Fault, whole where nothing failed, else a front of it.
use Rattle.std.specs.Prelude.{◌≡◌, ℕ, ◌≤◌, List, option_map}
use Rattle.f2c_outside.specs.declared.shelves.Place.TheVariants.{Fault}
use Rattle.f2c_outside.specs.Shelf.{ShelfState, Contents, Quiet, added}
use Rattle.shelf_texts.specs.ShelfLoops.{IsFront}

-- from one state of the shelf to another a front of the line went on Fault
pub record Said (line : List ℕ) (b a : ShelfState) : Type 0 where
  pub later : b.faults ≤ a.faults
  pub part : List ℕ
  pub front : IsFront part line
  pub put : a.told ≡ option_map (added Fault part) b.told
  pub whole : Quiet b.faults a.faults → a.told ≡ option_map (added Fault line) b.told

-- the contents gained a front of the line on Fault and nothing else: the whole line where the count of
-- faults did not rise from `before` to `after`
pub record Gained (line : List ℕ) (before after : ℕ) (b a : Contents) : Type 0 where
  pub part : List ℕ
  pub front : IsFront part line
  pub put : a ≡ added Fault part b
  pub whole : Quiet before after → a ≡ added Fault line b
