-- The positions of labels in a table (C89, 3.6.1).
use Rattle.std.specs.Prelude.{◌≡◌, ℕ, ◌+◌, List}
use Rattle.c_tree.specs.FlatForm.{LabelAt, position_of}
use Rattle.first_names.specs.FirstNames.{first_of, or_later}
use Rattle.first_names.specs.declared.FirstNames.{FirstNames}

-- labels of so many items from a position on, that are put into a table behind those before, and the position behind the items
pub record Marked (labels : List LabelAt) (size position behind : ℕ) (before now : FirstNames ℕ) : Type 0 where
  pub given : (q : List ℕ) → first_of now q ≡ or_later (first_of before q) (position_of labels q)
  pub place : behind ≡ position + size
