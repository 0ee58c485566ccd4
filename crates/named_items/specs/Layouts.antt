-- What is known of flat items besides the items, as functions of a position. C89, 3.6.
use Rattle.std.specs.Prelude.{ℕ, Bool, false, List, Option, slice_get, unwrap_or}
use Rattle.std.specs.Option.{option_flatten}
use Rattle.named_items.specs.declared.layout.Layout as tables

-- the label before the item at a position, whether an item is the jump at the end of an arm, and how many items the turn of a loop has whose variable
-- is first set by an item
pub record Layout : Type 0 where
  pub label : ℕ → Option (List ℕ)
  pub ends_arm : ℕ → Bool
  pub loop : ℕ → Option ℕ

-- the tables as functions
abbrev pub layout_of : tables.Layout → Layout
layout_of tables = record {
  label = λ n. option_flatten (slice_get tables.labels.items n);
  ends_arm = λ n. unwrap_or (slice_get tables.arms.items n) false;
  loop = λ n. option_flatten (slice_get tables.loops.items n);
}
