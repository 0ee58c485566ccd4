-- The statements of a main program's function from its items by names: an item for each lowered step, and the statements that they have.
-- ANSI X3.9-1978, sections 10 to 12; C89, 3.6.
use Rattle.std.specs.Prelude.{ℕ, suc, List, [], ◌∷◌, length, Option, Some, None, option_and_then, if◌then◌else◌}
use Rattle.main_translation.specs.f_tree.Facts.{ProgramUnit}
use Rattle.main_translation.specs.l_core.Steps.{Step, Text}
use Rattle.main_translation.specs.c_tree.declared.statement.CStmt.{CStmt}
use Rattle.main_translation.specs.Flow.{kind_at, are_on}
use Rattle.main_translation.specs.Contents.{inventory_of, first_objects}
use Rattle.main_translation.specs.Outlined.{if_returned, outline_of}
use Rattle.item_emission.specs.named_items.declared.item.Item.{Item}
use Rattle.item_emission.specs.named_items.Agreement.{places_of}
use Rattle.item_emission.specs.named_items.Layouts.{Layout}
use Rattle.item_emission.specs.named_items.Structured.{structured}
use Rattle.item_emission.specs.NamedEmission.{Knowledge, Kinds, item_step}
use Rattle.item_emission.specs.Agreeing.{known_in}

-- the items of steps from a position on; none where a step is not emitted
unfoldable pub item_ahead : Option Item → Option (List Item) → Option (List Item)
item_ahead (Some item) (Some later) = Some (item ∷ later)
item_ahead _ _ = None

unfoldable pub items_from : Knowledge → (ℕ → Kinds) → ℕ → List Step → Option (List Item)
items_from known kinds n [] = Some []
items_from known kinds n (st ∷ later) = item_ahead (item_step known (kinds n) n st) (items_from known kinds (suc n) later)

-- the statements that items have
unfoldable pub statements_of : Layout → List Item → Option (List CStmt)
statements_of layout items = option_and_then if_returned (structured layout (length items) 0 items)

-- the statements of a unit with its text, none where they have no structure or an output is not in progress where it goes on
unfoldable pub named_body_of : ProgramUnit → Text → Option (List CStmt)
named_body_of unit u =
    if are_on u 0 u.steps then
    option_and_then (statements_of (places_of (outline_of (inventory_of unit u) (first_objects (inventory_of unit u)) u))) (items_from (known_in (inventory_of unit u) u.facts u.position) (kind_at u) 0 u.steps)
    else None

unfoldable pub named_mains_opened : Unit {0}
unfolding item_ahead items_from statements_of named_body_of
named_mains_opened = tt
