-- The items of a call as bytes, one behind the other (ANSI X3.9-1978, 12.8.2).
use Rattle.std.specs.Prelude.{◌≡◌, ℕ, zero, suc, ◌*◌, ◌≤◌, pos, not, List, [], ◌∷◌, length, take, drop, Result, Ok, Err}
use Rattle.std.specs.Ordering.{int_eq}
use Rattle.c_tree.specs.declared.outcome.CValue.{CValue}
use Rattle.c_tree.specs.declared.outcome.CFault.{CFault}
use Rattle.c_tree.specs.Faults.{Or, after, failing}
use Rattle.c_tree.specs.Objects.{Object, number_from}
use Rattle.c_tree.specs.TransferOutput.{ItemKind, IntegerItem, LogicalItem, TextItem, items_at}
use Rattle.c_tree.specs.edit_meaning.Listed.{ListedValue, Int, Logical, Text}
use Rattle.listed_output.specs.declared.kinds.ItemList.{ItemList}
use Rattle.listed_output.specs.Items.{list_shown, items_given}
use Rattle.listed_output.specs.Kinds.{kind_shown}

-- the value of an item that some bytes hold
abbrev pub value_in : ItemKind → List ℕ → ListedValue
value_in IntegerItem bytes = Int (number_from bytes)
value_in LogicalItem bytes = Logical (not (int_eq (number_from bytes) (pos 0)))
value_in TextItem bytes = Text bytes

-- so many items of a size, one behind the other
abbrev pub values_in : ItemKind → ℕ → ℕ → List ℕ → List ListedValue
values_in kind size zero bytes = []
values_in kind size (suc count) bytes = value_in kind (take size bytes) ∷ values_in kind size count (drop size bytes)

-- the items that the first `used` bytes of a buffer hold
abbrev pub items_held : ItemList → List ℕ → ℕ → List ListedValue
items_held list buffer used = values_in (kind_shown list.kind) list.size list.count (take used buffer)

-- the front of a buffer holds as many bytes as some items have
abbrev pub HasItems : ItemList → List ℕ → ℕ → Type 0
HasItems list buffer used = (used ≡ list.count * list.size) × (used ≤ length buffer)

-- the front of a buffer holds the items, or the first that is not there has this fault
abbrev pub AreGathered : ItemList → Or (List ListedValue) → List ℕ → Result ℕ CFault → Type 0
AreGathered list items buffer (Ok used) = (items ≡ Ok (items_held list buffer used)) × HasItems list buffer used
AreGathered list items buffer (Err fault) = items ≡ failing fault

-- the front of a buffer holds all items of a call, or the call has this fault
abbrev pub IsReady : List Object → CValue → CValue → CValue → CValue → List ℕ → Result (ItemList × ℕ) CFault → Type 0
IsReady objects kind count first size buffer (Ok given) =
    (items_given objects kind count size ≡ Ok (list_shown given.0))
    × (items_at (kind_shown given.0.kind) objects given.0.size given.0.count first ≡ Ok (items_held given.0 buffer given.1)) × HasItems given.0 buffer given.1
IsReady objects kind count first size buffer (Err fault) =
    after (items_given objects kind count size) (λ given. items_at given.kind objects given.size given.count first) ≡ failing fault
