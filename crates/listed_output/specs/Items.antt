-- The items of a call of list-directed output, as the meaning of C texts has them (ANSI X3.9-1978, 12.8.2).
use Rattle.std.specs.Prelude.{◌≡◌, ℕ, ◌+◌, ◌≤◌, ◌<◌, List, Option, Some, None, Result, Ok, Err, slice_get}
use Rattle.c_tree.specs.declared.outcome.CValue.{CValue}
use Rattle.c_tree.specs.declared.outcome.CValue.TheVariants.{Pointer}
use Rattle.c_tree.specs.declared.outcome.CFault.{CFault}
use Rattle.c_tree.specs.Faults.{Or, after, failing}
use Rattle.c_tree.specs.Objects.{Object, extent}
use Rattle.c_tree.specs.LibraryArguments.{number_through, count_from, length_from}
use Rattle.c_tree.specs.TransferOutput.{ItemKind, item_kind, item_length}
use Rattle.c_tree.specs.edit_meaning.Listed.{ListedValue}
use Rattle.listed_output.specs.declared.kinds.ItemList.{ItemList}
use Rattle.listed_output.specs.Kinds.{kind_shown}

-- the kind of the items, their number, and the bytes of one
pub record Given : Type 0 where
  pub kind : ItemKind
  pub count : ℕ
  pub size : ℕ

abbrev pub list_shown : ItemList → Given
list_shown list = record { kind = kind_shown list.kind; count = list.count; size = list.size }

-- what a call says of its items, in the order in which it is read
abbrev pub items_given : List Object → CValue → CValue → CValue → Or Given
items_given objects kind_pointer count_pointer size_value =
    after (number_through objects kind_pointer) λ kind_number.
    after (number_through objects count_pointer) λ count_number.
    after (item_kind kind_number) λ kind.
    after (count_from count_number) λ count.
    after (length_from size_value) λ given.
    after (item_length kind given) λ size.
    Ok (record { kind = kind; count = count; size = size })

abbrev pub extent_of : Option Object → ℕ
extent_of None = 0
extent_of (Some object) = extent object

-- the bytes of an item stand within their object, if it has any
abbrev pub StandsThere : ℕ → List Object → CValue → Type 0
StandsThere size objects (Pointer object offset) = 0 < size → offset + size ≤ extent_of (slice_get objects object)
StandsThere size objects other = Unit {0}

-- all items are there, or the first that is not has this fault
abbrev pub AreThere : Or (List ListedValue) → Result (Unit {0}) CFault → Type 0
AreThere items (Ok done) = (values : List ListedValue) × (items ≡ Ok values)
AreThere items (Err fault) = items ≡ failing fault
