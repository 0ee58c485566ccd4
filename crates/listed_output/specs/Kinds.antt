-- What the items of a call of list-directed output are (ANSI X3.9-1978, 12.8.2).
use Rattle.std.specs.Prelude.{ℕ, nat_eq, Bool, true}
use Rattle.c_tree.specs.TransferOutput.{ItemKind, IntegerItem, LogicalItem, TextItem}
use Rattle.listed_output.specs.declared.kinds.ItemType.{ItemType}
use Rattle.listed_output.specs.declared.kinds.ItemType.TheVariants as kind

abbrev pub kind_shown : ItemType → ItemKind
kind_shown kind.Integer = IntegerItem
kind_shown kind.Logical = LogicalItem
kind_shown kind.Text = TextItem

-- a number has four bytes
abbrev pub has_size : ItemKind → ℕ → Bool
has_size IntegerItem size = nat_eq size 4
has_size LogicalItem size = nat_eq size 4
has_size TextItem size = true
