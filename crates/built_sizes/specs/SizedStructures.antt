-- That statements which are built from items have a flat step for each item. C89, 3.6.
use Rattle.std.specs.Prelude.{◌≡◌, ℕ, List, length, Some}
use Rattle.c_tree.specs.declared.statement.CStmt.{CStmt}
use Rattle.c_tree.specs.FlatForm.{body_of_all}
use Rattle.named_items.specs.declared.item.Item.{Item}
use Rattle.named_items.specs.Layouts.{Layout}
use Rattle.named_items.specs.Structured.{structured}

-- LAW
abbrev pub EachStructureHasASize : Type 0
EachStructureHasASize = (l : Layout) (turns n : ℕ) (items : List Item) (body : List CStmt) → structured l turns n items ≡ Some body → (body_of_all body).size ≡ length items
