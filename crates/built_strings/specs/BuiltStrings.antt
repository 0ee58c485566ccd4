-- The bytes of the strings of items, and that statements which are built from these have no more. C89, 3.1.4 and 3.6.
use Rattle.std.specs.Prelude.{◌≡◌, ℕ, suc, ◌+◌, ◌≤◌, List, [], ◌∷◌, length, Option, Some, None}
use Rattle.c_tree.specs.declared.expression.CExpr.{CExpr}
use Rattle.c_tree.specs.declared.statement.CStmt.{CStmt}
use Rattle.c_tree.specs.LinkedExpressions.{linked, linked_all}
use Rattle.c_tree.specs.FlatForm.{body_of_all}
use Rattle.named_items.specs.declared.item.Item.{Item}
use Rattle.named_items.specs.declared.item.Item.TheVariants.{Assign, Branch, Select, Jump, Call, SetCall, Return, Nothing}
use Rattle.named_items.specs.Layouts.{Layout}
use Rattle.named_items.specs.Structured.{structured}

-- strings, each with a zero byte
unfoldable pub texts_bytes : List (List ℕ) → ℕ
texts_bytes [] = 0
texts_bytes (text ∷ later) = suc (length text) + texts_bytes later

unfoldable pub expression_bytes : CExpr → ℕ
expression_bytes e = texts_bytes (linked e).strings

unfoldable pub expressions_bytes : List CExpr → ℕ
expressions_bytes es = texts_bytes (linked_all es).strings

unfoldable pub returned_bytes : Option CExpr → ℕ
returned_bytes None = 0
returned_bytes (Some e) = expression_bytes e

-- the strings of what an item mentions
unfoldable pub item_bytes : Item → ℕ
item_bytes (Assign target value) = expression_bytes target + expression_bytes value
item_bytes (Branch test on off) = expression_bytes test
item_bytes (Select value cases otherwise) = expression_bytes value
item_bytes (Jump position) = 0
item_bytes (Call callee arguments) = expressions_bytes arguments
item_bytes (SetCall target callee arguments) = expression_bytes target + expressions_bytes arguments
item_bytes (Return value) = returned_bytes value
item_bytes Nothing = 0

unfoldable pub items_bytes : List Item → ℕ
items_bytes [] = 0
items_bytes (item ∷ later) = item_bytes item + items_bytes later

-- LAW
abbrev pub EachStructureHasItsStrings : Type 0
EachStructureHasItsStrings = (l : Layout) (turns n : ℕ) (items : List Item) (body : List CStmt) → structured l turns n items ≡ Some body → texts_bytes (body_of_all body).items.strings ≤ items_bytes items

unfoldable pub built_strings_opened : Unit {0}
unfolding texts_bytes expression_bytes expressions_bytes returned_bytes item_bytes items_bytes
built_strings_opened = tt
