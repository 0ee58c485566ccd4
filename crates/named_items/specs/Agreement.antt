-- The statements of items by names are those of the flat items. C89, 3.6.
use Rattle.std.specs.Prelude.{◌≡◌, ℕ, Bool, true, false, ◌&&◌, List, Option, Some, slice_get}
use Rattle.c_tree.specs.declared.expression.CExpr.{CExpr}
use Rattle.c_tree.specs.declared.expression.BinaryOp.TheVariants as op
use Rattle.c_tree.specs.declared.statement.CStmt.{CStmt}
use Rattle.c_tree.specs.Terms.{Term, Between}
use Rattle.c_tree.specs.Flat.{Flat, Assign}
use Rattle.c_structure.specs.Expressions.{Names, expr_for}
use Rattle.c_structure.specs.Statements.{Outline, same_place, statements_for}
use Rattle.named_items.specs.declared.item.Item.{Item}
use Rattle.named_items.specs.Items.{items_for}
use Rattle.named_items.specs.Layouts.{Layout}
use Rattle.named_items.specs.SamePlaces.{same_expr}
use Rattle.named_items.specs.Structured.{structured}

-- what an outline knows besides the names
abbrev pub places_of : Outline → Layout
places_of o = record { label = o.label; ends_arm = o.ends_arm; loop = o.loop }

-- whether two expressions that are there are written alike
unfoldable pub both_alike : Option CExpr → Option CExpr → Bool
both_alike (Some a) (Some b) = same_expr a b
both_alike _ _ = false

-- whether two places are written alike
abbrev pub are_alike : Names → Term → Term → Bool
are_alike names t u = both_alike (expr_for names t) (expr_for names u)

-- the place that an item sets, and those that another item sets and adds to, are the same where they are written alike
pub record TellsPlaces (names : Names) (flats : List Flat) : Type 0 where
  pub tells : (j k : ℕ) (variable first target operand amount : Term) → slice_get flats j ≡ Some (Assign variable first)
      → slice_get flats k ≡ Some (Assign target (Between op.Add operand amount)) → are_alike names variable target ≡ true → are_alike names variable operand ≡ true
      → same_place variable target && same_place variable operand ≡ true

-- LAWS
abbrev pub WrittenAlike : Type 0
WrittenAlike = (a b : CExpr) → same_expr a b ≡ true → a ≡ b

abbrev pub ItemsAreStructured : Type 0
ItemsAreStructured = (o : Outline) (turns n : ℕ) (flats : List Flat) (items : List Item) (body : List CStmt) → items_for o.names flats ≡ Some items
    → TellsPlaces o.names flats → structured (places_of o) turns n items ≡ Some body → statements_for o turns n flats ≡ Some body
