-- The cases of a `switch`. C89, 3.6.4.2.
use Rattle.std.specs.Prelude.{ℕ, ℤ, Bool, not, ◌&&◌, List, map, Option, Some, None}
use Rattle.std.specs.List.{list_any}
use Rattle.std.specs.Ordering.{int_eq}
use Rattle.c_tree.specs.declared.statement.CCase.{CCase}
use Rattle.c_structure.specs.Statements.{is_case_number}
use Rattle.named_items.specs.declared.item.Case.{Case}
use Rattle.named_items.specs.declared.item.Item.{Item}
use Rattle.named_items.specs.Layouts.{Layout}
use Rattle.named_items.specs.Structured.{case_for}

-- the case that the item at a position is the jump of, where there is one
unfoldable pub case_at : Layout → ℕ → Case → Option Item → Option CCase
case_at l n case None = None
case_at l n case (Some item) = case_for l n case item

-- the numbers of cases, in their order
abbrev pub numbers_of : List Case → List ℤ
numbers_of cases = map (λ (case : Case). case.number) cases

unfoldable pub has_number : ℤ → Case → Bool
has_number number case = int_eq number case.number

-- the number of a case, which has no sign and is none of those behind it
unfoldable pub is_own_number : ℤ → List Case → Bool
is_own_number number later = is_case_number number && not (list_any (has_number number) later)
