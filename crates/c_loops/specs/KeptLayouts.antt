-- That statements which are built from items keep what is known of these: their loops are those that are said to begin, `for`s, or `do`s where each is
-- tested behind its turn, and their `goto`s and `case`s name the labels that are said to stand. C89, 3.6.4, 3.6.5 and 3.6.6.1.
use Rattle.std.specs.Prelude.{◌≡◌, ℕ, zero, suc, ◌+◌, nat_eq, Bool, true, false, ◌&&◌, List, [], ◌∷◌, length, Option, Some, None, slice_get}
use Rattle.c_tree.specs.declared.statement.CStmt.{CStmt}
use Rattle.c_tree.specs.CLabels.{labels_of_all}
use Rattle.named_items.specs.declared.item.Item.{Item}
use Rattle.named_items.specs.declared.item.Item.TheVariants.{Assign, Branch}
use Rattle.named_items.specs.Layouts.{Layout}
use Rattle.named_items.specs.Structured.{tests_turn, structured}
use Rattle.c_loops.specs.Loops.{loops_by, loops_of_all}

-- ## Where loops begin

-- an item that sets a place
unfoldable pub is_set : Item → Bool
is_set (Assign place value) = true
is_set item = false

-- an item that tests, goes on behind it where that holds, and else passes a turn of so many items, the next value of its variable, and the way back
unfoldable pub tests_ahead : ℕ → ℕ → Item → Bool
tests_ahead n size (Branch test on off) = nat_eq on (suc n) && nat_eq off (suc n + (size + 2))
tests_ahead n size item = false

-- the first of some items, if there is one, is such a test
unfoldable pub tests_first : ℕ → ℕ → List Item → Bool
tests_first n size [] = true
tests_first n size (item ∷ later) = tests_ahead n size item

-- the item behind a turn, if there is one, tests and goes back to the turn
unfoldable pub ends_turn : Layout → ℕ → ℕ → Option Item → Bool
ends_turn l n size None = true
ends_turn l n size (Some item) = tests_turn l n size (Some item)

-- a loop begins at an item that sets its variable; its test is the item behind its turn, if there is one, where loops are tested behind each turn alone, and
-- else the one behind the first, if there is one
unfoldable pub begins_well : Layout → Bool → ℕ → Option ℕ → Item → List Item → Bool
begins_well l once n None item later = true
begins_well l true n (Some size) item later = is_set item && ends_turn l n size (slice_get later size)
begins_well l false n (Some size) item later = is_set item && tests_first (suc n) size later

unfoldable pub begin_well : Layout → Bool → ℕ → List Item → Bool
begin_well l once n [] = true
begin_well l once n (item ∷ later) = begins_well l once n (l.loop n) item later && begin_well l once (suc n) later

unfoldable pub one_if : Option ℕ → ℕ
one_if None = 0
one_if (Some size) = 1

-- how many loops begin at so many positions, from one on
unfoldable pub loops_from : (ℕ → Option ℕ) → ℕ → ℕ → ℕ
loops_from loop n zero = 0
loops_from loop n (suc count) = one_if (loop n) + loops_from loop (suc n) count

-- ## Labels

-- each name is the label at a position
pub data AreLabels (l : Layout) : List (List ℕ) → Type 0 where
  no_name : AreLabels l []
  one_name : (position : ℕ) (name : List ℕ) (names : List (List ℕ)) → l.label position ≡ Some name → AreLabels l names → AreLabels l (name ∷ names)

-- ## The whole

-- statements have a loop of one kind for each loop that begins, and name labels that stand at positions
pub record IsKept (l : Layout) (once : Bool) (n : ℕ) (items : List Item) (body : List CStmt) : Type 0 where
  pub loops : loops_of_all body ≡ loops_by once (loops_from l.loop n (length items))
  pub named : AreLabels l (labels_of_all body).named

-- LAW
abbrev pub EachStructureIsKept : Type 0
EachStructureIsKept =
    (l : Layout) (once : Bool) (turns n : ℕ) (items : List Item) (body : List CStmt) → begin_well l once n items ≡ true → structured l turns n items ≡ Some body → IsKept l once n items body

unfoldable pub kept_layouts_opened : Unit {0}
unfolding is_set tests_ahead tests_first ends_turn begins_well begin_well one_if loops_from
kept_layouts_opened = tt
