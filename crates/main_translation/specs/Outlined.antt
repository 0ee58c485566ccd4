-- The statements of a main program's function: labels where branches go, arms and loops where the marks of its lowered text are. C89, 3.6; CSTR 149.
use Rattle.std.specs.List.{list_any}
use Rattle.std.specs.Prelude.{ℕ, suc, nat_eq, nat_lt, Bool, true, false, ◌&&◌, List, [], ◌∷◌, length, drop, position, Option, Some, None, is_none, option_and_then, slice_get, if◌then◌else◌}
use Rattle.main_file.specs.f_tree.Facts.{ProgramUnit}
use Rattle.main_file.specs.f_tree.CNames.{made_name, StatementLabel, MadeLabel}
use Rattle.main_file.specs.l_core.Steps.{Step, Unless, AgainIf, Skip, Jump, Way, Mark, Marked, OpensLoop, OpensLoopOnce, OpensWhile, Text}
use Rattle.main_file.specs.c_tree.declared.statement.CStmt as stmt
use Rattle.main_file.specs.c_tree.declared.statement.CStmt.{CStmt}
use Rattle.main_file.specs.c_tree.Flat.{Flat}
use Rattle.main_file.specs.c_structure.Statements.{Outline, statements_for}
use Rattle.main_file.specs.MainFile.{Inventory, Bases, names_of, writing_of}
use Rattle.main_file.specs.MainItems.{flats_from}
use Rattle.main_translation.specs.Flow.{kind_at, are_on}
use Rattle.main_translation.specs.Contents.{inventory_of, first_objects}

-- ## Labels

-- the labels to which steps branch
unfoldable pub labels_in : List Step → List ℕ
labels_in [] = []
labels_in (Jump label ∷ later) = label ∷ labels_in later
labels_in (Way label ∷ later) = label ∷ labels_in later
labels_in (st ∷ later) = labels_in later

unfoldable pub stands_at : Option ℕ → ℕ → Bool
stands_at None n = false
stands_at (Some m) n = nat_eq m n

-- the first of some labels that stands before a step
unfoldable pub label_before : (ℕ → Option ℕ) → ℕ → List ℕ → Option ℕ
label_before place n [] = None
label_before place n (label ∷ later) = if stands_at (place label) n then Some label else label_before place n later

-- where the loops begin that go by a condition alone
unfoldable pub opens_while : Mark → Bool
opens_while OpensWhile = true
opens_while mark = false

unfoldable pub whiles_in : List Marked → List ℕ
whiles_in [] = []
whiles_in (one ∷ later) = if opens_while one.mark then one.at ∷ whiles_in later else whiles_in later

-- a statement label where one is branched to, else a made one where such a loop begins
unfoldable pub name_by : Option ℕ → Option ℕ → Option (List ℕ)
name_by (Some label) place = Some (made_name (StatementLabel label))
name_by None (Some k) = Some (made_name (MadeLabel (suc k)))
name_by None None = None

unfoldable pub label_at : Text → ℕ → Option (List ℕ)
label_at u n = if nat_lt n (length u.steps) then name_by (label_before u.position n (labels_in u.steps)) (position (nat_eq n) (whiles_in u.marks)) else None

-- ## Arms and loops

unfoldable pub passes_arms : Option Step → Bool
passes_arms (Some (Skip m)) = true
passes_arms st = false

unfoldable pub is_opening : Mark → Bool
is_opening OpensLoop = true
is_opening mark = false

unfoldable pub opens_loop : ℕ → Marked → Bool
opens_loop n one = is_opening one.mark && nat_eq one.at n

-- the test of a loop passes its turn, the next value of its variable, and the way back
unfoldable pub turn_of : Option Step → Option ℕ
turn_of (Some (Unless p (suc (suc size)))) = Some size
turn_of st = None

unfoldable pub is_opening_once : Mark → Bool
is_opening_once OpensLoopOnce = true
is_opening_once mark = false

unfoldable pub opens_once : ℕ → Marked → Bool
opens_once n one = is_opening_once one.mark && nat_eq one.at n

-- does a step test behind so many others, and go back to the first of them
unfoldable pub goes_back_by : ℕ → Step → Bool
goes_back_by count (AgainIf p m) = nat_eq m count
goes_back_by count st = false

-- the turn of a loop that is tested behind it reaches to the first step that goes back to its begin, so many steps before these
unfoldable pub turn_behind : ℕ → List Step → Option ℕ
turn_behind count [] = None
turn_behind count (st ∷ later) = if goes_back_by count st then Some count else turn_behind (suc count) later

-- a loop whose variable is set by a step, with the test at once behind that, or behind the turn alone
unfoldable pub loop_at : Text → ℕ → Option ℕ
loop_at u n =
    if list_any (opens_loop (suc n)) u.marks then turn_of (slice_get u.steps (suc n)) else if list_any (opens_once (suc n)) u.marks then turn_behind 0 (drop (suc n) u.steps) else None

abbrev pub outline_of : Inventory → Bases → Text → Outline
outline_of v b u = record {
  names = names_of v b;
  label = label_at u;
  ends_arm = λ n. passes_arms (slice_get u.steps n) && is_none (label_at u n);
  loop = loop_at u;
}

-- ## The statements

unfoldable pub returns : CStmt → Bool
returns (stmt.Return value) = true
returns (stmt.Label' name shape (stmt.more_of-CStmt statement stmt.end_of-CStmt)) = returns statement
returns other = false

-- the last statement is a return
unfoldable pub returns_last : List CStmt → Bool
returns_last [] = false
returns_last (last ∷ []) = returns last
returns_last (first ∷ second ∷ later) = returns_last (second ∷ later)

unfoldable pub if_returned : List CStmt → Option (List CStmt)
if_returned body = if returns_last body then Some body else None

abbrev pub items_of : ProgramUnit → Text → Option (List Flat)
items_of unit u = flats_from (writing_of (inventory_of unit u) (first_objects (inventory_of unit u)) u.facts (kind_at u)) u.position 0 u.steps

-- none where a step is not emitted yet, or where the steps have no structure
unfoldable pub body_of : ProgramUnit → Text → Option (List CStmt)
body_of unit u =
    if are_on u 0 u.steps then
    option_and_then if_returned
    (option_and_then (λ items. statements_for (outline_of (inventory_of unit u) (first_objects (inventory_of unit u)) u) (length items) 0 items) (items_of unit u))
    else None

unfoldable pub outlined_opened : Unit {0}
unfolding labels_in stands_at label_before opens_while whiles_in name_by label_at passes_arms is_opening opens_loop turn_of is_opening_once opens_once goes_back_by turn_behind loop_at returns returns_last if_returned body_of
outlined_opened = tt
