-- Structured C statements for flat items by their names: a test that passes the items behind it is an `if`, with an `else` where it is said that the
-- last of them passes the other arm; an item that picks one of the jumps behind it is a `switch`; a loop that is said to begin at an item is a `for`,
-- or an assignment and a `do` where its test stands behind the turn; labels stand where it is said that they do. C89, 3.6.
use Rattle.std.specs.Prelude.{ℕ, ℤ, zero, suc, ◌+◌, ◌-◌, pos, nat_eq, nat_lt, nat_le, Bool, false, ◌&&◌, List, [], ◌∷◌, map, length, take, drop, Option, Some, None, is_none, slice_get, if◌then◌else◌}
use Rattle.std.specs.Ordering.{int_eq}
use Rattle.c_tree.specs.declared.expression.CExpr.{CExpr, Binary', more_of-CExpr}
use Rattle.c_tree.specs.declared.expression.BinaryOp.{BinaryOp}
use Rattle.c_tree.specs.declared.expression.BinaryOp.TheVariants as op
use Rattle.c_tree.specs.declared.statement.CCase.{CCase}
use Rattle.c_tree.specs.declared.statement.CNext.{CNext}
use Rattle.c_tree.specs.declared.statement.CNext.TheVariants as next
use Rattle.c_tree.specs.declared.statement.CStmt.{CStmt}
use Rattle.c_tree.specs.declared.statement.CStmt.TheVariants as stmt
use Rattle.c_structure.specs.Statements.{with_label, case_by, before_cases, are_case_numbers}
use Rattle.named_items.specs.declared.item.Callee.{Callee}
use Rattle.named_items.specs.declared.item.Case.{Case}
use Rattle.named_items.specs.declared.item.Item.{Item}
use Rattle.named_items.specs.declared.item.Item.TheVariants.{Assign, Branch, Select, Jump, Call, SetCall, Return, Nothing}
use Rattle.named_items.specs.declared.part.Head.{Head}
use Rattle.named_items.specs.declared.part.Part.{Part}
use Rattle.named_items.specs.Layouts.{Layout}
use Rattle.named_items.specs.SamePlaces.{same_expr, number_in}

-- how the items behind are written, from a position on
abbrev pub Writer : Type 0
Writer = ℕ → List Item → Option (List CStmt)

-- a statement to which so many items behind the first belong
abbrev pub part : CStmt → ℕ → Part
part s n = record { statement = s; taken = n }

-- a jump to a label, where there is one
unfoldable pub goto_label : Option (List ℕ) → Option CStmt
goto_label None = None
goto_label (Some name) = Some (stmt.Goto name)

-- a call of a function
unfoldable pub call_of : Callee → List CExpr → CStmt
call_of callee arguments = stmt.Call (record { through = callee.through; name = callee.name; arguments = arguments })

-- a call of a function, whose value is stored
unfoldable pub set_call_of : CExpr → Callee → List CExpr → CStmt
set_call_of target callee arguments = stmt.SetCall target (record { through = callee.through; name = callee.name; arguments = arguments })

-- the statement of one item
unfoldable pub statement_of : Layout → Item → Option CStmt
statement_of l (Assign a b) = Some (stmt.Set a b)
statement_of l (Branch test on off) = None
statement_of l (Select value cases otherwise) = None
statement_of l (Jump position) = goto_label (l.label position)
statement_of l (Call callee arguments) = Some (call_of callee arguments)
statement_of l (SetCall target callee arguments) = Some (set_call_of target callee arguments)
statement_of l (Return value) = Some (stmt.Return value)
statement_of l Nothing = Some stmt.Empty

-- a statement to which no items behind the first belong
unfoldable pub alone : Option CStmt → Option Part
alone None = None
alone (Some s) = Some (part s 0)

-- ## Tests

-- an `if` whose block has so many items
unfoldable pub if_by : CExpr → ℕ → Option (List CStmt) → Option Part
if_by test size None = None
if_by test size (Some first) = Some (part (stmt.If test first None) size)

-- an `if` with an `else`, whose blocks and the jump between them are so many items
unfoldable pub if_else_by : CExpr → ℕ → Option (List CStmt) → Option (List CStmt) → Option Part
if_else_by test size (Some first) (Some second) = Some (part (stmt.If test first (Some second)) size)
if_else_by test size _ _ = None

-- where the jump at the end of an arm goes
unfoldable pub end_of_arm : Option Item → Option ℕ
end_of_arm (Some (Jump position)) = Some position
end_of_arm item = None

-- a test that passes so many items
unfoldable pub one_arm : Writer → ℕ → CExpr → ℕ → List Item → Option Part
one_arm write n test size later = if_by test size (write (n + 1) (take size later))

-- a test that passes so many items and a jump, with another arm of so many behind it
unfoldable pub two_arms : Writer → ℕ → CExpr → ℕ → ℕ → List Item → Option Part
two_arms write n test size other later =
    if_else_by test (size + 1 + other) (write (n + 1) (take size later)) (write (n + size + 2) (take other (drop (size + 1) later)))

-- the other arm reaches to the position to which the first one jumps at its end
unfoldable pub arms_for : Writer → ℕ → CExpr → ℕ → Option ℕ → List Item → Option Part
arms_for write n test size None later = None
arms_for write n test size (Some end) later =
    if nat_le (n + size + 2) end && nat_le (end - (n + size + 2)) (length later - (size + 1)) then two_arms write n test size (end - (n + size + 2)) later else None

-- a test that passes so many items, the last of which may be a jump over another arm
unfoldable pub branch_for : Layout → Writer → ℕ → CExpr → ℕ → List Item → Option Part
branch_for l write n test size later =
    if nat_lt 0 size && l.ends_arm (n + size) then arms_for write n test (size - 1) (end_of_arm (slice_get later (size - 1))) later else one_arm write n test size later

-- a test that goes on behind it or at a later position
unfoldable pub test_for : Layout → Writer → ℕ → CExpr → ℕ → ℕ → List Item → Option Part
test_for l write n test on off later =
    if nat_eq on (n + 1) && (nat_le (n + 1) off && nat_le (off - (n + 1)) (length later)) then branch_for l write n test (off - (n + 1)) later else None

-- ## Cases

-- the case that an item at a position is the jump of, where no label stands before it
unfoldable pub case_for : Layout → ℕ → Case → Item → Option CCase
case_for l n case (Jump position) = if nat_eq case.position n && is_none (l.label n) then case_by case.number (l.label position) else None
case_for l n case item = None

-- the cases whose jumps are the first items from a position on, in their order
unfoldable pub cases_for : Layout → ℕ → List Case → List Item → Option (List CCase)
cases_for l n [] later = Some []
cases_for l n (case ∷ cases) [] = None
cases_for l n (case ∷ cases) (item ∷ later) = before_cases (case_for l n case item) (cases_for l (n + 1) cases later)

-- a `switch` to which so many jumps belong
unfoldable pub switch_by : CExpr → ℕ → Option (List CCase) → Option Part
switch_by value size None = None
switch_by value size (Some cases) = Some (part (stmt.Switch value cases) size)

-- a value that picks one of so many jumps, which stand at once behind it
unfoldable pub switch_for : Layout → ℕ → CExpr → List Case → ℕ → List Item → Option Part
switch_for l n value cases otherwise later =
    if nat_eq otherwise (n + 1 + length cases) && are_case_numbers (map (λ (case : Case). case.number) cases) then switch_by value (length cases) (cases_for l (n + 1) cases later) else None

-- an item that begins no loop
unfoldable pub plain_for : Layout → Writer → ℕ → Item → List Item → Option Part
plain_for l write n (Branch test on off) later = test_for l write n test on off later
plain_for l write n (Select value cases otherwise) later = switch_for l n value cases otherwise later
plain_for l write n item later = alone (statement_of l item)

-- ## Loops

-- the operands of an operator that adds
unfoldable pub added_in : BinaryOp → CExpr → CExpr → Option (CExpr × CExpr)
added_in op.Add a b = Some (a, b)
added_in other a b = None

-- the two operands of a sum
unfoldable pub sum_in : CExpr → Option (CExpr × CExpr)
sum_in (Binary' op s (more_of-CExpr a r) t (more_of-CExpr b q)) = added_in op a b
sum_in e = None

-- whether an expression is the number 1
unfoldable pub is_one : Option ℤ → Bool
is_one (Some z) = int_eq z (pos 1)
is_one None = false

-- what is done behind each turn: the variable grows by 1, or by an amount
unfoldable pub next_by : CExpr → CExpr → CNext
next_by variable amount = if is_one (number_in amount) then next.Up variable else next.Add variable amount

-- where the variable grows
unfoldable pub next_from : CExpr → CExpr → Option (CExpr × CExpr) → Option CNext
next_from variable target None = None
next_from variable target (Some sum) = if same_expr variable target && same_expr variable sum.0 then Some (next_by target sum.1) else None

-- what the item behind a turn does to the variable
unfoldable pub next_for : CExpr → Option Item → Option CNext
next_for variable (Some (Assign target value)) = next_from variable target (sum_in value)
next_for variable item = None

-- whether an item jumps to a position
unfoldable pub goes_back : ℕ → Option Item → Bool
goes_back n (Some (Jump position)) = nat_eq position n
goes_back n item = false

-- no label stands before the test, the growth and the jump back
unfoldable pub is_unmarked : Layout → ℕ → ℕ → Bool
is_unmarked l n size = is_none (l.label (n + 1)) && (is_none (l.label (n + size + 2)) && is_none (l.label (n + size + 3)))

-- a test at once behind the first item, so many items of a turn, one more, and the jump back; no label stands but in the turn
unfoldable pub is_loop : Layout → ℕ → ℕ → ℕ → ℕ → List Item → Bool
is_loop l n size on off later =
    nat_le (size + 2) (length later) && (nat_eq on (n + 2) && (nat_eq off (n + size + 4) && (goes_back (n + 1) (slice_get later (size + 1)) && is_unmarked l n size)))

-- a `for`, to which the test, so many items of a turn, the growth and the jump back belong
unfoldable pub for_by : Head → ℕ → Option CNext → Option (List CStmt) → Option Part
for_by head size (Some next) (Some turn) = Some (part (stmt.For head.variable head.first head.test next turn) (size + 3))
for_by head size _ _ = None

-- a loop with its head, behind the test
unfoldable pub turns_for : Writer → ℕ → ℕ → Head → List Item → Option Part
turns_for write n size head later = for_by head size (next_for head.variable (slice_get later size)) (write (n + 2) (take size later))

-- a loop whose variable is first set by an item, with the test behind it
unfoldable pub head_for : Layout → Writer → ℕ → ℕ → CExpr → CExpr → List Item → Option Part
head_for l write n size variable first (Branch test on off ∷ later) =
    if is_loop l n size on off later then turns_for write n size (record { variable = variable; first = first; test = test }) later else None
head_for l write n size variable first later = None

-- a test behind so many items of a turn, at once behind the first item: back to the first of them where it holds, and else on; no label stands before it
unfoldable pub tests_turn : Layout → ℕ → ℕ → Option Item → Bool
tests_turn l n size (Some (Branch test on off)) = nat_eq on (n + 1) && (nat_eq off (n + size + 2) && is_none (l.label (n + size + 1)))
tests_turn l n size item = false

-- the expression that an item tests
unfoldable pub test_in : Option Item → Option CExpr
test_in (Some (Branch test on off)) = Some test
test_in item = None

-- the first assignment and the `do`, to which so many items of a turn and the test behind them belong
unfoldable pub do_by : CExpr → CExpr → ℕ → Option (List CStmt) → Option CExpr → Option Part
do_by variable first size (Some turn) (Some test) = Some (part (stmt.Block (stmt.Set variable first ∷ stmt.DoWhile turn test ∷ [])) (size + 1))
do_by variable first size _ _ = None

-- a loop whose variable is first set, with the turn at once behind that, and its test behind the turn
unfoldable pub do_for : Writer → ℕ → ℕ → CExpr → CExpr → List Item → Option Part
do_for write n size variable first later = do_by variable first size (write (n + 1) (take size later)) (test_in (slice_get later size))

-- a loop that begins at an item
unfoldable pub loop_for : Layout → Writer → ℕ → ℕ → Item → List Item → Option Part
loop_for l write n size (Assign variable first) later = if tests_turn l n size (slice_get later size) then do_for write n size variable first later else head_for l write n size variable first later
loop_for l write n size item later = None

-- ## Statements

-- an item with those that belong to it
unfoldable pub part_for : Layout → Writer → Option ℕ → ℕ → Item → List Item → Option Part
part_for l write None n item later = plain_for l write n item later
part_for l write (Some size) n item later = loop_for l write n size item later

-- a part whose statement has its label
unfoldable pub marked : Option (List ℕ) → Option Part → Option Part
marked label None = None
marked label (Some p) = Some (part (with_label label p.statement) p.taken)

-- an item with those that belong to it and with its label
unfoldable pub part_at : Layout → Writer → ℕ → Item → List Item → Option Part
part_at l write n item later = marked (l.label n) (part_for l write (l.loop n) n item later)

-- a statement before others
unfoldable pub behind : CStmt → Option (List CStmt) → Option (List CStmt)
behind s None = None
behind s (Some ss) = Some (s ∷ ss)

-- a statement, and those of the items behind it
unfoldable pub onward : Writer → ℕ → List Item → Option Part → Option (List CStmt)
onward write n later None = None
onward write n later (Some p) = behind p.statement (write (n + 1 + p.taken) (drop p.taken later))

-- the statements of the items from a position on, given as many turns as there are items at least
unfoldable pub structured : Layout → ℕ → ℕ → List Item → Option (List CStmt)
structured l turns n [] = Some []
structured l zero n (item ∷ later) = None
structured l (suc turns) n (item ∷ later) = onward (structured l turns) n later (part_at l (structured l turns) n item later)

unfoldable pub structured_opened : Unit {0}
unfolding goto_label call_of set_call_of statement_of alone if_by if_else_by end_of_arm one_arm two_arms arms_for branch_for test_for case_for cases_for switch_by switch_for plain_for added_in sum_in is_one next_by next_from next_for goes_back is_unmarked is_loop for_by turns_for head_for tests_turn test_in do_by do_for loop_for part_for marked part_at behind onward structured
structured_opened = tt
