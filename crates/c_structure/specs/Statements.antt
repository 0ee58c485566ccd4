-- Structured C statements whose flat form is a given list of items: a test that passes the items behind it is an `if`, with an `else` where it is said
-- that the last of them passes the other arm; an item that picks one of the jumps behind it is a `switch`; a loop that is said to begin at an item is a
-- `for`, or an assignment and a `do` where its test stands behind the turn; labels stand where it is said that they do. None for items that have no
-- statement of their own. C89, 3.6.
use Rattle.std.specs.Prelude.{ℕ, ℤ, zero, suc, ◌+◌, ◌-◌, pos, negsuc, nat_eq, nat_le, Bool, true, false, not, ◌&&◌, List, [], ◌∷◌, ◌++◌, map, length, take, drop, Option, Some, None, is_none, option_map, slice_get, if◌then◌else◌}
use Rattle.std.specs.List.{list_any}
use Rattle.std.specs.Ordering.{int_eq}
use Rattle.c_tree.specs.declared.expression.CExpr.{CExpr}
use Rattle.c_tree.specs.declared.expression.BinaryOp.TheVariants as op
use Rattle.c_tree.specs.declared.expression.UnaryOp.TheVariants as prefix
use Rattle.c_tree.specs.declared.statement.CCase.{CCase}
use Rattle.c_tree.specs.declared.statement.CNext.{CNext}
use Rattle.c_tree.specs.declared.statement.CNext.TheVariants as next
use Rattle.c_tree.specs.declared.statement.CStmt.{CStmt}
use Rattle.c_tree.specs.declared.statement.CStmt.TheVariants as stmt
use Rattle.c_tree.specs.Access.{ToNumber, ToPointer, ToFunction}
use Rattle.c_tree.specs.Terms.{Term, Constant, Variable, Array, Prefixed, Between, Element}
use Rattle.c_tree.specs.Flat.{Flat, Assign, Branch, Select, Jump, Invoke, Return, Nothing, Ignored, Kept, Direct, Through, CaseAt}
use Rattle.c_structure.specs.Expressions.{Names, expr_for, exprs_for, strings_in, strings_in_all}

-- what is known besides the items: names, the label before the item at a position, whether an item is the jump at the end of an arm, and how many items
-- the turn of a loop has whose variable is first set by an item
pub record Outline : Type 0 where
  pub names : Names
  pub label : ℕ → Option (List ℕ)
  pub ends_arm : ℕ → Bool
  pub loop : ℕ → Option ℕ

unfoldable pub set_by : Option CExpr → Option CExpr → Option CStmt
set_by (Some a) (Some b) = Some (stmt.Set a b)
set_by _ _ = None

-- a call of a function by its name, or through a parameter that points to one; its value is not used, or is stored
unfoldable pub call_by : Bool → List ℕ → Option (List CExpr) → Option CStmt
call_by through name arguments = option_map (λ es. stmt.Call (record { through = through; name = name; arguments = es })) arguments

unfoldable pub set_call_by : Bool → List ℕ → Option CExpr → Option (List CExpr) → Option CStmt
set_call_by through name (Some target) (Some es) = Some (stmt.SetCall target (record { through = through; name = name; arguments = es }))
set_call_by through name _ _ = None

-- the statement of one item
unfoldable pub statement_of : Outline → Flat → Option CStmt
statement_of o (Assign t u) = set_by (expr_for o.names t) (expr_for o.names u)
statement_of o (Jump position) = option_map stmt.Goto (o.label position)
statement_of o (Invoke Ignored (Direct k) arguments) = call_by false (o.names.routine k) (exprs_for o.names arguments)
statement_of o (Invoke Ignored (Through (Variable k ToFunction)) arguments) = call_by true (o.names.object k) (exprs_for o.names arguments)
statement_of o (Invoke (Kept t) (Direct k) arguments) = set_call_by false (o.names.routine k) (expr_for o.names t) (exprs_for o.names arguments)
statement_of o (Invoke (Kept t) (Through (Variable k ToFunction)) arguments) = set_call_by true (o.names.object k) (expr_for o.names t) (exprs_for o.names arguments)
statement_of o (Return None) = Some (stmt.Return None)
statement_of o (Return (Some t)) = option_map (λ e. stmt.Return (Some e)) (expr_for o.names t)
statement_of o Nothing = Some stmt.Empty
statement_of o item = None

-- the numbers of the strings in items, from the left
unfoldable pub strings_of_item : Names → Flat → List ℕ
strings_of_item names (Assign t u) = strings_in names t ++ strings_in names u
strings_of_item names (Branch test on off) = strings_in names test
strings_of_item names (Select value cases otherwise) = strings_in names value
strings_of_item names (Invoke Ignored callee arguments) = strings_in_all names arguments
strings_of_item names (Invoke (Kept t) callee arguments) = strings_in names t ++ strings_in_all names arguments
strings_of_item names (Return (Some t)) = strings_in names t
strings_of_item names item = []

unfoldable pub strings_of_items : Names → List Flat → List ℕ
strings_of_items names [] = []
strings_of_items names (item ∷ later) = strings_of_item names item ++ strings_of_items names later

unfoldable pub with_label : Option (List ℕ) → CStmt → CStmt
with_label None s = s
with_label (Some name) s = stmt.Label name s

unfoldable pub before : Option CStmt → Option (List CStmt) → Option (List CStmt)
before (Some s) (Some ss) = Some (s ∷ ss)
before _ _ = None

unfoldable pub if_by : Option CExpr → Option (List CStmt) → Option CStmt
if_by (Some test) (Some first) = Some (stmt.If test first None)
if_by _ _ = None

unfoldable pub if_else_by : Option CExpr → Option (List CStmt) → Option (List CStmt) → Option CStmt
if_else_by (Some test) (Some first) (Some second) = Some (stmt.If test first (Some second))
if_else_by _ _ _ = None

-- where the jump at the end of an arm goes
unfoldable pub end_of_arm : Option Flat → Option ℕ
end_of_arm (Some (Jump position)) = Some position
end_of_arm item = None

-- how the items behind are written, from a position on
abbrev pub Writer : Type 0
Writer = ℕ → List Flat → Option (List CStmt)

-- a test that passes so many items
unfoldable pub if_for : Outline → Writer → ℕ → Option CExpr → ℕ → List Flat → Option (List CStmt)
if_for o write n test m later = before (option_map (with_label (o.label n)) (if_by test (write (suc n) (take m later)))) (write (suc n + m) (drop m later))

-- and has another arm of so many behind them
unfoldable pub if_else_for : Outline → Writer → ℕ → Option CExpr → ℕ → ℕ → List Flat → Option (List CStmt)
if_else_for o write n test m k later =
    before (option_map (with_label (o.label n)) (if_else_by test (write (suc n) (take m later)) (write (suc n + suc m) (take k (drop (suc m) later)))))
    (write (suc n + suc m + k) (drop k (drop (suc m) later)))

-- the other arm reaches to the position to which the first one jumps at its end
unfoldable pub arms_for : Outline → Writer → ℕ → Option CExpr → ℕ → Option ℕ → List Flat → Option (List CStmt)
arms_for o write n test m None later = None
arms_for o write n test m (Some end) later =
    if nat_le (suc n + suc m) end && nat_le (end - (suc n + suc m)) (length (drop (suc m) later)) then if_else_for o write n test m (end - (suc n + suc m)) later else None

unfoldable pub branch_for : Outline → Writer → ℕ → Option CExpr → ℕ → List Flat → Option (List CStmt)
branch_for o write n test zero later = if_for o write n test 0 later
branch_for o write n test (suc m) later =
    if o.ends_arm (suc n + m) then arms_for o write n test m (end_of_arm (slice_get later m)) later else if_for o write n test (suc m) later

-- a case with the label to which its jump goes
unfoldable pub case_by : ℤ → Option (List ℕ) → Option CCase
case_by number None = None
case_by number (Some label) = Some (record { number = number; label = label })

-- the case that an item at a position is the jump of, where no label stands before it
unfoldable pub case_for : Outline → ℕ → CaseAt → Flat → Option CCase
case_for o n at (Jump position) = if nat_eq at.position n && is_none (o.label n) then case_by at.number (o.label position) else None
case_for o n at item = None

unfoldable pub before_cases : Option CCase → Option (List CCase) → Option (List CCase)
before_cases (Some case) (Some cases) = Some (case ∷ cases)
before_cases _ _ = None

-- the cases whose jumps are the first items from a position on, in their order
unfoldable pub cases_for : Outline → ℕ → List CaseAt → List Flat → Option (List CCase)
cases_for o n [] later = Some []
cases_for o n (at ∷ cases) [] = None
cases_for o n (at ∷ cases) (item ∷ later) = before_cases (case_for o n at item) (cases_for o (suc n) cases later)

-- a number without a sign, as far as an int goes
unfoldable pub is_case_number : ℤ → Bool
is_case_number (pos n) = nat_le n 2147483647
is_case_number (negsuc n) = false

-- the numbers of the cases: none stands twice (3.6.4.2)
unfoldable pub are_case_numbers : List ℤ → Bool
are_case_numbers [] = true
are_case_numbers (number ∷ later) = is_case_number number && (not (list_any (int_eq number) later) && are_case_numbers later)

unfoldable pub switch_by : Option CExpr → Option (List CCase) → Option CStmt
switch_by (Some value) (Some cases) = Some (stmt.Switch value cases)
switch_by _ _ = None

-- a value that picks one of so many jumps, which stand at once behind it
unfoldable pub switch_for : Outline → Writer → ℕ → Option CExpr → List CaseAt → List Flat → Option (List CStmt)
switch_for o write n value cases later =
    before (option_map (with_label (o.label n)) (switch_by value (cases_for o (suc n) cases later))) (write (suc n + length cases) (drop (length cases) later))

-- an item, and those behind it
unfoldable pub item_for : Outline → Writer → ℕ → Flat → List Flat → Option (List CStmt)
item_for o write n (Branch test on off) later =
    if nat_eq on (suc n) && (nat_le (suc n) off && nat_le (off - suc n) (length later)) then branch_for o write n (expr_for o.names test) (off - suc n) later else None
item_for o write n (Select value cases otherwise) later =
    if nat_eq otherwise (suc n + length cases) && are_case_numbers (map (λ (at : CaseAt). at.number) cases) then switch_for o write n (expr_for o.names value) cases later else None
item_for o write n item later = before (option_map (with_label (o.label n)) (statement_of o item)) (write (suc n) later)

-- ## Loops

-- the same variable, in an object of its own, in an array, where a parameter points, or in an array to which one points
unfoldable pub same_place : Term → Term → Bool
same_place (Variable j ToNumber) (Variable k ToNumber) = nat_eq j k
same_place (Element (Array j ToNumber) (Constant (pos a))) (Element (Array k ToNumber) (Constant (pos b))) = nat_eq j k && nat_eq a b
same_place (Prefixed prefix.Deref (Variable j (ToPointer ToNumber))) (Prefixed prefix.Deref (Variable k (ToPointer ToNumber))) = nat_eq j k
same_place (Element (Variable j (ToPointer ToNumber)) (Constant (pos a))) (Element (Variable k (ToPointer ToNumber)) (Constant (pos b))) = nat_eq j k && nat_eq a b
same_place _ _ = false

unfoldable pub added_by : Option CExpr → Option CExpr → Option CNext
added_by (Some variable) (Some amount) = Some (next.Add variable amount)
added_by _ _ = None

-- what is done behind each turn: the variable grows by 1, or by an amount
unfoldable pub next_by : Names → Term → Term → Option CNext
next_by names variable (Constant (pos (suc zero))) = option_map next.Up (expr_for names variable)
next_by names variable amount = added_by (expr_for names variable) (expr_for names amount)

unfoldable pub next_for : Names → Term → Option Flat → Option CNext
next_for names variable (Some (Assign t (Between op.Add u amount))) = if same_place variable t && same_place variable u then next_by names variable amount else None
next_for names variable item = None

unfoldable pub for_by : Option CExpr → Option CExpr → Option CExpr → Option CNext → Option (List CStmt) → Option CStmt
for_by (Some variable) (Some first) (Some test) (Some next) (Some turn) = Some (stmt.For variable first test next turn)
for_by _ _ _ _ _ = None

unfoldable pub goes_back : ℕ → Option Flat → Bool
goes_back n (Some (Jump position)) = nat_eq position n
goes_back n item = false

-- a test at once behind the first item, so many items of a turn, one more, and the jump back; no label stands but in the turn
unfoldable pub is_loop : Outline → ℕ → ℕ → ℕ → ℕ → List Flat → Bool
is_loop o n size on off later =
    nat_eq on (suc (suc n)) && (nat_eq off (suc (suc n) + suc (suc size)) && (nat_le (suc (suc size)) (length later) && (goes_back (suc n) (slice_get later (suc size))
    && (is_none (o.label (suc n)) && (is_none (o.label (suc (suc n) + size)) && is_none (o.label (suc (suc (suc n) + size))))))))

-- a loop whose variable is first set, with the test at once behind that
unfoldable pub head_for : Outline → Writer → ℕ → ℕ → Term → Term → List Flat → Option (List CStmt)
head_for o write n size variable first (Branch test on off ∷ later) =
    if is_loop o n size on off later then
    before
    (option_map (with_label (o.label n))
    (for_by (expr_for o.names variable) (expr_for o.names first) (expr_for o.names test) (next_for o.names variable (slice_get later size)) (write (suc (suc n)) (take size later))))
    (write (suc (suc n) + suc (suc size)) (drop (suc (suc size)) later))
    else None
head_for o write n size variable first later = None

-- a test behind so many items of a turn, at once behind the first item: back to the first of them where it holds, and else on; no label stands before it
unfoldable pub tests_turn : Outline → ℕ → ℕ → Option Flat → Bool
tests_turn o n size (Some (Branch test on off)) = nat_eq on (suc n) && (nat_eq off (suc (suc n + size)) && is_none (o.label (suc n + size)))
tests_turn o n size item = false

-- the expression that an item tests
unfoldable pub test_in : Names → Option Flat → Option CExpr
test_in names (Some (Branch test on off)) = expr_for names test
test_in names item = None

-- the first assignment, and the turn with the test behind it
unfoldable pub do_by : Option CExpr → Option CExpr → Option (List CStmt) → Option CExpr → Option CStmt
do_by (Some variable) (Some first) (Some turn) (Some test) = Some (stmt.Block (stmt.Set variable first ∷ stmt.DoWhile turn test ∷ []))
do_by _ _ _ _ = None

-- a loop whose variable is first set, with the turn at once behind that, and its test behind the turn
unfoldable pub do_for : Outline → Writer → ℕ → ℕ → Term → Term → List Flat → Option (List CStmt)
do_for o write n size variable first later =
    before
    (option_map (with_label (o.label n)) (do_by (expr_for o.names variable) (expr_for o.names first) (write (suc n) (take size later)) (test_in o.names (slice_get later size))))
    (write (suc (suc n + size)) (drop (suc size) later))

unfoldable pub loop_for : Outline → Writer → ℕ → ℕ → Flat → List Flat → Option (List CStmt)
loop_for o write n size (Assign variable first) later = if tests_turn o n size (slice_get later size) then do_for o write n size variable first later else head_for o write n size variable first later
loop_for o write n size item later = None

unfoldable pub part_for : Outline → Writer → Option ℕ → ℕ → Flat → List Flat → Option (List CStmt)
part_for o write None n item later = item_for o write n item later
part_for o write (Some size) n item later = loop_for o write n size item later

-- the statements of the items from a position on, given as many turns as there are items at least
unfoldable pub statements_for : Outline → ℕ → ℕ → List Flat → Option (List CStmt)
statements_for o turns n [] = Some []
statements_for o zero n (item ∷ later) = None
statements_for o (suc turns) n (item ∷ later) = part_for o (statements_for o turns) (o.loop n) n item later

unfoldable pub statements_opened : Unit {0}
unfolding set_by call_by set_call_by statement_of strings_of_item strings_of_items with_label before if_by if_else_by end_of_arm if_for if_else_for arms_for branch_for case_by case_for before_cases cases_for is_case_number are_case_numbers switch_by switch_for item_for same_place added_by next_by next_for for_by goes_back is_loop head_for tests_turn test_in do_by do_for loop_for part_for statements_for
statements_opened = tt
