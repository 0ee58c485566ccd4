-- The flat form of statements: how many items each has, and which, from a position on (C89, 3.6).
use Rattle.std.specs.Prelude.{ℕ, ◌+◌, pos, Bool, true, false, List, [], ◌∷◌, ◌++◌, length, Option, Some, None, bytes_eq, if◌then◌else◌}
use Rattle.c_tree.specs.declared.expression.CExpr.{CExpr}
use Rattle.c_tree.specs.declared.expression.CCall.{CCall}
use Rattle.c_tree.specs.declared.expression.BinaryOp.TheVariants.{Add, Subtract}
use Rattle.c_tree.specs.declared.statement.CCase.{CCase}
use Rattle.c_tree.specs.declared.statement.CNext.{CNext}
use Rattle.c_tree.specs.declared.statement.CNext.TheVariants as next
use Rattle.c_tree.specs.declared.statement.CStmt as stmt
use Rattle.c_tree.specs.Terms.{Term, Constant, Between}
use Rattle.c_tree.specs.Flat.{Flat, Assign, Branch, Select, Jump, Invoke, Return, ReturnAnswer, Nothing, Lost, Use, Ignored, Kept, Returned, CaseAt}
use Rattle.c_tree.specs.Drafts.{Scope, Draft, bare, drafted, joined, joined_three}
use Rattle.c_tree.specs.LinkedExpressions.{linked, Calling, linked_call}

-- a label, and the position of the item behind it
pub record LabelAt : Type 0 where
  pub name : List ℕ
  pub position : ℕ

-- where each label of the function stands
abbrev pub Labels : Type 0
Labels = List ℕ → Option ℕ

abbrev pub position_of : List LabelAt → Labels
position_of [] name = None
position_of (label ∷ later) name = if bytes_eq name label.name then Some label.position else position_of later name

-- statements: the number of their items, the labels in them, where they begin at a position, and the items,
-- given where the function's labels stand and where the statements begin
pub record Body : Type 0 where
  pub size : ℕ
  pub labels : ℕ → List LabelAt
  pub items : Draft (Labels → ℕ → List Flat)

abbrev pub nowhere : ℕ → List LabelAt
nowhere position = []

-- a statement of one item
abbrev pub one : Draft Flat → Body
one item = record { size = 1; labels = nowhere; items = drafted (λ flat labels position. flat ∷ []) item }

-- statements that follow one another
abbrev pub sequence : Body → Body → Body
sequence before behind = record {
  size = before.size + behind.size;
  labels = λ position. before.labels position ++ behind.labels (position + before.size);
  items =
      joined
      (λ first second labels position. first labels position ++ second labels (position + before.size))
      before.items
      behind.items;
}

abbrev pub empty : Body
empty = record { size = 0; labels = nowhere; items = bare (λ labels position. []) }

abbrev pub jump_to : Option ℕ → Flat
jump_to None = Lost
jump_to (Some position) = Jump position

-- `goto`
abbrev pub jump : List ℕ → Body
jump label = record {
  size = 1;
  labels = nowhere;
  items = bare (λ labels position. jump_to (labels label) ∷ []);
}

-- a label before statements
abbrev pub marked : List ℕ → Body → Body
marked name body =
    record body { labels = λ position. record { name = name; position = position } ∷ body.labels position }

abbrev pub invoked : Use → Calling → Flat
invoked how calling = Invoke how calling.callee calling.arguments

abbrev pub set_call : CExpr → CCall → Draft Flat
set_call target call = joined (λ term calling. invoked (Kept term) calling) (linked target) (linked_call call)

-- `return f(..)`: a call and a return
abbrev pub return_call : CCall → Body
return_call call = sequence (one (drafted (invoked Returned) (linked_call call))) (one (bare ReturnAnswer))

abbrev pub returned : Option CExpr → Draft Flat
returned None = bare (Return None)
returned (Some value) = drafted (λ term. Return (Some term)) (linked value)

-- `if (test) first`: a test and the arm
abbrev pub if_only : CExpr → Body → Body
if_only test first = record {
  size = 1 + first.size;
  labels = λ position. first.labels (position + 1);
  items =
      joined
      (λ term items labels position.
      Branch term (position + 1) (position + 1 + first.size) ∷ items labels (position + 1))
      (linked test)
      first.items;
}

-- `if (test) first else second`: a test, the first arm, a jump behind the second arm, and that arm
abbrev pub if_else : CExpr → Body → Body → Body
if_else test first second = record {
  size = 2 + first.size + second.size;
  labels = λ position. first.labels (position + 1) ++ second.labels (position + 2 + first.size);
  items =
      joined_three
      (λ term items other labels position.
      Branch term (position + 1) (position + 2 + first.size)
      ∷ items labels (position + 1)
      ++ Jump (position + 2 + first.size + second.size)
      ∷ other labels (position + 2 + first.size))
      (linked test)
      first.items
      second.items;
}

-- the cases of a `switch` whose jumps stand from a position on
abbrev pub cases_from : ℕ → List CCase → List CaseAt
cases_from position [] = []
cases_from position (case ∷ later) =
    record { number = case.number; position = position } ∷ cases_from (position + 1) later

abbrev pub case_jumps : List CCase → Labels → List Flat
case_jumps [] labels = []
case_jumps (case ∷ later) labels = jump_to (labels case.label) ∷ case_jumps later labels

-- `switch`: a test, and a jump for each case
abbrev pub switch : CExpr → List CCase → Body
switch value cases = record {
  size = 1 + length cases;
  labels = nowhere;
  items =
      drafted
      (λ term labels position.
      Select term (cases_from (position + 1) cases) (position + 1 + length cases) ∷ case_jumps cases labels)
      (linked value);
}

-- `++v`, `--v` and `v += e`, each an assignment (C89, 3.3.3.1 and 3.3.16.2)
abbrev pub next_item : CNext → Draft Flat
next_item (next.Up variable) =
    drafted (λ term. Assign term (Between Add term (Constant (pos 1)))) (linked variable)
next_item (next.Down variable) =
    drafted (λ term. Assign term (Between Subtract term (Constant (pos 1)))) (linked variable)
next_item (next.Add variable amount) =
    joined (λ term more. Assign term (Between Add term more)) (linked variable) (linked amount)

-- the test of a `for` at this position, with the turn behind it
abbrev pub tested : ℕ → Term → (Labels → ℕ → List Flat) → Flat → Labels → ℕ → List Flat
tested size test turn next labels position =
    Branch test (position + 1) (position + 3 + size)
    ∷ turn labels (position + 1)
    ++ next
    ∷ Jump position
    ∷ []

-- `for`: the first assignment, the test, the turn, the next assignment, and a jump to the test (C89, 3.6.5.3)
abbrev pub for_loop : CExpr → CExpr → CExpr → CNext → Body → Body
for_loop variable first test next turn = record {
  size = 4 + turn.size;
  labels = λ position. turn.labels (position + 2);
  items =
      joined
      (λ start rest labels position. start ∷ rest labels (position + 1))
      (joined Assign (linked variable) (linked first))
      (joined_three (tested turn.size) (linked test) turn.items (next_item next));
}

-- `do turn while (test)`: the turn and the test (C89, 3.6.5.2)
abbrev pub do_while : Body → CExpr → Body
do_while turn test = record {
  size = turn.size + 1;
  labels = turn.labels;
  items =
      joined
      (λ items term labels position.
      items labels position ++ Branch term position (position + turn.size + 1) ∷ [])
      turn.items
      (linked test);
}

abbrev mutual
  pub body : stmt.CStmt → Body
  body (stmt.Set target value) = one (joined Assign (linked target) (linked value))
  body (stmt.SetCall target call) = one (set_call target call)
  body (stmt.Call call) = one (drafted (invoked Ignored) (linked_call call))
  body stmt.Empty = one (bare Nothing)
  body (stmt.Block' shape statements) = bodies statements
  body (stmt.Label' name shape (stmt.more_of-CStmt statement stmt.end_of-CStmt)) = marked name (body statement)
  body (stmt.Goto label) = jump label
  body (stmt.Return value) = one (returned value)
  body (stmt.ReturnCall call) = return_call call
  body (stmt.If' test shape first other) = arms test (bodies first) other
  body (stmt.Switch value cases) = switch value cases
  body (stmt.For' variable first test next shape turn) = for_loop variable first test next (bodies turn)
  body (stmt.DoWhile' shape turn test) = do_while (bodies turn) test

  pub bodies : {count : _} → stmt.Row_of-CStmt count → Body
  bodies stmt.end_of-CStmt = empty
  bodies (stmt.more_of-CStmt first later) = sequence (body first) (bodies later)

  pub arms : CExpr → Body → stmt.Held-CStmt-If-2 → Body
  arms test first stmt.None' = if_only test first
  arms test first (stmt.Some' shape second) = if_else test first (bodies second)

-- the statements of a list
abbrev pub body_of_all : List stmt.CStmt → Body
body_of_all [] = empty
body_of_all (first ∷ later) = sequence (body first) (body_of_all later)

-- whether a statement, its labels aside, is a return
abbrev pub is_return : stmt.CStmt → Bool
is_return (stmt.Return value) = true
is_return (stmt.ReturnCall call) = true
is_return (stmt.Label' name shape (stmt.more_of-CStmt statement stmt.end_of-CStmt)) = is_return statement
is_return other = false

-- whether the last statement is a return
abbrev pub ends : List stmt.CStmt → Bool
ends [] = false
ends (last ∷ []) = is_return last
ends (first ∷ second ∷ later) = ends (second ∷ later)

abbrev pub with_return : Bool → Body → Body
with_return true statements = statements
with_return false statements = sequence statements (one (bare (Return None)))

-- a function's statements; where the last is no return, one more step at the end returns without a value
-- (C89, 3.6.6.4)
abbrev pub whole_body : List stmt.CStmt → Body
whole_body statements = with_return (ends statements) (body_of_all statements)

-- the flat form, given the names in scope and the number of the first string
abbrev pub flat_form : Body → Scope → ℕ → List Flat
flat_form statements scope first = statements.items.drawn scope first (position_of (statements.labels 0)) 0
