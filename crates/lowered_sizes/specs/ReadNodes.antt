-- How many nodes the statements of a program unit have as they are read: one for each statement that takes a step, and for each term, item and label of a list;
-- and that the steps of a lowered unit are bounded by them. ANSI X3.9-1978, sections 6, 10 to 12 and 15.
use Rattle.std.specs.Prelude.{◌≡◌, ℕ, suc, ◌+◌, ◌*◌, ◌≤◌, List, [], ◌∷◌, length, Some}
use Rattle.lowering.specs.l_core.f_tree.Terms.{Term, Val, Fetch, At, All, Element, Alone, Part, Joined, Before, Between, Intrinsically, Refer, Bind, Bound, Terms, NoMore, More}
use Rattle.lowering.specs.l_core.f_tree.Facts as work
use Rattle.lowering.specs.l_core.f_tree.Facts.{Job, Work, Done, ToPick, ToGoAssigned, ToGuard, ToBegin, Head, Form, Passes, On, Line, Facts}
use Rattle.lowering.specs.l_core.Steps.{Text}
use Rattle.lowering.specs.Units.{lowered_unit}

-- ## Terms

unfoldable mutual
  pub term_nodes : Term → ℕ
  term_nodes (Val d) = 1
  term_nodes (Fetch t) = suc (term_nodes t)
  term_nodes (At x) = 1
  term_nodes (All x) = 1
  term_nodes (Element x ts) = suc (terms_nodes ts)
  term_nodes (Alone t) = suc (term_nodes t)
  term_nodes (Part x t from to) = suc (term_nodes t + (term_nodes from + term_nodes to))
  term_nodes (Joined ts) = suc (terms_nodes ts)
  term_nodes (Before op t) = suc (term_nodes t)
  term_nodes (Between op t u) = suc (term_nodes t + term_nodes u)
  term_nodes (Intrinsically function ts) = suc (terms_nodes ts)
  term_nodes (Refer callee ts) = suc (terms_nodes ts)
  term_nodes (Bind ts t) = suc (terms_nodes ts + term_nodes t)
  term_nodes (Bound k) = 1

  pub terms_nodes : Terms → ℕ
  terms_nodes NoMore = 0
  terms_nodes (More t ts) = term_nodes t + terms_nodes ts

-- ## Statements

-- an item of a list (12.8.2)
unfoldable pub job_nodes : Job → ℕ
job_nodes (work.Item t) = suc (term_nodes t)
job_nodes job = 1

-- the end of a list is one too
unfoldable pub work_nodes : Work → ℕ
work_nodes Done = 1
work_nodes (work.Before job later) = job_nodes job + work_nodes later

unfoldable mutual
  pub form_nodes : Form → ℕ
  form_nodes Passes = 0
  form_nodes (On head operands) = suc (head_nodes head + terms_nodes operands)

  pub head_nodes : Head → ℕ
  head_nodes (ToPick labels) = length labels
  head_nodes (ToGoAssigned labels) = length labels
  head_nodes (ToGuard form) = form_nodes form
  head_nodes (ToBegin way layout controls items) = work_nodes items
  head_nodes head = 0

-- each statement, and what it has
unfoldable pub lines_nodes : List Line → ℕ
lines_nodes [] = 0
lines_nodes (line ∷ lines) = suc (form_nodes line.form) + lines_nodes lines

-- LAW
-- a loop is ended by two steps at most, at each statement where it may end; and a label that an ASSIGN statement names takes a step at most, at each
-- statement that may go to it
abbrev pub EachTextIsBounded : Type 0
EachTextIsBounded =
    (c : Facts) (u : Text) → lowered_unit c ≡ Some u → length u.steps ≤ 5 * lines_nodes c.program.lines + 2 * (length c.program.lines * length c.program.lines)

unfoldable pub read_nodes_opened : Unit {0}
unfolding term_nodes terms_nodes job_nodes work_nodes form_nodes head_nodes lines_nodes
read_nodes_opened = tt
