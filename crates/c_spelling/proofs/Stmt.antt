-- The lines of each statement that some tokens spell read as the statement (C89, 3.6).
use Rattle.std.specs.Prelude.{◌≡◌, ℕ, ◌+◌, true, ◌&&◌, List, [], ◌++◌, map}
use Rattle.std.specs.List.{list_all}
use Rattle.std.proofs.Common.{sym, ◌∙◌, subst}
use Rattle.c_laws.specs.c_tree.declared.expression.CExpr.{CExpr}
use Rattle.c_laws.specs.c_tree.declared.statement.CCase.{CCase}
use Rattle.c_laws.specs.c_tree.declared.statement.CNext.{CNext}
use Rattle.c_laws.specs.c_tree.declared.statement.CStmt.{CStmt}
use Rattle.c_laws.specs.c_tree.Tokens.{Token}
use Rattle.c_laws.specs.c_tree.CWords.{is_name}
use Rattle.c_laws.specs.c_tree.CLabels.{LabelsOf, labels_of, labels_of_all}
use Rattle.c_laws.specs.c_tree.CExpressionText.{Scope}
use Rattle.c_laws.specs.c_tree.CStatementText.{ReadsCases, no_case, one_case, ReadsNext, up, down, added, ReadsFor, for_head, ReadsTested, tested, ReadsStmt, assigned, assigned_call, called, empty, a_block, labelled, jump, returned, returned_value, returned_call, if_only, if_else, switched, repeated_for, repeated_do, ReadsStmts, closed, one_more}
use Rattle.c_text.specs.Printed.{printed_next}
use Rattle.c_laws.proofs.TokenSpellings.{and-first, and-second}
use Rattle.c_spelling.specs.Spelled.{expression_of_bytes, call_of_bytes, next_of_bytes, statement_of_bytes, statements_of_bytes}
use Rattle.c_spelling.proofs.Tokens.{Piece, name_word}
use Rattle.c_spelling.proofs.TokensScope.{NamedScope, AreNames}
use Rattle.c_spelling.proofs.ExprPieces.{Printing}
use Rattle.c_spelling.proofs.Expr.{expression_printing}
use Rattle.c_spelling.proofs.ExprCalls.{call_whole}
use Rattle.c_spelling.proofs.StmtTrees.{labels-Block, labels-Label, labels-If, labels-IfElse, labels-For, labels-DoWhile, bytes-Block, bytes-Label, bytes-If, bytes-IfElse, bytes-For, bytes-DoWhile, names_front, names_behind}
use Rattle.c_spelling.proofs.StmtLines.{Line, Lines, set_line, set_call_line, call_line, empty_line, goto_line, return_line, return_value_line, return_call_line, label_line, no_lines, more_lines, block_lines, if_lines, else_lines, do_lines}
use Rattle.c_spelling.proofs.StmtLoops.{up_piece, down_piece, add_piece, for_lines, Cases, no_cases, more_cases, switch_lines}

-- the names of labels that a form names
abbrev Named : LabelsOf → Type 0
Named labels = AreNames labels.named

tested_printing : {scope : Scope} {word : List ℕ} {e : CExpr} {p q : List Token} → ReadsTested scope word e p q → NamedScope scope → expression_of_bytes e ≡ true → Printing scope e
tested_printing (tested word a b x c) s fit = expression_printing x s fit

next_piece : {scope : Scope} {turn : CNext} {p q : List Token} → ReadsNext scope turn p q → NamedScope scope → next_of_bytes turn ≡ true → Piece (printed_next turn) (ReadsNext scope turn)
next_piece (up a x) s fit = up_piece (expression_printing x s fit)
next_piece (down a x) s fit = down_piece (expression_printing x s fit)
next_piece (added {target = target} {e = e} x a y) s fit =
    add_piece (expression_printing x s (and-first (expression_of_bytes target) (expression_of_bytes e) fit))
    (expression_printing y s (and-second (expression_of_bytes target) (expression_of_bytes e) fit))

-- the parts of a `for`
record ForParts (scope : Scope) (target first test : CExpr) (turn : CNext) : Type 0 where
  to : Printing scope target
  from : Printing scope first
  while : Printing scope test
  step : Piece (printed_next turn) (ReadsNext scope turn)

for_parts : {scope : Scope} {target first test : CExpr} {turn : CNext} {p q : List Token} → ReadsFor scope target first test turn p q → NamedScope scope →
    expression_of_bytes target ≡ true → expression_of_bytes first ≡ true → expression_of_bytes test ≡ true → next_of_bytes turn ≡ true → ForParts scope target first test turn
for_parts (for_head a b x c y d z e n f) s one two three four = record {
  to = expression_printing x s one;
  from = expression_printing y s two;
  while = expression_printing z s three;
  step = next_piece n s four;
}

cases_lines : {cases : List CCase} {p q : List Token} (depth : ℕ) → ReadsCases cases p q → AreNames (map (λ (case : CCase). case.label) cases) → Cases cases depth
cases_lines depth (no_case a) names = no_cases depth
cases_lines depth (one_case n label {later = later} small a b c d e f more) names =
    more_cases depth n label small (name_word label (and-first (is_name label) (list_all is_name (map (λ (case : CCase). case.label) later)) names))
    (cases_lines depth more (and-second (is_name label) (list_all is_name (map (λ (case : CCase). case.label) later)) names))

mutual
  pub statement_line : {scope : Scope} {one : CStmt} {p q : List Token} → ReadsStmt scope one p q → NamedScope scope → statement_of_bytes one ≡ true → AreNames (labels_of one).named → (depth : ℕ) →
      Line scope one depth
  statement_line (assigned {target = target} {e = e} x a y b) s fit names depth =
      set_line depth (expression_printing x s (and-first (expression_of_bytes target) (expression_of_bytes e) fit))
      (expression_printing y s (and-second (expression_of_bytes target) (expression_of_bytes e) fit))
  statement_line (assigned_call {target = target} {call = call} x a c b) s fit names depth =
      set_call_line depth (expression_printing x s (and-first (expression_of_bytes target) (call_of_bytes call) fit))
      (call_whole c s (and-second (expression_of_bytes target) (call_of_bytes call) fit))
  statement_line (called c a) s fit names depth = call_line depth (call_whole c s fit)
  statement_line (empty a) s fit names depth = empty_line depth
  statement_line (a_block {inner = inner} a x) s fit names depth =
      block_lines depth (statements_lines x s (sym (bytes-Block inner) ∙ fit) (subst Named (labels-Block inner) names) (depth + 1))
  statement_line (labelled label {inner = inner} h a b x) s fit names depth =
      label_line label depth h (name_word label h) (statement_line x s (sym (bytes-Label label inner) ∙ fit) (subst Named (labels-Label label inner) names) depth)
  statement_line (jump label a b c) s fit names depth = goto_line label depth (name_word label (and-first (is_name label) true names))
  statement_line (returned a b) s fit names depth = return_line depth
  statement_line (returned_value a x b) s fit names depth = return_value_line depth (expression_printing x s fit)
  statement_line (returned_call a c b) s fit names depth = return_call_line depth (call_whole c s fit)
  statement_line (if_only {e = e} {first = first} t a x) s fit names depth =
      let whole : (expression_of_bytes e && (statements_of_bytes first && true)) ≡ true = sym (bytes-If e first) ∙ fit in
      if_lines depth (tested_printing t s (and-first (expression_of_bytes e) (statements_of_bytes first && true) whole))
      (statements_lines x s (and-first (statements_of_bytes first) true (and-second (expression_of_bytes e) (statements_of_bytes first && true) whole))
      (names_front (labels_of_all first).named [] (subst Named (labels-If e first) names)) (depth + 1))
  statement_line (if_else {e = e} {first = first} {second = second} t a x b c y) s fit names depth =
      let whole : (expression_of_bytes e && (statements_of_bytes first && statements_of_bytes second)) ≡ true = sym (bytes-IfElse e first second) ∙ fit in
      let arms : (statements_of_bytes first && statements_of_bytes second) ≡ true = and-second (expression_of_bytes e) (statements_of_bytes first && statements_of_bytes second) whole in
      let both_named : AreNames ((labels_of_all first).named ++ (labels_of_all second).named) = subst Named (labels-IfElse e first second) names in
      else_lines depth (tested_printing t s (and-first (expression_of_bytes e) (statements_of_bytes first && statements_of_bytes second) whole))
      (statements_lines x s (and-first (statements_of_bytes first) (statements_of_bytes second) arms) (names_front (labels_of_all first).named (labels_of_all second).named both_named) (depth + 1))
      (statements_lines y s (and-second (statements_of_bytes first) (statements_of_bytes second) arms) (names_behind (labels_of_all first).named (labels_of_all second).named both_named) (depth + 1))
  statement_line (switched {e = e} {cases = cases} once t a x) s fit names depth = switch_lines depth once (tested_printing t s fit) (cases_lines (depth + 1) x names)
  statement_line {scope = scope} (repeated_for {target = target} {first = first} {test = test} {turn = turn} {inner = inner} f a x) s fit names depth =
      let one : (expression_of_bytes target && (expression_of_bytes first && (expression_of_bytes test && (next_of_bytes turn && statements_of_bytes inner)))) ≡ true =
      sym (bytes-For target first test turn inner) ∙ fit in
      let two : (expression_of_bytes first && (expression_of_bytes test && (next_of_bytes turn && statements_of_bytes inner))) ≡ true =
      and-second (expression_of_bytes target) (expression_of_bytes first && (expression_of_bytes test && (next_of_bytes turn && statements_of_bytes inner))) one in
      let three : (expression_of_bytes test && (next_of_bytes turn && statements_of_bytes inner)) ≡ true =
      and-second (expression_of_bytes first) (expression_of_bytes test && (next_of_bytes turn && statements_of_bytes inner)) two in
      let four : (next_of_bytes turn && statements_of_bytes inner) ≡ true = and-second (expression_of_bytes test) (next_of_bytes turn && statements_of_bytes inner) three in
      let parts : ForParts scope target first test turn =
      for_parts f s (and-first (expression_of_bytes target) (expression_of_bytes first && (expression_of_bytes test && (next_of_bytes turn && statements_of_bytes inner))) one)
      (and-first (expression_of_bytes first) (expression_of_bytes test && (next_of_bytes turn && statements_of_bytes inner)) two)
      (and-first (expression_of_bytes test) (next_of_bytes turn && statements_of_bytes inner) three) (and-first (next_of_bytes turn) (statements_of_bytes inner) four) in
      for_lines depth parts.to parts.from parts.while parts.step
      (statements_lines x s (and-second (next_of_bytes turn) (statements_of_bytes inner) four) (subst Named (labels-For target first test turn inner) names) (depth + 1))
  statement_line (repeated_do {inner = inner} {e = e} a b x t c) s fit names depth =
      let whole : (statements_of_bytes inner && expression_of_bytes e) ≡ true = sym (bytes-DoWhile inner e) ∙ fit in
      do_lines depth (statements_lines x s (and-first (statements_of_bytes inner) (expression_of_bytes e) whole) (subst Named (labels-DoWhile inner e) names) (depth + 1))
      (tested_printing t s (and-second (statements_of_bytes inner) (expression_of_bytes e) whole))

  pub statements_lines : {scope : Scope} {all : List CStmt} {p q : List Token} → ReadsStmts scope all p q → NamedScope scope → statements_of_bytes all ≡ true → AreNames (labels_of_all all).named →
      (depth : ℕ) → Lines scope all depth
  statements_lines (closed a) s fit names depth = no_lines depth
  statements_lines (one_more {first = first} {later = later} x y) s fit names depth =
      more_lines depth
      (statement_line x s (and-first (statement_of_bytes first) (statements_of_bytes later) fit) (names_front (labels_of first).named (labels_of_all later).named names) depth)
      (statements_lines y s (and-second (statement_of_bytes first) (statements_of_bytes later) fit) (names_behind (labels_of first).named (labels_of_all later).named names) depth)
