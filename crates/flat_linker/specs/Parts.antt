-- Parts of the flat form of statements that code puts together (C89, 3.6.4 and 3.6.5).
use Rattle.std.specs.Prelude.{ℕ, ◌+◌, List, ◌∷◌, length, Option, Some, None}
use Rattle.c_tree.specs.declared.expression.CExpr.{CExpr}
use Rattle.c_tree.specs.declared.statement.CCase.{CCase}
use Rattle.c_tree.specs.declared.statement.CNext.{CNext}
use Rattle.c_tree.specs.declared.statement.CStmt.{CStmt}
use Rattle.c_tree.specs.Flat.{Branch, Jump}
use Rattle.c_tree.specs.Drafts.{bare, drafted, joined, joined_three}
use Rattle.c_tree.specs.LinkedExpressions.{linked}
use Rattle.c_tree.specs.FlatForm.{Body, one, nowhere, body_of_all, if_only, if_else, case_jumps, tested, next_item}

-- an `if`, by its test and its arms
abbrev pub arms : CExpr → List CStmt → Option (List CStmt) → Body
arms test first None = if_only test (body_of_all first)
arms test first (Some second) = if_else test (body_of_all first) (body_of_all second)

-- a test at a position, of statements that have so many items, and so many more that are passed too where it does not hold
abbrev pub tested_at : CExpr → ℕ → ℕ → ℕ → Body
tested_at test position size gap = one (drafted (λ term. Branch term (position + 1) (position + 1 + size + gap)) (linked test))

-- a test and the statements that it guards, with so many items behind them that are passed too where it does not hold
abbrev pub guarded : CExpr → Body → ℕ → Body
guarded test arm gap = record {
  size = 1 + arm.size;
  labels = λ position. arm.labels (position + 1);
  items =
      joined
      (λ term items labels position.
      Branch term (position + 1) (position + 1 + arm.size + gap) ∷ items labels (position + 1))
      (linked test)
      arm.items;
}

-- a jump behind statements, and the statements
abbrev pub skipped : Body → Body
skipped arm = record {
  size = 1 + arm.size;
  labels = λ position. arm.labels (position + 1);
  items = drafted (λ items labels position. Jump (position + 1 + arm.size) ∷ items labels (position + 1)) arm.items;
}

-- the jumps of the cases of a `switch`
abbrev pub jumps : List CCase → Body
jumps cases = record { size = length cases; labels = nowhere; items = bare (λ labels position. case_jumps cases labels) }

-- a `for` behind its first assignment
abbrev pub turns : CExpr → Body → CNext → Body
turns test turn next = record {
  size = 3 + turn.size;
  labels = λ position. turn.labels (position + 1);
  items = joined_three (tested turn.size) (linked test) turn.items (next_item next);
}
