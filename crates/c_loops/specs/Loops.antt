-- The loops of C statements: how many `for` and how many `do` there are among them, nested ones too. C89, 3.6.5.2 and 3.6.5.3.
use Rattle.std.specs.Prelude.{ℕ, suc, ◌+◌, Bool, true, false, List, [], ◌∷◌}
use Rattle.c_tree.specs.declared.statement.CStmt as stmt

pub record Loops : Type 0 where
  pub fors : ℕ
  pub dos : ℕ

abbrev pub no_loops : Loops
no_loops = record { fors = 0; dos = 0 }

abbrev pub both_loops : Loops → Loops → Loops
both_loops first second = record { fors = first.fors + second.fors; dos = first.dos + second.dos }

-- so many loops that are tested behind each turn alone, or else before each
abbrev pub loops_by : Bool → ℕ → Loops
loops_by true count = record { fors = 0; dos = count }
loops_by false count = record { fors = count; dos = 0 }

-- a `for` around others, and a `do`
abbrev pub within_for : Loops → Loops
within_for inner = record inner { fors = suc inner.fors }

abbrev pub within_do : Loops → Loops
within_do inner = record inner { dos = suc inner.dos }

unfoldable mutual
  pub loops_of : stmt.CStmt → Loops
  loops_of (stmt.Block' shape inner) = loops_in inner
  loops_of (stmt.Label' name shape (stmt.more_of-CStmt inner stmt.end_of-CStmt)) = loops_of inner
  loops_of (stmt.If' test shape first other) = both_loops (loops_in first) (loops_of_other other)
  loops_of (stmt.For' target first test next shape turn) = within_for (loops_in turn)
  loops_of (stmt.DoWhile' shape turn test) = within_do (loops_in turn)
  loops_of other = no_loops

  pub loops_in : {count : _} → stmt.Row_of-CStmt count → Loops
  loops_in stmt.end_of-CStmt = no_loops
  loops_in (stmt.more_of-CStmt first later) = both_loops (loops_of first) (loops_in later)

  pub loops_of_other : stmt.Held-CStmt-If-2 → Loops
  loops_of_other stmt.None' = no_loops
  loops_of_other (stmt.Some' shape second) = loops_in second

-- the loops of statements in order
unfoldable pub loops_of_all : List stmt.CStmt → Loops
loops_of_all [] = no_loops
loops_of_all (first ∷ later) = both_loops (loops_of first) (loops_of_all later)

unfoldable pub loops_opened : Unit {0}
unfolding loops_of loops_in loops_of_other loops_of_all
loops_opened = tt
