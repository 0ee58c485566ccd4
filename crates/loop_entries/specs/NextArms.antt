-- The arms of IF blocks behind statements, as one walk from the last statement to the first finds them. ANSI X3.9-1978, sections 11.6 to 11.9.
use Rattle.std.specs.Prelude.{ℕ, suc, List, [], ◌∷◌, Option, Some, None}
use Rattle.f_tree.specs.declared.statements.Stmt.{Stmt}
use Rattle.f_tree.specs.Facts.{Mark, Plain, Opens, Arm, Closes}
use Rattle.f_tree.specs.Lines.{mark_of}

unfoldable pub first_arm : List ℕ → Option ℕ
first_arm [] = None
first_arm (arm ∷ arms) = Some arm

unfoldable pub arms_around : List ℕ → List ℕ
arms_around [] = []
arms_around (arm ∷ arms) = arms

-- what the arms behind a place are before the statement there, that of the innermost block first
unfoldable pub arms_before : Mark → ℕ → List ℕ → List ℕ
arms_before Plain i arms = arms
arms_before Opens i arms = arms_around arms
arms_before Arm i arms = i ∷ arms_around arms
arms_before Closes i arms = i ∷ arms

unfoldable pub arms_from : ℕ → List Stmt → List ℕ
arms_from i [] = []
arms_from i (s ∷ ss) = arms_before (mark_of s.body) i (arms_from (suc i) ss)

-- the next arm of the block around each statement, or of the block that it opens
unfoldable pub next_from : ℕ → List Stmt → List (Option ℕ)
next_from i [] = []
next_from i (s ∷ ss) = first_arm (arms_from (suc i) ss) ∷ next_from (suc i) ss
