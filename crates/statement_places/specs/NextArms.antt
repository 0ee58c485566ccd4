-- The arms of IF blocks behind statements, as one walk from the last statement to the first finds them. ANSI X3.9-1978, sections 11.6 to 11.9.
use Rattle.std.specs.Prelude.{ℕ, suc, List, [], ◌∷◌, Option, Some, None}
use Rattle.f_tree.specs.declared.statements.Stmt.{Stmt}
use Rattle.f_tree.specs.Facts.{Mark, Plain, Opens, Arm, Closes}
use Rattle.f_tree.specs.Lines.{mark_of}
use Rattle.statement_places.specs.declared.arms.NextArm.{NextArm}

unfoldable pub first_arm : List NextArm → Option NextArm
first_arm [] = None
first_arm (arm ∷ arms) = Some arm

unfoldable pub arms_around : List NextArm → List NextArm
arms_around [] = []
arms_around (arm ∷ arms) = arms

-- where the block ends that an arm at a place belongs to, if it ends
unfoldable pub end_behind : ℕ → Option NextArm → ℕ
end_behind i None = i
end_behind i (Some arm) = arm.end

-- what the arms behind a place are before the statement there, those of the innermost block first
unfoldable pub arms_before : Mark → ℕ → List NextArm → List NextArm
arms_before Plain i arms = arms
arms_before Opens i arms = arms_around arms
arms_before Arm i arms = record { at = i; end = end_behind i (first_arm arms) } ∷ arms_around arms
arms_before Closes i arms = record { at = i; end = i } ∷ arms

unfoldable pub arms_from : ℕ → List Stmt → List NextArm
arms_from i [] = []
arms_from i (s ∷ ss) = arms_before (mark_of s.body) i (arms_from (suc i) ss)

-- the next arm of the block around each statement, or of the block that it opens
unfoldable pub next_from : ℕ → List Stmt → List (Option NextArm)
next_from i [] = []
next_from i (s ∷ ss) = first_arm (arms_from (suc i) ss) ∷ next_from (suc i) ss

unfoldable pub next_arms_opened : Unit {0}
unfolding first_arm arms_around end_behind arms_before arms_from next_from
next_arms_opened = tt
