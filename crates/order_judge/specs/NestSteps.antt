-- The blocks that are open before a statement, as the judge of their nest keeps them: the refusals that stand where they are never closed.
use Rattle.std.specs.Prelude.{◌≡◌, List, ◌++◌, map, reverse}
use Rattle.f_tree.specs.declared.refusals.Kind.TheVariants.{BadIfNest}
use Rattle.f_tree.specs.declared.refusals.Refusal.{Refusal}
use Rattle.f_tree.specs.declared.statements.Stmt.{Stmt}
use Rattle.f_tree.specs.Facts.{Mark, Plain, Opens, Arm, Closes}
use Rattle.declaration_rows.specs.UnitRows.{nest_row, around_behind}
use Rattle.order_judge.specs.declared.marks.BlockMark.{BlockMark}
use Rattle.order_judge.specs.declared.marks.BlockMark.TheVariants as block

unfoldable pub mark_in : BlockMark → Mark
mark_in block.Plain = Plain
mark_in block.Opens = Opens
mark_in block.Arm = Arm
mark_in block.Closes = Closes

unfoldable pub unended : Stmt → Refusal
unended s = record { file = s.file; card = s.card; kind = BadIfNest }

-- the innermost block stands first among the statements, and last among the refusals
pub record AreOpen (open_blocks : List Refusal) (around : List Stmt) : Type 0 where
  pub is : reverse open_blocks ≡ map unended around

-- a statement adds its row, and the blocks that are open behind it are known
pub record Nests (mark : Mark) (s : Stmt) (found after_found open_blocks after_open : List Refusal) : Type 0 where
  pub rows : (around : List Stmt) → AreOpen open_blocks around → after_found ≡ found ++ nest_row mark around s
  pub around : (around : List Stmt) → AreOpen open_blocks around → AreOpen after_open (around_behind mark around s)
