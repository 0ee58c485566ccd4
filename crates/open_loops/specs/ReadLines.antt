-- When the lines of a program unit are what is read of some statements. ANSI X3.9-1978, sections 3.5 and 11.10.
use Rattle.std.specs.Prelude.{◌≡◌, Bool, List, map}
use Rattle.f_tree.specs.declared.statements.Stmt.{Stmt}
use Rattle.f_tree.specs.Attributes.{from_all}
use Rattle.f_tree.specs.Facts.{ProgramUnit}
use Rattle.f_tree.specs.Lines.{Naming, loop_label_in, line_of}

-- the lines are those of the statements, their names being these
pub record IsReadAs (p : ProgramUnit) (once : Bool) (names : Naming) (ss : List Stmt) : Type 0 where
  pub onetrip : p.onetrip ≡ once
  pub lines : p.lines ≡ map (line_of names (from_all loop_label_in ss)) ss
