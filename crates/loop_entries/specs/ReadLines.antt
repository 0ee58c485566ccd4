-- What is read of the statements of a unit. ANSI X3.9-1978, sections 3.5 and 11.10, and MIL-STD-1753 for DO WHILE.
use Rattle.std.specs.Prelude.{◌≡◌, ℕ, List, map, Option, Some, None}
use Rattle.f_tree.specs.declared.statements.Body.{Body}
use Rattle.f_tree.specs.declared.statements.Body.TheOpen as body
use Rattle.f_tree.specs.declared.statements.Stmt.{Stmt}
use Rattle.f_tree.specs.Attributes.{from_all}
use Rattle.f_tree.specs.Facts.{ProgramUnit}
use Rattle.f_tree.specs.Folds.{layer_of}
use Rattle.f_tree.specs.Lines.{Naming, loop_label_in, line_of}

-- the lines of a unit are those of statements, the names in them being these
pub record IsReadAs (p : ProgramUnit) (names : Naming) (ss : List Stmt) : Type 0 where
  pub lines : p.lines ≡ map (line_of names (from_all loop_label_in ss)) ss

-- what a DO or a DO WHILE says of its terminal statement: its label, if one is written; nothing where a statement is neither
unfoldable pub loop_in : Body → Option (Option ℕ)
loop_in b = elim (layer_of b) [ body.Do label control ↦ Some label | body.DoWhile label e ↦ Some label | _ ↦ None ]

unfoldable pub loop_there : Option Stmt → Option (Option ℕ)
loop_there None = None
loop_there (Some s) = loop_in s.body
