-- What the readers of files and of included files give: the tree that the statements spell, or their first row.
use Rattle.std.specs.Prelude.{◌≡◌, ℕ, Bool, true, false, List, Result, Ok, Err}
use Rattle.f_tree.specs.declared.refusals.Fail.{Fail}
use Rattle.f_tree.specs.declared.refusals.Fail.TheVariants as fail
use Rattle.f_tree.specs.declared.refusals.Refusal.{Refusal}
use Rattle.f_tree.specs.declared.units.File.{File}
use Rattle.f_tree.specs.declared.units.Part.{Part}
use Rattle.f_tree.specs.RefusalRows.{IsNotAfter}
use Rattle.fortran_text.specs.StatementsOfFile.{file_cards}
use Rattle.fortran_text.specs.declared.source.Statement.{Statement}
use Rattle.fortran_grammar.specs.UnitsOfFile.{SpellsFile}
use Rattle.fortran_grammar.specs.IncludedFiles.{SpellsPart}
use Rattle.fortran_grammar.specs.SyntaxRows.{FaultOfStatements}

-- No row holds. `whole` says that the file is not included.
abbrev pub HasNoFault : Bool → List Statement → Type 0
HasNoFault whole sources = (q : Refusal) → FaultOfStatements whole sources q.file q.card q.kind → ⊥

-- The first row of the statements, by the card and then by the number.
pub record IsFirstRow (whole : Bool) (sources : List Statement) (r : Refusal) : Type 0 where
  pub holds : FaultOfStatements whole sources r.file r.card r.kind
  pub least : (q : Refusal) → FaultOfStatements whole sources q.file q.card q.kind → IsNotAfter r q

-- Statements of a file with a number, from its bytes.
abbrev pub AreStatementsOf : ℕ → List ℕ → List Statement → Type 0
AreStatementsOf file bytes sources = sources ≡ (file_cards file bytes).statements

-- A file: its tree where no row holds, or else its first row. Want of memory says nothing.
abbrev pub IsFileTree : List Statement → Result File Fail → Type 0
IsFileTree sources (Ok tree) = SpellsFile sources tree × HasNoFault true sources
IsFileTree sources (Err (fail.Refused r)) = (file : ℕ) (bytes : List ℕ) → AreStatementsOf file bytes sources → IsFirstRow true sources r
IsFileTree sources (Err fail.NoMemory) = Unit {0}

-- The same of an included file with a name.
abbrev pub IsPartTree : List ℕ → List Statement → Result Part Fail → Type 0
IsPartTree name sources (Ok part) = SpellsPart name sources part × HasNoFault false sources
IsPartTree name sources (Err (fail.Refused r)) = (file : ℕ) (bytes : List ℕ) → AreStatementsOf file bytes sources → IsFirstRow false sources r
IsPartTree name sources (Err fail.NoMemory) = Unit {0}
