-- What it means that what is known where a statement stands is so in its unit; and that a statement that breaks no row is
-- well formed there. ANSI X3.9-1978, sections 10 to 13 and 15.
use Rattle.std.specs.Prelude.{◌≡◌, ℕ, [], Option, Some, None, slice_get, IsTrue}
use Rattle.fortran_text.specs.f_tree.declared.statements.Body.{Body}
use Rattle.fortran_text.specs.f_tree.Facts.{Line, Facts}
use Rattle.fortran_text.specs.f_tree.Transfers.{labelled_text}
use Rattle.fortran_text.specs.f_tree.Lines.{form_of, mark_of}
use Rattle.fortran_text.specs.f_tree.WellFormed.{HasStatement, HasTerminal, is_given, IsFormed}
use Rattle.declaration_rows.specs.Fits.{Agrees}
use Rattle.declaration_rows.specs.StatementRows.{Site, broken}

-- the names, the labels of statements and of FORMAT statements, and the terminal statements, where a statement stands
pub record IsSite (c : Facts) (count : ℕ) (at : ℕ) (site : Site) : Type 0 where
  pub names : Agrees c count [] site.known
  pub branches : (label : ℕ) → IsTrue (site.branches label) → HasStatement c.program label
  pub formats : (label : ℕ) → IsTrue (site.formats label) → IsTrue (is_given (labelled_text c.program.formats label))
  pub terminals : (label : Option ℕ) → IsTrue (site.ends_loop label) → HasTerminal c.program at label

-- the statement of a unit at a place
pub record StandsThere (c : Facts) (at : ℕ) (site : Site) (b : Body) : Type 0 where
  pub line : Line
  pub line_is : slice_get c.program.lines at ≡ Some line
  pub form_is : line.form ≡ form_of site.known.attribute b
  pub mark_is : line.mark ≡ mark_of b

-- A statement that breaks no row is well formed where it stands.
abbrev pub EachFaultlessStatementIsFormed : Type 0
EachFaultlessStatementIsFormed = (c : Facts) (count : ℕ) (at : ℕ) (site : Site) (b : Body) → IsSite c count at site → StandsThere c at site b →
    (broken site b).rows ≡ [] → IsFormed c count at None (form_of site.known.attribute b)
