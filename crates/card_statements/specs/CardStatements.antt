-- The statements of a source by their cards. ANSI X3.9-1978, sections 3.2 and 3.3; MIL-STD-1753: INCLUDE.
use Rattle.std.specs.Prelude.{◌≡◌, List}
use Rattle.fortran_grammar.specs.f_tree.declared.statements.Stmt.{Stmt}
use Rattle.fortran_grammar.specs.f_tree.declared.units.File.{File}
use Rattle.fortran_grammar.specs.f_tree.declared.units.FileSet.{FileSet}
use Rattle.fortran_grammar.specs.f_tree.declared.units.Unit.{Unit as WrittenUnit}
use Rattle.fortran_grammar.specs.f_tree.Setting.{IsIn}
use Rattle.source_acceptance.specs.declaration_rows.GlobalRows.{all_units}
use Rattle.source_acceptance.specs.SourceFiles.{Source, SpellsSource}

-- a card of a file has one initial line, so a statement that stands in a unit once more, by INCLUDE, is the same statement (3.2)
abbrev pub HasOneStatementToACard : List File → Type 0
HasOneStatementToACard files = (u : WrittenUnit) → IsIn u (all_units files) → (s t : Stmt) → IsIn s u.statements → IsIn t u.statements → s.file ≡ t.file →
    s.card ≡ t.card → s.body ≡ t.body

abbrev pub EachCardHasOneStatement : Type 0
EachCardHasOneStatement = (source : Source) (set : FileSet) → SpellsSource source set → HasOneStatementToACard set.files
