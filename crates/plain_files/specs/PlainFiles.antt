-- That the printed C file of a plain main program is faithful to its FORTRAN file. ANSI X3.9-1978, sections 2.4, 3.5, 5 and 14; C89, 3.7.
use Rattle.std.specs.Prelude.{◌≡◌, true, List, [], ◌∷◌, Some}
use Rattle.fortran_totality.specs.f_tree.declared.names.Options.{Options}
use Rattle.fortran_totality.specs.f_tree.declared.refusals.Refusal.{Refusal}
use Rattle.fortran_totality.specs.f_tree.declared.units.File.{File}
use Rattle.fortran_totality.specs.f_tree.declared.units.Unit.{Unit as WrittenUnit}
use Rattle.fortran_totality.specs.f_tree.Facts.{ProgramUnit}
use Rattle.fortran_totality.specs.f_tree.Lines.{unit_read}
use Rattle.main_faithfulness.specs.l_core.Steps.{Text}
use Rattle.main_faithfulness.specs.lowering.Units.{lowered_unit}
use Rattle.c_spelling.specs.c_tree.declared.statement.CStmt.{CStmt}
use Rattle.c_spelling.specs.c_tree.declared.file.CFile.{CFile}
use Rattle.c_spelling.specs.c_text.Printed.{printed}
use Rattle.c_spelling.specs.Spelled.{file_of_bytes}
use Rattle.declaration_laws.specs.declaration_rows.SetRows.{Faults}
use Rattle.main_faithfulness.specs.faithful.Faithful.{Faithful}
use Rattle.main_faithfulness.specs.main_file.MainFile.{main_file}
use Rattle.main_faithfulness.specs.main_translation.Contents.{inventory_of}
use Rattle.main_faithfulness.specs.main_translation.Outlined.{body_of}
use Rattle.main_faithfulness.specs.main_translation_laws.PlainMains.{IsPlainText}
use Rattle.main_faithfulness.specs.main_programs.MainRuns.{plain_facts}
use Rattle.plain_mains.specs.PlainUnits.{is_plain_main}
unfoldable pub use Rattle.main_faithfulness.specs.plain_forms.SpellableNames.{has_element, is_spellable_name, is_spellable}

-- the C file that is made for a unit with its lowered text and statements
abbrev pub made_file : ProgramUnit → Text → List CStmt → CFile
made_file unit text body = main_file (inventory_of unit text) body

-- LAW
-- a file of one plain main program that breaks no row: where it is lowered and statements are made for it, its printed C file is faithful to it
abbrev pub EachPlainFileIsFaithful : Type 0
EachPlainFileIsFaithful = (options : Options) (tree : File) (u : WrittenUnit) (text : Text) (body : List CStmt) → tree.units ≡ u ∷ [] → ((r : Refusal) → Faults options (record { files = tree ∷ [] }) r → ⊥) →
    is_plain_main options u ≡ true → is_spellable (unit_read options u) ≡ true → lowered_unit (plain_facts (unit_read options u)) ≡ Some text → IsPlainText text → body_of (unit_read options u) text ≡ Some body →
    file_of_bytes (made_file (unit_read options u) text body) ≡ true → Faithful options (tree ∷ []) (printed (made_file (unit_read options u) text body) ∷ [])
