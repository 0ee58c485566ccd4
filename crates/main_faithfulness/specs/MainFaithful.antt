-- That the text of the C file which is made for a main program of numbers is faithful to the file of that program.
-- ANSI X3.9-1978, sections 2.4, 5 and 14; C89, 3.1.2.2 and 3.7.
use Rattle.std.specs.Prelude.{◌≡◌, ℕ, List, [], ◌∷◌, Some}
use Rattle.main_translation_laws.specs.run_state.Units.{Units}
use Rattle.main_translation_laws.specs.f_tree.declared.names.Options.{Options}
use Rattle.main_translation_laws.specs.f_tree.declared.units.File.{File}
use Rattle.main_translation_laws.specs.f_tree.Values.{NoMeaning}
use Rattle.main_translation_laws.specs.f_tree.Facts.{ProgramUnit}
use Rattle.main_translation_laws.specs.f_tree.Meaning.{units_in, ftn, act_of}
use Rattle.main_translation_laws.specs.l_core.Steps.{Text}
use Rattle.main_translation_laws.specs.lowering.Units.{lowered_unit}
use Rattle.main_translation_laws.specs.c_tree.declared.statement.CStmt.{CStmt}
use Rattle.main_translation_laws.specs.c_tree.CText.{CText}
use Rattle.main_translation_laws.specs.faithful.Faithful.{Faithful}
use Rattle.main_translation_laws.specs.main_file.MainFile.{main_file}
use Rattle.main_translation_laws.specs.main_translation.Contents.{inventory_of}
use Rattle.main_translation_laws.specs.main_translation.Outlined.{body_of}
use Rattle.main_translation_laws.specs.main_programs.MainRuns.{plain_setting, plain_facts}
use Rattle.main_translation_laws.specs.PlainMains.{IsPlainMain, IsPlainText}

-- the unit never comes to a form without meaning
abbrev pub IsMeant : ProgramUnit → Type 0
IsMeant unit = (units : Units) (n : ℕ) → act_of (ftn (plain_setting unit) (unit ∷ []) units n) ≡ Some NoMeaning → ⊥

-- LAW
-- a file of one such program, which is lowered, and bytes that spell the C file for it
abbrev pub EachPlainMainIsFaithful : Type 0
EachPlainMainIsFaithful = (options : Options) (tree : File) (unit : ProgramUnit) (u : Text) (body : List CStmt) (bytes : List ℕ) →
    units_in options (tree ∷ []) ≡ unit ∷ [] → IsPlainMain unit → lowered_unit (plain_facts unit) ≡ Some u → IsPlainText u → body_of unit u ≡ Some body →
    CText bytes (main_file (inventory_of unit u) body) → IsMeant unit → Faithful options (tree ∷ []) (bytes ∷ [])
