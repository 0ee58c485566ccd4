-- That the statements made from items by names are those of the lowered text, and that the file with them has strings of bytes.
-- ANSI X3.9-1978, sections 10 to 12; C89, 3.1.4 and 3.6.
use Rattle.std.specs.Prelude.{◌≡◌, true, List, Some}
use Rattle.named_mains.specs.f_tree.Facts.{ProgramUnit}
use Rattle.named_mains.specs.l_core.Steps.{Text}
use Rattle.main_translation_laws.specs.lowering.Units.{lowered_unit}
use Rattle.c_spelling.specs.c_tree.declared.statement.CStmt.{CStmt}
use Rattle.c_spelling.specs.Spelled.{file_of_bytes}
use Rattle.named_mains.specs.main_file.MainFile.{main_file}
use Rattle.main_translation_laws.specs.main_programs.MainRuns.{plain_facts}
use Rattle.named_mains.specs.main_translation.Contents.{inventory_of}
use Rattle.named_mains.specs.main_translation.Outlined.{body_of}
use Rattle.main_translation_laws.specs.PlainMains.{IsPlainMain, IsPlainText}
use Rattle.named_mains.specs.NamedMains.{named_body_of}

-- LAWS
-- for a plain main program both ways make the same statements
abbrev pub EachNamedBodyIsABody : Type 0
EachNamedBodyIsABody = (unit : ProgramUnit) (u : Text) (body : List CStmt) → IsPlainMain unit → lowered_unit (plain_facts unit) ≡ Some u → IsPlainText u →
    named_body_of unit u ≡ Some body → body_of unit u ≡ Some body

-- the strings of the file are the texts of STOP statements
abbrev pub EachMainFileIsOfBytes : Type 0
EachMainFileIsOfBytes = (unit : ProgramUnit) (u : Text) (body : List CStmt) → IsPlainText u → named_body_of unit u ≡ Some body →
    file_of_bytes (main_file (inventory_of unit u) body) ≡ true
