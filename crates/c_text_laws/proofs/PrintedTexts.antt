-- A text spells one file alone, and then it is refused at no line.
use Rattle.std.proofs.Common.{◌≡◌, ℕ, true, List, Result, Ok, Err}
use Rattle.faithful.specs.f_tree.declared.names.Options.{Options}
use Rattle.faithful.specs.f_tree.declared.units.File.{File}
use Rattle.faithful.specs.c_tree.declared.file.CFile.{CFile}
use Rattle.faithful.specs.c_tree.CText.{CText, WellFormed}
use Rattle.faithful.specs.Faithful.{Faithful, SpellAll, none, more}
use Rattle.c_spelling.specs.c_text.Printed.{printed}
use Rattle.c_spelling.proofs.c_laws.PlainText as plain
use Rattle.c_spelling.proofs.c_laws.RefusalLaws.{not_both}
use Rattle.c_spelling.specs.Spelled.{file_of_bytes}
use Rattle.c_spelling.proofs.Files.{file_spelled}
use Rattle.c_file_reader.specs.declared.texts.ReadFail.{ReadFail}
use Rattle.c_file_reader.specs.declared.texts.ReadFail.TheVariants.{NotC, NoMemory}
use Rattle.c_file_reader.specs.ReadTexts.{IsRead}
use Rattle.c_text_laws.specs.ReadingLaws as laws
use Rattle.c_text_laws.specs.ReadingLaws.{IsFileOrNoMemory, IsReadAs, AreReadAs}

pub spelled_files_are_read : (bytes : List ℕ) (file : CFile) → CText bytes file → IsReadAs bytes file
spelled_files_are_read bytes file spelled (Ok other) read = plain.one_tree bytes other file read spelled
spelled_files_are_read bytes file spelled (Err (NotC line)) read = not_both bytes file line spelled read
spelled_files_are_read bytes file spelled (Err NoMemory) read = tt

pub printed_files_are_read : (file : CFile) → file_of_bytes file ≡ true → WellFormed file → IsReadAs (printed file) file
printed_files_are_read file of_bytes formed = spelled_files_are_read (printed file) file (file_spelled file of_bytes formed)

all_read : (texts : List (List ℕ)) (files : List CFile) → SpellAll texts files → AreReadAs texts files
all_read texts files none = laws.none
all_read texts files (more bytes file later others spelled spell) =
    laws.more bytes file later others (spelled_files_are_read bytes file spelled) (all_read later others spell)

pub faithful_texts_are_read : (options : Options) (trees : List File) (texts : List (List ℕ)) (faithful : Faithful options trees texts)
    → AreReadAs texts faithful.c_trees
faithful_texts_are_read options trees texts faithful = all_read texts faithful.c_trees faithful.written
