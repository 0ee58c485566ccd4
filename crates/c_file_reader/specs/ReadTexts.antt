-- What the reading of a text gives: the C file that it spells, or the line at which it is refused (C89, 3.7). Want of memory says nothing.
use Rattle.std.specs.Prelude.{ℕ, List, Result, Ok, Err}
use Rattle.c_tree.specs.declared.file.CFile.{CFile}
use Rattle.c_tree.specs.CText.{CText, RefusedLine}
use Rattle.c_file_reader.specs.declared.texts.ReadFail.{ReadFail}
use Rattle.c_file_reader.specs.declared.texts.ReadFail.TheVariants.{NotC, NoMemory}

abbrev pub IsRead : List ℕ → Result CFile ReadFail → Type 0
IsRead bytes (Ok file) = CText bytes file
IsRead bytes (Err (NotC line)) = RefusedLine bytes line
IsRead bytes (Err NoMemory) = Unit {0}
