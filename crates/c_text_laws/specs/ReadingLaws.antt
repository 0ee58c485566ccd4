-- What the reading of a text gives that spells a C file (C89, 3.7).
use Rattle.std.specs.Prelude.{◌≡◌, ℕ, true, List, [], ◌∷◌, Result, Ok, Err}
use Rattle.faithful.specs.f_tree.declared.names.Options.{Options}
use Rattle.faithful.specs.f_tree.declared.units.File.{File}
use Rattle.faithful.specs.c_tree.declared.file.CFile.{CFile}
use Rattle.faithful.specs.c_tree.CText.{CText, WellFormed}
use Rattle.faithful.specs.Faithful.{Faithful}
use Rattle.c_spelling.specs.c_text.Printed.{printed}
use Rattle.c_spelling.specs.Spelled.{file_of_bytes}
use Rattle.c_file_reader.specs.declared.texts.ReadFail.{ReadFail}
use Rattle.c_file_reader.specs.declared.texts.ReadFail.TheVariants.{NotC, NoMemory}
use Rattle.c_file_reader.specs.ReadTexts.{IsRead}

-- a file is read, or memory is wanting
abbrev pub IsFileOrNoMemory : CFile → Result CFile ReadFail → Type 0
IsFileOrNoMemory file (Ok other) = other ≡ file
IsFileOrNoMemory file (Err (NotC line)) = ⊥
IsFileOrNoMemory file (Err NoMemory) = Unit {0}

-- all that the reading of the bytes may give is the file, or want of memory
abbrev pub IsReadAs : List ℕ → CFile → Type 0
IsReadAs bytes file = (result : Result CFile ReadFail) → IsRead bytes result → IsFileOrNoMemory file result

-- the reading of a text that spells a file gives the file
abbrev pub EachSpelledFileIsRead : Type 0
EachSpelledFileIsRead = (bytes : List ℕ) (file : CFile) → CText bytes file → IsReadAs bytes file

-- the reading of the printed text of a well-formed file gives the file
abbrev pub EachPrintedFileIsRead : Type 0
EachPrintedFileIsRead = (file : CFile) → file_of_bytes file ≡ true → WellFormed file → IsReadAs (printed file) file

-- texts and files, each text read as its file
pub data AreReadAs : List (List ℕ) → List CFile → Type 0 where
  none : AreReadAs [] []
  more : (bytes : List ℕ) (file : CFile) (texts : List (List ℕ)) (files : List CFile) → IsReadAs bytes file → AreReadAs texts files
      → AreReadAs (bytes ∷ texts) (file ∷ files)

-- texts that are faithful to FORTRAN files are read as the C files that make them so
abbrev pub EachFaithfulTextIsRead : Type 0
EachFaithfulTextIsRead = (options : Options) (trees : List File) (texts : List (List ℕ)) (faithful : Faithful options trees texts)
    → AreReadAs texts faithful.c_trees
