-- What holds of prototype files.
use Rattle.std.specs.Prelude.{◌≡◌, ℕ, true, List, map}
use Rattle.std.specs.List.{list_all}
use Rattle.prototypes.specs.f_tree.declared.names.Options.{Options}
use Rattle.prototypes.specs.f_tree.declared.units.File.{File}
use Rattle.prototypes.specs.c_tree.declared.file.CFile.{CFile}
use Rattle.prototypes.specs.faithful.Signatures.{signature_of, file_signatures}
use Rattle.prototypes.specs.declared.prototype.Prototype.{Prototype}
use Rattle.prototypes.specs.PrototypeText.{prototype_text, is_prototype, Spells, IsPrototypeFile, IsFile, RefusedLine}
use Rattle.prototypes.specs.FilePrototypes.{file_prototypes}
use Rattle.prototypes.specs.TreePrototypes.{tree_prototypes}

-- the text of prototypes spells them, where each is one that a line may say
abbrev pub EachTextSpellsItsPrototypes : Type 0
EachTextSpellsItsPrototypes = (prototypes : List Prototype) → list_all is_prototype prototypes ≡ true → Spells (prototype_text prototypes) prototypes

-- a text spells one list of prototypes at most: so what is read of a printed list is that list
abbrev pub EachTextSpellsOneList : Type 0
EachTextSpellsOneList = (bytes : List ℕ) (one other : List Prototype) → Spells bytes one → Spells bytes other → one ≡ other

-- a text is a file, and is refused at no line; or it is none, and is refused at one line alone
pub data Verdict (bytes : List ℕ) : Type 0 where
  is_file : (prototypes : List Prototype) → IsPrototypeFile bytes prototypes → ((line : ℕ) → RefusedLine bytes line → ⊥) → Verdict bytes
  is_refused : (line : ℕ) → RefusedLine bytes line → (IsFile bytes → ⊥) → ((other : ℕ) → RefusedLine bytes other → other ≡ line) → Verdict bytes

abbrev pub EachTextHasAVerdict : Type 0
EachTextHasAVerdict = (bytes : List ℕ) → Verdict bytes

-- a C tree whose functions are those of the text of a FORTRAN file has the prototypes of that file
abbrev pub EachTreeHasThePrototypesOfItsFile : Type 0
EachTreeHasThePrototypesOfItsFile =
    (options : Options) (file : File) (text : CFile) → map signature_of text.functions ≡ file_signatures options file → tree_prototypes text ≡ file_prototypes options file
