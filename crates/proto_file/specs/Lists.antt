-- What the text of a list of prototypes spells, and which FORTRAN file has the prototypes of a C tree.
use Rattle.std.specs.Prelude.{◌≡◌, ℕ, List}
use Rattle.cards.specs.f_tree.declared.names.Options.{Options}
use Rattle.cards.specs.f_tree.declared.units.File.{File}
use Rattle.c_tree.specs.declared.file.CFile.{CFile}
use Rattle.prototypes.specs.faithful.Signatures.{HasSignatures}
use Rattle.prototypes.specs.declared.prototype.Prototype.{Prototype}
use Rattle.prototypes.specs.PrototypeText.{Spells}
use Rattle.prototypes.specs.FilePrototypes.{file_prototypes}

-- a text spells these prototypes and no others
pub record SpellsAlone (bytes : List ℕ) (prototypes : List Prototype) : Type 0 where
  pub spells : Spells bytes prototypes
  pub alone : (other : List Prototype) → Spells bytes other → other ≡ prototypes

-- the prototypes are those of each FORTRAN file of which the C tree is a translation
abbrev pub AreOfItsFile : CFile → List Prototype → Type 0
AreOfItsFile tree prototypes = (options : Options) (file : File) → HasSignatures options file tree → prototypes ≡ file_prototypes options file
