-- The outputs of the translation of FORTRAN files: the C text of each, and behind it the text of its prototypes, where these are asked for. CSTR 149.
use Rattle.std.specs.Prelude.{◌≡◌, ℕ, Bool, List, [], ◌∷◌, ◌++◌, map, if◌then◌else◌}
use Rattle.std.specs.List.{flat_map}
use Rattle.f_tree.specs.declared.names.Options.{Options}
use Rattle.f_tree.specs.declared.units.File.{File}
use Rattle.c_tree.specs.declared.file.CFile.{CFile}
use Rattle.c_text.specs.Printed.{printed}
use Rattle.proto_file.specs.prototypes.declared.prototype.Prototype.{Prototype}
use Rattle.proto_file.specs.prototypes.faithful.Signatures.{EachHasSignatures}
use Rattle.proto_file.specs.prototypes.PrototypeText.{prototype_text}
use Rattle.proto_file.specs.prototypes.FilePrototypes.{file_prototypes}
use Rattle.proto_file.specs.prototypes.TreePrototypes.{tree_prototypes}

-- of a FORTRAN file with this C text
unfoldable pub file_outputs : Bool → Options → File → List ℕ → List (List ℕ)
file_outputs prototypes options file text = text ∷ (if prototypes then prototype_text (file_prototypes options file) ∷ [] else [])

-- of files with these C texts, one for each, in their order
unfoldable pub set_outputs : Bool → Options → List File → List (List ℕ) → List (List ℕ)
set_outputs prototypes options [] texts = []
set_outputs prototypes options (file ∷ files) [] = []
set_outputs prototypes options (file ∷ files) (text ∷ texts) = file_outputs prototypes options file text ++ set_outputs prototypes options files texts

-- of a C tree
unfoldable pub tree_outputs : Bool → CFile → List (List ℕ)
tree_outputs prototypes tree = printed tree ∷ (if prototypes then prototype_text (tree_prototypes tree) ∷ [] else [])

-- the prototypes of each file
abbrev pub set_prototypes : Options → List File → List (List Prototype)
set_prototypes options files = map (file_prototypes options) files

-- LAWS
-- C trees that have the functions of FORTRAN files have their outputs, and their prototypes
abbrev pub EachOutputIsOfItsFile : Type 0
EachOutputIsOfItsFile = (prototypes : Bool) (options : Options) (files : List File) (trees : List CFile) → EachHasSignatures options files trees →
    flat_map (tree_outputs prototypes) trees ≡ set_outputs prototypes options files (map printed trees)

abbrev pub EachListIsOfItsFile : Type 0
EachListIsOfItsFile = (options : Options) (files : List File) (trees : List CFile) → EachHasSignatures options files trees →
    map tree_prototypes trees ≡ set_prototypes options files
