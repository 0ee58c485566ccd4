-- The trees of files and of included files.
use Rattle.std.specs.Prelude.{◌≡◌, ◌<◌, ℕ, true, false, List, [], ◌∷◌, map, slice_get, Option, Some, None, Result, Ok, Err}
use Rattle.f_tree.specs.declared.refusals.Fail.{Fail}
use Rattle.f_tree.specs.declared.refusals.Fail.TheVariants as fail
use Rattle.f_tree.specs.declared.refusals.Refusal.{Refusal}
use Rattle.f_tree.specs.declared.units.File.{File}
use Rattle.f_tree.specs.declared.units.FileSet.{FileSet}
use Rattle.f_tree.specs.declared.units.Part.{Part}
use Rattle.fortran_text.specs.StatementsOfFile.{FileCards}
use Rattle.fortran_grammar.specs.UnitsOfFile.{SpellsFile}
use Rattle.fortran_grammar.specs.IncludedFiles.{SpellsPart, file_with_parts}
use Rattle.file_parse.specs.FileTrees.{HasNoFault, IsFileTree, IsPartTree}
use Rattle.source_reader.specs.Along.{Along}

-- The tree of a file that has no row.
pub record IsTreeOf (file : ℕ) (cards : FileCards) (tree : File) : Type 0 where
  pub spells : SpellsFile cards.statements tree
  pub clear : HasNoFault true cards.statements

-- The first file that has a row.
pub record IsTreeStop (files : List FileCards) (r : Refusal) : Type 0 where
  pub place : ℕ
  pub cards : FileCards
  pub is : slice_get files place ≡ Some cards
  pub refused : IsFileTree cards.statements (Err (fail.Refused r))
  pub before : (j : ℕ) (c : FileCards) → j < place → slice_get files j ≡ Some c → HasNoFault true c.statements

abbrev pub AreFileTrees : List FileCards → Result (List File) Fail → Type 0
AreFileTrees files (Ok trees) = Along IsTreeOf 0 files trees
AreFileTrees files (Err (fail.Refused r)) = IsTreeStop files r
AreFileTrees files (Err fail.NoMemory) = Unit {0}

-- The parts of included files that have no row, with their names.
pub data PartsOf : List (List ℕ) → List FileCards → List Part → Type 0 where
  no_part : PartsOf [] [] []
  one_part : (name : List ℕ) (cards : FileCards) (part : Part) (names : List (List ℕ)) (more : List FileCards) (parts : List Part) →
      SpellsPart name cards.statements part → HasNoFault false cards.statements → PartsOf names more parts →
      PartsOf (name ∷ names) (cards ∷ more) (part ∷ parts)

pub record HaveParts (names : List (List ℕ)) (files : List FileCards) : Type 0 where
  pub parts : List Part
  pub are : PartsOf names files parts

-- The first included file that has a row.
pub record IsPartStop (files : List FileCards) (r : Refusal) : Type 0 where
  pub place : ℕ
  pub name : List ℕ
  pub cards : FileCards
  pub is : slice_get files place ≡ Some cards
  pub refused : IsPartTree name cards.statements (Err (fail.Refused r))
  pub before : (j : ℕ) (c : FileCards) → j < place → slice_get files j ≡ Some c → HasNoFault false c.statements

abbrev pub ArePartTrees : {A : Type 0} → List (List ℕ) → List FileCards → Result A Fail → Type 0
ArePartTrees names files (Ok done) = HaveParts names files
ArePartTrees names files (Err (fail.Refused r)) = IsPartStop files r
ArePartTrees names files (Err fail.NoMemory) = Unit {0}

-- A value behind a check.
abbrev pub IsAfter : {A B : Type 0} → A → Result B Fail → Result A Fail → Type 0
IsAfter value (Ok done) r = r ≡ Ok value
IsAfter value (Err f) r = r ≡ Err f

-- A value, unless it is refused.
abbrev pub IsUnless : {A : Type 0} → Option Refusal → A → Result A Fail → Type 0
IsUnless (Some r) value result = result ≡ Err (fail.Refused r)
IsUnless None value result = result ≡ Ok value

-- Trees with the parts of included files in their places; want of memory says nothing.
abbrev pub IsSpliced : List (List ℕ) → List FileCards → List File → Result FileSet Fail → Type 0
IsSpliced names files trees (Ok set) = (parts : List Part) → PartsOf names files parts → set.files ≡ map (file_with_parts parts) trees
IsSpliced names files trees (Err (fail.Refused r)) = (parts : List Part) → PartsOf names files parts → ⊥
IsSpliced names files trees (Err fail.NoMemory) = Unit {0}
