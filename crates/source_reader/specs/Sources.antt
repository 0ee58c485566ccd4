-- What the reader of a source gives.
use Rattle.std.specs.Prelude.{◌≡◌, ◌≤◌, ℕ, List, [], map, unwrap_or, Option, Some, Result, Ok, Err}
use Rattle.f_tree.specs.declared.names.Options.{Options}
use Rattle.f_tree.specs.declared.refusals.Fail.{Fail}
use Rattle.f_tree.specs.declared.refusals.Fail.TheVariants as fail
use Rattle.f_tree.specs.declared.refusals.Refusal.{Refusal}
use Rattle.f_tree.specs.declared.units.File.{File}
use Rattle.f_tree.specs.declared.units.FileSet.{FileSet}
use Rattle.f_tree.specs.declared.units.Part.{Part}
use Rattle.fortran_text.specs.StatementsOfFile.{FileCards}
use Rattle.fortran_grammar.specs.IncludedFiles.{file_with_parts}
use Rattle.source_acceptance.specs.declaration_rows.GlobalRows.{all_units}
use Rattle.file_parse.specs.FirstRefusals.{IsFirstAmong}
use Rattle.source_acceptance.specs.SourceFiles.{Source, IsWhole, SpellsSource}
use Rattle.source_acceptance.specs.Acceptance.{Phase, Cards, Syntax, Nesting, place_of, Fault, IsFirstRefusal, deep_rows_of}
pub use Rattle.source_verdict.specs.Fronts.{IsSourceOf}
use Rattle.source_reader.specs.Along.{Along}
use Rattle.source_reader.specs.Limits.{first_named, first_passing}
use Rattle.source_reader.specs.PartReading.{or_else}
use Rattle.source_reader.specs.SourceReading.{entries}
use Rattle.source_reader.specs.Trees.{IsTreeOf, IsTreeStop, PartsOf, IsPartStop}
use Rattle.source_reader.specs.declared.named.NamedFiles.{NamedFiles}
use Rattle.source_reader.specs.declared.included.PartsRead.{PartsRead}

-- The files with these included files.
abbrev pub source_of : List (List ℕ) → List (List ℕ) → List (List ℕ) → Source
source_of files names included = record { files = files; included = entries names included }

-- No row of a phase holds.
abbrev pub IsClear : Options → Source → Phase → Type 0
IsClear options source phase = (q : Refusal) → Fault options source phase q → ⊥

-- The set that a source spells, of which no row of the cards, the statements and the nests holds.
pub record IsSet (options : Options) (source : Source) (set : FileSet) : Type 0 where
  pub whole : IsWhole source
  pub spells : SpellsSource source set
  pub cards : IsClear options source Cards
  pub statements : IsClear options source Syntax
  pub nests : IsClear options source Nesting

-- The first refusal of a source, which is one of the cards, the statements or the nests.
pub record IsRefusedEarly (options : Options) (source : Source) (r : Refusal) : Type 0 where
  pub first : IsFirstRefusal options source r
  pub early : place_of first.phase ≤ 2

-- The set of a source, or its first refusal, whatever further files it includes. Want of memory says nothing.
abbrev pub IsSourceRead : Options → List (List ℕ) → List (List ℕ) → List (List ℕ) → Result FileSet Fail → Type 0
IsSourceRead options files names included (Ok set) = IsSet options (source_of files names included) set
IsSourceRead options files names included (Err (fail.Refused r)) =
    (source : Source) → IsSourceOf files (entries names included) source → IsRefusedEarly options source r
IsSourceRead options files names included (Err fail.NoMemory) = Unit {0}

-- The first refusal of the cards, by what was read.
abbrev pub count_named : NamedFiles → PartsRead → List ℕ → ℕ
count_named named parts name = unwrap_or (first_named named.names parts.counts name) 0

unfoldable pub first_of_cards : NamedFiles → PartsRead → Option Refusal
first_of_cards named parts = or_else (first_passing (count_named named parts) 0 named.files) (or_else named.refused parts.refused)

-- Trees and parts, and the set that they make.
pub record MakeSet (files : List FileCards) (names : List (List ℕ)) (parts : List FileCards) (set : FileSet) : Type 0 where
  pub trees : List File
  pub own : List Part
  pub along : Along IsTreeOf 0 files trees
  pub parts_are : PartsOf names parts own
  pub set_is : set.files ≡ map (file_with_parts own) trees

abbrev pub rows_of_nests : FileSet → List Refusal
rows_of_nests set = deep_rows_of (all_units set.files)

pub data TreesStop (files : List FileCards) (names : List (List ℕ)) (parts : List FileCards) (r : Refusal) : Type 0 where
  at_file : IsTreeStop files r → TreesStop files names parts r
  at_part : (trees : List File) → Along IsTreeOf 0 files trees → IsPartStop parts r → TreesStop files names parts r
  at_nest : (set : FileSet) → MakeSet files names parts set → IsFirstAmong (rows_of_nests set) (Some r) → TreesStop files names parts r

abbrev pub AreTreesOf : List FileCards → List (List ℕ) → List FileCards → Result FileSet Fail → Type 0
AreTreesOf files names parts (Ok set) = MakeSet files names parts set × (rows_of_nests set ≡ [])
AreTreesOf files names parts (Err (fail.Refused r)) = TreesStop files names parts r
AreTreesOf files names parts (Err fail.NoMemory) = Unit {0}

-- A set without a row of nests, or the first.
abbrev pub IsNotDeep : FileSet → Result FileSet Fail → Type 0
IsNotDeep set (Ok same) = (same ≡ set) × (rows_of_nests set ≡ [])
IsNotDeep set (Err (fail.Refused r)) = IsFirstAmong (rows_of_nests set) (Some r)
IsNotDeep set (Err fail.NoMemory) = Unit {0}
