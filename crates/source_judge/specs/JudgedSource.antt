-- What the judge of a source answers: the set of trees with which it is accepted for the check of its calls, or its first refusal.
use Rattle.std.specs.Prelude.{◌≡◌, ℕ, List, Some, None, Result, Ok, Err}
use Rattle.f_tree.specs.declared.names.Options.{Options}
use Rattle.f_tree.specs.declared.refusals.Fail.{Fail}
use Rattle.f_tree.specs.declared.refusals.Fail.TheVariants as fail
use Rattle.f_tree.specs.declared.units.FileSet.{FileSet}
use Rattle.set_judge.specs.declaration_rows.GlobalRows.{all_units, units_global_rows}
use Rattle.set_judge.specs.declaration_rows.SetRows.{set_faults}
use Rattle.set_judge.specs.declaration_rows.Verdicts.{first_of}
use Rattle.source_reader.specs.source_acceptance.SourceFiles.{Source}
use Rattle.source_reader.specs.source_verdict.SourceRows.{Purpose, Checking, IsAcceptedFor}
use Rattle.source_reader.specs.source_verdict.Fronts.{IsFirstOfAllFor}
use Rattle.source_reader.specs.SourceReading.{entries}
use Rattle.source_reader.specs.Sources.{source_of, IsSet}

-- a set of whose declarations no row holds, or the first of these rows; want of memory says nothing
abbrev pub IsWellDeclared : Options → FileSet → Result FileSet Fail → Type 0
IsWellDeclared options set (Ok same) = (same ≡ set) × (first_of (set_faults options set) ≡ None)
IsWellDeclared options set (Err (fail.Refused r)) = first_of (set_faults options set) ≡ Some r
IsWellDeclared options set (Err fail.NoMemory) = Unit {0}

-- the set that a source spells, of which no row holds of those that are judged for each purpose before the forms: of cards, statements, nests and
-- declarations
pub record IsDeclaredSet (options : Options) (source : Source) (set : FileSet) : Type 0 where
  pub read : IsSet options source set
  pub declared : first_of (set_faults options set) ≡ None

-- the set, or the first refusal for each purpose, whatever further files the source includes; want of memory says nothing
abbrev pub IsSourceDeclared : Options → List (List ℕ) → List (List ℕ) → List (List ℕ) → Result FileSet Fail → Type 0
IsSourceDeclared options files names included (Ok set) = IsDeclaredSet options (source_of files names included) set
IsSourceDeclared options files names included (Err (fail.Refused r)) = (purpose : Purpose) → IsFirstOfAllFor purpose options files (entries names included) r
IsSourceDeclared options files names included (Err fail.NoMemory) = Unit {0}

-- a set whose units share no name and no second main program, or the first of these rows; want of memory says nothing
abbrev pub IsApart : FileSet → Result FileSet Fail → Type 0
IsApart set (Ok same) = (same ≡ set) × (first_of (units_global_rows (all_units set.files)) ≡ None)
IsApart set (Err (fail.Refused r)) = first_of (units_global_rows (all_units set.files)) ≡ Some r
IsApart set (Err fail.NoMemory) = Unit {0}

-- the set with which a source is accepted for checking, or its first refusal, whatever further files it includes; want of memory says nothing
abbrev pub IsSourceJudged : Options → List (List ℕ) → List (List ℕ) → List (List ℕ) → Result FileSet Fail → Type 0
IsSourceJudged options files names included (Ok set) = IsAcceptedFor Checking options (source_of files names included) set
IsSourceJudged options files names included (Err (fail.Refused r)) = IsFirstOfAllFor Checking options files (entries names included) r
IsSourceJudged options files names included (Err fail.NoMemory) = Unit {0}
