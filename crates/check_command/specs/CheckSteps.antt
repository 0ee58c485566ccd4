-- How checking the calls of a source whose files were read ends, step by step.
use Rattle.std.specs.Prelude.{◌≡◌, ℕ, List, Result, Err}
use Rattle.f2c_outside.specs.declared.shelves.Place.{Place}
use Rattle.f2c_outside.specs.Shelf.{ShelfState}
use Rattle.f_tree.specs.declared.names.Options.{Options}
use Rattle.f_tree.specs.declared.refusals.Fail.{Fail}
use Rattle.f_tree.specs.declared.refusals.Fail.TheVariants as judge_fail
use Rattle.f_tree.specs.declared.refusals.Refusal.{Refusal}
use Rattle.f_tree.specs.declared.units.File.{File}
use Rattle.f_tree.specs.declared.units.FileSet.{FileSet}
use Rattle.call_shapes.specs.declared.shapes.NamedShape.{NamedShape}
use Rattle.call_shapes.specs.Disagreements.{disagreeing}
use Rattle.source_files.specs.source_verdict.SourceRows.{Checking, IsAcceptedFor}
use Rattle.source_files.specs.source_verdict.Fronts.{IsFirstOfAllFor}
use Rattle.source_files.specs.source_reader.SourceReading.{entries}
use Rattle.source_files.specs.source_reader.Sources.{source_of}
use Rattle.source_files.specs.SourceOnShelf.{name_of_file}
use Rattle.shelf_texts.specs.ShelfLoops.{IsKept}
use Rattle.check_command.specs.declared.checked.Checked.{Checked}
use Rattle.check_command.specs.declared.failing.CheckFail.{CheckFail}
use Rattle.check_command.specs.declared.failing.CheckFail.TheVariants as fail
use Rattle.check_command.specs.PrototypeFiles.{ArePrototypesRead, ArePrototypesUnread}
use Rattle.check_command.specs.Listing.{file_names, AreListed}

-- the calls of a set were checked against it and against the lines of prototype files, and those that disagree were listed; or not
pub data SetChecked (froms : List Place) (names : List (List ℕ)) (files : List File) (prototypes : List Place) (b a : ShelfState)
    (result : Result Checked CheckFail) : Type 0 where
  listed : (shapes : List NamedShape) (middle : ShelfState) → ArePrototypesRead prototypes shapes b middle
      → AreListed (file_names froms names) (disagreeing files shapes) middle a result → SetChecked froms names files prototypes b a result
  unread : (why : CheckFail) → result ≡ Err why → ArePrototypesUnread prototypes b a why → SetChecked froms names files prototypes b a result

-- a refusal with the name of its file, or want of memory for the name
abbrev pub IsRefusedIn : List Place → List (List ℕ) → Refusal → CheckFail → Type 0
IsRefusedIn froms names refusal (fail.Refused other name) = (other ≡ refusal) × (name ≡ name_of_file froms names refusal.file)
IsRefusedIn froms names refusal fail.NoMemory = Unit {0}
IsRefusedIn froms names refusal (fail.NotThere name) = ⊥
IsRefusedIn froms names refusal (fail.Unread place) = ⊥
IsRefusedIn froms names refusal (fail.NotPrototype name line) = ⊥
IsRefusedIn froms names refusal (fail.Unwritten place) = ⊥

-- a refusal so, or want of memory
abbrev pub IsNotJudged : List Place → List (List ℕ) → Fail → CheckFail → Type 0
IsNotJudged froms names (judge_fail.Refused refusal) found = IsRefusedIn froms names refusal found
IsNotJudged froms names judge_fail.NoMemory found = found ≡ fail.NoMemory

-- a source whose files were read was judged, and the calls of its set were checked; or it was refused
pub data SourceChecked (options : Options) (froms : List Place) (files names included : List (List ℕ)) (prototypes : List Place) (b a : ShelfState)
    (result : Result Checked CheckFail) : Type 0 where
  judged : (set : FileSet) → IsAcceptedFor Checking options (source_of files names included) set → SetChecked froms names set.files prototypes b a result
      → SourceChecked options froms files names included prototypes b a result
  refused : (refusal : Refusal) (why : CheckFail) → result ≡ Err why → IsFirstOfAllFor Checking options files (entries names included) refusal
      → IsRefusedIn froms names refusal why → IsKept b a → SourceChecked options froms files names included prototypes b a result
  no_memory : result ≡ Err fail.NoMemory → IsKept b a → SourceChecked options froms files names included prototypes b a result
