-- How checking the calls of what some places hold, by what prototype files at others say, ends.
use Rattle.std.specs.Prelude.{◌≡◌, ℕ, List, ◌∷◌, ◌++◌, Result, Ok, Err, IfSome}
use Rattle.f2c_outside.specs.declared.shelves.Place.{Place}
use Rattle.f2c_outside.specs.declared.shelves.Place.TheVariants.{Output, File as FileNamed}
use Rattle.f2c_outside.specs.Shelf.{ShelfState, Contents, bytes_of}
use Rattle.f_tree.specs.declared.names.Options.{Options}
use Rattle.f_tree.specs.declared.units.FileSet.{FileSet}
use Rattle.proto_file.specs.prototypes.PrototypeText.{RefusedLine}
use Rattle.call_shapes.specs.declared.findings.Finding.{Finding}
use Rattle.call_shapes.specs.declared.shapes.NamedShape.{NamedShape}
use Rattle.call_shapes.specs.Disagreements.{disagreeing}
use Rattle.call_lines.specs.FindingLines.{finding_lines}
use Rattle.source_files.specs.source_acceptance.SourceFiles.{Source}
use Rattle.source_files.specs.source_verdict.SourceRows.{Checking, IsAcceptedFor}
use Rattle.source_files.specs.SourceOnShelf.{mentions, files_on, HasPlaces, AreThere, source_on}
use Rattle.source_files.specs.SourceReads.{IsAwayAmong, IsFailedAmong}
use Rattle.source_files.specs.SourceEnds.{EndedRefusedFor, EndedNotThere, EndedUnread}
use Rattle.shelf_texts.specs.ShelfLoops.{IsKept, IsWritten, IsUnwritten}
use Rattle.check_command.specs.declared.checked.Checked.{Checked}
use Rattle.check_command.specs.declared.failing.CheckFail.{CheckFail}
use Rattle.check_command.specs.declared.failing.CheckFail.TheVariants.{NotThere, Unread, Refused, NotPrototype, Unwritten, NoMemory}
use Rattle.check_command.specs.PrototypeFiles.{HaveShapes}
use Rattle.check_command.specs.Listing.{file_names, answer_of}

-- ## What is found

-- the source is accepted for checking, the texts are prototype files, and these are the calls that disagree
pub record AreFound (options : Options) (source : Source) (texts : List (List ℕ)) (findings : List Finding) : Type 0 where
  pub set : FileSet
  pub accepted : IsAcceptedFor Checking options source set
  pub shapes : List NamedShape
  pub have : HaveShapes texts shapes
  pub findings_are : findings ≡ disagreeing set.files shapes

-- the places and each file that they include are there, and so are the prototype files; these are the names of the files, and the calls that disagree
pub record AreFoundOn (options : Options) (froms prototypes : List Place) (names : List (List ℕ)) (findings : List Finding) (contents : Contents)
    : Type 0 where
  pub there : HasPlaces froms contents
  pub included : AreThere (mentions (files_on contents froms)) contents
  pub prototypes_there : HasPlaces prototypes contents
  pub names_are : names ≡ file_names froms (mentions (files_on contents froms))
  pub found : AreFound options (source_on contents froms) (files_on contents prototypes) findings

-- a source and prototype files were read, and these are the calls that disagree; where the shelf tells, they are those of the places
pub record EndedFound (options : Options) (froms prototypes : List Place) (names : List (List ℕ)) (findings : List Finding) (b : ShelfState) : Type 0 where
  pub source : Source
  pub texts : List (List ℕ)
  pub found : AreFound options source texts findings
  pub found_on : IfSome b.told (AreFoundOn options froms prototypes names findings)

-- ## How it ends

-- the lines of all calls that disagree went behind what Output held
pub record EndedListed (options : Options) (froms prototypes : List Place) (checked : Checked) (b a : ShelfState) : Type 0 where
  pub names : List (List ℕ)
  pub findings : List Finding
  pub found : EndedFound options froms prototypes names findings b
  pub answer : checked ≡ answer_of findings
  pub written : IsWritten Output (finding_lines names findings) b a

-- writing these lines failed
pub record EndedUnlisted (options : Options) (froms prototypes : List Place) (place : Place) (b a : ShelfState) : Type 0 where
  pub names : List (List ℕ)
  pub findings : List Finding
  pub found : EndedFound options froms prototypes names findings b
  pub named : place ≡ Output
  pub unwritten : IsUnwritten Output (finding_lines names findings) b a

-- the source is accepted for checking, and the file with this name is the first of the prototype files that is none, for this line
pub record IsBadOn (options : Options) (froms prototypes : List Place) (name : List ℕ) (line : ℕ) (contents : Contents) : Type 0 where
  pub there : HasPlaces froms contents
  pub included : AreThere (mentions (files_on contents froms)) contents
  pub set : FileSet
  pub accepted : IsAcceptedFor Checking options (source_on contents froms) set
  pub prototypes_there : HasPlaces prototypes contents
  pub before : List Place
  pub behind : List Place
  pub is : prototypes ≡ before ++ FileNamed name ∷ behind
  pub shapes : List NamedShape
  pub others : HaveShapes (files_on contents before) shapes
  pub refused : RefusedLine (bytes_of (FileNamed name) contents) line

pub record EndedNotPrototype (options : Options) (froms prototypes : List Place) (name : List ℕ) (line : ℕ) (b a : ShelfState) : Type 0 where
  pub kept : IsKept b a
  pub bad : IfSome b.told (IsBadOn options froms prototypes name line)

-- a file that is read is not there: one of the source, or else a prototype file
pub data EndedAway (options : Options) (froms prototypes : List Place) (name : List ℕ) (b a : ShelfState) : Type 0 where
  source_away : EndedNotThere options froms name b a → EndedAway options froms prototypes name b a
  prototype_away : IsAwayAmong prototypes name b a → EndedAway options froms prototypes name b a

-- the shelf failed while one was being read
pub data EndedFailed (froms prototypes : List Place) (place : Place) (b a : ShelfState) : Type 0 where
  source_failed : EndedUnread froms place b a → EndedFailed froms prototypes place b a
  prototype_failed : IsFailedAmong prototypes place b a → EndedFailed froms prototypes place b a

-- how a check ends
abbrev pub CheckEnded : Options → List Place → List Place → ShelfState → ShelfState → Result Checked CheckFail → Type 0
CheckEnded options froms prototypes b a (Ok checked) = EndedListed options froms prototypes checked b a
CheckEnded options froms prototypes b a (Err (Refused refusal name)) = EndedRefusedFor Checking options froms refusal name b a
CheckEnded options froms prototypes b a (Err (NotPrototype name line)) = EndedNotPrototype options froms prototypes name line b a
CheckEnded options froms prototypes b a (Err (NotThere name)) = EndedAway options froms prototypes name b a
CheckEnded options froms prototypes b a (Err (Unread place)) = EndedFailed froms prototypes place b a
CheckEnded options froms prototypes b a (Err (Unwritten place)) = EndedUnlisted options froms prototypes place b a
CheckEnded options froms prototypes b a (Err NoMemory) = IsKept b a
