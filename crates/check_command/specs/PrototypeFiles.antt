-- Prototype files, read from places in their order, and the shapes of their lines. CSTR 149.
use Rattle.std.specs.Prelude.{◌≡◌, ℕ, List, [], ◌∷◌, take, slice_get, Some, IfSome}
use Rattle.std.specs.List.{flat_map}
use Rattle.f2c_outside.specs.declared.shelves.Place.{Place}
use Rattle.f2c_outside.specs.declared.shelves.Place.TheVariants.{File as FileNamed}
use Rattle.f2c_outside.specs.Shelf.{ShelfState}
use Rattle.proto_file.specs.prototypes.declared.prototype.Prototype.{Prototype}
use Rattle.proto_file.specs.prototypes.PrototypeText.{IsPrototypeFile, RefusedLine}
use Rattle.proto_file.specs.declared.reader.ProtoFail.{ProtoFail}
use Rattle.proto_file.specs.declared.reader.ProtoFail.TheVariants as proto_fail
use Rattle.call_shapes.specs.declared.shapes.NamedShape.{NamedShape}
use Rattle.call_lines.specs.LineShapes.{line_shapes}
use Rattle.source_files.specs.SourceReads.{HasFronts, IsAwayAmong, IsFailedAmong}
use Rattle.shelf_texts.specs.ShelfLoops.{IsKept}
use Rattle.check_command.specs.declared.failing.CheckFail.{CheckFail}
use Rattle.check_command.specs.declared.failing.CheckFail.TheVariants as fail

-- ## Texts

-- each text is a prototype file, with its prototypes
unfoldable pub ArePrototypeFiles : List (List ℕ) → List (List Prototype) → Type 0
ArePrototypeFiles [] [] = Unit {0}
ArePrototypeFiles (bytes ∷ texts) (prototypes ∷ others) = IsPrototypeFile bytes prototypes × ArePrototypeFiles texts others
ArePrototypeFiles texts prototypes = ⊥

-- the texts are prototype files, and these are the shapes of their lines, in their order
pub record HaveShapes (texts : List (List ℕ)) (shapes : List NamedShape) : Type 0 where
  pub prototypes : List (List Prototype)
  pub files : ArePrototypeFiles texts prototypes
  pub shapes_are : shapes ≡ flat_map line_shapes prototypes

-- the text with a number, which is that of the place with a name, is the first that is no prototype file, for this line
pub record IsFirstBad (places : List Place) (texts : List (List ℕ)) (name : List ℕ) (line : ℕ) : Type 0 where
  pub number : ℕ
  pub text : List ℕ
  pub shapes : List NamedShape
  pub place_is : slice_get places number ≡ Some (FileNamed name)
  pub text_is : slice_get texts number ≡ Some text
  pub before : HaveShapes (take number texts) shapes
  pub refused : RefusedLine text line

abbrev pub HaveNoShapes : List Place → List (List ℕ) → CheckFail → Type 0
HaveNoShapes places texts fail.NoMemory = Unit {0}
HaveNoShapes places texts (fail.NotPrototype name line) = IsFirstBad places texts name line
HaveNoShapes places texts (fail.NotThere name) = ⊥
HaveNoShapes places texts (fail.Unread place) = ⊥
HaveNoShapes places texts (fail.Refused refusal name) = ⊥
HaveNoShapes places texts (fail.Unwritten place) = ⊥

-- that the text of a place is no prototype file for a line, or want of memory for its name
abbrev pub IsBadPlace : Place → ℕ → CheckFail → Type 0
IsBadPlace place line (fail.NotPrototype name other) = (place ≡ FileNamed name) × (other ≡ line)
IsBadPlace place line fail.NoMemory = Unit {0}
IsBadPlace place line (fail.NotThere name) = ⊥
IsBadPlace place line (fail.Unread other) = ⊥
IsBadPlace place line (fail.Refused refusal name) = ⊥
IsBadPlace place line (fail.Unwritten other) = ⊥

-- why the text of a place gives no prototypes
abbrev pub IsFailAt : Place → ProtoFail → CheckFail → Type 0
IsFailAt place proto_fail.NoMemory found = found ≡ fail.NoMemory
IsFailAt place (proto_fail.NotPrototype line) found = IsBadPlace place line found

-- the text of a place is no prototype file for a line, or there was no memory
abbrev pub IsNoFile : Place → List ℕ → CheckFail → Type 0
IsNoFile place text (fail.NotPrototype name line) = (place ≡ FileNamed name) × RefusedLine text line
IsNoFile place text fail.NoMemory = Unit {0}
IsNoFile place text (fail.NotThere name) = ⊥
IsNoFile place text (fail.Unread other) = ⊥
IsNoFile place text (fail.Refused refusal name) = ⊥
IsNoFile place text (fail.Unwritten other) = ⊥

-- ## Places

-- the places were read, with one byte more than a file may have, and what they hold are prototype files with these shapes
pub record ArePrototypesRead (places : List Place) (shapes : List NamedShape) (b a : ShelfState) : Type 0 where
  pub kept : IsKept b a
  pub quiet : a.faults ≡ b.faults
  pub texts : List (List ℕ)
  pub have : HaveShapes texts shapes
  pub fronts : IfSome b.told (HasFronts 16777217 places texts)

-- the places were read, and what one of them holds is no prototype file
pub record IsBadAmong (places : List Place) (name : List ℕ) (line : ℕ) (b a : ShelfState) : Type 0 where
  pub kept : IsKept b a
  pub quiet : a.faults ≡ b.faults
  pub texts : List (List ℕ)
  pub bad : IsFirstBad places texts name line
  pub fronts : IfSome b.told (HasFronts 16777217 places texts)

abbrev pub ArePrototypesUnread : List Place → ShelfState → ShelfState → CheckFail → Type 0
ArePrototypesUnread places b a fail.NoMemory = IsKept b a
ArePrototypesUnread places b a (fail.NotThere name) = IsAwayAmong places name b a
ArePrototypesUnread places b a (fail.Unread place) = IsFailedAmong places place b a
ArePrototypesUnread places b a (fail.NotPrototype name line) = IsBadAmong places name line b a
ArePrototypesUnread places b a (fail.Refused refusal name) = ⊥
ArePrototypesUnread places b a (fail.Unwritten place) = ⊥
