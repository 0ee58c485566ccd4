-- Old prototype files, compared with new prototypes. CSTR 149.
use Rattle.std.specs.Prelude.{◌≡◌, Bool, List, [], ◌∷◌, IfSome}
use Rattle.std.specs.Bool.{Decides}
use Rattle.f2c_outside.specs.declared.shelves.Place.{Place}
use Rattle.f2c_outside.specs.Shelf.{ShelfState, Contents, Lacks, bytes_of}
use Rattle.source_files.specs.SourceReads.{IsFailed, IsFailedAmong}
use Rattle.shelf_texts.specs.ShelfLoops.{IsKept}
use Rattle.prototype_outputs.specs.prototypes.declared.prototype.Prototype.{Prototype}
use Rattle.prototype_outputs.specs.prototypes.PrototypeText.{IsPrototypeFile}
use Rattle.translate_command.specs.declared.failing.TranslateFail.{TranslateFail}
use Rattle.translate_command.specs.declared.failing.TranslateFail.TheVariants as fail

-- the old file is there, is a prototype file, and has these prototypes
pub record HasStill (place : Place) (list : List Prototype) (contents : Contents) : Type 0 where
  pub there : ¬ Lacks place contents
  pub file : IsPrototypeFile (bytes_of place contents) list

-- each of the old files has its own
unfoldable pub AllHaveStill : List Place → List (List Prototype) → Contents → Type 0
AllHaveStill [] lists contents = Unit {0}
AllHaveStill (place ∷ places) [] contents = Unit {0}
AllHaveStill (place ∷ places) (list ∷ lists) contents = HasStill place list contents × AllHaveStill places lists contents

-- an old file was read or is not there, and whether it has these prototypes: no count rose
pub record IsCompared (place : Place) (list : List Prototype) (same : Bool) (b a : ShelfState) : Type 0 where
  pub kept : IsKept b a
  pub quiet : a.faults ≡ b.faults
  pub still : IfSome b.told (λ contents. Decides same (HasStill place list contents))

-- old files were read, up to the first that differs or is not there, and whether each has its prototypes: no count rose
pub record AreCompared (olds : List Place) (lists : List (List Prototype)) (same : Bool) (b a : ShelfState) : Type 0 where
  pub kept : IsKept b a
  pub quiet : a.faults ≡ b.faults
  pub still : IfSome b.told (λ contents. Decides same (AllHaveStill olds lists contents))

-- why one was not read, or some were not
abbrev pub IsNotCompared : Place → ShelfState → ShelfState → TranslateFail → Type 0
IsNotCompared place b a (fail.Unread failed) = IsFailed place failed b a
IsNotCompared place b a fail.NoMemory = IsKept b a
IsNotCompared place b a (fail.NotThere name) = ⊥
IsNotCompared place b a (fail.Refused refusal name) = ⊥
IsNotCompared place b a (fail.NotPrototype name line) = ⊥
IsNotCompared place b a (fail.Unwritten other) = ⊥

abbrev pub AreNotCompared : List Place → ShelfState → ShelfState → TranslateFail → Type 0
AreNotCompared olds b a (fail.Unread failed) = IsFailedAmong olds failed b a
AreNotCompared olds b a fail.NoMemory = IsKept b a
AreNotCompared olds b a (fail.NotThere name) = ⊥
AreNotCompared olds b a (fail.Refused refusal name) = ⊥
AreNotCompared olds b a (fail.NotPrototype name line) = ⊥
AreNotCompared olds b a (fail.Unwritten other) = ⊥
