-- C files, read from places in their order, and the trees that they spell (C89, 3.7).
use Rattle.std.specs.Prelude.{◌≡◌, ℕ, List, [], ◌∷◌, take, slice_get, Some, IfSome}
use Rattle.f2c_outside.specs.declared.shelves.Place.{Place}
use Rattle.f2c_outside.specs.declared.shelves.Place.TheVariants.{File as FileNamed}
use Rattle.f2c_outside.specs.Shelf.{ShelfState}
use Rattle.c_tree.specs.declared.file.CFile.{CFile}
use Rattle.c_tree.specs.CText.{CText, RefusedLine}
use Rattle.c_file_reader.specs.declared.texts.ReadFail.{ReadFail}
use Rattle.c_file_reader.specs.declared.texts.ReadFail.TheVariants as read_fail
use Rattle.source_files.specs.SourceReads.{HasFronts, IsAwayAmong, IsFailedAmong}
use Rattle.shelf_texts.specs.ShelfLoops.{IsKept}
use Rattle.c_sources.specs.declared.failing.CSourceFail.{CSourceFail}
use Rattle.c_sources.specs.declared.failing.CSourceFail.TheVariants as fail
use Rattle.c_sources.specs.CTexts.{judged}

-- ## Texts

-- each text spells its tree
unfoldable pub AreSpelled : List (List ℕ) → List CFile → Type 0
AreSpelled [] [] = Unit {0}
AreSpelled (bytes ∷ texts) (file ∷ files) = CText (judged bytes) file × AreSpelled texts files
AreSpelled texts files = ⊥

-- the text with a number, which is that of the place with a name, is the first that spells no tree, for this line
pub record IsFirstRefused (places : List Place) (texts : List (List ℕ)) (name : List ℕ) (line : ℕ) : Type 0 where
  pub number : ℕ
  pub text : List ℕ
  pub files : List CFile
  pub place_is : slice_get places number ≡ Some (FileNamed name)
  pub text_is : slice_get texts number ≡ Some text
  pub before : AreSpelled (take number texts) files
  pub refused : RefusedLine (judged text) line

abbrev pub AreNotSpelled : List Place → List (List ℕ) → CSourceFail → Type 0
AreNotSpelled places texts fail.NoMemory = Unit {0}
AreNotSpelled places texts (fail.NotC name line) = IsFirstRefused places texts name line
AreNotSpelled places texts (fail.NotThere name) = ⊥
AreNotSpelled places texts (fail.Unread place) = ⊥

-- that the text of a place is refused for a line, or want of memory for its name
abbrev pub IsRefusedPlace : Place → ℕ → CSourceFail → Type 0
IsRefusedPlace place line (fail.NotC name other) = (place ≡ FileNamed name) × (other ≡ line)
IsRefusedPlace place line fail.NoMemory = Unit {0}
IsRefusedPlace place line (fail.NotThere name) = ⊥
IsRefusedPlace place line (fail.Unread other) = ⊥

-- why the text of a place gives no tree
abbrev pub IsFailAt : Place → ReadFail → CSourceFail → Type 0
IsFailAt place read_fail.NoMemory found = found ≡ fail.NoMemory
IsFailAt place (read_fail.NotC line) found = IsRefusedPlace place line found

-- the text of a place spells no tree, for a line, or there was no memory
abbrev pub IsNoTree : Place → List ℕ → CSourceFail → Type 0
IsNoTree place text (fail.NotC name line) = (place ≡ FileNamed name) × RefusedLine (judged text) line
IsNoTree place text fail.NoMemory = Unit {0}
IsNoTree place text (fail.NotThere name) = ⊥
IsNoTree place text (fail.Unread other) = ⊥

-- ## Places

-- the places were read, with one byte more than a file may have, and what they hold spells these trees
pub record AreTreesRead (places : List Place) (files : List CFile) (b a : ShelfState) : Type 0 where
  pub kept : IsKept b a
  pub quiet : a.faults ≡ b.faults
  pub texts : List (List ℕ)
  pub spelled : AreSpelled texts files
  pub fronts : IfSome b.told (HasFronts 67108865 places texts)

-- the places were read, no call of the shelf failed, and what one of them holds spells no tree
pub record IsRefusedAmong (places : List Place) (name : List ℕ) (line : ℕ) (b a : ShelfState) : Type 0 where
  pub kept : IsKept b a
  pub quiet : a.faults ≡ b.faults
  pub texts : List (List ℕ)
  pub refused : IsFirstRefused places texts name line
  pub fronts : IfSome b.told (HasFronts 67108865 places texts)

abbrev pub AreTreesUnread : List Place → ShelfState → ShelfState → CSourceFail → Type 0
AreTreesUnread places b a fail.NoMemory = IsKept b a
AreTreesUnread places b a (fail.NotThere name) = IsAwayAmong places name b a
AreTreesUnread places b a (fail.Unread place) = IsFailedAmong places place b a
AreTreesUnread places b a (fail.NotC name line) = IsRefusedAmong places name line b a
