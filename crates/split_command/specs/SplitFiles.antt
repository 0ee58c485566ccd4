-- What splitting a file leaves on a shelf.
use Rattle.std.specs.Prelude.{◌≡◌, ℕ, ◌≤◌, false, List, ◌++◌, bytes_eq}
use Rattle.std.specs.List.{list_any}
use Rattle.f2c_outside.specs.declared.shelves.Place.{Place}
use Rattle.f2c_outside.specs.declared.shelves.Place.TheVariants.{Output}
use Rattle.f2c_outside.specs.Shelf.{ShelfState, Contents, Rose}
use Rattle.shelf_texts.specs.ShelfLoops.{Both, IsFront}
use Rattle.piece_writer.specs.WrittenPieces.{AllHold, AreNotWritten}
use Rattle.split_command.specs.Listing.{listing}
use Rattle.split_command.specs.declared.failing.SplitFail.{SplitFail}
use Rattle.split_command.specs.declared.failing.SplitFail.TheVariants as fail

-- Each file with one of the names holds its text, Output has gained a listing, and nothing else is changed.
pub record IsSplit (names texts : List (List ℕ)) (listed : List ℕ) (b a : Contents) : Type 0 where
  pub hold : AllHold names texts a
  pub others : (name : List ℕ) → list_any (bytes_eq name) names ≡ false → a.files name ≡ b.files name
  pub input : a.input ≡ b.input
  pub output : a.output ≡ b.output ++ listed
  pub fault : a.fault ≡ b.fault

-- All was written, and the count of faults did not rise.
pub record IsAllWritten (names texts : List (List ℕ)) (b a : ShelfState) : Type 0 where
  pub quiet : a.faults ≡ b.faults
  pub split : Both b.told a.told (IsSplit names texts (listing names))

-- The pieces were written, and of the listing a front.
pub record IsHalfListed (names texts : List (List ℕ)) (b a : Contents) : Type 0 where
  pub listed : List ℕ
  pub front : IsFront listed (listing names)
  pub split : IsSplit names texts listed b a

-- Writing the listing failed, and the count of faults rose.
pub record IsUnlisted (names texts : List (List ℕ)) (b a : ShelfState) : Type 0 where
  pub rose : Rose b.faults a.faults
  pub not_less : b.faults ≤ a.faults
  pub split : Both b.told a.told (IsHalfListed names texts)

-- Writing one of the pieces, or the listing, failed.
pub data IsHalfSplit (names texts : List (List ℕ)) (place : Place) (b a : ShelfState) : Type 0 where
  at_piece : AreNotWritten names texts place b a → IsHalfSplit names texts place b a
  at_listing : place ≡ Output → IsUnlisted names texts b a → IsHalfSplit names texts place b a

abbrev pub IsHalfWritten : List (List ℕ) → List (List ℕ) → ShelfState → ShelfState → SplitFail → Type 0
IsHalfWritten names texts b a (fail.Unwritten place) = IsHalfSplit names texts place b a
IsHalfWritten names texts b a fail.NoMemory = ⊥
IsHalfWritten names texts b a fail.NotThere = ⊥
IsHalfWritten names texts b a fail.Unread = ⊥
IsHalfWritten names texts b a (fail.Refused refusal) = ⊥
IsHalfWritten names texts b a (fail.Unasked name) = ⊥
IsHalfWritten names texts b a (fail.NoFreeName number) = ⊥
