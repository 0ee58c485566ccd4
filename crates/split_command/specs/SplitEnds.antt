-- How splitting a file ends.
use Rattle.std.specs.Prelude.{◌≡◌, ℕ, List, length, Option, None, Result, Ok, Err, IfSome, bytes_eq}
use Rattle.std.specs.List.{concat, IsDistinct}
use Rattle.f2c_outside.specs.declared.shelves.Place.{Place}
use Rattle.f2c_outside.specs.Shelf.{ShelfState, Contents, Rose, IsFile, Lacks, bytes_of}
use Rattle.f_tree.specs.declared.refusals.Refusal.{Refusal}
use Rattle.fsplit.specs.fortran_text.FirstFault.{too_long}
use Rattle.shelf_texts.specs.ShelfLoops.{Both, IsFront, IsKept}
use Rattle.fsplit.specs.split_pieces.ChosenNames.{chosen_names}
use Rattle.fsplit.specs.split_pieces.Pieces.{texts_of, pieces_of, AllButLastEnd, IsPastLimit}
use Rattle.piece_choice.specs.piece_names.Asking.{has}
use Rattle.piece_choice.specs.NamesOfPieces.{wanted_names, AreChosen, AreNew, IsInQuestion}
use Rattle.split_command.specs.Listing.{listing}
use Rattle.split_command.specs.SplitFiles.{IsSplit, IsHalfSplit}
use Rattle.split_command.specs.declared.failing.SplitFail.{SplitFail}
use Rattle.split_command.specs.declared.failing.SplitFail.TheVariants as fail

-- A FILE OF THESE BYTES, which is not too long, was cut into these texts, and they have these names. Joined the texts are the file, each but the
-- last has one END card, its last card, no two names are one, and no file has one of them.
pub record IsCut (bytes : List ℕ) (names texts : List (List ℕ)) (told : Option Contents) : Type 0 where
  pub within : too_long bytes ≡ None
  pub texts_are : texts ≡ texts_of bytes
  pub joined : concat texts ≡ bytes
  pub ended : AllButLastEnd texts
  pub counted : length names ≡ length texts
  pub chosen : AreChosen (pieces_of bytes) names told
  pub apart : IsDistinct bytes_eq names
  pub absent : AreNew names told

-- The texts and their names were written, and the count of faults did not rise.
pub record IsSplitInto (bytes : List ℕ) (b a : ShelfState) : Type 0 where
  pub names : List (List ℕ)
  pub texts : List (List ℕ)
  pub cut : IsCut bytes names texts b.told
  pub quiet : a.faults ≡ b.faults
  pub split : Both b.told a.told (IsSplit names texts (listing names))

-- Writing them failed.
pub record IsSplitUpTo (bytes : List ℕ) (place : Place) (b a : ShelfState) : Type 0 where
  pub names : List (List ℕ)
  pub texts : List (List ℕ)
  pub cut : IsCut bytes names texts b.told
  pub half : IsHalfSplit names texts place b a

-- The file is too long, and nothing was changed.
pub record IsTooLong (bytes : List ℕ) (refusal : Refusal) (b a : ShelfState) : Type 0 where
  pub kept : IsKept b a
  pub file : refusal.file ≡ 0
  pub past : IsPastLimit bytes refusal.card refusal.kind

-- The shelf failed when it was asked for a name that one of the pieces may get.
pub record IsUnasked (bytes name : List ℕ) (b a : ShelfState) : Type 0 where
  pub kept : IsKept b a
  pub within : too_long bytes ≡ None
  pub in_question : IsInQuestion (pieces_of bytes) name
  pub rose : Rose b.faults a.faults

-- The piece with this number is the first for which no number is free, and nothing was changed.
pub record HasNoFreeName (bytes : List ℕ) (number : ℕ) (b a : ShelfState) : Type 0 where
  pub kept : IsKept b a
  pub within : too_long bytes ≡ None
  pub none_free : IfSome b.told (λ c. chosen_names (has c) (wanted_names (pieces_of bytes)) ≡ Err number)

abbrev pub BytesSplit : List ℕ → ShelfState → ShelfState → Result (Unit {0}) SplitFail → Type 0
BytesSplit bytes b a (Ok done) = IsSplitInto bytes b a
BytesSplit bytes b a (Err (fail.Unwritten place)) = IsSplitUpTo bytes place b a
BytesSplit bytes b a (Err (fail.Refused refusal)) = IsTooLong bytes refusal b a
BytesSplit bytes b a (Err (fail.Unasked name)) = IsUnasked bytes name b a
BytesSplit bytes b a (Err (fail.NoFreeName number)) = HasNoFreeName bytes number b a
BytesSplit bytes b a (Err fail.NoMemory) = IsKept b a
BytesSplit bytes b a (Err fail.NotThere) = ⊥
BytesSplit bytes b a (Err fail.Unread) = ⊥

-- A PLACE that is not there, where no call failed, or was not read for a fault.
pub record IsNotThere (from : Place) (b a : ShelfState) : Type 0 where
  pub kept : IsKept b a
  pub quiet : a.faults ≡ b.faults
  pub file : IsFile from
  pub lacks : IfSome b.told (Lacks from)

pub record HasFailed (b a : ShelfState) : Type 0 where
  pub kept : IsKept b a
  pub rose : Rose b.faults a.faults

abbrev pub IsUnread : Place → ShelfState → ShelfState → SplitFail → Type 0
IsUnread from b a fail.NotThere = IsNotThere from b a
IsUnread from b a fail.Unread = HasFailed b a
IsUnread from b a fail.NoMemory = IsKept b a
IsUnread from b a (fail.Refused refusal) = ⊥
IsUnread from b a (fail.Unasked name) = ⊥
IsUnread from b a (fail.NoFreeName number) = ⊥
IsUnread from b a (fail.Unwritten place) = ⊥

-- It was read to its end.
pub record Holds (from : Place) (bytes : List ℕ) (c : Contents) : Type 0 where
  pub there : ¬ Lacks from c
  pub bytes_are : bytes ≡ bytes_of from c

abbrev pub HasRead : Place → List ℕ → ShelfState → Type 0
HasRead from bytes b = IfSome b.told (Holds from bytes)

-- It was read as far as it takes to see that it is too long.
pub record HoldsMore (from : Place) (bytes : List ℕ) (refusal : Refusal) (c : Contents) : Type 0 where
  pub there : ¬ Lacks from c
  pub front : IsFront bytes (bytes_of from c)
  pub past : IsPastLimit (bytes_of from c) refusal.card refusal.kind

abbrev pub HasReadFront : Place → List ℕ → Refusal → ShelfState → Type 0
HasReadFront from bytes refusal b = IfSome b.told (HoldsMore from bytes refusal)

-- HOW THE COMMAND ENDS
abbrev pub SplitEnded : Place → ShelfState → ShelfState → Result (Unit {0}) SplitFail → Type 0
SplitEnded from b a (Ok done) = (bytes : List ℕ) × HasRead from bytes b × IsSplitInto bytes b a
SplitEnded from b a (Err (fail.Unwritten place)) = (bytes : List ℕ) × HasRead from bytes b × IsSplitUpTo bytes place b a
SplitEnded from b a (Err (fail.Refused refusal)) = (bytes : List ℕ) × HasReadFront from bytes refusal b × IsTooLong bytes refusal b a
SplitEnded from b a (Err (fail.Unasked name)) = (bytes : List ℕ) × HasRead from bytes b × IsUnasked bytes name b a
SplitEnded from b a (Err (fail.NoFreeName number)) = (bytes : List ℕ) × HasRead from bytes b × HasNoFreeName bytes number b a
SplitEnded from b a (Err fail.NotThere) = IsNotThere from b a
SplitEnded from b a (Err fail.Unread) = HasFailed b a
SplitEnded from b a (Err fail.NoMemory) = IsKept b a
