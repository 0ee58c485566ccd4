-- What each exit status of splitting says. ANSI X3.9-1978, section 11.14: the END statement ends a program unit.
use Rattle.std.specs.Prelude.{◌≡◌, ℕ, ◌⊎◌, Bool, false, List, ◌∷◌, ◌++◌, Option, Some, None, is_none, Result, Ok, Err, IfSome, if◌then◌else◌}
use Rattle.f2c_outside.specs.declared.shelves.Place.{Place}
use Rattle.f2c_outside.specs.declared.shelves.Place.TheVariants.{Input, Output, Fault, File}
use Rattle.f2c_outside.specs.Shelf.{ShelfState, Contents, Rose, Quiet, IsFile, Lacks, bytes_of}
use Rattle.f_tree.specs.declared.refusals.Refusal.{Refusal}
use Rattle.split_command.specs.fortran_text.FirstFault.{too_long}
use Rattle.shelf_texts.specs.Messages.{Gained}
use Rattle.shelf_texts.specs.ShelfLoops.{Both}
use Rattle.split_command.specs.split_pieces.ChosenNames.{chosen_names}
use Rattle.split_command.specs.split_pieces.Pieces.{pieces_of, IsPastLimit}
use Rattle.split_command.specs.piece_names.Asking.{has}
use Rattle.split_command.specs.piece_choice.NamesOfPieces.{wanted_names, IsInQuestion}
use Rattle.split_command.specs.piece_writer.WrittenPieces.{AreMadeUpTo}
use Rattle.split_command.specs.Listing.{listing}
use Rattle.split_command.specs.SplitEnds.{IsCut}
use Rattle.split_command.specs.SplitFiles.{IsSplit, IsHalfListed}
use Rattle.outcomes.specs.Lines.{shown, name_of_place, refusal_line, not_there_line, shelf_fault_line, no_free_name_line, no_memory_line}

-- THE STATUS by what the place holds and which files are there: 3 where the file is not there, 1 where it is too long, 13 where a piece gets no
-- name, else 0
abbrev pub lacks : Place → Contents → Bool
lacks (File name) c = is_none (c.files name)
lacks Input c = false
lacks Output c = false
lacks Fault c = false

abbrev pub status_by_names : Result (List (List ℕ)) ℕ → ℕ
status_by_names (Ok names) = 0
status_by_names (Err number) = 13

abbrev pub status_by_limit : Option ℕ → ℕ → ℕ
status_by_limit (Some card) later = 1
status_by_limit None later = later

unfoldable pub names_on : Place → Contents → Result (List (List ℕ)) ℕ
names_on from c = chosen_names (has c) (wanted_names (pieces_of (bytes_of from c)))

unfoldable pub split_status : Place → Contents → ℕ
split_status from c = if lacks from c then 3 else status_by_limit (too_long (bytes_of from c)) (status_by_names (names_on from c))

-- status 0: what the place held was cut, each piece stands in a file of its own, which was not there, the names of these files stand on Output, and
-- nothing else changed
pub record SplitRow (from : Place) (c d : Contents) : Type 0 where
  pub names : List (List ℕ)
  pub texts : List (List ℕ)
  pub there : ¬ Lacks from c
  pub cut : IsCut (bytes_of from c) names texts (Some c)
  pub split : IsSplit names texts (listing names) c d

-- status 1: what the place holds is too long, the line on Fault says at which card, and nothing else changed
pub record TooLongRow (from : Place) (before after : ℕ) (c d : Contents) : Type 0 where
  pub refusal : Refusal
  pub there : ¬ Lacks from c
  pub past : IsPastLimit (bytes_of from c) refusal.card refusal.kind
  pub said : Gained (refusal_line (name_of_place from) refusal) before after c d

-- status 13: no number is free for a piece, the line on Fault says for which, and nothing else changed
pub record NoFreeNameRow (from : Place) (before after : ℕ) (c d : Contents) : Type 0 where
  pub number : ℕ
  pub there : ¬ Lacks from c
  pub within : too_long (bytes_of from c) ≡ None
  pub none_free : names_on from c ≡ Err number
  pub said : Gained (no_free_name_line number) before after c d

-- what stands where writing failed at a place: the files of the pieces before it are whole, it is unchanged or has a front of its text, and nothing
-- else changed
pub data IsSplitPart (names texts : List (List ℕ)) (place : Place) (c d : Contents) : Type 0 where
  at_piece : (before earlier behind later : List (List ℕ)) (name text : List ℕ) → names ≡ before ++ name ∷ behind → texts ≡ earlier ++ text ∷ later → place ≡ File name
      → AreMadeUpTo before earlier name text c d → IsSplitPart names texts place c d
  at_listing : place ≡ Output → IsHalfListed names texts c d → IsSplitPart names texts place c d

-- status 3 where writing failed: the count rose, and the line on Fault names the place
pub record PartRow (from : Place) (before after : ℕ) (c d : Contents) : Type 0 where
  pub place : Place
  pub names : List (List ℕ)
  pub texts : List (List ℕ)
  pub there : ¬ Lacks from c
  pub cut : IsCut (bytes_of from c) names texts (Some c)
  pub middle : Contents
  pub part : IsSplitPart names texts place c middle
  pub rose : Rose before after
  pub said : Gained (shelf_fault_line place) before after middle d

-- status 3: the place is not there, or the count rose, since reading it failed or asking for a name did, and the line on Fault names it and nothing else
-- changed; or writing failed
pub data SplitFaultRow (from : Place) (before after : ℕ) (c d : Contents) : Type 0 where
  not_there : Lacks from c → Gained (not_there_line (shown from)) before after c d → SplitFaultRow from before after c d
  unread : Rose before after → Gained (shelf_fault_line from) before after c d → SplitFaultRow from before after c d
  unasked : (name : List ℕ) → IsInQuestion (pieces_of (bytes_of from c)) name → Rose before after
      → Gained (shelf_fault_line (File name)) before after c d → SplitFaultRow from before after c d
  unwritten : PartRow from before after c d → SplitFaultRow from before after c d

-- what each exit status of splitting says, where the shelf goes from `b` to `a`
pub record SplitRows (from : Place) (b a : ShelfState) (status : ℕ) : Type 0 where
  pub statuses : (status ≡ 0) ⊎ ((status ≡ 1) ⊎ ((status ≡ 3) ⊎ ((status ≡ 5) ⊎ (status ≡ 13))))
  -- the status is that of what the place holds, unless the shelf failed or memory ran out
  pub expected : IfSome b.told (λ c. (status ≡ split_status from c) ⊎ ((status ≡ 3) ⊎ (status ≡ 5)))
  -- where no count rises, unless memory ran out
  pub exact : Quiet b.faults a.faults → IfSome b.told (λ c. (status ≡ split_status from c) ⊎ (status ≡ 5))
  -- 3 only where the count rose or the file is not there; where the shelf does not tell, it may be either
  pub fault_or_missing : status ≡ 3 → Rose b.faults a.faults ⊎ (IsFile from × IfSome b.told (Lacks from))
  -- 0 only where no count rose in the call
  pub quiet : status ≡ 0 → a.faults ≡ b.faults
  pub split : status ≡ 0 → Both b.told a.told (SplitRow from)
  pub too_long : status ≡ 1 → Both b.told a.told (TooLongRow from b.faults a.faults)
  pub none_free : status ≡ 13 → Both b.told a.told (NoFreeNameRow from b.faults a.faults)
  pub fault : status ≡ 3 → Both b.told a.told (SplitFaultRow from b.faults a.faults)
  -- want of memory changes nothing but Fault, which has its line
  pub no_memory : status ≡ 5 → Both b.told a.told (Gained no_memory_line b.faults a.faults)
