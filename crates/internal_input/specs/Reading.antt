-- One item of list-directed input on an internal file: what it is given, and the records that it reads (ANSI X3.9-1978, 13.6.1).
use Rattle.std.specs.Prelude.{◌≡◌, Bool, true, false, List, Option, Result, Ok, Err}
use Rattle.c_tree.specs.run_state.Units.{Units}
use Rattle.c_tree.specs.Faults.{Or, failing}
use Rattle.c_tree.specs.Objects.{Object}
use Rattle.c_tree.specs.World.{InternalFile, Internal, Transfer}
use Rattle.c_tree.specs.Transfers.{ended_by, Passage, GoesOn, Answers}
use Rattle.c_tree.specs.TransferInput.{kind_of, listed_taken}
use Rattle.edit_rules.specs.edit_meaning.ListInput.{Place}
use Rattle.edit_rules.specs.edit_meaning.ListItems.{item_over}
use Rattle.unit_answers.specs.Answers.{world_with}
use Rattle.listed_output.specs.Kinds.{kind_shown}
use Rattle.listed_input.specs.declared.kinds.Item.{Item}
use Rattle.internal_records.specs.Fetching.{coming}
use Rattle.internal_input.specs.declared.ends.ItemEnd.{ItemEnd}
use Rattle.internal_input.specs.declared.ends.ItemEnd.TheVariants.{Fault, Number}
use Rattle.internal_input.specs.declared.ends.ItemRead.{ItemRead}
use Rattle.internal_input.specs.declared.ends.ItemRead.TheVariants.{Given, Slashed}

-- a transfer behind an item, at a place of a file or behind a slash
pub record IsBehind (transfer transfer' : Transfer) (file' : InternalFile) (place : Place) (slashed : Bool) : Type 0 where
  pub direction : transfer'.direction ≡ transfer.direction
  pub layout : transfer'.layout ≡ transfer.layout
  pub medium : transfer'.medium ≡ Internal file'
  pub on_error : transfer'.on_error ≡ transfer.on_error
  pub on_end : transfer'.on_end ≡ transfer.on_end
  pub slashed_is : transfer'.slashed ≡ slashed
  pub place_is : slashed ≡ false → transfer'.place ≡ place

pub record ItemGoesOn (meaning : Or Passage) (transfer : Transfer) (objects : List Object) (stale : Option Transfer) (units : Units) (file' : InternalFile) (place : Place) (slashed : Bool) : Type 0 where
  pub transfer' : Transfer
  pub is_behind : IsBehind transfer transfer' file' place slashed
  pub goes_on : meaning ≡ Ok (GoesOn transfer' (world_with objects stale units))

-- what an item comes to
abbrev pub ItemReply : Or Passage → Transfer → List Object → Option Transfer → Units → InternalFile → Place → Result ItemRead ItemEnd → Type 0
ItemReply meaning transfer objects stale units file' place (Ok Given) = ItemGoesOn meaning transfer objects stale units file' place false
ItemReply meaning transfer objects stale units file' place (Ok Slashed) = ItemGoesOn meaning transfer objects stale units file' place true
ItemReply meaning transfer objects stale units file' place (Err (Fault fault)) = meaning ≡ failing fault
ItemReply meaning transfer objects stale units file' place (Err (Number number)) =
    meaning ≡ Ok (Answers (ended_by number transfer (world_with objects stale units)))

-- the meaning of an item at a place of a file, over these objects
abbrev pub taken_at : Item → Transfer → List Object → Option Transfer → Units → InternalFile → Place → Or Passage
taken_at item transfer objects stale units file place =
    listed_taken (kind_of (kind_shown item.kind)) item.pointer item.size transfer (world_with objects stale units) (coming objects file)
    (item_over place (coming objects file).lines (kind_of (kind_shown item.kind)))

-- an item is read, for each transfer on the file at its place
pub record ReadsItem (item : Item) (place place' : Place) (objects objects' : List Object) (file file' : InternalFile) (result : Result ItemRead ItemEnd) : Type 0 where
  pub replies : (units : Units) → (transfer : Transfer) → (stale : Option Transfer) → transfer.medium ≡ Internal file → transfer.place ≡ place → transfer.slashed ≡ false →
      ItemReply (taken_at item transfer objects stale units file place) transfer objects' stale units file' place' result
