-- The items of a call in a transfer, each before the next (ANSI X3.9-1978, 12.8.2 and 13.6.1).
use Rattle.std.specs.Prelude.{◌≡◌, ℕ, ℤ, List, Option, None, Result, Ok, Err}
use Rattle.c_tree.specs.run_state.Units.{Units}
use Rattle.c_tree.specs.declared.outcome.CValue.{CValue}
use Rattle.c_tree.specs.Faults.{Or, failing}
use Rattle.c_tree.specs.Objects.{Object}
use Rattle.c_tree.specs.World.{Transfer, Reply}
use Rattle.c_tree.specs.Transfers.{numbered, ended_by, Passage, GoesOn, Answers}
use Rattle.c_tree.specs.TransferInput.{listed_item}
use Rattle.c_tree.specs.TransferCalls.{each_item}
use Rattle.f2c_outside.specs.Table.{Row}
use Rattle.f2c_outside.specs.Meaning.{Tells, units_of}
use Rattle.unit_answers.specs.Failing.{FailedOn, NoneFailed}
use Rattle.unit_answers.specs.Answers.{world_with}
use Rattle.listed_output.specs.Writing.{StayedOn}
use Rattle.listed_input.specs.declared.ends.ItemEnd.{ItemEnd}
use Rattle.listed_input.specs.declared.ends.ItemEnd.TheVariants.{Fault, Number, Device, Uncounted}
use Rattle.listed_input.specs.declared.kinds.Item.{Item}
use Rattle.listed_output.specs.declared.kinds.ItemList.{ItemList}
use Rattle.listed_input.specs.declared.calls.ListedInput.{ListedInput}
use Rattle.listed_output.specs.Kinds.{kind_shown}
use Rattle.listed_input.specs.Reading.{StandsFar, UncountedItem}
use Rattle.listed_input.specs.Transferring.{StandsFor, Stands}

-- an input on the same unit, with the same numbers asked for
pub record SameNumbers (input input' : ListedInput) : Type 0 where
  pub unit_is : input'.unit ≡ input.unit
  pub error_is : input'.on_error ≡ input.on_error
  pub end_is : input'.on_end ≡ input.on_end

-- a transfer goes on behind an item, for which an input stands
pub record GoesBehind (meaning : Or Passage) (input : ListedInput) (objects : List Object) (stale : Option Transfer) (units : Units) : Type 0 where
  pub transfer : Transfer
  pub stands : StandsFor input transfer
  pub goes_on : meaning ≡ Ok (GoesOn transfer (world_with objects stale units))

abbrev pub GiveReply : Or Passage → Transfer → ListedInput → List Object → Option Transfer → Units → Result (Unit {0}) ItemEnd → Type 0
GiveReply meaning transfer input objects stale units (Ok done) = GoesBehind meaning input objects stale units
GiveReply meaning transfer input objects stale units (Err (Fault fault)) = meaning ≡ failing fault
GiveReply meaning transfer input objects stale units (Err (Number number)) = meaning ≡ Ok (Answers (ended_by number transfer (world_with objects stale units)))
GiveReply meaning transfer input objects stale units (Err Device) = Unit {0}
GiveReply meaning transfer input objects stale units (Err Uncounted) = Unit {0}

abbrev pub GiveDevice : ℤ → List Row → List Row → Result (Unit {0}) ItemEnd → Type 0
GiveDevice unit old new (Ok done) = StayedOn unit old new
GiveDevice unit old new (Err (Fault fault)) = StayedOn unit old new
GiveDevice unit old new (Err (Number number)) = NoneFailed old new
GiveDevice unit old new (Err Device) = FailedOn unit old new
GiveDevice unit old new (Err Uncounted) = NoneFailed old new

-- an item is given its value, for every transfer for which the input stood
pub record GivesItem (item : Item) (input input' : ListedInput) (objects objects' : List Object) (old new : List Row) (result : Result (Unit {0}) ItemEnd) : Type 0 where
  pub tells : Tells old → Tells new
  pub replies : Tells old → (transfer : Transfer) → StandsFor input transfer → (stale : Option Transfer) →
      GiveReply (listed_item (kind_shown item.kind) item.size item.pointer transfer (world_with objects stale (units_of old))) transfer input' objects' stale (units_of new) result
  pub devices : GiveDevice input.unit old new result
  pub uncounted : UncountedItem result (StandsFar input.unit new)
  pub numbers : SameNumbers input input'

-- what the items of a call come to
abbrev pub ListReply : Or Reply → ListedInput → ListedInput → List Object → Units → Result (Unit {0}) ItemEnd → Type 0
ListReply meaning input input' objects units (Ok done) = Stands meaning objects units input'
ListReply meaning input input' objects units (Err (Fault fault)) = meaning ≡ failing fault
ListReply meaning input input' objects units (Err (Number number)) = meaning ≡ Ok (numbered number input.on_error input.on_end (world_with objects None units))
ListReply meaning input input' objects units (Err Device) = Unit {0}
ListReply meaning input input' objects units (Err Uncounted) = Unit {0}

-- the meaning of so many items from a pointer on
abbrev pub items_meant : ItemList → ℕ → CValue → Transfer → List Object → Option Transfer → Units → Or Reply
items_meant list count pointer transfer objects stale units =
    each_item list.size (listed_item (kind_shown list.kind) list.size) count pointer transfer (world_with objects stale units)

pub record GivesItems (list : ItemList) (first : CValue) (input input' : ListedInput) (objects objects' : List Object) (old new : List Row) (result : Result (Unit {0}) ItemEnd) : Type 0 where
  pub tells : Tells old → Tells new
  pub replies : Tells old → (transfer : Transfer) → StandsFor input transfer → (stale : Option Transfer) →
      ListReply (items_meant list list.count first transfer objects stale (units_of old)) input input' objects' (units_of new) result
  pub devices : GiveDevice input.unit old new result
  pub uncounted : UncountedItem result (StandsFar input.unit new)
  pub numbers : SameNumbers input input'
