-- The search for the value of an item, record by record (ANSI X3.9-1978, 13.6.1).
use Rattle.std.specs.Prelude.{◌≡◌, ◌<◌, ◌+◌, ◌-◌, ◌*◌, ℕ, true, List, ◌++◌, length, take, Result, Ok, Err}
use Rattle.c_tree.specs.Objects.{Object}
use Rattle.c_tree.specs.World.{InternalFile}
use Rattle.c_tree.specs.TransferInput.{kind_of, runs_out}
use Rattle.edit_rules.specs.edit_meaning.ListInput.{Kind, Place}
use Rattle.edit_rules.specs.edit_meaning.ListItems.{begun_with, item_over}
use Rattle.listed_output.specs.Kinds.{kind_shown}
use Rattle.listed_input.specs.declared.kinds.Item.{Item}
use Rattle.listed_input.specs.declared.reading.RecordInReading.{RecordInReading}
use Rattle.listed_input.specs.Reading.{place_of}
use Rattle.listed_input.specs.Searching.{all_before, rest_size}
use Rattle.internal_records.specs.Fetching.{coming, moved}
use Rattle.internal_input.specs.declared.ends.ItemEnd.{ItemEnd}
use Rattle.internal_input.specs.declared.ends.Step.{Step}
use Rattle.internal_input.specs.declared.ends.Step.TheVariants.{Read, GoesOn}
use Rattle.internal_input.specs.Texts.{Gathered}
use Rattle.internal_input.specs.Reading.{ReadsItem}

-- where an item begins: the item, the place, the objects and the file
pub record Search : Type 0 where
  pub item : Item
  pub place : Place
  pub objects : List Object
  pub file : InternalFile

abbrev pub kind_in : Search → Kind
kind_in from = kind_of (kind_shown from.item.kind)

-- some records are read and a text is begun, and the item has no value yet
pub record Seeking (from : Search) (reading : RecordInReading) (file : InternalFile) (buffer : List ℕ) (done : ℕ) : Type 0 where
  pub text : List ℕ
  pub front : List (List ℕ)
  pub comes : coming from.objects from.file ≡ all_before front (coming from.objects file)
  pub behind : file ≡ moved (length front) from.file
  pub same : (later : List (List ℕ)) → item_over from.place (front ++ later) (kind_in from) ≡ begun_with text (item_over (place_of reading) later (kind_in from))
  pub out : (j : ℕ) → j < length front → runs_out (item_over from.place (take j front) (kind_in from)) ≡ true
  pub gathered : Gathered buffer from.item.size text done

-- how much is left to be read
abbrev pub left : Place → InternalFile → ℕ
left place file = (file.count - file.position) * 1025 + rest_size place

-- a search goes on, with less to be read
pub record GoesFurther (from : Search) (before : RecordInReading) (file : InternalFile) (reading : RecordInReading) (objects : List Object) (file' : InternalFile) (buffer : List ℕ) (done : ℕ) : Type 0 where
  pub seeking : Seeking from reading file' buffer done
  pub unchanged : objects ≡ from.objects
  pub less : left (place_of reading) file' < left (place_of before) file

-- behind a step the search goes on, or the item is read
abbrev pub Steps : Search → RecordInReading → InternalFile → RecordInReading → List Object → InternalFile → List ℕ → Result Step ItemEnd → Type 0
Steps from before file reading objects file' buffer (Ok (GoesOn done)) = GoesFurther from before file reading objects file' buffer done
Steps from before file reading objects file' buffer (Ok (Read read)) = ReadsItem from.item from.place (place_of reading) from.objects objects from.file file' (Ok read)
Steps from before file reading objects file' buffer (Err end) = ReadsItem from.item from.place (place_of reading) from.objects objects from.file file' (Err end)
