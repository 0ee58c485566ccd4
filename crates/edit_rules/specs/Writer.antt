-- A writer of list-directed output, with the line whose front is the record in the making: what one put does, and what a writer
-- owes to the values that were put.
use Rattle.std.specs.Prelude.{◌≡◌, ℕ, ◌+◌, ◌<◌, ◌≤◌, List, [], ◌∷◌, ◌++◌, length, take, drop}
use Rattle.edit_meaning.specs.Listed.{ListedValue, Int, Logical, Text, shown, Listing, begun, followed_by, listing}
use Rattle.edit_rules.specs.declared.list_writer.ListWriter.{ListWriter}
use Rattle.edit_rules.specs.declared.list_writer.ListValue.{ListValue}
use Rattle.edit_rules.specs.declared.list_writer.ListValue.TheVariants as given
use Rattle.edit_rules.specs.declared.list_writer.ListPut.{ListPut}
use Rattle.edit_rules.specs.declared.list_writer.ListPut.TheVariants.{Placed, Full}

-- the columns used in the record in the making
abbrev pub used_by : ListWriter → ℕ
used_by writer = writer.used

-- how much of the item complete records hold
abbrev pub done_by : ListWriter → ℕ
done_by writer = writer.done

-- the value that an item stands for
abbrev pub value_of : ListValue → ListedValue
value_of (given.Int number) = Int number
value_of (given.Logical truth) = Logical truth
value_of (given.Text text) = Text text.now

-- what an item puts into the output
abbrev pub text_of : ListValue → List ℕ
text_of item = shown (value_of item)

-- the record in the making
abbrev pub making_of : ListWriter → List ℕ → List ℕ
making_of writer line = take (used_by writer) line

-- an output with this record in the making, and no complete one
abbrev pub only : List ℕ → Listing
only making = record { complete = []; making = making }

-- an output with one more complete record, at its front
abbrev pub behind : List ℕ → Listing → Listing
behind first out = record out { complete = first ∷ out.complete }

-- the rest of the item's text stands in the record in the making, and the next item begins at its start
pub record Places (old : ListWriter) (line_old : List ℕ) (text : List ℕ) (new : ListWriter) (line_new : List ℕ) : Type 0 where
  pub goes_in : followed_by (only (making_of old line_old)) (drop (done_by old) text) ≡ only (making_of new line_new)
  pub starts : done_by new ≡ 0

-- the front of the line is a complete record, and a new one begins for what is left of the text
pub record Fills (old : ListWriter) (line_old : List ℕ) (text : List ℕ) (used : ℕ) (new : ListWriter) (line_new : List ℕ) : Type 0 where
  pub goes_on : followed_by (only (making_of old line_old)) (drop (done_by old) text) ≡ behind (take used line_new) (followed_by begun (drop (done_by new) text))
  pub whole : length (take used line_new) ≡ used
  pub new_record : used_by new ≡ 1
  pub within : done_by new ≤ length text
  pub nearer : used_by new + length (drop (done_by new) text) < used_by old + length (drop (done_by old) text)

-- what a put of a text did, by its answer
abbrev pub Puts : ListWriter → List ℕ → List ℕ → ListPut → ListWriter → List ℕ → Type 0
Puts old line_old text Placed new line_new = Places old line_old text new line_new
Puts old line_old text (Full used) new line_new = Fills old line_old text used new line_new

-- the values were put and the item is being put: with the complete records, the record in the making and what is left of the item,
-- the output is that of the values and the item
pub record Stands (values : List ListedValue) (item : ListedValue) (complete : List (List ℕ)) (writer : ListWriter) (line : List ℕ) : Type 0 where
  pub output : followed_by (record { complete = complete; making = making_of writer line }) (drop (done_by writer) (shown item)) ≡ listing (values ++ item ∷ [])

-- the put keeps to the output: it is that of the values and the item, or comes to it by further puts of the item
abbrev pub GoesOn : List ListedValue → ListedValue → List (List ℕ) → ListPut → ListWriter → List ℕ → Type 0
GoesOn values item complete Placed writer line = listing (values ++ item ∷ []) ≡ record { complete = complete; making = making_of writer line }
GoesOn values item complete (Full used) writer line = Stands values item (complete ++ take used line ∷ []) writer line
