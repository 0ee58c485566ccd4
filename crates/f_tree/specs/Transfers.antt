-- READ, WRITE and PRINT: how a transfer begins, what an item does, and how it ends.
-- ANSI X3.9-1978, sections 12.8, 12.9, 13.5 (formatted) and 13.6 (list-directed).
use Rattle.std.specs.Prelude.{ℕ, zero, suc, ◌+◌, ◌-◌, ℤ, pos, Bool, true, false, List, [], ◌∷◌, ◌++◌, length, map, min, take, drop, nat_eq, Option, Some, None, if◌then◌else◌}
use Rattle.edit_meaning.specs.EditedRecords as edited
use Rattle.edit_meaning.specs.EditedFields.{int_field, logical_field, text_field}
use Rattle.edit_meaning.specs.Formats.{Format, Empty, edits_for}
use Rattle.edit_meaning.specs.Halts.{Halt, Number, EndOfRecords, OtherType}
use Rattle.edit_meaning.specs.Listed as listed
use Rattle.edit_meaning.specs.ListInput.{Place, Kind, IntItem, LogicalItem, TextItem, Between, given}
use Rattle.edit_meaning.specs.ListItems as items
use Rattle.edit_meaning.specs.TakenFields.{int_in, logical_in, text_in}
use Rattle.edit_meaning.specs.TakenRecords as taken
use Rattle.edit_meaning.specs.Transfers.{transferred}
use Rattle.run_state.specs.Units.{Units, is_connected, reads_zero_blanks}
use Rattle.f_tree.specs.declared.names.Basic.{Basic}
use Rattle.f_tree.specs.declared.names.Basic.TheVariants.{Integer, Logical, Character, Untyped}
use Rattle.f_tree.specs.Values.{Bytes, Spot, Datum, IsInt, IsLog, IsText, IsSpot, Act, TransferInTransfer, WrongDescriptor, FormatEndsEarly, NoValue, NoMeaning, Checked, Gives, Fails, given_that}
use Rattle.f_tree.specs.Terms.{NoMore, More}
use Rattle.f_tree.specs.Store.{Store, fetch, define, elements}
use Rattle.f_tree.specs.Facts.{Direction, Input, Output, Layout, Listed, Labelled, Computed, Unformatted, Word, UnitWord, FormatWord, StatusWord, Controls, Item, Repeated, Turn, Work, Done, Before, ToTransfer, ToRepeat, ToTurn, ToFinish, Form, On, LabelledFormat}
use Rattle.f_tree.specs.World.{Medium, External, Internal, Transfer, World}
use Rattle.f_tree.specs.Courses.{Course, Further, NotSaid}
use Rattle.f_tree.specs.Statuses.{end_of_file, too_long, not_a_format, fails_with, ends_well}
use Rattle.f_tree.specs.Records.{text_from, record_count, Writing, Wrote, StoppedBy, Broken, put_lines, EndOfFile, LongRecord, Unfetched, Supply, supply, world_after}
use Rattle.f_tree.specs.FormatChoice.{Found, IsFormat, NoFormat, NotDefined, TooShort, format_found}

-- what comes next of a list: its first item, or the end of the transfer
unfoldable pub next_of : Work → Form
next_of Done = On ToFinish NoMore
next_of (Before (Item t) rest) = On (ToTransfer rest) (More t NoMore)
next_of (Before (Repeated items control) rest) = On (ToRepeat items rest) control
next_of (Before (Turn items p left by given) rest) = On (ToTurn items p left by given rest) NoMore

unfoldable pub followed_by : Work → Work → Work
followed_by Done rest = rest
followed_by (Before job work) rest = Before job (followed_by work rest)

-- the transfer goes on
unfoldable pub going_on : World → Transfer → Course
going_on w t = Further (record w { transfer = Some t })

-- OUTPUT. The values of an item: of an array, those of its elements in their order
unfoldable pub listed_value : Datum → Checked listed.ListedValue
listed_value (IsInt z) = Gives (listed.Int z)
listed_value (IsLog b) = Gives (listed.Logical b)
listed_value (IsText cs) = Gives (listed.Text cs)
listed_value _ = Fails NoMeaning

unfoldable pub element_values : List Spot → Store → Checked (List listed.ListedValue)
element_values [] s = Gives []
element_values (p ∷ ps) s =
    given_that (fetch s p) (λ d. given_that (listed_value d) (λ a. given_that (element_values ps s) (λ more. Gives (a ∷ more))))

unfoldable pub values_of : Store → Datum → Checked (List listed.ListedValue)
values_of s (IsSpot p) = element_values (elements p) s
values_of s d = given_that (listed_value d) (λ a. Gives (a ∷ []))

-- the records of the values so far that are complete, at the end the last one too, and why the format goes no further
pub record Made : Type 0 where
  pub complete : List Bytes
  pub halted : Option Halt

-- how long a record may be, and how many there may be
unfoldable pub sheet_of : Medium → edited.Sheet
sheet_of (External unit) = edited.unit_sheet
sheet_of (Internal p) = edited.internal_sheet (record_count p) p.width

unfoldable pub made_of : edited.Output → Made
made_of out = record { complete = out.complete; halted = out.halted }

unfoldable pub made_by : Layout → Transfer → Bool → Made
made_by Listed t closed = record { complete = listed.listed t.values closed; halted = None }
made_by _ t closed = made_of (edited.made_on (sheet_of t.medium) t.format t.values closed)

-- the complete records are written, and not the one that is being made at an error
unfoldable pub halted_by : World → Transfer → Halt → Course
halted_by w t (Number number) = fails_with w (pos number) t.controls t.status
halted_by w t EndOfRecords = fails_with w end_of_file t.controls t.status
halted_by w t OtherType = NotSaid WrongDescriptor

unfoldable pub unless_halted : World → Transfer → Option Halt → Course → Course
unless_halted w t None course = course
unless_halted w t (Some halt) course = halted_by w t halt

-- where the writing of records comes to an end, the transfer goes on as `next` says
unfoldable pub after_writing : Transfer → Option Halt → Writing → (World → Course) → Course
after_writing t halted (Wrote w) next = unless_halted w t halted (next w)
after_writing t halted (StoppedBy number w) next = fails_with w number t.controls t.status
after_writing t halted (Broken act) next = NotSaid act

unfoldable pub records_put : World → Transfer → Made → Writing
records_put w t m = put_lines t.medium t.written (drop t.written m.complete) w

-- the complete records are written, and the transfer goes on behind them
unfoldable pub put_then : World → Transfer → Made → (World → Transfer → Course) → Course
put_then w t m next = after_writing t m.halted (records_put w t m) (λ after. next after (record t { written = length m.complete }))

unfoldable pub values_put : World → Transfer → Checked (List listed.ListedValue) → Course
values_put w t (Fails act) = NotSaid act
values_put w t (Gives values) =
    let longer = record t { values = t.values ++ values } in
    put_then w longer (made_by t.layout longer false) going_on

-- what a format gives before the descriptor of the item that comes next
unfoldable pub made_before : Transfer → Made
made_before t = made_of (edited.made_ahead (sheet_of t.medium) t.format t.values)

unfoldable pub element_put : World → Transfer → Checked listed.ListedValue → (World → Transfer → Course) → Course
element_put w t (Fails act) next = NotSaid act
element_put w t (Gives value) next =
    let longer = record t { values = t.values ++ value ∷ [] } in
    put_then w longer (made_by t.layout longer false) next

-- under a format a value is fetched when its descriptor is come to, since it may stand in a record of the internal file that is
-- complete by then, by the value before it or by its own reversion or slash
unfoldable pub value_met : World → Transfer → (Store → Checked listed.ListedValue) → (World → Transfer → Course) → Course
value_met w t value next = put_then w t (made_before t) (λ ahead led. element_put ahead led (value ahead.store) next)

unfoldable pub each_put : World → Transfer → List Spot → Course
each_put w t [] = going_on w t
each_put w t (p ∷ ps) = value_met w t (λ s. given_that (fetch s p) listed_value) (λ after longer. each_put after longer ps)

unfoldable pub formatted_put : World → Transfer → Datum → Course
formatted_put w t (IsSpot p) = each_put w t (elements p)
formatted_put w t d = value_met w t (λ s. listed_value d) going_on

-- the values of a list-directed item are fetched before any of them is put
unfoldable pub item_written : Layout → World → Transfer → Datum → Course
item_written Listed w t d = values_put w t (values_of w.store d)
item_written _ w t d = formatted_put w t d

unfoldable pub output_ended : World → Transfer → Made → Course
output_ended w t m = after_writing t m.halted (records_put w t m) (λ after. ends_well after t.status)

-- INPUT. What an item comes to: the transfer after it, a number that ends it, or an act; with the number of the records read in it,
-- and the store
pub data Taking : Type 0 where
  Serves : Transfer → ℕ → Store → Taking
  Numbered : ℤ → ℕ → Store → Taking
  Unsaid : Act → Taking

-- a record that is not there, or is too long, is passed too
unfoldable pub ran_out : Supply → Store → Taking
ran_out all s = elim all.beyond [
  | EndOfFile ↦ Numbered end_of_file (suc (length all.lines)) s
  | LongRecord ↦ Numbered too_long (suc (length all.lines)) s
  | Unfetched act ↦ Unsaid act
]

unfoldable pub taking_with : Checked Store → (Store → Taking) → Taking
taking_with (Gives s) go = go s
taking_with (Fails act) go = Unsaid act

-- an item takes a value; under a null it keeps its own
unfoldable pub value_stored : Store → Spot → items.Value → Checked Store
value_stored s p (items.IntValue z) = define s p (IsInt z)
value_stored s p (items.LogicalValue b) = define s p (IsLog b)
value_stored s p (items.TextValue cs) = define s p (IsText cs)
value_stored s p items.Kept = Gives s

-- the first characters of an item
unfoldable pub front_stored : Store → Spot → Bytes → Checked Store
front_stored s p [] = Gives s
front_stored s p (c ∷ cs) = define s (record p { width = min (length (c ∷ cs)) p.width }) (IsText (c ∷ cs))

unfoldable pub kind_of : Basic → Kind
kind_of Integer = IntItem
kind_of Logical = LogicalItem
kind_of Character = TextItem
kind_of Untyped = TextItem

unfoldable pub runs_out : items.Item → Bool
runs_out (items.Stops (items.EndOfRecords text)) = true
runs_out (items.Stops outcome) = false
runs_out (items.Takes value place later) = false

-- how many further records an item needs, counted from `known` on: as many as it does not run out of
unfoldable pub records_needed : ℕ → ℕ → Place → List Bytes → Kind → ℕ
records_needed zero known place later kind = known
records_needed (suc more) known place later kind =
    if runs_out (items.item_over place (take known later) kind) then records_needed more (known + 1) place later kind else known

-- with so many records more
unfoldable pub read_further : ℕ → Supply → Transfer → Transfer
read_further count all t = record t { lines = t.lines ++ take count all.lines }

unfoldable pub value_given : items.Value → Transfer → Transfer
value_given value t = record t { taken = t.taken ++ value ∷ [] }

-- list-directed input stops at an item, with so many records read: at a slash, which leaves it and the others; at an error; or
-- where the records end. The item holds the characters that a text has in earlier records
unfoldable pub listed_stop : Transfer → Supply → Store → Spot → ℕ → items.Outcome → Taking
listed_stop t all s p count (items.Failed number text) = taking_with (front_stored s p text) (Numbered (pos number) count)
listed_stop t all s p count (items.EndOfRecords text) = taking_with (front_stored s p text) (ran_out all)
listed_stop t all s p count _ = Serves (read_further count all (value_given items.Kept (record t { slashed = true }))) count s

unfoldable pub item_listed : Transfer → Supply → Spot → Store → items.Item → Taking
item_listed t all p s (items.Takes value place later) =
    let count = length all.lines - length later in
    taking_with (value_stored s p value) (Serves (read_further count all (value_given value (record t { place = place }))) count)
item_listed t all p s (items.Stops outcome) = listed_stop t all s p (records_needed (length all.lines) 0 t.place all.lines (kind_of p.basic)) outcome

-- behind a slash each item keeps its value
unfoldable pub listed_taken : Bool → Transfer → Supply → Spot → Store → Taking
listed_taken true t all p s = Serves (value_given items.Kept t) 0 s
listed_taken false t all p s = item_listed t all p s (items.item_over t.place all.lines (kind_of p.basic))

-- what an item of a formatted input wants
unfoldable pub want_of : Spot → taken.Want
want_of p = elim p.basic [
  | Integer ↦ taken.WantInt
  | Logical ↦ taken.WantLogical
  | Character ↦ taken.WantText p.width
  | Untyped ↦ taken.WantText p.width
]

-- the values go to as many items
unfoldable pub values_stored : Store → List Spot → List items.Value → Checked Store
values_stored s (p ∷ ps) (value ∷ values) = given_that (value_stored s p value) (λ after. values_stored after ps values)
values_stored s _ _ = Gives s

-- a formatted input over its records, up to the last of its items
unfoldable pub taken_so_far : Format → List Bytes → List taken.Want → Bool → taken.Input
taken_so_far format lines wants zeros = transferred taken.input format wants (taken.input_start lines zeros)

-- the records that a formatted input has read, and those that it can read
unfoldable pub lines_with : Transfer → Supply → List Bytes
lines_with t all = t.lines ++ all.lines

-- with so many records more, and the store
unfoldable pub input_by : Transfer → Supply → ℕ → Option Halt → Store → Taking
input_by t all count None s = Serves (read_further count all t) count s
input_by t all count (Some (Number number)) s = Numbered (pos number) count s
input_by t all count (Some EndOfRecords) s = ran_out all s
input_by t all count (Some OtherType) s = Unsaid WrongDescriptor

unfoldable pub input_taken : Transfer → Supply → List Spot → Store → taken.Input → Taking
input_taken t all ps s input =
    taking_with (values_stored s ps (drop (length t.wants) input.values))
    (input_by (record t { wants = t.wants ++ map want_of ps; taken = input.values }) all (length all.lines - length input.later) input.halted)

unfoldable pub format_taken : Transfer → Supply → Spot → Store → Taking
format_taken t all p s = input_taken t all (p ∷ []) s (taken_so_far t.format (lines_with t all) (t.wants ++ want_of p ∷ []) t.zeros)

unfoldable pub item_taken : Layout → Transfer → Supply → Spot → Store → Taking
item_taken Listed t all p s = listed_taken t.slashed t all p s
item_taken _ t all p s = format_taken t all p s

-- how many records of an internal file are read
unfoldable pub counted : ℕ → Transfer → Transfer
counted count t = elim t.medium [ External unit ↦ t | Internal p ↦ record t { written = t.written + count } ]

unfoldable pub taken_then : World → Transfer → Taking → (World → Transfer → Course) → Course
taken_then w t (Serves after count s) next = next (record (world_after count w t) { store = s }) (counted count after)
taken_then w t (Numbered number count s) next = fails_with (record (world_after count w t) { store = s }) number t.controls t.status
taken_then w t (Unsaid act) next = NotSaid act

-- each element of an item is filled before the next, whose records are fetched when the transfer comes to them
unfoldable pub each_filled : World → Transfer → List Spot → Course
each_filled w t [] = going_on w t
each_filled w t (p ∷ ps) = taken_then w t (item_taken t.layout t (supply w t) p w.store) (λ after longer. each_filled after longer ps)

unfoldable pub place_filled : World → Transfer → Datum → Course
place_filled w t (IsSpot p) = each_filled w t (elements p)
place_filled w t _ = NotSaid NoMeaning

-- what the format gives behind the last item
unfoldable pub closing_taken : Layout → World → Transfer → Supply → Taking
closing_taken Listed w t all = Serves t 0 w.store
closing_taken _ w t all = input_taken t all [] w.store (taken.taken t.format (lines_with t all) t.wants t.zeros)

unfoldable pub input_ended : World → Transfer → Taking → Course
input_ended w t taking = taken_then w t taking (λ after longer. ends_well after t.status)

-- an item, and the end
unfoldable pub item_done : World → Datum → Option Transfer → Course
item_done w d None = NotSaid NoMeaning
item_done w d (Some t) = elim t.direction [
  | Output ↦ item_written t.layout w t d
  | Input ↦ place_filled w t d
]

unfoldable pub finished : World → Option Transfer → Course
finished w None = NotSaid NoMeaning
finished w (Some t) = elim t.direction [
  | Output ↦ output_ended w t (made_by t.layout t true)
  | Input ↦ input_ended w t (closing_taken t.layout w t (supply w t))
]

-- THE START. The operands of the control words, by their words
unfoldable pub operand_for : (Word → Bool) → List Word → List Datum → Option Datum
operand_for test (word ∷ words) (d ∷ ds) = if test word then Some d else operand_for test words ds
operand_for test _ _ = None

unfoldable pub is_format_word : Word → Bool
is_format_word FormatWord = true
is_format_word _ = false

unfoldable pub medium_of : List Word → List Datum → Option Medium
medium_of (UnitWord ∷ words) (IsInt z ∷ ds) = Some (External z)
medium_of (UnitWord ∷ words) (IsSpot p ∷ ds) = Some (Internal p)
medium_of (word ∷ words) (d ∷ ds) = medium_of words ds
medium_of _ _ = None

unfoldable pub status_of : List Word → List Datum → Option Spot
status_of (StatusWord ∷ words) (IsSpot p ∷ ds) = Some p
status_of (word ∷ words) (d ∷ ds) = status_of words ds
status_of _ _ = None

-- the characters of a format (13.1): of the FORMAT statement with a label, or of an operand, whose characters are fetched last
unfoldable pub labelled_text : List LabelledFormat → ℕ → Checked Bytes
labelled_text [] label = Fails NoMeaning
labelled_text (f ∷ fs) label = if nat_eq f.label label then Gives f.text else labelled_text fs label

-- one character, where it is defined
unfoldable pub character_in : Checked Bytes → Option ℕ
character_in (Gives (c ∷ cs)) = Some c
character_in _ = None

unfoldable pub character_at : Store → Spot → Option ℕ
character_at s p = character_in (text_from (fetch s p))

unfoldable pub operand_characters : Store → Option Datum → Checked (List (Option ℕ))
operand_characters s (Some (IsText cs)) = Gives (map Some cs)
operand_characters s (Some (IsSpot p)) = Gives (map (character_at s) (elements (record p { width = 1 })))
operand_characters s _ = Fails NoMeaning

unfoldable pub found_in : Checked (List (Option ℕ)) → Checked Found
found_in characters = given_that characters (λ cs. Gives (format_found cs))

unfoldable pub format_for : List LabelledFormat → Store → Layout → Option Datum → Checked Found
format_for formats s Listed d = Gives (IsFormat Empty)
format_for formats s (Labelled label) d = found_in (given_that (labelled_text formats label) (λ cs. Gives (map Some cs)))
format_for formats s Computed d = found_in (operand_characters s d)
format_for formats s Unformatted d = Fails NoMeaning

unfoldable pub is_usable : Medium → Units → Bool
is_usable (External unit) units = is_connected unit units
is_usable (Internal p) units = true

unfoldable pub zero_blanks_on : Medium → Units → Bool
zero_blanks_on (External unit) units = reads_zero_blanks unit units
zero_blanks_on (Internal p) units = false

-- a transfer before its first item
unfoldable pub new_transfer : Direction → Layout → Controls → Option Spot → World → Medium → Format → Transfer
new_transfer direction layout controls status w medium format = record {
  direction = direction;
  layout = layout;
  medium = medium;
  controls = controls;
  status = status;
  format = format;
  values = [];
  written = 0;
  lines = [];
  taken = [];
  place = Between false [];
  slashed = false;
  wants = [];
  zeros = zero_blanks_on medium w.units;
}

-- an input reads its first record at its start
unfoldable pub first_read : Store → Transfer → Supply → List Bytes → Taking
first_read s t all [] = ran_out all s
first_read s t all (line ∷ later) = Serves (record t { place = Between false line; lines = line ∷ [] }) 1 s

unfoldable pub started_with : World → Transfer → Course
started_with w t = elim t.direction [
  | Output ↦ going_on w t
  | Input ↦ taken_then w t (first_read w.store t (supply w t) (supply w t).lines) going_on
]

unfoldable pub started_by : World → Direction → Layout → Controls → Option Spot → Medium → Found → Course
started_by w direction layout controls status medium (IsFormat format) = started_with w (new_transfer direction layout controls status w medium format)
started_by w direction layout controls status medium NoFormat = fails_with w not_a_format controls status
started_by w direction layout controls status medium NotDefined = NotSaid NoValue
started_by w direction layout controls status medium TooShort = NotSaid FormatEndsEarly

-- a transfer checks its unit, and then its format
unfoldable pub begun_on : World → Direction → Layout → Controls → Option Spot → Option Medium → Checked Found → Course
begun_on w direction layout controls status medium (Fails act) = NotSaid act
begun_on w direction layout controls status None (Gives found) = NotSaid NoMeaning
begun_on w direction layout controls status (Some medium) (Gives found) =
    if is_usable medium w.units then started_by w direction layout controls status medium found else fails_with w (pos 6) controls status

unfoldable pub begins : List LabelledFormat → World → Direction → Layout → Controls → List Datum → Option Transfer → Course
begins formats w direction layout controls ds (Some t) = NotSaid TransferInTransfer
begins formats w direction layout controls ds None =
    begun_on w direction layout controls (status_of controls.words ds) (medium_of controls.words ds)
    (format_for formats w.store layout (operand_for is_format_word controls.words ds))

unfoldable pub transfers_opened : Unit {0}
unfolding next_of followed_by going_on listed_value element_values values_of sheet_of made_of made_by halted_by unless_halted after_writing records_put put_then values_put made_before element_put value_met each_put formatted_put item_written output_ended ran_out taking_with value_stored front_stored kind_of runs_out records_needed read_further value_given listed_stop item_listed listed_taken want_of values_stored taken_so_far lines_with input_by input_taken format_taken item_taken counted taken_then each_filled place_filled closing_taken input_ended item_done finished operand_for is_format_word medium_of status_of labelled_text character_in character_at operand_characters found_in format_for is_usable zero_blanks_on new_transfer first_read started_with started_by begun_on begins listed.listed_whole edited.made_on edited.made_ahead taken.taken edits_for given int_field logical_field text_field int_in logical_in text_in
transfers_opened = tt
