-- The calls of a transfer are values or faults.
use Rattle.std.specs.Prelude.{ℕ, zero, suc, ◌+◌, ◌-◌, ◌*◌, nat_eq, nat_le, nat_lt, ℤ, pos, Bool, true, false, List, [], ◌∷◌, ◌++◌, length, drop, Option, Some, None, Result, Ok, Err, codes, slice_get, if◌then◌else◌}
use Rattle.c_laws.specs.edit_meaning.Listed as list
use Rattle.c_laws.specs.edit_meaning.Formats.{Descriptor, IntIn, LogicalIn, TextIn, Format, edits_for, closing}
use Rattle.c_laws.specs.edit_meaning.Halts.{Halt, Number as HaltNumber, EndOfRecords, OtherType}
use Rattle.c_laws.specs.edit_meaning.ListInput as input
use Rattle.c_laws.specs.edit_meaning.ListItems as items
use Rattle.c_laws.specs.edit_meaning.TakenRecords as taken
use Rattle.c_laws.specs.edit_meaning.Transfers.{Progress, with_next, closed_by}
use Rattle.c_laws.specs.run_state.Units.{Units, is_connected, write_unit}
use Rattle.c_laws.specs.run_state.declared.refusals.UnitRefusal.{UnitRefusal}
use Rattle.c_laws.specs.c_tree.declared.outcome.CValue.{CValue}
use Rattle.c_laws.specs.c_tree.declared.outcome.CValue.TheVariants.{Pointer, Null}
use Rattle.c_laws.specs.c_tree.declared.types.ListType.{ListType}
use Rattle.c_laws.specs.c_tree.declared.types.ListType.TheVariants as list_type
use Rattle.c_laws.specs.c_tree.Faults.{Or, after}
use Rattle.c_laws.specs.c_tree.Objects.{Object, Bytes, Values}
use Rattle.c_laws.specs.c_tree.World.{Direction, Output, Input, Layout, Formatted, Listed, Medium, Unit, Internal, InternalFile, Transfer, World, Reply}
use Rattle.c_laws.specs.c_tree.Builtins.{Style, ByFormat, ByList, Site, OnUnit, InMemory, TransferKind}
use Rattle.c_laws.specs.c_tree.LibraryArguments.{fitted, shifted}
use Rattle.c_laws.specs.c_tree.FormatsGiven.{FormatRead, Begins, NoFormat, NotSet, EndsEarly, format_read, format_in, format_at}
use Rattle.c_laws.specs.c_tree.Transfers.{Control, unit_control, internal_file, internal_control, format_field, when_connected, when_format, formatted_start, Upcoming, nothing_but, led_by, records_upcoming, records_left, internal_record, fetched_before, internal_upcoming, upcoming, new_transfer, Passage, GoesOn, Answers}
use Rattle.c_laws.specs.c_tree.TransferStarts.{first_read, reading, opened, control_of, format_of, started, starts}
use Rattle.c_laws.specs.c_tree.TransferOutput.{ItemKind, IntegerItem, LogicalItem, TextItem, item_kind, item_length, item_at, items_at, if_four, item_under, Made, made, new_records, made_before, next_descriptor, write_all, Filling, Filled, Stuck, one_filled, fill_one, fill_all, put_on_unit, lines_put, records_put, put_values, listed_put, led_on, value_put, formatted_put, output_ended}
use Rattle.c_laws.specs.c_tree.TransferInput.{value_taken, listed_stop, listed_taken, records_needed, unless_slashed, kind_of, listed_item, format_stop, all_taken, formatted_taken, edited_item, wanted_under, formatted_item, closed_input, formatted_closed, with_upcoming, formatted_input_ended}
use Rattle.c_laws.specs.c_tree.TransferCalls.{then_later, each_item, formatted_done, formatted_by, formatted_items, listed_done, listed_by, listed_items, is_kind, ended, ends}
use Rattle.c_totality.specs.Sound.{IsMeant, gives, faults}
use Rattle.c_totality.proofs.SoundLaws.{after-meant, if-meant, meant}
use Rattle.c_totality.proofs.ValueSound.{stored-meant}
use Rattle.c_totality.proofs.LibrarySound.{number_through-meant, count_from-meant, length_from-meant, text_at-meant, text_stored-meant, list_at-meant, field_value-meant, field_number-meant, outside_transfers-meant, in_transfer-meant, HasNumber, is_done, is_refused, write_has_number}

-- ## Formats

pub format_read-meant : (read : FormatRead) → IsMeant (format_read read)
format_read-meant (Begins size format) = gives _
format_read-meant NoFormat = gives _
format_read-meant NotSet = faults _
format_read-meant EndsEarly = faults _

pub format_in-meant : (object : Option Object) (offset : ℕ) → IsMeant (format_in object offset)
format_in-meant None offset = faults _
format_in-meant (Some (Bytes bytes)) offset = search format_read-meant
format_in-meant (Some (Values held)) offset = faults _

pub format_at-meant : (objects : List Object) (pointer : CValue) → IsMeant (format_at objects pointer)
unfolding format_at
format_at-meant objects (Pointer object offset) = format_in-meant (slice_get objects object) offset
format_at-meant objects other = search meant

-- ## What a list says

pub unit_control-meant : (objects : List Object) (pointer : CValue) → IsMeant (unit_control objects pointer)
unit_control-meant objects pointer =
    after-meant (list_at-meant objects list_type.Transfer pointer) (λ place. after-meant (field_number-meant objects place (codes "cierr")) (λ on_error.
    after-meant (field_number-meant objects place (codes "ciunit")) (λ unit. after-meant (field_number-meant objects place (codes "ciend")) (λ on_end. gives _))))

pub internal_file-meant : (start : CValue) (size count : ℕ) → IsMeant (internal_file start size count)
internal_file-meant (Pointer object offset) size count = gives _
internal_file-meant Null size count = faults _
internal_file-meant other size count = search meant

pub internal_control-meant : (objects : List Object) (pointer : CValue) → IsMeant (internal_control objects pointer)
internal_control-meant objects pointer =
    after-meant (list_at-meant objects list_type.Internal pointer) (λ place. after-meant (field_number-meant objects place (codes "icierr")) (λ on_error.
    after-meant (field_value-meant objects place (codes "iciunit")) (λ start. after-meant (field_number-meant objects place (codes "iciend")) (λ on_end.
    after-meant (field_number-meant objects place (codes "icirlen")) (λ record_length. after-meant (field_number-meant objects place (codes "icirnum")) (λ record_count.
    after-meant (count_from-meant record_length) (λ size. after-meant (count_from-meant record_count) (λ count.
    after-meant (internal_file-meant start size count) (λ file. gives _)))))))))

pub format_field-meant : (type : ListType) (name : List ℕ) (objects : List Object) (pointer : CValue) → IsMeant (format_field type name objects pointer)
format_field-meant type name objects pointer = after-meant (list_at-meant objects type pointer) (λ place. field_value-meant objects place name)

pub when_connected-meant : (medium : Medium) (control : Control) (world : World) (rest : Or Reply) → IsMeant rest → IsMeant (when_connected medium control world rest)
when_connected-meant (Unit unit) control world rest is = if-meant (is_connected unit world.units) is (gives _)
when_connected-meant (Internal file) control world rest is = is

pub when_format-meant : (given : Option Format) (control : Control) (world : World) (rest : Format → Or Reply) → ((format : Format) → IsMeant (rest format)) → IsMeant (when_format given control world rest)
when_format-meant None control world rest each = gives _
when_format-meant (Some format) control world rest each = each format

pub formatted_start-meant : (control : Control) (pointer : CValue) (world : World) (rest : Format → Or Reply) → ((format : Format) → IsMeant (rest format)) → IsMeant (formatted_start control pointer world rest)
formatted_start-meant control pointer world rest each =
    when_connected-meant control.medium control world
    (after (format_at world.objects pointer) λ format. when_format format control world rest)
    (after-meant (format_at-meant world.objects pointer) (λ format. when_format-meant format control world rest each))

-- ## The records that come next: what stands behind them is a number or a fault

pub led_by-meant : (line : List ℕ) (later : Upcoming) → IsMeant later.then_comes → IsMeant (led_by line later).then_comes
led_by-meant line later is = cut (nat_le (length line) 1024) line later is
  where
    cut : (b : Bool) (line : List ℕ) (later : Upcoming) → IsMeant later.then_comes → IsMeant (if b then record later { lines = line ∷ later.lines } else nothing_but (Ok (pos 5))).then_comes
    cut true line later is = is
    cut false line later is = gives _

pub records_upcoming-meant : (records : List (List ℕ)) → IsMeant (records_upcoming records).then_comes
records_upcoming-meant [] = gives _
records_upcoming-meant (line ∷ later) = led_by-meant line (records_upcoming later) (records_upcoming-meant later)

pub fetched_before-meant : (line : Or (List ℕ)) (later : Upcoming) → IsMeant line → IsMeant later.then_comes → IsMeant (fetched_before line later).then_comes
fetched_before-meant line later (gives text) is = led_by-meant text later is
fetched_before-meant line later (faults fault) is = faults fault

pub internal_upcoming-meant : (objects : List Object) (file : InternalFile) (count number : ℕ) → IsMeant (internal_upcoming objects file count number).then_comes
internal_upcoming-meant objects file zero number = gives _
internal_upcoming-meant objects file (suc more) number =
    fetched_before-meant (internal_record objects file number) (internal_upcoming objects file more (number + 1))
    (text_at-meant objects (Pointer file.object (file.offset + number * file.size)) file.size)
    (internal_upcoming-meant objects file more (number + 1))

pub upcoming-meant : (world : World) (medium : Medium) → IsMeant (upcoming world medium).then_comes
upcoming-meant world (Unit unit) = records_upcoming-meant (records_left (world.units.connected unit))
upcoming-meant world (Internal file) = internal_upcoming-meant world.objects file (file.count - file.position) file.position

-- ## Starts

pub first_read-meant : (transfer : Transfer) (world : World) (lines : List (List ℕ)) (then_comes : Or ℤ) → IsMeant then_comes → IsMeant (first_read transfer world lines then_comes)
first_read-meant transfer world [] then_comes is = after-meant is (λ number. gives _)
first_read-meant transfer world (line ∷ later) then_comes is = gives _

pub reading-meant : (transfer : Transfer) (world : World) → IsMeant (reading transfer world)
reading-meant transfer world =
    first_read-meant transfer world (upcoming world transfer.medium).lines (upcoming world transfer.medium).then_comes (upcoming-meant world transfer.medium)

pub opened-meant : (transfer : Transfer) (world : World) (direction : Direction) → IsMeant (opened transfer world direction)
opened-meant transfer world Output = gives _
opened-meant transfer world Input = reading-meant transfer world

pub control_of-meant : (site : Site) (objects : List Object) (pointer : CValue) → IsMeant (control_of site objects pointer)
control_of-meant OnUnit objects pointer = unit_control-meant objects pointer
control_of-meant InMemory objects pointer = internal_control-meant objects pointer

pub format_of-meant : (site : Site) (objects : List Object) (pointer : CValue) → IsMeant (format_of site objects pointer)
format_of-meant OnUnit objects pointer = format_field-meant list_type.Transfer (codes "cifmt") objects pointer
format_of-meant InMemory objects pointer = format_field-meant list_type.Internal (codes "icifmt") objects pointer

pub started-meant : (style : Style) (kind : TransferKind) (control : Control) (world : World) (pointer : CValue) → IsMeant (started style kind control world pointer)
started-meant ByList kind control world pointer =
    when_connected-meant control.medium control world _ (opened-meant (new_transfer kind.direction Listed control) world kind.direction)
started-meant ByFormat kind control world pointer =
    after-meant (format_of-meant kind.site world.objects pointer) (λ given.
    formatted_start-meant control given world (λ format. opened (new_transfer kind.direction (Formatted format) control) world kind.direction)
    (λ format. opened-meant (new_transfer kind.direction (Formatted format) control) world kind.direction))

pub starts-meant : (kind : TransferKind) (world : World) (pointer : CValue) → IsMeant (starts kind world pointer)
unfolding starts
starts-meant kind world pointer =
    after-meant (outside_transfers-meant world) (λ outside. after-meant (control_of-meant kind.site world.objects pointer) (λ control.
    started-meant kind.style kind control world pointer))

-- ## Output

pub item_kind-meant : (number : ℤ) → IsMeant (item_kind number)
item_kind-meant number = search meant

pub item_length-meant : (kind : ItemKind) (size : ℕ) → IsMeant (item_length kind size)
item_length-meant TextItem size = search meant
item_length-meant kind size = search meant

pub item_at-meant : (kind : ItemKind) (objects : List Object) (pointer : CValue) (size : ℕ) → IsMeant (item_at kind objects pointer size)
item_at-meant IntegerItem objects pointer size = after-meant (number_through-meant objects pointer) (λ number. gives _)
item_at-meant LogicalItem objects pointer size = after-meant (number_through-meant objects pointer) (λ number. gives _)
item_at-meant TextItem objects pointer size = after-meant (text_at-meant objects pointer size) (λ text. gives _)

pub items_at-meant : (kind : ItemKind) (objects : List Object) (size count : ℕ) (pointer : CValue) → IsMeant (items_at kind objects size count pointer)
items_at-meant kind objects size zero pointer = gives _
items_at-meant kind objects size (suc count) pointer =
    after-meant (item_at-meant kind objects pointer size) (λ value. after-meant (items_at-meant kind objects size count (shifted size pointer)) (λ later. gives _))

pub if_four-meant : (size : ℕ) (value : Or list.ListedValue) → IsMeant value → IsMeant (if_four size value)
if_four-meant size value is = if-meant (nat_eq size 4) is (gives _)

pub item_under-meant : (descriptor : Option Descriptor) (objects : List Object) (pointer : CValue) (size : ℕ) → IsMeant (item_under descriptor objects pointer size)
item_under-meant (Some (IntIn width least)) objects pointer size = if_four-meant size _ (item_at-meant IntegerItem objects pointer size)
item_under-meant (Some (LogicalIn width)) objects pointer size = if_four-meant size _ (item_at-meant LogicalItem objects pointer size)
item_under-meant (Some (TextIn width)) objects pointer size = item_at-meant TextItem objects pointer size
item_under-meant None objects pointer size = gives _

then_written : (unit : ℤ) (later : List (List ℕ)) (result : Result Units UnitRefusal) → HasNumber result → ((units : Units) → HasNumber (write_all unit later units)) →
    HasNumber {A = Units} (elim result [ Ok changed ↦ write_all unit later changed | Err refusal ↦ Err refusal ])
then_written unit later result (is_done units) each = each units
then_written unit later result (is_refused refusal number) each = is_refused refusal number

pub write_all_has_number : (unit : ℤ) (lines : List (List ℕ)) (units : Units) → HasNumber (write_all unit lines units)
write_all_has_number unit [] units = is_done units
write_all_has_number unit (line ∷ later) units = then_written unit later (write_unit unit line units) (write_has_number unit line units) (write_all_has_number unit later)

pub one_filled-meant : (file : InternalFile) (changed : Or (List Object)) → IsMeant changed → IsMeant (one_filled file changed)
one_filled-meant file changed is = after-meant is (λ objects. gives _)

pub fill_one-meant : (line : List ℕ) (file : InternalFile) (objects : List Object) → IsMeant (fill_one line file objects)
fill_one-meant line file objects =
    if-meant (nat_le file.count file.position) (gives _)
    (if-meant (nat_lt file.size (length line)) (gives _)
    (one_filled-meant file _ (text_stored-meant objects (Pointer file.object (file.offset + file.position * file.size)) (fitted file.size line))))

then_filled : (later : List (List ℕ)) (filling : Filling) → ((file : InternalFile) (objects : List Object) → IsMeant (fill_all later file objects)) →
    IsMeant {A = Filling} (elim filling [ Filled next changed ↦ fill_all later next changed | Stuck number changed ↦ Ok (Stuck number changed) ])
then_filled later (Filled next changed) each = each next changed
then_filled later (Stuck number changed) each = gives _

pub fill_all-meant : (lines : List (List ℕ)) (file : InternalFile) (objects : List Object) → IsMeant (fill_all lines file objects)
fill_all-meant [] file objects = gives _
fill_all-meant (line ∷ later) file objects =
    after-meant (fill_one-meant line file objects) (λ filling. then_filled later filling (fill_all-meant later))

pub put_on_unit-meant : (unit : ℤ) (world : World) (result : Result Units UnitRefusal) → HasNumber result → IsMeant (put_on_unit unit world result)
put_on_unit-meant unit world result (is_done units) = gives _
put_on_unit-meant unit world result (is_refused refusal number) = after-meant number (λ number. gives _)

pub lines_put-meant : (medium : Medium) (lines : List (List ℕ)) (world : World) → IsMeant (lines_put medium lines world)
lines_put-meant (Unit unit) lines world = put_on_unit-meant unit world _ (write_all_has_number unit lines world.units)
lines_put-meant (Internal file) lines world = after-meant (fill_all-meant lines file world.objects) (λ filling. gives _)

pub records_put-meant : (made : Made) (transfer : Transfer) (world : World) → IsMeant (records_put made transfer world)
records_put-meant made transfer world = after-meant (lines_put-meant transfer.medium (drop transfer.written made.records) world) (λ putting. gives _)

pub put_values-meant : (values : List list.ListedValue) (transfer : Transfer) (world : World) → IsMeant (put_values values transfer world)
put_values-meant values transfer world =
    let longer = record transfer { values = transfer.values ++ values } in records_put-meant (made longer false) longer world

pub listed_put-meant : (kind : ItemKind) (size count : ℕ) (first : CValue) (transfer : Transfer) (world : World) → IsMeant (listed_put kind size count first transfer world)
listed_put-meant kind size count first transfer world =
    after-meant (items_at-meant kind world.objects size count first) (λ values. after-meant (put_values-meant values transfer world) (λ passage. gives _))

pub led_on-meant : (passage : Passage) (next : Transfer → World → Or Passage) → ((transfer : Transfer) (world : World) → IsMeant (next transfer world)) → IsMeant (led_on passage next)
led_on-meant (Answers reply) next each = gives _
led_on-meant (GoesOn transfer world) next each = each transfer world

pub value_put-meant : (format : Format) (size : ℕ) (pointer : CValue) (transfer : Transfer) (world : World) → IsMeant (value_put format size pointer transfer world)
value_put-meant format size pointer transfer world =
    after-meant (item_under-meant (next_descriptor format (edits_for format (length transfer.values)).left) world.objects pointer size) (λ value. put_values-meant (value ∷ []) transfer world)

pub formatted_put-meant : (format : Format) (size : ℕ) (pointer : CValue) (transfer : Transfer) (world : World) → IsMeant (formatted_put format size pointer transfer world)
formatted_put-meant format size pointer transfer world =
    after-meant (records_put-meant (made_before format transfer) transfer world) (λ passage. led_on-meant passage (value_put format size pointer) (value_put-meant format size pointer))

pub output_ended-meant : (transfer : Transfer) (world : World) → IsMeant (output_ended transfer world)
output_ended-meant transfer world = after-meant (lines_put-meant transfer.medium (new_records transfer true) world) (λ putting. gives _)

-- ## Input

pub value_taken-meant : (objects : List Object) (pointer : CValue) (size : ℕ) (value : items.Value) → IsMeant (value_taken objects pointer size value)
value_taken-meant objects pointer size (items.IntValue number) = stored-meant objects _ _
value_taken-meant objects pointer size (items.LogicalValue truth) = stored-meant objects _ _
value_taken-meant objects pointer size (items.TextValue text) = text_stored-meant objects pointer (fitted size text)
value_taken-meant objects pointer size items.Kept = gives _

pub listed_stop-meant : (pointer : CValue) (size : ℕ) (transfer : Transfer) (world : World) (next : Upcoming) (needed : ℕ) (outcome : items.Outcome) → IsMeant next.then_comes →
    IsMeant (listed_stop pointer size transfer world next needed outcome)
listed_stop-meant pointer size transfer world next needed items.Filled is = gives _
listed_stop-meant pointer size transfer world next needed items.Slashed is = gives _
listed_stop-meant pointer size transfer world next needed (items.Failed number text) is = after-meant (search text_stored-meant) (λ objects. gives _)
listed_stop-meant pointer size transfer world next needed (items.EndOfRecords text) is = after-meant is (λ number. after-meant (search text_stored-meant) (λ objects. gives _))

pub listed_taken-meant : (kind : input.Kind) (pointer : CValue) (size : ℕ) (transfer : Transfer) (world : World) (next : Upcoming) (item : items.Item) → IsMeant next.then_comes →
    IsMeant (listed_taken kind pointer size transfer world next item)
listed_taken-meant kind pointer size transfer world next (items.Takes value place later) is = after-meant (value_taken-meant world.objects pointer size value) (λ objects. gives _)
listed_taken-meant kind pointer size transfer world next (items.Stops outcome) is =
    listed_stop-meant pointer size transfer world next (records_needed (length next.lines) 0 transfer.place next.lines kind) outcome is

pub unless_slashed-meant : (slashed : Bool) (kind : input.Kind) (size : ℕ) (pointer : CValue) (transfer : Transfer) (world : World) (next : Upcoming) → IsMeant next.then_comes →
    IsMeant (unless_slashed slashed kind size pointer transfer world next)
unless_slashed-meant true kind size pointer transfer world next is = gives _
unless_slashed-meant false kind size pointer transfer world next is =
    listed_taken-meant kind pointer size transfer world next (items.item_over transfer.place next.lines kind) is

pub listed_item-meant : (kind : ItemKind) (size : ℕ) (pointer : CValue) (transfer : Transfer) (world : World) → IsMeant (listed_item kind size pointer transfer world)
listed_item-meant kind size pointer transfer world =
    unless_slashed-meant transfer.slashed (kind_of kind) size pointer transfer world (upcoming world transfer.medium) (upcoming-meant world transfer.medium)

pub format_stop-meant : (transfer : Transfer) (world : World) (next : Upcoming) (read : ℕ) (halt : Halt) → IsMeant next.then_comes → IsMeant (format_stop transfer world next read halt)
format_stop-meant transfer world next read (HaltNumber number) is = gives _
format_stop-meant transfer world next read OtherType is = gives _
format_stop-meant transfer world next read EndOfRecords is = after-meant is (λ number. gives _)

pub all_taken-meant : (pointer : CValue) (size : ℕ) (values : List items.Value) (objects : List Object) → IsMeant (all_taken pointer size values objects)
all_taken-meant pointer size [] objects = gives _
all_taken-meant pointer size (value ∷ later) objects = after-meant (value_taken-meant objects pointer size value) (λ changed. all_taken-meant pointer size later changed)

pub formatted_taken-meant : (pointer : CValue) (size : ℕ) (transfer : Transfer) (world : World) (next : Upcoming) (course : Progress taken.Input) (halted : Option Halt) → IsMeant next.then_comes →
    IsMeant (formatted_taken pointer size transfer world next course halted)
formatted_taken-meant pointer size transfer world next course (Some halt) is =
    after-meant (format_stop-meant transfer world next (length next.lines - length course.state.later) halt is) (λ reply. gives _)
formatted_taken-meant pointer size transfer world next course None is = after-meant (all_taken-meant pointer size course.state.values world.objects) (λ objects. gives _)

pub edited_item-meant : (format : Format) (size : ℕ) (pointer : CValue) (transfer : Transfer) (world : World) (next : Upcoming) (want : taken.Want) → IsMeant next.then_comes →
    IsMeant (edited_item format size pointer transfer world next want)
edited_item-meant format size pointer transfer world next want is =
    let course = with_next taken.input format want (with_upcoming next transfer.course) in formatted_taken-meant pointer size transfer world next course course.state.halted is

pub formatted_item-meant : (format : Format) (size : ℕ) (pointer : CValue) (transfer : Transfer) (world : World) → IsMeant (formatted_item format size pointer transfer world)
formatted_item-meant format size pointer transfer world =
    edited_item-meant format size pointer transfer world (upcoming world transfer.medium)
    (wanted_under (next_descriptor format transfer.course.left) size) (upcoming-meant world transfer.medium)

pub closed_input-meant : (transfer : Transfer) (world : World) (next : Upcoming) (state : taken.Input) (halted : Option Halt) → IsMeant next.then_comes → IsMeant (closed_input transfer world next state halted)
closed_input-meant transfer world next state (Some halt) is = format_stop-meant transfer world next (length next.lines - length state.later) halt is
closed_input-meant transfer world next state None is = gives _

pub formatted_closed-meant : (transfer : Transfer) (world : World) (next : Upcoming) (course : Progress taken.Input) → IsMeant next.then_comes → IsMeant (formatted_closed transfer world next course)
formatted_closed-meant transfer world next course is =
    let state = closed_by taken.input (closing course.left) course.state in closed_input-meant transfer world next state state.halted is

pub formatted_input_ended-meant : (transfer : Transfer) (world : World) → IsMeant (formatted_input_ended transfer world)
formatted_input_ended-meant transfer world =
    formatted_closed-meant transfer world (upcoming world transfer.medium) (with_upcoming (upcoming world transfer.medium) transfer.course) (upcoming-meant world transfer.medium)

-- ## Calls

pub then_later-meant : (passage : Passage) (later : Transfer → World → Or Reply) → ((transfer : Transfer) (world : World) → IsMeant (later transfer world)) → IsMeant (then_later passage later)
then_later-meant (GoesOn transfer world) later each = each transfer world
then_later-meant (Answers reply) later each = gives _

pub each_item-meant : (size : ℕ) (one : CValue → Transfer → World → Or Passage) → ((pointer : CValue) (transfer : Transfer) (world : World) → IsMeant (one pointer transfer world)) →
    (count : ℕ) (pointer : CValue) (transfer : Transfer) (world : World) → IsMeant (each_item size one count pointer transfer world)
each_item-meant size one each zero pointer transfer world = gives _
each_item-meant size one each (suc count) pointer transfer world =
    after-meant (each pointer transfer world) (λ passage.
    then_later-meant passage (each_item size one count (shifted size pointer)) (each_item-meant size one each count (shifted size pointer)))

pub formatted_done-meant : (direction : Direction) (format : Format) (size count : ℕ) (first : CValue) (transfer : Transfer) (world : World) → IsMeant (formatted_done direction format size count first transfer world)
formatted_done-meant Output format size count first transfer world = each_item-meant size (formatted_put format size) (formatted_put-meant format size) count first transfer world
formatted_done-meant Input format size count first transfer world = each_item-meant size (formatted_item format size) (formatted_item-meant format size) count first transfer world

pub formatted_by-meant : (layout : Layout) (size count : ℕ) (first : CValue) (transfer : Transfer) (world : World) → IsMeant (formatted_by layout size count first transfer world)
formatted_by-meant Listed size count first transfer world = faults _
formatted_by-meant (Formatted format) size count first transfer world = formatted_done-meant transfer.direction format size count first transfer world

pub formatted_items-meant : (world : World) (count_pointer first size_value : CValue) → IsMeant (formatted_items world count_pointer first size_value)
unfolding formatted_items
formatted_items-meant world count_pointer first size_value =
    after-meant (in_transfer-meant world) (λ transfer. after-meant (number_through-meant world.objects count_pointer) (λ count_number.
    after-meant (count_from-meant count_number) (λ count. after-meant (length_from-meant size_value) (λ size.
    formatted_by-meant transfer.layout size count first transfer world))))

pub listed_done-meant : (direction : Direction) (kind : ItemKind) (size count : ℕ) (first : CValue) (transfer : Transfer) (world : World) → IsMeant (listed_done direction kind size count first transfer world)
listed_done-meant Output kind size count first transfer world = listed_put-meant kind size count first transfer world
listed_done-meant Input kind size count first transfer world = each_item-meant size (listed_item kind size) (listed_item-meant kind size) count first transfer world

pub listed_by-meant : (layout : Layout) (kind : ItemKind) (size count : ℕ) (first : CValue) (transfer : Transfer) (world : World) → IsMeant (listed_by layout kind size count first transfer world)
listed_by-meant (Formatted format) kind size count first transfer world = faults _
listed_by-meant Listed kind size count first transfer world = listed_done-meant transfer.direction kind size count first transfer world

pub listed_items-meant : (world : World) (kind_pointer count_pointer first size_value : CValue) → IsMeant (listed_items world kind_pointer count_pointer first size_value)
unfolding listed_items
listed_items-meant world kind_pointer count_pointer first size_value =
    after-meant (in_transfer-meant world) (λ transfer. after-meant (number_through-meant world.objects kind_pointer) (λ kind_number.
    after-meant (number_through-meant world.objects count_pointer) (λ count_number. after-meant (item_kind-meant kind_number) (λ kind.
    after-meant (count_from-meant count_number) (λ count. after-meant (length_from-meant size_value) (λ given.
    after-meant (item_length-meant kind given) (λ size. listed_by-meant transfer.layout kind size count first transfer world)))))))

pub ended-meant : (direction : Direction) (layout : Layout) (transfer : Transfer) (world : World) → IsMeant (ended direction layout transfer world)
ended-meant Output layout transfer world = output_ended-meant transfer world
ended-meant Input (Formatted format) transfer world = formatted_input_ended-meant transfer world
ended-meant Input Listed transfer world = gives _

pub ends-meant : (kind : TransferKind) (world : World) → IsMeant (ends kind world)
unfolding ends
ends-meant kind world =
    after-meant (in_transfer-meant world) (λ transfer. if-meant (is_kind kind transfer) (ended-meant transfer.direction transfer.layout transfer world) (faults _))
