-- Items of input and its end (ANSI X3.9-1978, 12.8.2, 12.9.5.1 and 13): each is read before the next one. Items that were
-- read before an error keep what they were given.
use Rattle.std.specs.Prelude.{ℕ, zero, suc, ◌+◌, ◌-◌, nat_eq, pos, Bool, true, false, List, [], ◌∷◌, ◌++◌, length, take, slice_get, unwrap_or, Option, Some, None, Ok, if◌then◌else◌}
use Rattle.edit_meaning.specs.Formats.{Descriptor, IntIn, LogicalIn, TextIn, Format, closing}
use Rattle.edit_meaning.specs.Halts.{Halt, Number, EndOfRecords, OtherType}
use Rattle.edit_meaning.specs.ListInput as input
use Rattle.edit_meaning.specs.ListItems as items
use Rattle.edit_meaning.specs.TakenRecords as taken
use Rattle.edit_meaning.specs.Transfers.{Progress, closed_by, with_next}
use Rattle.c_tree.specs.declared.outcome.CValue.{CValue}
use Rattle.c_tree.specs.declared.outcome.CValue.TheVariants as value
use Rattle.c_tree.specs.Faults.{Or, after}
use Rattle.c_tree.specs.Access.{ToNumber}
use Rattle.c_tree.specs.Objects.{Object, stored}
use Rattle.c_tree.specs.World.{Transfer, World, Reply, Gives}
use Rattle.c_tree.specs.LibraryArguments.{text_stored, fitted}
use Rattle.c_tree.specs.Transfers.{ended_by, units_behind, medium_behind, Upcoming, upcoming, Passage, GoesOn, Answers}
use Rattle.c_tree.specs.TransferOutput.{ItemKind, IntegerItem, LogicalItem, TextItem, next_descriptor}

-- an item takes a value; under a null it keeps its own
abbrev pub value_taken : List Object → CValue → ℕ → items.Value → Or (List Object)
value_taken objects pointer size (items.IntValue number) =
    stored objects (record { at = pointer; access = ToNumber }) (value.Number number)
value_taken objects pointer size (items.LogicalValue truth) =
    stored objects (record { at = pointer; access = ToNumber }) (value.Number (if truth then pos 1 else pos 0))
value_taken objects pointer size (items.TextValue text) = text_stored objects pointer (fitted size text)
value_taken objects pointer size items.Kept = Ok objects

-- the world and the transfer behind so many records, with these objects
abbrev pub world_behind : ℕ → List Object → Transfer → World → World
world_behind count objects transfer world =
    record world { objects = objects; units = units_behind count transfer.medium world.units }

abbrev pub behind : ℕ → Transfer → Transfer
behind count transfer = record transfer { medium = medium_behind count transfer.medium }

-- an item was given a value
abbrev pub given : items.Value → Transfer → Transfer
given value transfer = record transfer { received = transfer.received ++ value ∷ [] }

-- the record that is being read behind so many of those that come next
abbrev pub line_behind : ℕ → List (List ℕ) → List ℕ → List ℕ
line_behind zero lines line = line
line_behind (suc count) lines line = unwrap_or (slice_get lines count) line

abbrev pub kind_of : ItemKind → input.Kind
kind_of IntegerItem = input.IntItem
kind_of LogicalItem = input.LogicalItem
kind_of TextItem = input.TextItem

abbrev pub runs_out : items.Item → Bool
runs_out (items.Stops (items.EndOfRecords text)) = true
runs_out (items.Stops outcome) = false
runs_out (items.Takes value place later) = false

-- how many further records an item needs, of those that there are, counted from `known` on: as many as it does not
-- run out of
abbrev pub records_needed : ℕ → ℕ → input.Place → List (List ℕ) → input.Kind → ℕ
records_needed zero known place later kind = known
records_needed (suc more) known place later kind =
    if runs_out (items.item_over place (take known later) kind) then records_needed more (known + 1) place later kind
    else known

-- an item at which the input stops takes the characters that its text has in earlier records, in front. A slash leaves
-- it and the later ones
abbrev pub listed_stop : CValue → ℕ → Transfer → World → Upcoming → ℕ → items.Outcome → Or Passage
listed_stop pointer size transfer world next needed items.Filled = Ok (GoesOn (given items.Kept transfer) world)
listed_stop pointer size transfer world next needed items.Slashed =
    Ok (GoesOn (record (given items.Kept (behind needed transfer)) { slashed = true; line = line_behind needed next.lines transfer.line })
    (world_behind needed world.objects transfer world))
listed_stop pointer size transfer world next needed (items.Failed number text) =
    after (text_stored world.objects pointer (take size text)) λ objects.
    Ok (Answers (ended_by (pos number) transfer (world_behind needed objects transfer world)))
listed_stop pointer size transfer world next needed (items.EndOfRecords text) =
    after next.then_comes λ number.
    after (text_stored world.objects pointer (take size text)) λ objects.
    Ok (Answers (ended_by number transfer (world_behind (length next.lines + 1) objects transfer world)))

abbrev pub listed_taken : input.Kind → CValue → ℕ → Transfer → World → Upcoming → items.Item → Or Passage
listed_taken kind pointer size transfer world next (items.Takes value place later) =
    let read = length next.lines - length later in
    after (value_taken world.objects pointer size value) λ objects.
    Ok (GoesOn (record (given value (behind read transfer)) { place = place; line = line_behind read next.lines transfer.line })
    (world_behind read objects transfer world))
listed_taken kind pointer size transfer world next (items.Stops outcome) =
    listed_stop pointer size transfer world next (records_needed (length next.lines) 0 transfer.place next.lines kind) outcome

-- an item of list-directed input; behind a slash it keeps its value
abbrev pub unless_slashed : Bool → input.Kind → ℕ → CValue → Transfer → World → Upcoming → Or Passage
unless_slashed true kind size pointer transfer world next = Ok (GoesOn (given items.Kept transfer) world)
unless_slashed false kind size pointer transfer world next =
    listed_taken kind pointer size transfer world next (items.item_over transfer.place next.lines kind)

abbrev pub listed_item : ItemKind → ℕ → CValue → Transfer → World → Or Passage
listed_item kind size pointer transfer world =
    unless_slashed transfer.slashed (kind_of kind) size pointer transfer world (upcoming world transfer.medium)

-- what an item wants under the descriptor that it gets: an integer and a logical have four bytes, and an item of
-- another length is a text, which their descriptors refuse
abbrev pub wanted_under : Option Descriptor → ℕ → taken.Want
wanted_under (Some (IntIn width least)) size = if nat_eq size 4 then taken.WantInt else taken.WantText size
wanted_under (Some (LogicalIn width)) size = if nat_eq size 4 then taken.WantLogical else taken.WantText size
wanted_under (Some (TextIn width)) size = taken.WantText size
wanted_under None size = taken.WantText size

-- the records that come next stand behind the one that is being read
abbrev pub with_upcoming : Upcoming → Progress taken.Input → Progress taken.Input
with_upcoming next course = record course { state = record (course.state) { later = next.lines; values = [] } }

-- why a format goes no further, and behind how many records
abbrev pub format_stop : Transfer → World → Upcoming → ℕ → Halt → Or Reply
format_stop transfer world next read (Number number) =
    Ok (ended_by (pos number) transfer (world_behind read world.objects transfer world))
format_stop transfer world next read OtherType =
    Ok (ended_by (pos 4) transfer (world_behind read world.objects transfer world))
format_stop transfer world next read EndOfRecords =
    after next.then_comes λ number.
    Ok (ended_by number transfer (world_behind (length next.lines + 1) world.objects transfer world))

abbrev pub all_taken : CValue → ℕ → List items.Value → List Object → Or (List Object)
all_taken pointer size [] objects = Ok objects
all_taken pointer size (value ∷ later) objects =
    after (value_taken objects pointer size value) λ changed. all_taken pointer size later changed

-- an item of formatted input, once its edits are done
abbrev pub formatted_taken : CValue → ℕ → Transfer → World → Upcoming → Progress taken.Input → Option Halt → Or Passage
formatted_taken pointer size transfer world next course (Some halt) =
    after (format_stop transfer world next (length next.lines - length course.state.later) halt) λ reply.
    Ok (Answers reply)
formatted_taken pointer size transfer world next course None =
    let read = length next.lines - length course.state.later in
    after (all_taken pointer size course.state.values world.objects) λ objects.
    Ok (GoesOn (record (behind read transfer) { course = course; received = transfer.received ++ course.state.values })
    (world_behind read objects transfer world))

abbrev pub edited_item : Format → ℕ → CValue → Transfer → World → Upcoming → taken.Want → Or Passage
edited_item format size pointer transfer world next want =
    let course = with_next taken.input format want (with_upcoming next transfer.course) in
    formatted_taken pointer size transfer world next course course.state.halted

abbrev pub formatted_item : Format → ℕ → CValue → Transfer → World → Or Passage
formatted_item format size pointer transfer world =
    edited_item format size pointer transfer world (upcoming world transfer.medium)
    (wanted_under (next_descriptor format transfer.course.left) size)

-- the end of a formatted input, behind what the format gives with no item left
abbrev pub closed_input : Transfer → World → Upcoming → taken.Input → Option Halt → Or Reply
closed_input transfer world next state (Some halt) =
    format_stop transfer world next (length next.lines - length state.later) halt
closed_input transfer world next state None =
    Ok
    (Gives
    (pos 0)
    (record (world_behind (length next.lines - length state.later) world.objects transfer world) { transfer = None }))

abbrev pub formatted_closed : Transfer → World → Upcoming → Progress taken.Input → Or Reply
formatted_closed transfer world next course =
    let state = closed_by taken.input (closing course.left) course.state in
    closed_input transfer world next state state.halted

abbrev pub formatted_input_ended : Transfer → World → Or Reply
formatted_input_ended transfer world =
    let next = upcoming world transfer.medium in
    formatted_closed transfer world next (with_upcoming next transfer.course)

-- the end of a list-directed input leaves the rest of the record
abbrev pub listed_input_ended : World → Or Reply
listed_input_ended world = Ok (Gives (pos 0) (record world { transfer = None }))
