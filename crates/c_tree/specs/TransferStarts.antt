-- How a transfer begins (ANSI X3.9-1978, 12.8): outside every other one; its list is read, then the unit and the format are
-- checked. An input reads its first record.
use Rattle.std.specs.Prelude.{ℕ, ℤ, pos, false, List, [], ◌∷◌, Some, Ok, codes}
use Rattle.edit_meaning.specs.ListInput as input
use Rattle.edit_meaning.specs.TakenRecords.{input_start}
use Rattle.edit_meaning.specs.Transfers as edits
use Rattle.c_tree.specs.declared.outcome.CValue.{CValue}
use Rattle.c_tree.specs.declared.types.ListType.TheVariants as list_type
use Rattle.c_tree.specs.Faults.{Or, after}
use Rattle.c_tree.specs.Objects.{Object}
use Rattle.c_tree.specs.World.{Direction, Output, Input, Layout, Formatted, Listed, Transfer, World, Reply, Gives}
use Rattle.c_tree.specs.Builtins.{Style, ByFormat, ByList, Site, OnUnit, InMemory, TransferKind}
use Rattle.c_tree.specs.Transfers.{ended_by, outside_transfers, Control, unit_control, internal_control, format_field, new_transfer, when_connected, formatted_start, units_behind, medium_behind, upcoming, zero_blanks_on}

abbrev pub begun : Transfer → World → Or Reply
begun transfer world = Ok (Gives (pos 0) (record world { transfer = Some transfer }))

-- the place in the first record
abbrev pub placed : Layout → List ℕ → Transfer → World → Transfer
placed Listed line transfer world = record transfer { line = line; place = input.Between false line }
placed (Formatted format) line transfer world =
    record transfer { course = edits.begun format (input_start (line ∷ []) (zero_blanks_on transfer.medium world.units)) }

abbrev pub first_read : Transfer → World → List (List ℕ) → Or ℤ → Or Reply
first_read transfer world [] then_comes =
    after then_comes λ number.
    Ok (ended_by number transfer (record world { units = units_behind 1 transfer.medium world.units }))
first_read transfer world (line ∷ later) then_comes =
    begun
    (record (placed transfer.layout line transfer world) { medium = medium_behind 1 transfer.medium })
    (record world { units = units_behind 1 transfer.medium world.units })

-- an input reads its first record at its start
abbrev pub reading : Transfer → World → Or Reply
reading transfer world =
    first_read transfer world (upcoming world transfer.medium).lines (upcoming world transfer.medium).then_comes

-- an output begins; an input reads its first record
abbrev pub opened : Transfer → World → Direction → Or Reply
opened transfer world Output = begun transfer world
opened transfer world Input = reading transfer world

-- what the list at a start says, and the field of its format
abbrev pub control_of : Site → List Object → CValue → Or Control
control_of OnUnit objects pointer = unit_control objects pointer
control_of InMemory objects pointer = internal_control objects pointer

abbrev pub format_of : Site → List Object → CValue → Or CValue
format_of OnUnit objects pointer = format_field list_type.Transfer (codes "cifmt") objects pointer
format_of InMemory objects pointer = format_field list_type.Internal (codes "icifmt") objects pointer

abbrev pub started : Style → TransferKind → Control → World → CValue → Or Reply
started ByList kind control world pointer =
    when_connected control.medium control world (opened (new_transfer kind.direction Listed control) world kind.direction)
started ByFormat kind control world pointer =
    after (format_of kind.site world.objects pointer) λ given.
    formatted_start control given world λ format.
    opened (new_transfer kind.direction (Formatted format) control) world kind.direction

-- `s_wsfe` and the others
unfoldable pub starts : TransferKind → World → CValue → Or Reply
starts kind world pointer =
    after (outside_transfers world) λ outside.
    after (control_of kind.site world.objects pointer) λ control.
    started kind.style kind control world pointer
