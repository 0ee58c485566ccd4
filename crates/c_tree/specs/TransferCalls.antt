-- The calls of a transfer in progress: `do_fio` and `do_lio` with items that stand one behind the other, and the ends. Each
-- stands in a transfer of its own kind (ANSI X3.9-1978, 12.8 and 13.6).
use Rattle.std.specs.Prelude.{ℕ, zero, suc, Bool, true, false, ◌&&◌, Ok, if◌then◌else◌}
use Rattle.edit_meaning.specs.Formats.{Format}
use Rattle.c_tree.specs.declared.outcome.CValue.{CValue}
use Rattle.c_tree.specs.declared.outcome.CFault.TheVariants.{Library}
use Rattle.c_tree.specs.Faults.{Or, after, failing}
use Rattle.c_tree.specs.World.{Direction, Output, Input, Layout, Formatted, Listed, Medium, Unit, Internal, Transfer, World, Reply}
use Rattle.c_tree.specs.Builtins.{Style, ByFormat, ByList, Site, OnUnit, InMemory, TransferKind}
use Rattle.c_tree.specs.LibraryArguments.{number_through, count_from, length_from, shifted}
use Rattle.c_tree.specs.Transfers.{in_transfer, Passage, GoesOn, Answers, passed}
use Rattle.c_tree.specs.TransferOutput.{ItemKind, item_kind, item_length, listed_put, formatted_put, output_ended}
use Rattle.c_tree.specs.TransferInput.{listed_item, formatted_item, formatted_input_ended, listed_input_ended}

-- the later items, where the transfer goes on
abbrev pub then_later : Passage → (Transfer → World → Or Reply) → Or Reply
then_later (GoesOn transfer world) later = later transfer world
then_later (Answers reply) later = Ok reply

-- so many items of a length that stand one behind the other, each before the next
abbrev pub each_item : ℕ → (CValue → Transfer → World → Or Passage) → ℕ → CValue → Transfer → World → Or Reply
each_item size one zero pointer transfer world = Ok (passed (GoesOn transfer world))
each_item size one (suc count) pointer transfer world =
    after (one pointer transfer world) λ passage.
    then_later passage λ changed after_it. each_item size one count (shifted size pointer) changed after_it

-- items under a format
abbrev pub formatted_done : Direction → Format → ℕ → ℕ → CValue → Transfer → World → Or Reply
formatted_done Output format size count first transfer world =
    each_item size (formatted_put format size) count first transfer world
formatted_done Input format size count first transfer world =
    each_item size (formatted_item format size) count first transfer world

abbrev pub formatted_by : Layout → ℕ → ℕ → CValue → Transfer → World → Or Reply
formatted_by Listed size count first transfer world = failing Library
formatted_by (Formatted format) size count first transfer world =
    formatted_done transfer.direction format size count first transfer world

-- `do_fio`: the count, the first item and the length of one
unfoldable pub formatted_items : World → CValue → CValue → CValue → Or Reply
formatted_items world count_pointer first size_value =
    after (in_transfer world) λ transfer.
    after (number_through world.objects count_pointer) λ count_number.
    after (count_from count_number) λ count.
    after (length_from size_value) λ size.
    formatted_by transfer.layout size count first transfer world

-- list-directed items
abbrev pub listed_done : Direction → ItemKind → ℕ → ℕ → CValue → Transfer → World → Or Reply
listed_done Output kind size count first transfer world = listed_put kind size count first transfer world
listed_done Input kind size count first transfer world =
    each_item size (listed_item kind size) count first transfer world

abbrev pub listed_by : Layout → ItemKind → ℕ → ℕ → CValue → Transfer → World → Or Reply
listed_by (Formatted format) kind size count first transfer world = failing Library
listed_by Listed kind size count first transfer world = listed_done transfer.direction kind size count first transfer world

-- `do_lio`: the kind, the count, the first item and the length of one
unfoldable pub listed_items : World → CValue → CValue → CValue → CValue → Or Reply
listed_items world kind_pointer count_pointer first size_value =
    after (in_transfer world) λ transfer.
    after (number_through world.objects kind_pointer) λ kind_number.
    after (number_through world.objects count_pointer) λ count_number.
    after (item_kind kind_number) λ kind.
    after (count_from count_number) λ count.
    after (length_from size_value) λ given.
    after (item_length kind given) λ size.
    listed_by transfer.layout kind size count first transfer world

-- whether a transfer is of a kind
abbrev pub is_direction : Direction → Direction → Bool
is_direction Output Output = true
is_direction Input Input = true
is_direction one other = false

abbrev pub is_style : Style → Layout → Bool
is_style ByFormat (Formatted format) = true
is_style ByList Listed = true
is_style style layout = false

abbrev pub is_on : Site → Medium → Bool
is_on OnUnit (Unit unit) = true
is_on InMemory (Internal file) = true
is_on site medium = false

abbrev pub is_kind : TransferKind → Transfer → Bool
is_kind kind transfer =
    is_direction kind.direction transfer.direction && is_style kind.style transfer.layout && is_on kind.site transfer.medium

abbrev pub ended : Direction → Layout → Transfer → World → Or Reply
ended Output layout transfer world = output_ended transfer world
ended Input (Formatted format) transfer world = formatted_input_ended transfer world
ended Input Listed transfer world = listed_input_ended world

-- `e_wsfe` and the others
unfoldable pub ends : TransferKind → World → Or Reply
ends kind world =
    after (in_transfer world) λ transfer.
    if is_kind kind transfer then ended transfer.direction transfer.layout transfer world else failing Library
