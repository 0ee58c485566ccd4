-- What a format gives before the descriptor of the next item (ANSI X3.9-1978, 12.9.5.1 and 13.3).
use Rattle.std.specs.Prelude.{List, None}
use Rattle.edit_rules.specs.edit_meaning.Formats as formats
use Rattle.edit_rules.specs.edit_meaning.TakenRecords.{Input, Want, input}
use Rattle.edit_rules.specs.edit_meaning.Transfers.{edited, unserved_by, for_next}

-- the input over the edits of the next item, with some items
abbrev pub over_next : List formats.Edit → List formats.Edit → List Want → Input → Input
over_next again rest wants state = edited input None (for_next again rest).edits wants state

-- and with what an item without a descriptor does
abbrev pub with_next : List formats.Edit → List formats.Edit → List Want → Input → Input
with_next again rest wants state =
    unserved_by input (for_next again rest).unserved (over_next again rest wants state).halted (over_next again rest wants state)
