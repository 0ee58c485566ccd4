-- The entries of a shelf in memory as its contracts see them.
use Rattle.f2c_outside.specs.Memory.{Named}
use Rattle.f2c_outside.specs.declared.memory_shelf.Entry.{Entry}

abbrev pub named : Entry → Named
named entry = record { name = entry.name; bytes = entry.bytes.items }
