-- How a view of the code enters a function, in the meaning of C texts (C89, 3.3.2.2).
use Rattle.std.specs.Prelude.{Result, Ok, Err}
use Rattle.c_tree.specs.simulation.Machine.{Entry, Enters, Refused}
use Rattle.c_tree.specs.declared.outcome.CFault.{CFault}
use Rattle.c_tree.specs.Faults.{Or, Faults, failing}
use Rattle.c_tree.specs.World.{World}
use Rattle.c_tree.specs.Steps.{sorts, Onward}
use Rattle.item_deeds.specs.declared.views.CallView.{CallView}
use Rattle.item_deeds.specs.Deeds.{view_of}

-- a function that goes on behind its call
abbrev pub onward : World → Result CallView CFault → Or Onward
onward world (Ok view) = Ok (record { view = view_of view; world = world })
onward world (Err fault) = failing fault

-- a function that begins, or goes on
abbrev pub entered : World → Result CallView CFault → Entry sorts
entered world (Ok view) = Enters (view_of view) world
entered world (Err fault) = Refused (Faults fault)
