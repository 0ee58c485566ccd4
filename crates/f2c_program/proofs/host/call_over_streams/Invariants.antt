use Rattle.std.proofs.Common.{◌≡◌, ◌++◌, drop, map}
use Rattle.f2c_outside.specs.Rows.{rows_of}
use Rattle.f2c_program.specs.HostRows.{offered}
use Rattle.f2c_program.proofs.host.call_over_streams.OwnLists.{own-1}
use Rattle.f2c_program.proofs.host.call_over_streams.Given as goal

-- the rows so far and those that are to come are all rows
abbrev pub invariant-loop-name : goal.invariant-loop-name
invariant-loop-name l =
    rows_of (λ b. (own-1.entry b.vtable).1.device_state b.value) l.units ++ map offered (drop l.name-index l.name-items)
    ≡ rows_of (λ b. (own-1.entry b.vtable).1.device_state b.value) l.initial.units ++ map offered l.name-items
