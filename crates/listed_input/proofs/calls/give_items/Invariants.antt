use Rattle.std.proofs.Common.{◌-◌}
use Rattle.f2c_outside.specs.Rows.{rows_of}
use Rattle.item_deeds.specs.Forms.{SameForms}
use Rattle.listed_input.proofs.GiveLaws.{Giving}
use Rattle.listed_input.proofs.calls.give_items.Given as goal

-- the items so far have their values
abbrev pub invariant-loop : goal.invariant-loop
invariant-loop g l =
    SameForms l.fn.run l.run
    × Giving l.list l.fn.first l.fn.input l.input l.fn.run l.run (rows_of (λ b. (goal.Device-dyn g (b.vtable, b.value)).device_state b.value) l.fn.units)
    (rows_of (λ b. (goal.Device-dyn g (b.vtable, b.value)).device_state b.value) l.units) l.pointer (l.list.count - l.counter)
