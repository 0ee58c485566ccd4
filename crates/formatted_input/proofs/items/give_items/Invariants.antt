use Rattle.std.proofs.Common.{◌-◌}
use Rattle.f2c_outside.specs.Rows.{rows_of}
use Rattle.item_deeds.specs.Forms.{SameForms}
use Rattle.formatted_input.proofs.GiveLaws.{Giving}
use Rattle.formatted_input.proofs.items.give_items.Given as goal

-- the items so far have their values
abbrev pub invariant-items : goal.invariant-items
invariant-items g l =
    SameForms l.fn.run l.run
    × Giving l.format l.fn.input l.input l.fn.run l.run l.list.count l.list.size l.fn.first (l.list.count - l.counter) l.pointer
    (rows_of (λ b. (goal.Device-dyn g (b.vtable, b.value)).device_state b.value) l.fn.units)
    (rows_of (λ b. (goal.Device-dyn g (b.vtable, b.value)).device_state b.value) l.units)
